use Rattle.toml_rows.proofs.Texts.{text_value}
use Rattle.toml_rows.proofs.plain.plain_text.Goals as goal

pub returns-clause-value : goal.returns-clause-value
returns-clause-value c depth = text_value depth c.args.s.now _ _ c.in_ok-text.ensures.begins c.in_ok-text.ensures.value
