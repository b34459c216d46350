use Rattle.std.proofs.Common.{refl, ◌∙◌}
use Rattle.toml_rows.proofs.Blanks.{no_blank}
use Rattle.toml_rows.proofs.blank.skip_blank.Goals as goal

pub returns-then-begins_token-clause-rest : goal.returns-then-begins_token-clause-rest
returns-then-begins_token-clause-rest c =
    no_blank c.skip_one-start.result.now (rw c.first.ensures at c.if-begins_token.ensures refl) ∙ c.skip_one-start.ensures.rest
