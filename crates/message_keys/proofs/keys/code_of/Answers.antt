use Rattle.std.proofs.Common.{sym, ◌∙◌}
use Rattle.message_keys.proofs.KeyLemmas.{code_again}
use Rattle.message_keys.proofs.keys.code_of.Goals as goal

pub returns : goal.returns
returns c = c.read.ensures ∙ code_again c.args.message.now c.kind.ensures.is_message _ (sym c.in_ok-code.ensures) ∙ c.in_ok-code.ensures
