use Rattle.std.proofs.Common.{◌∙◌}
use Rattle.card_digits.proofs.Fronts.{begins-starts_with}
use Rattle.card_digits.proofs.card.begins.Goals as goal

pub returns : goal.returns
returns c = c.starts_with.ensures.value ∙ rw (c.digits.ensures.digits, c.digits-2.ensures.digits) (begins-starts_with c.args.prefix.now c.args.card.now)
