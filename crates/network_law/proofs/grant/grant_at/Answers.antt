use Rattle.std.proofs.Common.{◌∙◌}
use Rattle.network_law.proofs.GrantTexts.{grant_text, size_digits, number_digits, card_read, date_read, amount_digits}
use Rattle.network_law.proofs.grant.grant_at.Goals as goal

pub decimal-requires-clause-digits : goal.decimal-requires-clause-digits
decimal-requires-clause-digits c = size_digits c.args.bytes.now (grant_text c.args.bytes.now c.requires)

pub decimal-requires-2-clause-digits : goal.decimal-requires-2-clause-digits
decimal-requires-2-clause-digits c = number_digits c.args.bytes.now (grant_text c.args.bytes.now c.requires)

pub unwrap-requires : goal.unwrap-requires
unwrap-requires c = let e = c.read.ensures ∙ card_read c.args.bytes.now (grant_text c.args.bytes.now c.requires) c.decimal.result c.decimal.ensures.value in rw e

pub unwrap-requires-2 : goal.unwrap-requires-2
unwrap-requires-2 c = let e = c.read-2.ensures.value ∙ date_read c.args.bytes.now (grant_text c.args.bytes.now c.requires) c.decimal.result c.decimal.ensures.value in rw e

pub decimal-requires-3-clause-digits : goal.decimal-requires-3-clause-digits
decimal-requires-3-clause-digits c = amount_digits c.args.bytes.now (grant_text c.args.bytes.now c.requires) c.decimal.result c.decimal.ensures.value
