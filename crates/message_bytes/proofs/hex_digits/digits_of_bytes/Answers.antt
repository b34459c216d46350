use Rattle.std.proofs.Common.{◌∙◌}
use Rattle.message_bytes.proofs.HexLanes.{halves_small, halves_written}
use Rattle.message_bytes.proofs.hex_digits.digits_of_bytes.Goals as goal

pub digits_of_values-requires-clause-values : goal.digits_of_values-requires-clause-values
digits_of_values-requires-clause-values c = rw (c.high_halves-high.ensures, c.low_halves-low.ensures) (halves_small c.args.bytes.now c.requires c.type_inv.bytes)

pub returns : goal.returns
returns c = rw (c.high_halves-high.ensures, c.low_halves-low.ensures) at c.digits_of_values.ensures ∙ halves_written c.args.bytes.now c.requires
