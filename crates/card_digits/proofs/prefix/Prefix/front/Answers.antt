use Rattle.std.proofs.Common.{length-take, lit<, arith}
use Rattle.card_digits.proofs.Within.{front_within}
use Rattle.card_digits.proofs.prefix.Prefix.front.Goals as goal

pub from_slice-requires : goal.from_slice-requires
from_slice-requires c = (lit< tt, rw length-take (omega (arith, c.digits.ensures.form)))

pub invariant_of-result : goal.invariant_of-result
invariant_of-result c =
    rw (c.from_slice.ensures, c.digits.ensures.digits) (front_within c.args.self.now c.args.len (rw c.digits.ensures.digits at c.digits.ensures.form) c.requires.some c.requires.within)
