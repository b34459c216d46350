use Rattle.std.proofs.Common.{◌≡◌, take}
use Rattle.card_digits.specs.Longest.{longest}
use Rattle.network_picture.proofs.class.longest_of.Given as goal

-- the longest so far
abbrev pub invariant-loop-class : goal.invariant-loop-class
invariant-loop-class l = l.longest ≡ longest (λ p. p) (take l.class-index l.classes) l.digits
