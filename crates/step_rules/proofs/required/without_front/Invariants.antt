use Rattle.std.proofs.Common.{◌≡◌}
use Rattle.network_law.specs.Refusals.{first_missing}
use Rattle.step_rules.proofs.Present.{AreThere}
use Rattle.step_rules.proofs.required.without_front.Given as goal

-- what is left lacks the first that all of them lack, and each element that is to come is there
abbrev pub invariant-loop-number : goal.invariant-loop-number
invariant-loop-number l = record {
  same : first_missing l.message l.numbers ≡ first_missing l.message l.left;
  there : AreThere l.message l.number-iterator;
}
