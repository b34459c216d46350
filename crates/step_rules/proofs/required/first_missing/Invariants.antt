use Rattle.std.proofs.Common.{◌≡◌, drop}
use Rattle.network_law.specs.Refusals.{first_missing}
use Rattle.step_rules.proofs.required.first_missing.Given as goal

-- what is left lacks the first that all of them lack
abbrev pub invariant-loop-number : goal.invariant-loop-number
invariant-loop-number l = first_missing l.message l.numbers ≡ first_missing l.message (drop l.number-index l.left)
