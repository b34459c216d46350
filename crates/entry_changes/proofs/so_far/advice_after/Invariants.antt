use Rattle.std.proofs.Common.{◌≡◌, drop}
use Rattle.entry_changes.specs.SoFar.{advice_from}
use Rattle.entry_changes.proofs.so_far.advice_after.Given as goal

abbrev pub invariant-loop-effect : goal.invariant-loop-effect
invariant-loop-effect l = advice_from l.id (drop l.effect-index l.effects) l.state ≡ advice_from l.id l.effects l.fn.before
