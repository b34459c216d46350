use Rattle.std.proofs.Common.{◌≡◌, ◌≤◌, ◌+◌, drop}
use Rattle.entry_changes.specs.SoFar.{count_from}
use Rattle.entry_changes.proofs.so_far.count_after.Given as goal

abbrev pub invariant-loop-effect : goal.invariant-loop-effect
invariant-loop-effect l = record {
  ticks : count_from (drop l.effect-index l.effects) l.ticks ≡ count_from l.effects l.count;
  few : l.ticks ≤ l.count + l.effect-index;
}
