use Rattle.std.proofs.Common.{◌≡◌, ◌≤◌, ◌+◌, drop}
use Rattle.entry_changes.specs.SoFar.{link_from}
use Rattle.entry_changes.proofs.so_far.link_after.Given as goal

abbrev pub invariant-loop-effect : goal.invariant-loop-effect
invariant-loop-effect l = record {
  state : link_from l.link (drop l.effect-index l.effects) (record { up = l.up; serial = l.serial }) ≡ link_from l.link l.effects (record { up = l.fn.before.up; serial = l.fn.before.serial });
  few : l.serial ≤ l.fn.before.serial + l.effect-index;
}
