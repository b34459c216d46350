use Rattle.std.proofs.Common.{◌≡◌, drop}
use Rattle.entry_changes.specs.SoFar.{forward_from}
use Rattle.entry_changes.proofs.so_far.forwarded_after.Given as goal

abbrev pub invariant-loop-effect : goal.invariant-loop-effect
invariant-loop-effect l = forward_from l.key (drop l.effect-index l.effects) (record { there = l.there; link = l.link }) ≡ forward_from l.key l.effects l.fn.before
