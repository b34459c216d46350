use Rattle.std.proofs.Common.{◌≡◌, drop}
use Rattle.std.specs.List.{list_any}
use Rattle.entry_changes.specs.Late.{touches}
use Rattle.entry_changes.proofs.late.speak_of.Given as goal

abbrev pub invariant-loop-effect : goal.invariant-loop-effect
invariant-loop-effect l = list_any (touches l.fn.id) (drop l.effect-index l.effects) ≡ list_any (touches l.fn.id) l.effects
