use Rattle.std.proofs.Common.{◌≡◌, drop}
use Rattle.link_rings.specs.Held.{turns_from, turns_to_due}
use Rattle.link_rings.proofs.held.Held.turns_to_due.Given as goal

abbrev pub invariant-loop-ring : goal.invariant-loop-ring
invariant-loop-ring l = turns_from l.first l.self.turn (drop l.ring-index l.self.rings) ≡ turns_to_due l.self
