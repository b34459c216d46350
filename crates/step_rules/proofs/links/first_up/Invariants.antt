use Rattle.std.proofs.Common.{◌≡◌, drop}
use Rattle.std.specs.List.{find}
use Rattle.step_rules.proofs.links.first_up.Given as goal

-- the first that is up is among those that are left
abbrev pub invariant-loop-link : goal.invariant-loop-link
invariant-loop-link g l = find (g.S.LinkStates.up l.states) l.links ≡ find (g.S.LinkStates.up l.states) (drop l.link-index l.links)
