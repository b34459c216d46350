use Rattle.std.proofs.Common.{◌≡◌, None}
use Rattle.std.specs.List.{find}
use Rattle.network_law.specs.Tables.{joins}
use Rattle.step_rules.proofs.Between.{passing}
use Rattle.step_rules.proofs.links.first_up_between.Given as goal

-- none of the links so far that join the nodes is up
abbrev pub invariant-loop-place : goal.invariant-loop-place
invariant-loop-place g l = find (g.S.LinkStates.up l.states) (passing (joins l.tables l.node l.other) l.place) ≡ None
