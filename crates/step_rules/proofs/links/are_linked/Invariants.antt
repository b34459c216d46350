use Rattle.std.proofs.Common.{◌≡◌, []}
use Rattle.network_law.specs.Tables.{joins}
use Rattle.step_rules.proofs.Between.{passing}
use Rattle.step_rules.proofs.links.are_linked.Given as goal

-- no link so far joins the nodes
abbrev pub invariant-loop-place : goal.invariant-loop-place
invariant-loop-place l = passing (joins l.tables l.node l.other) l.place ≡ []
