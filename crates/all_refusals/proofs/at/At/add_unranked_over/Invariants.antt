use Rattle.std.proofs.Common.{take}
use Rattle.std.specs.List.{flat_map}
use Rattle.table_checker.specs.Rules.{unranked_over}
use Rattle.all_refusals.specs.Rows.{RouteRow, Adds}
use Rattle.all_refusals.specs.Found.{of_row}
use Rattle.all_refusals.proofs.at.At.add_unranked_over.Given as goal

-- those of the links so far
abbrev pub invariant-loop-link : goal.invariant-loop-link
invariant-loop-link l = Adds l.self.tables.now l.fn.found.items l.found.items (flat_map (λ k. of_row (RouteRow l.row) (unranked_over l.self.tables.now l.self.cert.now l.self.class l.node k)) (take l.link-index l.link-items))
