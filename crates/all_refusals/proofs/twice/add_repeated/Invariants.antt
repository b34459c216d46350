use Rattle.std.proofs.Common.{◌≡◌, ◌++◌, [], map, take, drop}
use Rattle.net_rows.specs.Network.{Network}
use Rattle.all_refusals.specs.Rows.{shown}
use Rattle.all_refusals.specs.Known.{id_refusal, id_row}
use Rattle.all_refusals.specs.Found.{repeated}
use Rattle.all_refusals.proofs.twice.add_repeated.Given as goal

-- what was found, and what is still to be found
abbrev pub invariant-loop-i : goal.invariant-loop-i
invariant-loop-i l = (t : Network) → map (shown t) l.found.items ++ repeated (id_refusal l.table) (id_row l.table) (take l.i l.ids) (drop l.i l.ids) ≡ map (shown t) l.fn.found.items ++ repeated (id_refusal l.table) (id_row l.table) [] l.ids
