use Rattle.std.proofs.Common.{◌≡◌, ◌++◌, map, drop}
use Rattle.all_refusals.specs.Rows.{shown}
use Rattle.all_refusals.specs.Found.{long_from}
use Rattle.all_refusals.proofs.twice.add_long_timers.Given as goal

-- what was found, and what is still to be found
abbrev pub invariant-loop-i : goal.invariant-loop-i
invariant-loop-i l = map (shown l.tables) l.found.items ++ long_from l.i (drop l.i l.links) ≡ map (shown l.tables) l.fn.found.items ++ long_from 0 l.links
