use Rattle.std.proofs.Common.{◌≡◌, drop, take}
use Rattle.table_checker.specs.Rules.{repeated_behind, first_repeated}
use Rattle.table_checker.proofs.twice.first_repeated.Given as goal

abbrev pub invariant-loop-i : goal.invariant-loop-i
invariant-loop-i l = repeated_behind (take l.i l.ids) (drop l.i l.ids) ≡ first_repeated l.ids
