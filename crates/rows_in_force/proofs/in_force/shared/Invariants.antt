use Rattle.std.proofs.Common.{◌≡◌, take}
use Rattle.rows_in_force.proofs.in_force.shared.Given as goal

abbrev pub invariant-loop-i : goal.invariant-loop-i
invariant-loop-i l = take l.i l.digits ≡ take l.i l.others
