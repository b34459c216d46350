use Rattle.std.proofs.Common.{◌≡◌, drop}
use Rattle.plan_state.specs.Wanted.{stands_in}
use Rattle.plan_state.proofs.wanted.Wanted.stands_in.Given as goal

abbrev pub invariant-loop-i : goal.invariant-loop-i
invariant-loop-i l = stands_in l.self l.bytes ≡ stands_in l.self (drop l.i l.bytes)
