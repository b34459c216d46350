use Rattle.std.proofs.Common.{◌≡◌, ◌<◌, ℕ, All, slice_get, Some}
use Rattle.net_threads.specs.declared.ended.SessionEnd.{SessionEnd}
use Rattle.net_threads.specs.Verdicts.{IsGiven}
use Rattle.net_threads.proofs.judge.strange_answer.Given as goal

abbrev pub invariant-loop-i : goal.invariant-loop-i
invariant-loop-i l = (k : ℕ) (s : SessionEnd) → k < l.i → slice_get l.ended.sessions.items k ≡ Some s → All (IsGiven l.stations s.node) s.lines.items
