use Rattle.std.proofs.Common.{◌≡◌, ◌<◌, ℕ, false}
use Rattle.rank_rows.specs.Found.{has_name_at}
use Rattle.rank_rows.proofs.found.place_in.Given as goal

abbrev pub invariant-loop-at : goal.invariant-loop-at
invariant-loop-at l = (i : ℕ) → i < l.at → has_name_at l.names l.node i ≡ false
