use Rattle.std.proofs.Common.{◌≡◌, ◌+◌, ◌++◌, drop, take, length}
use Rattle.std.specs.Vec.{vec_len, vec_capacity}
use Rattle.rank_rows.specs.Ranks.{like_rows}
use Rattle.rank_rows.proofs.runs.repeat_names.Given as goal

abbrev pub invariant-loop-i : goal.invariant-loop-i
invariant-loop-i l = record {
  rows : l.rows.items ++ like_rows (drop (l.place + l.i) l.fn.rows.items) l.prefix (drop l.i l.ranks) ≡ l.fn.rows.items ++ like_rows (drop l.place l.fn.rows.items) l.prefix l.ranks;
  front : take (length l.fn.rows.items) l.rows.items ≡ l.fn.rows.items;
  len : vec_len l.rows ≡ vec_len l.fn.rows + l.i;
  capacity : vec_capacity l.rows ≡ vec_capacity l.fn.rows;
}
