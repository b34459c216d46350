use Rattle.std.proofs.Common.{◌≡◌, take, drop, get_or}
use Rattle.rank_rows.specs.Ranks.{like_rows}
use Rattle.rank_cert.specs.Like.{AreLike}
use Rattle.rank_cert.proofs.row.read_ranks.Given as goal

abbrev pub invariant-loop-i : goal.invariant-loop-i
invariant-loop-i l = record {
  first : get_or l.ranks 0 0 ≡ get_or l.fn.ranks 0 0;
  like : AreLike l.text (drop 1 (like_rows l.run l.spelled (take l.i l.ranks))) l.rest;
}
