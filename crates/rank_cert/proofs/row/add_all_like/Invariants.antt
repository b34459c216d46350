use Rattle.std.proofs.Common.{◌≡◌, ◌≤◌, length}
use Rattle.card_digits.specs.Lines.{lines}
use Rattle.rank_rows.specs.Ranks.{EndsWith}
use Rattle.rank_cert.specs.Reading.{rows_in}
use Rattle.rank_cert.proofs.row.add_all_like.Given as goal

abbrev pub invariant-loop-behind : goal.invariant-loop-behind
invariant-loop-behind l = record {
  on : rows_in l.fn.cert (lines l.text) ≡ rows_in l.cert (lines l.rest);
  ends : EndsWith l.spelled l.cert;
  shorter : length l.rest ≤ length l.text;
}

abbrev pub decreases-loop-behind : goal.decreases-loop-behind
decreases-loop-behind l = length l.rest
