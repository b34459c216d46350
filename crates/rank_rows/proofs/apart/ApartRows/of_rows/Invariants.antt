use Rattle.std.proofs.Common.{◌≡◌, ◌++◌, drop}
use Rattle.rank_rows.specs.Ranks.{AddsRows}
use Rattle.rank_rows.proofs.apart.ApartRows.of_rows.Given as goal

abbrev pub invariant-loop-row : goal.invariant-loop-row
invariant-loop-row l = record {
  whole : l.apart ++ drop l.row-index l.rows ≡ l.rows;
  rest : AddsRows l.apart (drop l.row-index l.rows);
}
