use Rattle.std.proofs.Common.{◌≡◌, ◌≤◌, ◌++◌, drop, take, length}
use Rattle.rank_cert.specs.Writing.{lines_of}
use Rattle.rank_cert.proofs.write.write_rows.Given as goal

abbrev pub invariant-loop-row : goal.invariant-loop-row
invariant-loop-row l = record {
  text : (l.text.items ++ take l.end l.page) ++ lines_of (drop l.row-index l.rows) ≡ l.fn.text.items ++ lines_of l.rows;
  within : l.end ≤ 4096;
  size : length l.page ≡ 4096;
}
