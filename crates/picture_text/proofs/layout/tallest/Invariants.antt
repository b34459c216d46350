use Rattle.std.proofs.Common.{◌≡◌, ◌≤◌, drop, fold, length, max}
use Rattle.picture_text.specs.Layout.{column_height, tallest}
use Rattle.picture_text.proofs.layout.tallest.Given as goal

abbrev pub invariant-loop-column : goal.invariant-loop-column
invariant-loop-column l = record {
  most : fold (λ most c. max most (column_height l.columns c)) l.most (drop l.column-index l.columns) ≡ tallest l.columns;
  few : l.most ≤ length l.columns;
}
