use Rattle.std.proofs.Common.{◌≤◌, length}
use denote.Text.{Utf8}
use denote.Shadow.{shadow}
use Rattle.toml.specs.View.{table_view}
use Rattle.toml_rows.specs.Rows.{ArePairs}
use Rattle.toml_rows.proofs.row.pairs.Given as goal

abbrev pub invariant-lines : goal.invariant-lines
invariant-lines l = shadow (Utf8 l.rest) × (length l.rest ≤ length l.fn.s) × ArePairs (table_view l.members) l.fn.s l.rest

abbrev pub decreases-lines : goal.decreases-lines
decreases-lines l = length l.rest
