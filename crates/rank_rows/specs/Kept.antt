-- The rows of a certificate in either form.
use Rattle.std.specs.Prelude.{List}
use Rattle.rank_rows.specs.declared.rank.Rank.{Rank}
use Rattle.rank_rows.specs.declared.kept.Kept.{Kept}
use Rattle.rank_rows.specs.declared.kept.Kept.TheVariants.{Together, Apart}

-- the rows in the order in which they were added
abbrev pub rows_of : Kept → List Rank
rows_of (Together rows) = rows
rows_of (Apart rows) = rows
