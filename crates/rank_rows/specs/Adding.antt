-- What becomes of a row that is added to rows.
use Rattle.std.specs.Prelude.{◌≡◌, Bool, true, false, List, [], ◌∷◌, ◌++◌}
use Rattle.rank_rows.specs.declared.rank.Rank.{Rank}
use Rattle.rank_rows.specs.declared.runs.Added.{Added}
use Rattle.rank_rows.specs.declared.runs.Added.TheVariants.{Yes, Twice, Apart}

-- the row stands behind the others where its pair isn't known, and otherwise they stay
abbrev pub Adds : Bool → List Rank → Rank → Added → List Rank → Type 0
Adds known rows r Yes new = (known ≡ false) × (new ≡ rows ++ r ∷ [])
Adds known rows r Twice new = (known ≡ true) × (new ≡ rows)
Adds known rows r Apart new = new ≡ rows
