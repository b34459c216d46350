-- The text of a certificate.
use Rattle.std.specs.Prelude.{ℕ, List, [], ◌∷◌, ◌++◌, codes}
use Rattle.std.specs.Fmt.{decimal}
pub use Rattle.card_digits.specs.Digits.{digits_text}
use Rattle.rank_rows.specs.declared.rank.Rank.{Rank}

-- a name, a prefix and a rank, with a space between them
abbrev pub line_of : Rank → List ℕ
line_of r = (r.node ++ 32 ∷ digits_text r.prefix) ++ 32 ∷ decimal r.rank

-- the lines of the rows, each with its line feed
abbrev pub lines_of : List Rank → List ℕ
lines_of [] = []
lines_of (r ∷ rs) = (line_of r ++ 10 ∷ []) ++ lines_of rs

abbrev pub text_of : List Rank → List ℕ
text_of rows = (codes "RANKS 1" ++ 10 ∷ []) ++ lines_of rows ++ codes "END" ++ 10 ∷ []
