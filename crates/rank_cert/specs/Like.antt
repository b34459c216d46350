-- A line of the prefix of the line before it.
use Rattle.std.specs.Prelude.{◌≡◌, ℕ, ◌<◌, ◌==◌, false, List, [], ◌∷◌, ◌++◌, length, Some, All}
use Rattle.card_digits.specs.Cut.{IsCut}
use Rattle.card_digits.specs.Reading.{name_of}
use Rattle.card_digits.specs.Digits.{IsPrefix, digits_text}
use Rattle.card_digits.specs.Lines.{lines}
use Rattle.rank_rows.specs.declared.rank.Rank.{Rank}
use Rattle.rank_cert.specs.Reading.{number_of, row_of}

-- the text is the digits of the prefix and a space
pub record IsSpelled (prefix text : List ℕ) : Type 0 where
  pub form : IsPrefix prefix
  pub spelled : text ≡ digits_text prefix ++ 32 ∷ []

-- a name stands before the first space, and this behind it
pub record IsNamed (text name behind : List ℕ) : Type 0 where
  pub cut : IsCut 32 text name behind
  pub is : name_of name ≡ Some name

-- a rank stands before the first line feed, and this behind it
pub record IsRanked (text : List ℕ) (rank : ℕ) (rest : List ℕ) : Type 0 where
  pub digits : List ℕ
  pub whole : text ≡ digits ++ 10 ∷ rest
  pub number : number_of digits ≡ Some rank
  pub one_line : All (λ b. (b == 10) ≡ false) digits

-- the text's first line is the row, and this stands behind the line
pub record IsLike (text : List ℕ) (r : Rank) (rest : List ℕ) : Type 0 where
  pub line : List ℕ
  pub first : lines text ≡ line ∷ lines rest
  pub row : row_of line ≡ Some r
  pub shorter : length rest < length text

-- the text's first lines are the rows, and this stands behind them
abbrev pub AreLike : List ℕ → List Rank → List ℕ → Type 0
AreLike text [] rest = text ≡ rest
AreLike text (r ∷ rs) rest = (behind : List ℕ) × IsLike text r behind × AreLike behind rs rest
