-- The words and numbers of a line.
use Rattle.std.specs.Prelude.{ℕ, ◌==◌, ◌||◌, not, nat_lt, List, [], ◌∷◌, length, Option, Some, None, if◌then◌else◌}
use Rattle.std.specs.Char.{is_ascii_digit}
use Rattle.std.specs.List.{list_all}
use Rattle.std.specs.Option.{option_map}
use Rattle.card_digits.specs.Numbers.{decimal}
use Rattle.card_digits.specs.Steps.{◌>>=◌}

-- the bytes before the first space, and those behind it
abbrev pub word_and_rest : List ℕ → Option (List ℕ × List ℕ)
word_and_rest [] = None
word_and_rest (b ∷ bs) = if b == 32 then Some ([], bs) else option_map (λ p. (b ∷ p.0, p.1)) (word_and_rest bs)

-- one to so many digits
abbrev pub number_of : ℕ → List ℕ → Option ℕ
number_of most text = if (length text == 0 || nat_lt most (length text)) || not (list_all is_ascii_digit text) then None else Some (decimal text)

abbrev pub not_zero : ℕ → Option ℕ
not_zero n = if n == 0 then None else Some n

-- one to twelve digits that write no 0
abbrev pub amount_of : List ℕ → Option ℕ
amount_of text = do
  amount ← number_of 12 text
  not_zero amount
