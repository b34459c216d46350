-- The numbers that digits write, padded institution ids, and the check digit of a card number (ISO/IEC 7812-1, annex B).
use Rattle.std.specs.Prelude.{ℕ, ◌+◌, ◌-◌, ◌*◌, ◌/◌, ◌%◌, ◌==◌, not, Bool, List, [], ◌∷◌, ◌++◌, length, replicate, if◌then◌else◌, Result, Ok, Err}
use Rattle.std.specs.Char.{is_ascii_digit}
use Rattle.std.specs.List.{list_all}
use Rattle.card_digits.specs.declared.card.DigitFault.{DigitFault}
use Rattle.card_digits.specs.declared.card.DigitFault.TheVariants.{NotDigit, Length}

-- the number that ASCII digits write behind n
abbrev pub decimal_from : ℕ → List ℕ → ℕ
decimal_from n [] = n
decimal_from n (b ∷ bs) = decimal_from (n * 10 + (b - 48)) bs

-- the number that ASCII digits write
abbrev pub decimal : List ℕ → ℕ
decimal text = decimal_from 0 text

-- the amount that twelve ASCII digits write
abbrev pub read_amount : List ℕ → Result ℕ DigitFault
read_amount text =
    if not (list_all is_ascii_digit text) then Err NotDigit
    else if not (length text == 12) then Err Length
    else Ok (decimal text)

-- eleven ASCII digits, zeros on the left
abbrev pub pad11 : List ℕ → List ℕ
pad11 text = replicate (11 - length text) 48 ++ text

-- a digit doubled, and the digits of the double added
abbrev pub doubled : ℕ → ℕ
doubled d = 2 * d / 10 + 2 * d % 10

-- from the right every second digit doubled, and the others as they are
abbrev pub luhn_sum : List ℕ → ℕ
luhn_sum [] = 0
luhn_sum (d ∷ ds) = (if length ds % 2 == 1 then doubled d else d) + luhn_sum ds

-- the check digit is right
abbrev pub passes_luhn : List ℕ → Bool
passes_luhn digits = luhn_sum digits % 10 == 0
