-- Decimal digits, as numbers from 0 to 9.
use Rattle.std.specs.Prelude.{◌≡◌, ℕ, ◌<◌, ◌≤◌, ◌+◌, ◌-◌, ◌==◌, true, false, List, length, drop, map, replicate}
use Rattle.std.specs.Char.{is_ascii_alphanumeric, is_ascii_digit}
use Rattle.std.specs.List.{AllByRecursion, list_all}

-- the numbers that ASCII digits write
abbrev pub digits_of : List ℕ → List ℕ
digits_of bytes = map (λ b. b - 48) bytes

abbrev pub AreDigits : List ℕ → Type 0
AreDigits ds = AllByRecursion (λ d. d < 10) ds

-- from least to most digits
pub record AreDigitsWithin (least most : ℕ) (ds : List ℕ) : Type 0 where
  pub not_short : least ≤ length ds
  pub not_long : length ds ≤ most
  pub digits : AreDigits ds

abbrev pub IsCard : List ℕ → Type 0
IsCard = AreDigitsWithin 8 19

abbrev pub IsPrefix : List ℕ → Type 0
IsPrefix = AreDigitsWithin 1 12

abbrev pub IsDateLabel : List ℕ → Type 0
IsDateLabel = AreDigitsWithin 4 4

-- the ASCII digits that write these numbers
abbrev pub digits_text : List ℕ → List ℕ
digits_text ds = map (λ d. d + 48) ds

-- 1 to 8 ASCII letters and digits
pub record IsName (text : List ℕ) : Type 0 where
  pub some : 1 ≤ length text
  pub few : length text ≤ 8
  pub letters : list_all is_ascii_alphanumeric text ≡ true

-- at most eleven ASCII digits, not all of them 0
pub record IsId (text : List ℕ) : Type 0 where
  pub few : length text ≤ 11
  pub digits : list_all is_ascii_digit text ≡ true
  pub not_zeros : list_all (λ b. b == 48) text ≡ false

-- an array of n digits, of which those from len on are 0
pub record IsPadded (n len : ℕ) (ds : List ℕ) : Type 0 where
  pub fits : len ≤ n
  pub full : length ds ≡ n
  pub rest : drop len ds ≡ replicate (n - len) 0
