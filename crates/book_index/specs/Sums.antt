-- Sums of amounts by card and settlement date.
use Rattle.std.specs.Prelude.{ℕ, Bool, ◌&&◌, if◌then◌else◌, bytes_eq, List, unwrap_or}
use Rattle.std.specs.Map.{lookup}
use Rattle.book_index.specs.declared.card_day.CardDay.{CardDay}

abbrev pub day_eq : CardDay → CardDay → Bool
day_eq a b = bytes_eq a.card b.card && bytes_eq a.date b.date

abbrev pub sum_at : List (CardDay × ℕ) → CardDay → ℕ
sum_at sums day = unwrap_or (lookup (day_eq day) sums) 0

-- an amount on this day, 0 on another
abbrev pub amount_on : CardDay → ℕ → CardDay → ℕ
amount_on day amount other = if day_eq day other then amount else 0
