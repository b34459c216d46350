-- Sums over the entries of a book.
use Rattle.std.specs.Prelude.{◌≡◌, ◌≤◌, ◌*◌, ℕ, List, length}
use Rattle.std.specs.List.{All}
use Rattle.network_law.specs.Traces.{added}
use Rattle.book_index.specs.Sums.{sum_at}
use Rattle.book_index.specs.declared.card_day.CardDay.{CardDay}

-- each sum is that of the entries, each of which adds less than 10^12
pub record AreSums {X : Type 0} (counts : CardDay → X → ℕ) (entries : List X) (sums : List (CardDay × ℕ)) : Type 0 where
  pub exact : (day : CardDay) → sum_at sums day ≡ added (counts day) entries
  pub few : (day : CardDay) → added (counts day) entries ≤ 1000000000000 * length entries
  pub each : (day : CardDay) → All (λ x. counts day x ≤ 1000000000000) entries
