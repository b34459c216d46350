-- What is used after the changes so far.
use Rattle.std.specs.Prelude.{◌≡◌, ◌≤◌, ◌*◌, ℕ, List, ◌&&◌, if◌then◌else◌, bytes_eq, drop, length}
use Rattle.network_law.specs.Traces.{added}
use Rattle.node_machine.specs.Books.{Taken}
use Rattle.node_machine.specs.Lists.{Mark, Lists, left_marks}
use Rattle.book_index.specs.declared.card_day.CardDay.{CardDay}
use Rattle.book_index.specs.Sums.{sum_at}
use Rattle.node_books.specs.declared.effect.Effect.{Effect}
use Rattle.entry_changes.specs.Late.{few}
use Rattle.step_draft.specs.SoFar.{approved_in}

-- no reversal was accepted and nothing was lent since those lists
pub record IsQuiet (base now : Lists) : Type 0 where
  pub marks : now.marks ≡ base.marks
  pub loans : now.loans ≡ base.loans
  pub borrowed : now.borrowed ≡ base.borrowed

-- what an own approval counts for, by these marks
abbrev pub counted_by : List Mark → List ℕ → List ℕ → Taken → ℕ
counted_by marks card date a = if bytes_eq a.card card && bytes_eq a.date date then left_marks a.key marks a.amount else 0

-- the sums of what the own approvals among the later changes count for
pub record AreLateUses (marks : List Mark) (es : List Effect) (sums : List (CardDay × ℕ)) : Type 0 where
  pub sum : (day : CardDay) → sum_at sums day ≡ added (counted_by marks day.card day.date) (approved_in (drop few es))
  pub small : (day : CardDay) → sum_at sums day ≤ 1000000000000 * length es
