-- What own approvals among the later changes count for, one change after the other.
use Rattle.std.proofs.Common.{◌≡◌, ◌≤◌, ◌<◌, ◌+◌, ◌*◌, ℕ, suc, List, [], ◌∷◌, ◌++◌, length, drop, Bool, true, false, cond, ◌&&◌, bytes_eq, refl, sym, ap, ◌∙◌, inl, inr, arith}
use Rattle.std.proofs.lemmas.Bool.{cases_lt}
use Rattle.std.proofs.lemmas.List.{drop_all}
use Rattle.network_law.specs.Traces.{added}
use Rattle.node_machine.specs.Books.{Taken}
use Rattle.node_machine.specs.Lists.{Mark, Take, forget, left_marks}
use Rattle.node_books.specs.declared.effect.Effect.{Effect}
use Rattle.node_books.specs.declared.effect.Effect.TheVariants as effects
use Rattle.book_index.specs.declared.card_day.CardDay.{CardDay}
use Rattle.book_index.specs.Sums.{sum_at, amount_on}
use Rattle.entry_changes.specs.Late.{few}
use Rattle.entry_changes.proofs.Lately.{drop_push, length_push, none_late}
use Rattle.step_draft.specs.SoFar.{approved_in}
use Rattle.step_draft.specs.Used.{AreLateUses, counted_by}
use Rattle.step_draft.proofs.Takings.{added_last, append_none, approved_append}

abbrev day_of : Take → CardDay
day_of a = record { card = a.card; date = a.date }

small_more : (n m k : ℕ) → n ≤ 1000000000000 * m → k ≡ suc m → n ≤ 1000000000000 * k
small_more n m k le e = omega (arith, le, e)

-- before the later ones, nothing is kept
pub uses_early : (marks : List Mark) (es : List Effect) (e : Effect) (sums : List (CardDay × ℕ)) → length es < few → AreLateUses marks es sums → AreLateUses marks (es ++ e ∷ []) sums
uses_early marks es e sums less h = record {
  sum = λ day. h.sum day ∙ ap (λ z. added (counted_by marks day.card day.date) (approved_in z)) (sym (none_late few es e less));
  small = λ day. small_more (sum_at sums day) (length es) (length (es ++ e ∷ [])) (h.small day) (length_push es e);
}

quiet_late : (es : List Effect) (e : Effect) → approved_in (e ∷ []) ≡ [] → few ≤ length es → approved_in (drop few (es ++ e ∷ [])) ≡ approved_in (drop few es)
quiet_late es e q le = ap approved_in (drop_push few es e le) ∙ (approved_append (drop few es) (e ∷ []) ∙ (ap (λ z. approved_in (drop few es) ++ z) q ∙ append_none (approved_in (drop few es))))

uses_late : (marks : List Mark) (es : List Effect) (e : Effect) (sums : List (CardDay × ℕ)) → approved_in (e ∷ []) ≡ [] → few ≤ length es → AreLateUses marks es sums → AreLateUses marks (es ++ e ∷ []) sums
uses_late marks es e sums q le h = record {
  sum = λ day. h.sum day ∙ ap (added (counted_by marks day.card day.date)) (sym (quiet_late es e q le));
  small = λ day. small_more (sum_at sums day) (length es) (length (es ++ e ∷ [])) (h.small day) (length_push es e);
}

-- a change that is no own approval
pub uses_same : (marks : List Mark) (es : List Effect) (e : Effect) (sums : List (CardDay × ℕ)) → approved_in (e ∷ []) ≡ [] → AreLateUses marks es sums → AreLateUses marks (es ++ e ∷ []) sums
uses_same marks es e sums q h = elim (cases_lt (length es) few) [ inl less ↦ uses_early marks es e sums less h | inr le ↦ uses_late marks es e sums q le h ]

on_day : (a : Take) (marks : List Mark) (day : CardDay) → amount_on (day_of a) (left_marks a.key marks a.amount) day ≡ counted_by marks day.card day.date (forget a)
on_day a marks day = refl

at_most : (day other : CardDay) (amount : ℕ) → amount_on day amount other ≤ amount
at_most day other amount = go (bytes_eq day.card other.card && bytes_eq day.date other.date)
  where
    go : (b : Bool) → cond b amount 0 ≤ amount
    go true = omega arith
    go false = omega arith

one_more : (f : Taken → ℕ) (xs : List Taken) (y : Taken) (n : ℕ) → n ≡ added f xs → n + f y ≡ added f (xs ++ y ∷ [])
one_more f xs y n e = let l = added_last f xs y in omega (arith, e, l)

small_sum : (n s d m k left : ℕ) → n ≡ s + d → s ≤ 1000000000000 * m → d ≤ left → left ≤ 1000000000000 → k ≡ suc m → n ≤ 1000000000000 * k
small_sum n s d m k left e le dl small f = omega (arith, e, le, dl, small, f)

-- an own approval
pub uses_more : (marks : List Mark) (es : List Effect) (a : Take) (sums new : List (CardDay × ℕ)) → few ≤ length es → left_marks a.key marks a.amount ≤ 1000000000000 → ((day : CardDay) → sum_at new day ≡ sum_at sums day + amount_on (day_of a) (left_marks a.key marks a.amount) day) → AreLateUses marks es sums → AreLateUses marks (es ++ effects.Approved a ∷ []) new
uses_more marks es a sums new le small more h = record {
  sum = λ day.
      more day
      ∙ (one_more (counted_by marks day.card day.date) (approved_in (drop few es)) (forget a) (sum_at sums day) (h.sum day)
      ∙ ap (added (counted_by marks day.card day.date)) (sym (ap approved_in (drop_push few es (effects.Approved a) le) ∙ approved_append (drop few es) (effects.Approved a ∷ []))));
  small = λ day. small_sum (sum_at new day) (sum_at sums day) (amount_on (day_of a) (left_marks a.key marks a.amount) day) (length es) (length (es ++ effects.Approved a ∷ [])) (left_marks a.key marks a.amount) (more day) (h.small day) (at_most (day_of a) day (left_marks a.key marks a.amount)) small (length_push es (effects.Approved a));
}

-- before the first change
pub no_uses : (marks : List Mark) (sums : List (CardDay × ℕ)) → sums ≡ [] → AreLateUses marks [] sums
no_uses marks sums e = record {
  sum = λ day. ap (λ z. sum_at z day) e;
  small = λ day. let n = ap (λ z. sum_at z day) e in omega (arith, n);
}

-- where none was late, none is kept: nothing is used before the first change
pub uses_gone : (marks others : List Mark) (es : List Effect) (sums : List (CardDay × ℕ)) → length es < few → AreLateUses marks es sums → AreLateUses others [] sums
uses_gone marks others es sums less h = record {
  sum = λ day. none day;
  small = λ day. let n = none day in omega (arith, n);
}
  where
    none : (day : CardDay) → sum_at sums day ≡ 0
    none day = h.sum day ∙ ap (λ z. added (counted_by marks day.card day.date) (approved_in z)) (drop_all few es (omega (arith, less)))
