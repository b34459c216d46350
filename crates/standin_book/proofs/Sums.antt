-- Sums after a change.
use Rattle.std.proofs.Common.{◌≡◌, ℕ, zero, suc, ◌+◌, ◌-◌, ◌*◌, ◌<◌, ◌≤◌, Bool, true, false, List, [], ◌∷◌, ◌++◌, length, get_or, set, refl, sym, ap, ◌∙◌, arith, cond}
use Rattle.std.proofs.lemmas.List.{length-set}
use Rattle.std.specs.List.{All, remove}
use Rattle.std.proofs.lemmas.List.Elements.{All-push, All-set}
use Rattle.std.proofs.lemmas.List.Edits.{length-remove, get_or-remove_below, get_or-remove_above}
use Rattle.std.proofs.Common.{inl, inr}
use Rattle.std.proofs.lemmas.Bool.{cases_lt}
use Rattle.network_law.specs.Traces.{added}
use Rattle.book_index.specs.Sums.{sum_at, amount_on, day_eq}
use Rattle.book_index.specs.declared.card_day.CardDay.{CardDay}
use Rattle.standin_book.specs.Sums.{AreSums}

pub added_push : {X : Type 0} (f : X → ℕ) (xs : List X) (x : X) → added f (xs ++ x ∷ []) ≡ added f xs + f x
added_push f [] x = omega arith
added_push f (y ∷ ys) x = let h = added_push f ys x in omega (arith, h)

pub added_set : {X : Type 0} (f : X → ℕ) (xs : List X) (i : ℕ) (d x : X) → i < length xs → added f (set xs i x) + f (get_or xs i d) ≡ added f xs + f x
added_set f [] i d x less = absurd (omega arith)
added_set f (y ∷ ys) zero d x less = omega arith
added_set f (y ∷ ys) (suc i) d x less = let h = added_set f ys i d x (omega arith) in omega (arith, h)

pub length_push : {X : Type 0} (xs : List X) (x : X) → length (xs ++ x ∷ []) ≡ length xs + 1
length_push [] x = refl
length_push (y ∷ ys) x = let h = length_push ys x in omega (arith, h)

amount_few : (day : CardDay) (n : ℕ) (other : CardDay) → amount_on day n other ≤ n
amount_few day n other = go (day_eq day other)
  where
    go : (b : Bool) → cond b n 0 ≤ n
    go true = omega arith
    go false = omega arith

-- an entry more
pub sums_more : {X : Type 0} (counts : CardDay → X → ℕ) (xs : List X) (x : X) (day : CardDay) (n : ℕ) (sums new : List (CardDay × ℕ)) → ((q : CardDay) → counts q x ≡ amount_on day n q) → n < 1000000000000 → ((q : CardDay) → sum_at new q ≡ sum_at sums q + amount_on day n q) → AreSums counts xs sums → AreSums counts (xs ++ x ∷ []) new
sums_more counts xs x day n sums new is few more s = record {
  exact = λ q. more q ∙ (ap (λ m. m + amount_on day n q) (s.exact q) ∙ (ap (λ m. added (counts q) xs + m) (sym (is q)) ∙ sym (added_push (counts q) xs x)));
  few = λ q. let a = added_push (counts q) xs x in let b = s.few q in let c = length_push xs x in let d = is q in let e = amount_few day n q in omega (arith, a, b, c, d, e, few);
  each = λ q. All-push (λ y. counts q y ≤ 1000000000000) xs x (s.each q) (let d = is q in let e = amount_few day n q in omega (arith, d, e, few));
}

-- less of an entry
pub sums_less : {X : Type 0} (counts : CardDay → X → ℕ) (xs : List X) (i : ℕ) (d x : X) (day : CardDay) (n : ℕ) (sums new : List (CardDay × ℕ)) → i < length xs → ((q : CardDay) → counts q x + amount_on day n q ≡ counts q (get_or xs i d)) → ((q : CardDay) → sum_at new q ≡ sum_at sums q - amount_on day n q) → AreSums counts xs sums → AreSums counts (set xs i x) new
sums_less counts xs i d x day n sums new less is after s = record {
  exact = λ q. let a = added_set (counts q) xs i d x less in let b = is q in let c = after q in let e = s.exact q in omega (arith, a, b, c, e);
  few = λ q. let a = added_set (counts q) xs i d x less in let b = is q in let c = s.few q in let e = length-set xs i x in omega (arith, a, b, c, e);
  each = λ q. All-set (λ y. counts q y ≤ 1000000000000) xs i x (let b = is q in let m = s.each q i d less in omega (arith, b, m)) (s.each q);
}

added_remove : {X : Type 0} (f : X → ℕ) (xs : List X) (i : ℕ) (d : X) → i < length xs → added f (remove xs i) + f (get_or xs i d) ≡ added f xs
added_remove f [] i d less = absurd (omega arith)
added_remove f (y ∷ ys) zero d less = omega arith
added_remove f (y ∷ ys) (suc i) d less = let h = added_remove f ys i d (omega arith) in omega (arith, h)

all_remove : {X : Type 0} (P : X → Type 0) (xs : List X) (i : ℕ) → i < length xs → All P xs → All P (remove xs i)
all_remove P xs i less all k d within =
    let n = length-remove xs i less in
    elim (cases_lt k i) [
      | inl before ↦ rw (get_or-remove_below xs i d k before less) (all k d (omega (arith, n)))
      | inr from ↦ rw (get_or-remove_above xs i d k from less) (all (k + 1) d (omega (arith, n)))
    ]

added_few : {X : Type 0} (f : X → ℕ) (xs : List X) → All (λ x. f x ≤ 1000000000000) xs → added f xs ≤ 1000000000000 * length xs
added_few f [] all = omega arith
added_few f (x ∷ xs) all =
    let first : f x ≤ 1000000000000 = all 0 x (omega arith) in
    let rest = added_few f xs (λ k d within. all (suc k) d (omega arith)) in
    omega (arith, first, rest)

-- an entry less
pub sums_without : {X : Type 0} (counts : CardDay → X → ℕ) (xs : List X) (i : ℕ) (d : X) (day : CardDay) (n : ℕ) (sums new : List (CardDay × ℕ)) → i < length xs → ((q : CardDay) → amount_on day n q ≡ counts q (get_or xs i d)) → ((q : CardDay) → sum_at new q ≡ sum_at sums q - amount_on day n q) → AreSums counts xs sums → AreSums counts (remove xs i) new
sums_without counts xs i d day n sums new less is after s = record {
  exact = λ q. let a = added_remove (counts q) xs i d less in let b = is q in let c = after q in let e = s.exact q in omega (arith, a, b, c, e);
  few = λ q. added_few (counts q) (remove xs i) (all_remove (λ y. counts q y ≤ 1000000000000) xs i less (s.each q));
  each = λ q. all_remove (λ y. counts q y ≤ 1000000000000) xs i less (s.each q);
}

-- what one entry counts for is part of its sum
pub part_of : {X : Type 0} (f : X → ℕ) (xs : List X) (i : ℕ) (d : X) → i < length xs → f (get_or xs i d) ≤ added f xs
part_of f [] i d less = absurd (omega arith)
part_of f (y ∷ ys) zero d less = omega arith
part_of f (y ∷ ys) (suc i) d less = let h = part_of f ys i d (omega arith) in omega (arith, h)

-- the same sums
pub sums_again : {X : Type 0} (counts : CardDay → X → ℕ) (xs : List X) (sums new : List (CardDay × ℕ)) → ((q : CardDay) → sum_at new q ≡ sum_at sums q) → AreSums counts xs sums → AreSums counts xs new
sums_again counts xs sums new same s = record { exact = λ q. same q ∙ s.exact q; few = s.few; each = s.each }

pub no_sums : {X : Type 0} (counts : CardDay → X → ℕ) (sums : List (CardDay × ℕ)) → sums ≡ [] → AreSums counts [] sums
no_sums counts sums none = record { exact = λ q. rw none refl; few = λ q. omega arith; each = λ q k d less. absurd (omega arith) }
