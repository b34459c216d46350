-- Fronts of a class, each known from the one before.
use Rattle.std.proofs.Common.{◌≡◌, ℕ, zero, suc, ◌+◌, ◌-◌, ◌<◌, ◌≤◌, ◌==◌, false, List, [], ◌∷◌, ◌++◌, length, get_or, take, length-take, Option, Some, None, refl, sym, ap, ◌∙◌, inl, inr, arith}
use Rattle.std.specs.Prelude.{slice_get, slice_set, unwrap_or, option_and_then, replicate}
use Rattle.std.specs.Option.{option_or}
use Rattle.std.proofs.lemmas.Bool.{cases_Bool, cases_lt}
use Rattle.card_digits.specs.Longest.{begins}
use Rattle.rows_in_force.specs.InForce.{in_force, row_at, slot_at, AreInForce, AreKnown}
use Rattle.rows_in_force.specs.Kept.{nowhere}
use Rattle.rows_in_force.specs.Own.{own_row}
use Rattle.rows_in_force.proofs.Chain.{there}
use Rattle.rows_in_force.proofs.Digit.{digit_more}

pub at_place : {A : Type 0} (xs : List A) (i : ℕ) (x : A) → i < length xs → x ≡ get_or xs i x → slice_get xs i ≡ Some x
at_place [] i x lt at = absurd (omega arith)
at_place (y ∷ xs) zero x lt at = ap Some (sym at)
at_place (y ∷ xs) (suc i) x lt at = at_place xs i x (omega arith) at

pub set_here : {A : Type 0} (xs : List A) (i : ℕ) (v : A) → i < length xs → slice_get (slice_set xs i v) i ≡ Some v
set_here [] i v lt = absurd (omega arith)
set_here (x ∷ xs) zero v lt = refl
set_here (x ∷ xs) (suc i) v lt = set_here xs i v (omega arith)

pub set_there : {A : Type 0} (xs : List A) (i j : ℕ) (v : A) → (i ≡ j → ⊥) → slice_get (slice_set xs i v) j ≡ slice_get xs j
set_there [] i j v h = refl
set_there (x ∷ xs) zero zero v h = absurd (h refl)
set_there (x ∷ xs) zero (suc j) v h = refl
set_there (x ∷ xs) (suc i) zero v h = refl
set_there (x ∷ xs) (suc i) (suc j) v h = set_there xs i j v (λ e. h (ap (λ (k : ℕ). suc k) e))

pub take_take : (j k : ℕ) (ds : List ℕ) → j ≤ k → take j (take k ds) ≡ take j ds
take_take zero k ds le = refl
take_take (suc j) zero ds le = absurd (omega arith)
take_take (suc j) (suc k) [] le = refl
take_take (suc j) (suc k) (d ∷ ds) le = ap (λ xs. d ∷ xs) (take_take j k ds (omega arith))

pub take_whole : (ds : List ℕ) → take (length ds) ds ≡ ds
take_whole [] = refl
take_whole (d ∷ ds) = ap (λ xs. d ∷ xs) (take_whole ds)

-- digits are all but the last, and the last
split_last : (ds : List ℕ) (k : ℕ) → length ds ≡ suc k → (d : ℕ) × (ds ≡ take k ds ++ d ∷ [])
split_last [] k e = absurd (omega arith)
split_last (d ∷ []) zero e = (d, refl)
split_last (d ∷ []) (suc k) e = absurd (omega arith)
split_last (d ∷ (x ∷ ds)) zero e = absurd (omega arith)
split_last (d ∷ (x ∷ ds)) (suc k) e = let more = split_last (x ∷ ds) k (omega arith) in (more.0, ap (λ xs. d ∷ xs) more.1)

module _ {R : Type 0} (g : R → ℕ) (f : R → List ℕ) (rows : List R) where
  -- the own rows over those at all digits but the last
  pub in_force_next : (front : List ℕ) (old new : List (Option ℕ)) → 1 ≤ length front → AreInForce g f rows (take (length front - 1) front) old
      → ((n : ℕ) → n < 64 → row_at rows new n ≡ option_or (own_row g f rows n front) (row_at rows old n)) → AreInForce g f rows front new
  in_force_next front old new some known put n lt =
      let last = split_last front (length front - 1) (omega arith) in
      let whole = digit_more g f n (take (length front - 1) front) last.0 rows in
      let at : in_force g f rows n front ≡ option_or (own_row g f rows n front) (in_force g f rows n (take (length front - 1) front)) = rw (← last.1) at whole in
      put n lt ∙ ap (λ (o : Option R). option_or (own_row g f rows n front) o) (known n lt) ∙ sym at

  -- fronts that are shared stay known
  pub known_shared : (old new : List ℕ) (m k : ℕ) (slots : List ℕ) (fronts : List (List (Option ℕ))) → AreKnown g f rows old m slots fronts → k ≤ m → take k old ≡ take k new → AreKnown g f rows new k slots fronts
  known_shared old new m k slots fronts h le same j lt =
      let known = h j (omega arith) in
      let front : take j new ≡ take j old = sym (take_take j k new lt) ∙ sym (ap (take j) same) ∙ take_take j k old lt in
      (known.0, λ n few. rw front (known.1 n few))

  -- the front of the next digit
  pub known_front : (class front : List ℕ) (k : ℕ) (slots : List ℕ) (fronts : List (List (Option ℕ))) → AreKnown g f rows class k slots fronts → k + 1 ≤ length class → front ≡ take (k + 1) class → AreKnown g f rows front (length front - 1) slots fronts
  known_front class front k slots fronts h le e =
      let long : length (take (k + 1) class) - 1 ≡ k = rw length-take (omega arith) in
      rw (e, long) (known_shared class (take (k + 1) class) k k slots fronts h (omega arith) (sym (take_take k (k + 1) class (omega arith))))

  pub known_back : (class front : List ℕ) (k : ℕ) (slots : List ℕ) (fronts : List (List (Option ℕ))) → AreKnown g f rows front (length front) slots fronts → k + 1 ≤ length class → front ≡ take (k + 1) class → AreKnown g f rows class (k + 1) slots fronts
  known_back class front k slots fronts h le e =
      let long : length front ≡ k + 1 = rw (e, length-take) (omega arith) in
      known_shared front class (length front) (k + 1) slots fronts h (omega arith) (ap (take (k + 1)) e ∙ take_take (k + 1) (k + 1) class (omega arith))

  -- the slots and places of one front more, whatever stood at its place
  known_with : (front : List ℕ) (slots : List ℕ) (fronts new : List (List (Option ℕ))) (slot : ℕ) (last : List (Option ℕ)) → 1 ≤ length front → length front < length slots
      → AreKnown g f rows front (length front - 1) slots fronts → slot ≤ length front
      → ((j : ℕ) → j < length front → slice_get new j ≡ slice_get fronts j) → slice_get new slot ≡ Some last → AreInForce g f rows front last
      → AreKnown g f rows front (length front) (slice_set slots (length front) slot) new
  known_with front slots fronts new slot last some room known few same here force k le = elim (cases_lt k (length front)) [
    | inl less ↦
        let apart : length front ≡ k → ⊥ = λ e. absurd (omega arith) in
        let before = known k (omega arith) in
        rw (set_there slots (length front) k slot apart) (before.0, rw (same (slot_at slots k) (let le = before.0 in omega arith)) before.1)
    | inr more ↦
        let whole : k ≡ length front = omega arith in
        rw (whole, set_here slots (length front) slot room, here, take_whole front) (few, force)
  ]

  -- the places at the front, with its own rows put over those at all digits but the last
  pub known_own : (front : List ℕ) (slots : List ℕ) (fronts : List (List (Option ℕ))) (slot : ℕ) (old new : List (Option ℕ)) → 1 ≤ length front → length front < length slots → length front < length fronts
      → AreKnown g f rows front (length front - 1) slots fronts → slot_at slots (length front - 1) ≡ slot → slice_get fronts slot ≡ Some old
      → ((n : ℕ) → n < 64 → row_at rows new n ≡ option_or (own_row g f rows n front) (row_at rows old n))
      → AreKnown g f rows front (length front) (slice_set slots (length front) (length front)) (slice_set fronts (length front) new)
  known_own front slots fronts slot old new some room enough known at is put =
      let known_before = known (length front - 1) (omega arith) in
      let before = rw (at, is) at known_before in
      known_with front slots fronts (slice_set fronts (length front) new) (length front) new some room known (omega arith)
      (λ j lt. set_there fronts (length front) j new (λ e. absurd (omega arith))) (set_here fronts (length front) new enough)
      (in_force_next front old new some before.1 put)

  -- a front that no row has keeps the slot of all digits but the last
  pub known_same : (front : List ℕ) (slots : List ℕ) (fronts : List (List (Option ℕ))) (slot : ℕ) (old : List (Option ℕ)) → 1 ≤ length front → length front < length slots
      → AreKnown g f rows front (length front - 1) slots fronts → slot_at slots (length front - 1) ≡ slot → slice_get fronts slot ≡ Some old
      → ((n : ℕ) → own_row g f rows n front ≡ None)
      → AreKnown g f rows front (length front) (slice_set slots (length front) slot) fronts
  known_same front slots fronts slot old some room known at is none =
      let known_before = known (length front - 1) (omega arith) in
      let before = rw (at, is) at known_before in
      let few = before.0 in
      known_with front slots fronts fronts slot old some room known (omega arith) (λ j lt. refl) is
      (in_force_next front old old some before.1 (λ n lt. rw (none n) refl))

  slot_is : (slots : List ℕ) (i slot : ℕ) → i < length slots → slot ≡ get_or slots i slot → slot_at slots i ≡ slot
  slot_is slots i slot lt at = rw (at_place slots i slot lt at) refl

  pub added_own : (front : List ℕ) (slots : List ℕ) (fronts : List (List (Option ℕ))) (slot : ℕ) (old new : List (Option ℕ)) → 1 ≤ length front → length front < length slots → length front < length fronts
      → AreKnown g f rows front (length front - 1) slots fronts → slot ≡ get_or slots (length front - 1) slot → old ≡ get_or fronts slot old
      → ((n : ℕ) → n < 64 → row_at rows new n ≡ option_or (own_row g f rows n front) (row_at rows old n))
      → AreKnown g f rows front (length front) (slice_set slots (length front) (length front)) (slice_set fronts (length front) new)
  added_own front slots fronts slot old new some room enough known at is put =
      let here = slot_is slots (length front - 1) slot (omega arith) at in
      let before = known (length front - 1) (omega arith) in
      let few : slot ≤ length front - 1 = rw here at before.0 in
      known_own front slots fronts slot old new some room enough known here (at_place fronts slot old (omega arith) is) put

  pub slot_few : (front : List ℕ) (slots : List ℕ) (fronts : List (List (Option ℕ))) (slot : ℕ) → 1 ≤ length front → length front < length slots
      → AreKnown g f rows front (length front - 1) slots fronts → slot ≡ get_or slots (length front - 1) slot → slot < length front
  slot_few front slots fronts slot some room known at =
      let here = slot_is slots (length front - 1) slot (omega arith) at in
      let before = known (length front - 1) (omega arith) in
      let few : slot ≤ length front - 1 = rw here at before.0 in
      omega arith

  pub added_none : (front : List ℕ) (slots : List ℕ) (fronts : List (List (Option ℕ))) (slot : ℕ) → 1 ≤ length front → length front < length slots → length front < length fronts
      → AreKnown g f rows front (length front - 1) slots fronts → slot ≡ get_or slots (length front - 1) slot
      → ((n : ℕ) → own_row g f rows n front ≡ None)
      → AreKnown g f rows front (length front) (slice_set slots (length front) slot) fronts
  added_none front slots fronts slot some room enough known at none =
      let here = slot_is slots (length front - 1) slot (omega arith) at in
      let before = known (length front - 1) (omega arith) in
      let few : slot ≤ length front - 1 = rw here at before.0 in
      let old = there fronts slot (omega arith) in
      known_same front slots fronts slot old.0 some room known here old.1 none

  -- no row begins no digits
  pub known_none : (slots : List ℕ) (fronts : List (List (Option ℕ))) → slot_at slots 0 ≡ 0 → ((n : ℕ) → n < 64 → row_at rows (unwrap_or (slice_get fronts 0) []) n ≡ None)
      → ((place : ℕ) (r : R) → place < length rows → slice_get rows place ≡ Some r → 1 ≤ length (f r)) → AreKnown g f rows [] 0 slots fronts
  known_none slots fronts zeroth none some k le =
      let first : k ≡ 0 = omega arith in
      rw (first, zeroth) (omega arith, λ n lt. none n lt ∙ sym (no_row rows some n))
    where
      no_row : (rs : List R) → ((place : ℕ) (r : R) → place < length rs → slice_get rs place ≡ Some r → 1 ≤ length (f r)) → (n : ℕ) → in_force g f rs n [] ≡ None
      no_row [] some n = refl
      no_row (r ∷ rs) some n = elim (cases_Bool (g r == n)) [
        | inr other ↦ rw other (no_row rs (λ place s lt is. some (suc place) s (omega arith) is) n)
        | inl mine ↦ rw (mine, not_empty (f r) (some 0 r (omega arith) refl)) (no_row rs (λ place s lt is. some (suc place) s (omega arith) is) n)
      ]
        where
          not_empty : (p : List ℕ) → 1 ≤ length p → begins p [] ≡ false
          not_empty [] le = absurd (omega arith)
          not_empty (x ∷ p) le = refl

pub none_in : (k n : ℕ) → unwrap_or (slice_get (replicate k nowhere) n) nowhere ≡ nowhere
none_in zero n = refl
none_in (suc k) zero = refl
none_in (suc k) (suc n) = none_in k n

pub row_none : {R : Type 0} (rows : List R) (k n : ℕ) → row_at rows (replicate k nowhere) n ≡ None
row_none rows k n = ap (option_and_then (slice_get rows)) (none_in k n)

-- before the first class no row is in force
pub start_known : {R : Type 0} (g : R → ℕ) (f : R → List ℕ) (rows : List R) (class : List ℕ) (slots : List ℕ) (fronts : List (List (Option ℕ))) → class ≡ [] → slots ≡ replicate 13 0 → fronts ≡ replicate 13 (replicate 64 nowhere)
    → ((place : ℕ) (r : R) → place < length rows → slice_get rows place ≡ Some r → 1 ≤ length (f r)) → AreKnown g f rows class (length class) slots fronts
start_known g f rows class slots fronts none zeros all some =
    rw (none, zeros, all) (known_none g f rows (replicate 13 0) (replicate 13 (replicate 64 nowhere)) refl (λ n lt. row_none rows 64 n) some)
