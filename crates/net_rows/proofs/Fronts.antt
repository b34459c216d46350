-- The row of the longest front that is found is the longest row.
use Rattle.std.proofs.Common.{◌≡◌, ℕ, ◌+◌, zero, suc, ◌<◌, ◌≤◌, Bool, true, false, ◌==◌, ◌⊎◌, List, [], ◌∷◌, length, get_or, take, length-take, Bor, Option, Some, None, IfSome, MatchOption, refl, sym, ap, ◌∙◌, inl, inr, arith}
use Rattle.std.specs.Prelude.{slice_get}
use Rattle.std.specs.List.{filter, find, AllByRecursion}
use Rattle.std.specs.Option.{option_eq, option_copied}
use Rattle.std.specs.Cmp.Lexicographic.{pointwise, same_text}
use Rattle.std.proofs.lemmas.Bool.{cases_Bool, and_parts, false≢true, cases_lt, lt-ltb, le-ltb}
use Rattle.std.proofs.lemmas.Option.{same_Some, slice_get_past}
use Rattle.card_digits.specs.Digits.{AreDigitsWithin}
use Rattle.card_digits.specs.Longest.{begins, better, longest}
use Rattle.card_digits.proofs.Fronts.{begins-starts_with}
use Rattle.card_digits.proofs.Classes.{NoneLonger, longest_at_class}
use Rattle.prefix_trie.proofs.Longest.{begins-length, begins-take}
use Rattle.net_rows.specs.declared.prefixed.RowKey.{RowKey}
use Rattle.net_rows.specs.Index.{is_of}

abbrev pub key : Option ℕ → List ℕ → RowKey
key n p = record { node = n; prefix = p }

find_passes : {R : Type 0} (t : R → Bool) (rows : List R) (s : R) → find t rows ≡ Some s → t s ≡ true
find_passes t [] s h = absurd cc
find_passes t (r ∷ rows) s h = elim (cases_Bool (t r)) [
  | inl is ↦ let same : r ≡ s = same_Some r s (rw is at h) in rw (← same) is
  | inr no' ↦ find_passes t rows s (rw no' at h)
]

pub at_place : {R : Type 0} (xs : List R) (i : ℕ) (x : R) → i < length xs → x ≡ get_or xs i x → Some x ≡ slice_get xs i
at_place [] i x lt at = absurd (omega arith)
at_place (y ∷ xs) zero x lt at = ap Some at
at_place (y ∷ xs) (suc i) x lt at = at_place xs i x (omega arith) at

-- what a place of a slice has
pub got : {R : Type 0} (xs : List R) (i : ℕ) (o : Option (Bor R)) (H : Bor R → Type 0) → MatchOption o (length xs ≤ i) (λ x. (i < length xs) × H x) → IfSome o (λ x. x.now ≡ get_or xs i x.now) → option_copied o ≡ slice_get xs i
got xs i None H within at = sym (slice_get_past xs i within)
got xs i (Some x) H within at = at_place xs i x.now within.0 at

pub all_kept : {R : Type 0} (rows : List R) → filter (λ r. true) rows ≡ rows
all_kept [] = refl
all_kept (r ∷ rows) = ap (λ rs. r ∷ rs) (all_kept rows)

module _ {R : Type 0} (g : R → Option ℕ) (f : R → List ℕ) where
  module _ (n : Option ℕ) (c : List ℕ) where
    abbrev pub of : R → Bool
    of r = option_eq ◌==◌ (g r) n

    -- no row of the node that begins the digits has more than k digits
    abbrev pub NoneBeyond : ℕ → List R → Type 0
    NoneBeyond k rows = AllByRecursion (λ r. of r ≡ true → begins (f r) c ≡ true → length (f r) ≤ k) rows

    pub beyond_all : (rows : List R) → NoneBeyond (length c) rows
    beyond_all [] = tt
    beyond_all (r ∷ rows) = (λ _ b. begins-length (f r) c b, beyond_all rows)

    -- a row with that many digits that begins is the front itself
    front_of : (k : ℕ) (r : R) → of r ≡ true → begins (f r) c ≡ true → length (f r) ≡ k → is_of g f (key n (take k c)) r ≡ true
    front_of k r mine does long = rw (mine, ← long) (begins-starts_with (f r) c ∙ does)

    pub beyond_less : (k : ℕ) (rows : List R) → find (is_of g f (key n (take (k + 1) c))) rows ≡ None → NoneBeyond (k + 1) rows → NoneBeyond k rows
    beyond_less k [] none h = tt
    beyond_less k (r ∷ rows) none h = elim (cases_Bool (is_of g f (key n (take (k + 1) c)) r)) [
      | inl is ↦ let bad : Some r ≡ None = rw is at none in absurd cc
      | inr no' ↦ (λ mine does. less mine does no' (cases_lt k (length (f r))), beyond_less k rows (rw no' at none) h.1)
    ]
      where
        less : of r ≡ true → begins (f r) c ≡ true → is_of g f (key n (take (k + 1) c)) r ≡ false → (k < length (f r)) ⊎ (length (f r) ≤ k) → length (f r) ≤ k
        less mine does no' (inr le) = le
        less mine does no' (inl lt) =
            let most = h.0 mine does in
            let long : length (f r) ≡ k + 1 = omega arith in
            absurd (false≢true (sym no' ∙ front_of (k + 1) r mine does long))

    bounded_one : (k : ℕ) (r t : R) (o : Option R) → ((s : R) → o ≡ Some s → length (f s) ≤ k) → better f r o ≡ Some t → length (f r) ≤ k → length (f t) ≤ k
    bounded_one k r t None others e le = let same : r ≡ t = same_Some r t e in rw (← same) le
    bounded_one k r t (Some s) others e le = elim (cases_lt (length (f r)) (length (f s))) [
      | inl lt ↦ let same : s ≡ t = same_Some s t (rw (lt-ltb (length (f r)) (length (f s)) lt) at e) in rw (← same) (others s refl)
      | inr ge ↦ let same : r ≡ t = same_Some r t (rw (le-ltb (length (f r)) (length (f s)) ge) at e) in rw (← same) le
    ]

    -- the longest row is no longer
    bounded : (k : ℕ) (rows : List R) (t : R) → NoneBeyond k rows → longest f (filter of rows) c ≡ Some t → length (f t) ≤ k
    bounded k [] t h e = absurd cc
    bounded k (r ∷ rows) t h e = elim (cases_Bool (of r)) [
      | inr no' ↦ bounded k rows t h.1 (rw no' at e)
      | inl mine ↦ elim (cases_Bool (begins (f r) c)) [
        | inr no' ↦ bounded k rows t h.1 (rw (mine, no') at e)
        | inl does ↦ bounded_one k r t (longest f (filter of rows) c) (λ s is. bounded k rows s h.1 is) (rw (mine, does) at e) (h.0 mine does)
      ]
    ]

    at_most : (k : ℕ) (r : R) (o : Option R) → ((t : R) → o ≡ Some t → length (f t) ≤ k) → length (f r) ≡ k → better f r o ≡ Some r
    at_most k r None h long = refl
    at_most k r (Some t) h long = let few = h t refl in rw (le-ltb (length (f r)) (length (f t)) (omega arith)) refl

    -- the row found at a front, where none is longer, is the longest
    pub found_is_longest : (k : ℕ) (rows : List R) (s : R) → k ≤ length c → find (is_of g f (key n (take k c))) rows ≡ Some s → NoneBeyond k rows
        → longest f (filter of rows) c ≡ Some s
    found_is_longest k [] s le found h = absurd cc
    found_is_longest k (r ∷ rows) s le found h = elim (cases_Bool (is_of g f (key n (take k c)) r)) [
      | inl is ↦
          let same : r ≡ s = same_Some r s (rw is at found) in
          let (mine, text) = and_parts (of r) (pointwise ◌==◌ (f r) (take k c)) is in
          let front : f r ≡ take k c = same_text (f r) (take k c) (sym text) in
          let long : length (f r) ≡ k = rw (front, length-take) (omega arith) in
          let does : begins (f r) c ≡ true = rw front (begins-take k c) in
          rw (← same, mine, does) (at_most k r (longest f (filter of rows) c) (λ t e. bounded k rows t h.1 e) long)
      | inr no' ↦
          let rest : find (is_of g f (key n (take k c))) rows ≡ Some s = rw no' at found in
          let later = found_is_longest k rows s le rest h.1 in
          elim (cases_Bool (of r)) [
            | inr other ↦ rw other later
            | inl mine ↦ elim (cases_Bool (begins (f r) c)) [
              | inr not ↦ rw (mine, not) later
              | inl does ↦
                  let text = (and_parts (of s) (pointwise ◌==◌ (f s) (take k c)) (find_passes (is_of g f (key n (take k c))) rows s rest)).1 in
                  let long : length (f s) ≡ k = rw (same_text (f s) (take k c) (sym text), length-take) (omega arith) in
                  rw (mine, does, later) (shorter (h.0 mine does) long (front_of k r mine does) no')
            ]
          ]
    ]
      where
        shorter : length (f r) ≤ k → length (f s) ≡ k → (length (f r) ≡ k → is_of g f (key n (take k c)) r ≡ true) → is_of g f (key n (take k c)) r ≡ false → better f r (Some s) ≡ Some s
        shorter few long whole no' = elim (cases_lt (length (f r)) (length (f s))) [
          | inl lt ↦ rw (lt-ltb (length (f r)) (length (f s)) lt) refl
          | inr ge ↦ let full : length (f r) ≡ k = omega arith in absurd (false≢true (sym no' ∙ whole full))
        ]

    -- where none has a digit, there is no row
    pub none_is_longest : (rows : List R) → AllByRecursion (λ r. AreDigitsWithin 1 12 (f r)) rows → NoneBeyond 0 rows → longest f (filter of rows) c ≡ None
    none_is_longest [] form h = refl
    none_is_longest (r ∷ rows) form h = elim (cases_Bool (of r)) [
      | inr other ↦ rw other (none_is_longest rows form.1 h.1)
      | inl mine ↦ elim (cases_Bool (begins (f r) c)) [
        | inr not ↦ rw (mine, not) (none_is_longest rows form.1 h.1)
        | inl does ↦ let few = h.0 mine does in let some = form.0.not_short in absurd (omega arith)
      ]
    ]

    none_longer : (rows : List R) → AllByRecursion (λ r. AreDigitsWithin 1 12 (f r)) rows → NoneLonger f c (take 12 c) (filter of rows)
    none_longer [] form = tt
    none_longer (r ∷ rows) form = elim (cases_Bool (of r)) [
      | inr other ↦ rw other (none_longer rows form.1)
      | inl mine ↦ rw mine (λ does. let le = begins-length (f r) c does in let few = form.0.not_long in rw length-take (omega arith), none_longer rows form.1)
    ]

    -- a card meets the rows of its first twelve digits
    pub longest_of_front : (rows : List R) → AllByRecursion (λ r. AreDigitsWithin 1 12 (f r)) rows → longest f (filter of rows) (take 12 c) ≡ longest f (filter of rows) c
    longest_of_front rows form = sym (longest_at_class f (filter of rows) c (take 12 c) (begins-take 12 c) (none_longer rows form))
