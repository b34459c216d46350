-- The place of a name among names of which none stands twice.
use Rattle.std.proofs.Common.{◌≡◌, ℕ, zero, suc, ◌<◌, true, false, ◌==◌, List, [], ◌∷◌, length, get_or, position, Some, refl, sym, ◌∙◌, inl, inr, arith}
use Rattle.std.specs.Cmp.Lexicographic.{pointwise, same_text}
use Rattle.std.specs.List.{IsDistinct, position_or_len}
use Rattle.std.proofs.lemmas.Bool.{cases_Bool, false≢true, lt-ltb}
use Rattle.std.proofs.lemmas.Map.Keys.{IsDistinct-tail, apart_from_distinct}
use Rattle.std.proofs.lemmas.Slice.Eq.{bytes_eq-Decides}

first_place : (names : List (List ℕ)) (name : List ℕ) (i : ℕ) → IsDistinct (pointwise ◌==◌) names → i < length names → get_or names i [] ≡ name → position_or_len (pointwise ◌==◌ name) names ≡ i
first_place [] name i distinct within is = absurd (omega arith)
first_place (n ∷ names) name zero distinct within is =
    let same : pointwise ◌==◌ name n ≡ true = (bytes_eq-Decides name n).1 (sym is) in
    rw same refl
first_place (n ∷ names) name (suc i) distinct within is = elim (cases_Bool (pointwise ◌==◌ name n)) [
  | inl same ↦
      let apart : pointwise ◌==◌ n name ≡ false = rw is at (apart_from_distinct (pointwise ◌==◌) (n ∷ names) 0 (suc i) [] distinct (omega arith) within) in
      let alike : pointwise ◌==◌ n name ≡ true = (bytes_eq-Decides n name).1 (sym (same_text name n (sym same))) in
      absurd (false≢true (sym apart ∙ alike))
  | inr other ↦
      let more = first_place names name i (IsDistinct-tail (pointwise ◌==◌) n names distinct) (omega arith) is in
      rw other (omega arith)
]

pub place_is : (names : List (List ℕ)) (name : List ℕ) (i : ℕ) → IsDistinct (pointwise ◌==◌) names → i < length names → get_or names i [] ≡ name → Some i ≡ position (pointwise ◌==◌ name) names
place_is names name i distinct within is = rw (first_place names name i distinct within is, lt-ltb i (length names) within) refl
