-- A walk keeps the longest pair so far.
use Rattle.std.proofs.Common.{◌≡◌, ℕ, zero, suc, ◌+◌, ◌<◌, ◌≤◌, true, ◌==◌, List, [], ◌∷◌, ◌++◌, length, take, drop, get_or, Option, Some, None, refl, sym, ap, ◌∙◌, inl, inr, arith}
use Rattle.std.specs.Prelude.{option_and_then, slice_get, is_some}
use Rattle.std.specs.List.{find, position_from}
use Rattle.std.specs.Option.{option_or}
use Rattle.std.proofs.lemmas.Bool.{cases_Bool, eqb-true}
use Rattle.std.proofs.lemmas.List.{take_more}
use Rattle.std.proofs.Math.Nat.{sub-zero}
use Rattle.card_digits.specs.Longest.{longest}
use Rattle.prefix_trie.specs.declared.branch.Branch.{Branch}
use Rattle.prefix_trie.specs.Walk.{behind, row_at, reach, place_of}
use Rattle.prefix_trie.specs.Pairs.{prefix_of, is_of, pair_of, in_order}
use Rattle.prefix_trie.specs.Index.{IsIndexed}
use Rattle.prefix_trie.proofs.Reaching.{reach_on, reach_stops}
use Rattle.prefix_trie.proofs.Longest.{take_all, take_less, longest_without, longest_of_front, longest_of_none, whole_of}
use Rattle.prefix_trie.proofs.Rows.{found_at, found_some, found_nowhere}

front_and_rest : (n : ℕ) (xs : List ℕ) → take n xs ++ drop n xs ≡ xs
front_and_rest zero xs = refl
front_and_rest (suc n) [] = refl
front_and_rest (suc n) (x ∷ xs) = ap (λ t. x ∷ t) (front_and_rest n xs)

step_some : (next : ℕ → ℕ → ℕ) (at d k : ℕ) → next at d ≡ k → (k ≡ 0 → ⊥) → reach next at (d ∷ []) ≡ Some k
step_some next at d k h some = elim (cases_Bool (k == 0)) [
  | inl is ↦ absurd (some (eqb-true k 0 is))
  | inr no' ↦ rw (h, no') refl
]

step_none : (next : ℕ → ℕ → ℕ) (at d : ℕ) → next at d ≡ 0 → reach next at (d ∷ []) ≡ None
step_none next at d h = rw h refl

module _ {T : Type 0} where
  pub record IsWalked (rows : List (List ℕ × T)) (bs : List Branch) (digits : List ℕ) (k at : ℕ) (found : Option ℕ) (looked : ℕ) : Type 0 where
    pub to : reach (behind bs) 0 (take k digits) ≡ Some at
    pub longest : option_and_then (slice_get rows) found ≡ longest prefix_of (in_order rows) (take k digits)
    pub count : looked ≡ k + 1

  pub walked_none : (rows : List (List ℕ × T)) (bs : List Branch) (digits : List ℕ) → IsIndexed rows bs → IsWalked rows bs digits 0 0 None 1
  walked_none rows bs digits h = record { to = refl; longest = sym (longest_of_none (in_order rows) h.forms); count = omega arith }

  module _ (rows : List (List ℕ × T)) (bs : List Branch) (digits : List ℕ) (k at : ℕ) (found : Option ℕ) (looked : ℕ) (h : IsIndexed rows bs) (w : IsWalked rows bs digits k at found looked) (lt : k < length digits) where
    d : ℕ
    d = get_or digits k 0

    found_on : (c : List ℕ) (o : Option ℕ) → c ≡ take (k + 1) digits → place_of bs c ≡ o → option_and_then (slice_get rows) (option_or o found) ≡ longest prefix_of (in_order rows) c
    found_on c None e place =
        let none : pair_of c (in_order rows) ≡ None = h.same c ∙ found_nowhere (is_of c) 0 rows (sym (h.first c) ∙ place) in
        w.longest ∙ sym (ap (longest prefix_of (in_order rows)) e ∙ longest_without (in_order rows) digits k lt (rw e at none))
    found_on c (Some m) e place =
        let where' : position_from (is_of c) 0 rows ≡ Some m = sym (h.first c) ∙ place in
        let got : slice_get rows m ≡ find (is_of c) rows = rw (sub-zero m) at ((found_at (is_of c) 0 rows m where').1) in
        let some : is_some (find (is_of c) rows) ≡ true = found_some (is_of c) 0 rows m where' in
        got ∙ sym (whole_of (in_order rows) c (find (is_of c) rows) (h.same c) some)

    pub walked_on : (n : ℕ) → behind bs at (get_or digits k 0) ≡ n → (n ≡ 0 → ⊥) → IsWalked rows bs digits (k + 1) n (option_or (row_at bs n) found) (looked + 1)
    walked_on n next some =
        let to : reach (behind bs) 0 (take (k + 1) digits) ≡ Some n = rw (take_more digits k 0 lt) (reach_on (behind bs) 0 at (take k digits) (get_or digits k 0 ∷ []) w.to ∙ step_some (behind bs) at (get_or digits k 0) n next some) in
        let count = w.count in
        record {
          to = to;
          longest = found_on (take (k + 1) digits) (row_at bs n) refl (ap (option_and_then (row_at bs)) to);
          count = omega arith;
        }

    no_front : behind bs at (get_or digits k 0) ≡ 0 → (m : ℕ) → k < m → m ≤ length digits → pair_of (take m digits) (in_order rows) ≡ None
    no_front next m less most =
        let stop : reach (behind bs) 0 (take (k + 1) digits) ≡ None = rw (take_more digits k 0 lt) (reach_on (behind bs) 0 at (take k digits) (get_or digits k 0 ∷ []) w.to ∙ step_none (behind bs) at (get_or digits k 0) next) in
        let e : take (k + 1) digits ++ drop (k + 1) (take m digits) ≡ take m digits = ap (λ t. t ++ drop (k + 1) (take m digits)) (sym (take_less digits (k + 1) m (omega arith))) ∙ front_and_rest (k + 1) (take m digits) in
        let far : reach (behind bs) 0 (take m digits) ≡ None = ap (reach (behind bs) 0) (sym e) ∙ reach_stops (behind bs) 0 (take (k + 1) digits) (drop (k + 1) (take m digits)) stop in
        let place : place_of bs (take m digits) ≡ None = ap (option_and_then (row_at bs)) far in
        h.same (take m digits) ∙ found_nowhere (is_of (take m digits)) 0 rows (sym (h.first (take m digits)) ∙ place)

    pub walked_out : behind bs at (get_or digits k 0) ≡ 0 → option_and_then (slice_get rows) found ≡ longest prefix_of (in_order rows) digits
    walked_out next = w.longest ∙ sym (longest_of_front (in_order rows) digits k (omega arith) (no_front next))

  pub walked_all : (rows : List (List ℕ × T)) (bs : List Branch) (digits : List ℕ) (k at : ℕ) (found : Option ℕ) (looked : ℕ) → IsWalked rows bs digits k at found looked → length digits ≤ k
      → option_and_then (slice_get rows) found ≡ longest prefix_of (in_order rows) digits
  walked_all rows bs digits k at found looked w le = w.longest ∙ ap (longest prefix_of (in_order rows)) (take_all digits k le)
