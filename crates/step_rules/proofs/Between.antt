-- The links between two nodes, found one number after another.
use Rattle.std.proofs.Common.{◌≡◌, ℕ, zero, suc, ◌+◌, ◌<◌, ◌≤◌, ◌==◌, not, Bool, true, false, List, [], ◌∷◌, ◌++◌, length, filter, Some, None, refl, sym, ap, ◌∙◌, inl, inr, arith, add-one}
use Rattle.std.specs.List.{find}
use Rattle.std.proofs.lemmas.Bool.{cases_lt, ne_eqb}
use Rattle.std.proofs.lemmas.List.{append_assoc, append-nil}
use Rattle.std.proofs.lemmas.List.Elements.{filter-append}
use Rattle.std.proofs.lemmas.List.Folds.{find-append}
use Rattle.net_rows.specs.Network.{Network}
use Rattle.network_law.specs.Tables.{numbers_below, joins, links_between}

-- those among the first numbers that pass
abbrev pub passing : (ℕ → Bool) → ℕ → List ℕ
passing p k = filter p (numbers_below k)

find_behind : (u : ℕ → Bool) (xs ys : List ℕ) → find u xs ≡ None → find u (xs ++ ys) ≡ find u ys
find_behind u xs ys e = find-append u xs ys ∙ rw e refl

-- more numbers are numbers behind
front : (k n : ℕ) → k ≤ n → (rest : List ℕ) × (numbers_below n ≡ numbers_below k ++ rest)
front k zero le = let none : k ≡ 0 = omega arith in ([], rw none refl)
front k (suc n) le = elim (cases_lt n k) [
  | inl lt ↦ let same : k ≡ suc n = omega arith in ([], rw same (sym (append-nil _)))
  | inr few ↦ let before = front k n few in (before.0 ++ n ∷ [], ap (λ ns. ns ++ n ∷ []) before.1 ∙ append_assoc (numbers_below k) before.0 (n ∷ []))
]

module _ (p : ℕ → Bool) where
  pub passing_on : (k : ℕ) → p k ≡ true → passing p (k + 1) ≡ passing p k ++ k ∷ []
  passing_on k is = rw add-one (filter-append p (numbers_below k) (k ∷ []) ∙ ap (λ ns. passing p k ++ ns) (rw is refl))

  pub passing_by : (k : ℕ) → p k ≡ false → passing p (k + 1) ≡ passing p k
  passing_by k not' = rw add-one (filter-append p (numbers_below k) (k ∷ []) ∙ ap (λ ns. passing p k ++ ns) (rw not' refl) ∙ (append-nil _))

  -- one that passes, and what stands behind it
  pub passing_at : (k n : ℕ) → k < n → p k ≡ true → (rest : List ℕ) × (passing p n ≡ passing p k ++ k ∷ rest)
  passing_at k n lt is =
      let behind = front (k + 1) n (omega arith) in
      let here = ap (filter p) behind.1 ∙ filter-append p (numbers_below (k + 1)) behind.0 ∙ ap (λ ns. ns ++ filter p behind.0) (passing_on k is) in
      (filter p behind.0, here ∙ append_assoc (passing p k) (k ∷ []) (filter p behind.0))

  -- the first that passes and is up
  pub found_up : (u : ℕ → Bool) (k n : ℕ) → k < n → find u (passing p k) ≡ None → p k ≡ true → u k ≡ true → Some k ≡ find u (passing p n)
  found_up u k n lt none is up = let at = passing_at k n lt is in sym (ap (find u) at.1 ∙ find_behind u (passing p k) (k ∷ at.0) none ∙ rw up refl)

  pub not_up : (u : ℕ → Bool) (k : ℕ) → find u (passing p k) ≡ None → p k ≡ true → u k ≡ false → find u (passing p (k + 1)) ≡ None
  not_up u k none is down = ap (find u) (passing_on k is) ∙ find_behind u (passing p k) (k ∷ []) none ∙ rw down refl

  pub found_one : (k n : ℕ) → k < n → p k ≡ true → passing p k ≡ [] → true ≡ not (length (passing p n) == 0)
  found_one k n lt is none = let at = passing_at k n lt is in some (passing p n) k at.0 (at.1 ∙ ap (λ ns. ns ++ k ∷ at.0) none)
    where
      some : (xs : List ℕ) (x : ℕ) (rest : List ℕ) → xs ≡ x ∷ rest → true ≡ not (length xs == 0)
      some [] x rest e = absurd cc
      some (y ∷ ys) x rest e = rw (ne_eqb (suc (length ys)) 0 (omega arith)) refl

pub between_is : (t : Network) (n m : ℕ) → links_between t n m ≡ passing (joins t n m) (length t.links)
unfolding links_between
between_is t n m = refl
