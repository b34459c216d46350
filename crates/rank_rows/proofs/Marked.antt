-- Marks of the names in a run.
use Rattle.std.proofs.Common.{◌≡◌, ℕ, ◌+◌, ◌==◌, ◌++◌, ◌≤◌, ◌<◌, Bool, true, false, List, [], ◌∷◌, refl, sym, ap, ◌∙◌, inl, inr, length, take, drop, get_or, set}
use Rattle.std.specs.Cmp.Lexicographic.{pointwise}
use Rattle.std.proofs.lemmas.Bool.{cases_Bool}
use Rattle.std.proofs.lemmas.Bool.Decides.{eqb_tells}
use Rattle.std.proofs.lemmas.List.{drop-append-le, take_more, get_or-set_same, get_or-set_other}
use Rattle.std.proofs.Math.Seq.{drop-append_seam}
use Rattle.rank_rows.specs.declared.rank.Rank.{Rank}
use Rattle.rank_rows.specs.Runs.{has_name}
use Rattle.rank_rows.specs.Marks.{place_of, is_marked, Keeps, AreMarked}
use Rattle.rank_rows.proofs.Growing.{digits_are}

not_both : (b : Bool) → b ≡ true → b ≡ false → ⊥
not_both true is not = absurd cc
not_both false is not = absurd cc

-- a name without a mark is none of the run's
pub unmarked_none : (marks : List Bool) (rows : List Rank) (name : List ℕ) → AreMarked marks rows → is_marked marks (place_of name) ≡ false → has_name rows name ≡ false
unmarked_none marks [] name marked is = refl
unmarked_none marks (r ∷ rows) name marked is = elim (cases_Bool (pointwise ◌==◌ r.node name)) [
  | inl same ↦ absurd (not_both (is_marked marks (place_of name)) (rw (digits_are r.node name same) at marked.0) is)
  | inr other ↦ rw other (unmarked_none marks rows name marked.1 is)
]

-- one mark more keeps the others
pub stays : (marks : List Bool) (place : ℕ) → place < length marks → Keeps marks (set marks place true)
stays marks place within other is = elim (eqb_tells other place) [
  | inl same ↦ rw same.1 (get_or-set_same marks place true false within)
  | inr differs ↦ get_or-set_other marks place other true false differs.1 ∙ is
]

-- a row more
pub marked-push : (old new : List Bool) (rows : List Rank) (r : Rank) → Keeps old new → is_marked new (place_of r.node) ≡ true → AreMarked old rows → AreMarked new (rows ++ r ∷ [])
marked-push old new [] r keeps is marked = (is, tt)
marked-push old new (s ∷ rows) r keeps is marked = (keeps (place_of s.node) marked.0, marked-push old new rows r keeps is marked.1)

-- a row more in a run
pub push_marked : (old new : List Bool) (rows : List Rank) (begin : ℕ) (r : Rank) → Keeps old new → is_marked new (place_of r.node) ≡ true → begin ≤ length rows → AreMarked old (drop begin rows)
    → AreMarked new (drop begin (rows ++ r ∷ []))
push_marked old new rows begin r keeps is within marked = rw (drop-append-le begin rows (r ∷ []) within) (marked-push old new (drop begin rows) r keeps is marked)

-- a row that begins a run
pub push_first : (marks : List Bool) (rows : List Rank) (r : Rank) → is_marked marks (place_of r.node) ≡ true → AreMarked marks (drop (length rows) (rows ++ r ∷ []))
push_first marks rows r is = rw (drop-append_seam rows (r ∷ [])) (is, tt)

-- the marks of the first rows, and one more
pub mark_more : (old new : List Bool) (rows : List Rank) (i : ℕ) (r : Rank) → i < length rows → r ≡ get_or rows i r → Keeps old new → is_marked new (place_of r.node) ≡ true → AreMarked old (take i rows) → AreMarked new (take (i + 1) rows)
mark_more old new rows i r within at keeps is marked =
    let next : take (i + 1) rows ≡ take i rows ++ r ∷ [] = take_more rows i r within ∙ ap (λ (s : Rank). take i rows ++ s ∷ []) (sym at) in
    rw next (marked-push old new (take i rows) r keeps is marked)
