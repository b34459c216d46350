-- The least actual amount of a key's marks.
use Rattle.std.proofs.Common.{◌≡◌, ℕ, List, [], ◌∷◌, ◌++◌, Bool, true, false, ◌||◌, cond, Option, Some, None, refl, sym, ap, ◌∙◌, arith, inl, inr}
use Rattle.std.specs.Prelude.{is_some, min}
use Rattle.std.specs.Map.{lookup}
use Rattle.std.proofs.lemmas.Bool.{cases_Bool}
use Rattle.std.proofs.lemmas.List.Folds.{list_any-append}
use Rattle.card_digits.specs.declared.key.Key.{Key}
use Rattle.message_keys.specs.Keys.{key_eq}
use Rattle.message_keys.proofs.Equality.{key_eq_is}
use Rattle.node_machine.specs.Lists.{Mark, is_marked, left_mark, left_marks}
use Rattle.pending_book.specs.NodeKept.{AreLeast, at_most}

pub no_marks : AreLeast [] []
no_marks = record { marked = λ k. refl; left = λ k amount. refl }

left_more : (k : Key) (marks : List Mark) (j : Mark) (amount : ℕ) → left_marks k (marks ++ j ∷ []) amount ≡ left_mark k j (left_marks k marks amount)
left_more k [] j amount = refl
left_more k (m ∷ ms) j amount = left_more k ms j (left_mark k m amount)

min_min : (o : Option ℕ) (a amount : ℕ) → min (at_most o a) amount ≡ min a (at_most o amount)
min_min None a amount = refl
min_min (Some b) a amount = grind arith

marked_more : (k : Key) (marks : List Mark) (j : Mark) → is_marked k (marks ++ j ∷ []) ≡ (is_marked k marks || (key_eq j.key k || false))
marked_more k marks j = list_any-append (λ m. key_eq m.key k) marks (j ∷ [])

or_true : (b : Bool) → (b || true) ≡ true
or_true true = refl
or_true false = refl

or_false : (b : Bool) → (b || false) ≡ b
or_false true = refl
or_false false = refl

-- a mark more
pub least_more : (marks : List Mark) (j : Mark) (es es' : List (Key × ℕ)) → AreLeast marks es → ((k : Key) → lookup (key_eq k) es' ≡ cond (key_eq j.key k) (Some (at_most (lookup (key_eq j.key) es) j.actual)) (lookup (key_eq k) es)) → AreLeast (marks ++ j ∷ []) es'
least_more marks j es es' a put = record {
  marked = λ k. elim (cases_Bool (key_eq j.key k)) [
    | inl t ↦ ap is_some (put k) ∙ rw (t, marked_more k marks j, t) (sym (or_true (is_marked k marks)))
    | inr f ↦ ap is_some (put k) ∙ rw (f, marked_more k marks j, f) (a.marked k ∙ sym (or_false (is_marked k marks)))
  ];
  left = λ k amount. elim (cases_Bool (key_eq j.key k)) [
    | inl t ↦
        let same = key_eq_is j.key k t in
        ap (λ o. at_most o amount) (put k) ∙ rw (t, left_more k marks j amount, t) (min_min (lookup (key_eq j.key) es) j.actual amount ∙ ap (λ n. min j.actual n) (ap (λ q. at_most (lookup (key_eq q) es) amount) same ∙ a.left k amount))
    | inr f ↦ ap (λ o. at_most o amount) (put k) ∙ rw (f, left_more k marks j amount, f) (a.left k amount)
  ];
}

-- maps that find the same
pub least_same : (marks : List Mark) (es es' : List (Key × ℕ)) → ((k : Key) → lookup (key_eq k) es' ≡ lookup (key_eq k) es) → AreLeast marks es → AreLeast marks es'
least_same marks es es' same a = record {
  marked = λ k. ap is_some (same k) ∙ a.marked k;
  left = λ k amount. ap (λ o. at_most o amount) (same k) ∙ a.left k amount;
}
