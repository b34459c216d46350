-- Texts are the same either way round, and what passes in a list with one item more.
use Rattle.std.proofs.Common.{◌≡◌, ℕ, ◌||◌, Bool, true, false, cond, List, [], ◌∷◌, ◌++◌, bytes_eq, refl, sym, ◌∙◌, inl, inr}
use Rattle.std.proofs.lemmas.Bool.{cases_Bool}
use Rattle.std.specs.Cmp.Lexicographic.{same_text}
use Rattle.std.specs.List.{list_any}

pub text_flip : (a b : List ℕ) → bytes_eq a b ≡ bytes_eq b a
text_flip a b = elim (cases_Bool (bytes_eq a b)) [
  | inl t ↦ (let e : a ≡ b = same_text a b (sym t) in rw e refl)
  | inr f ↦ elim (cases_Bool (bytes_eq b a)) [
    | inl t ↦ (let e : b ≡ a = same_text b a (sym t) in rw e refl)
    | inr g ↦ f ∙ sym g
  ]
]

pub any_push : {X : Type 0} (p : X → Bool) (xs : List X) (x : X) → list_any p (xs ++ x ∷ []) ≡ cond (p x) true (list_any p xs)
any_push p [] x = go (p x)
  where
    go : (b : Bool) → (b || false) ≡ cond b true false
    go true = refl
    go false = refl
any_push p (y ∷ ys) x = rw (any_push p ys x) (go (p y) (p x) (list_any p ys))
  where
    go : (a b c : Bool) → (a || cond b true c) ≡ cond b true (a || c)
    go true true c = refl
    go true false c = refl
    go false b c = refl
