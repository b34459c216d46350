-- The places that are found in some slots, one slot after another.
use Rattle.std.proofs.Common.{◌≡◌, ℕ, ◌+◌, ◌<◌, List, [], ◌∷◌, ◌++◌, length, get_or, take, Option, Some, None, refl, sym, ap, ◌∙◌}
use Rattle.std.specs.Prelude.{filter_map}
use Rattle.std.proofs.lemmas.List.{take_more}
use Rattle.std.proofs.lemmas.List.Elements.{filter_map-append}

module _ (f : ℕ → Option ℕ) where
  pub more_places : (slots : List ℕ) (i slot : ℕ) → i < length slots → slot ≡ get_or slots i slot → filter_map f (take (i + 1) slots) ≡ filter_map f (take i slots) ++ filter_map f (slot ∷ [])
  more_places slots i slot lt is =
      ap (filter_map f) (take_more slots i slot lt)
      ∙ (filter_map-append f (take i slots) (get_or slots i slot ∷ [])
      ∙ ap (λ z. filter_map f (take i slots) ++ filter_map f (z ∷ [])) (sym is))

  pub one_place : (slot place : ℕ) → Some place ≡ f slot → filter_map f (slot ∷ []) ≡ place ∷ []
  one_place slot place is = rw (← is) refl

  pub no_more : (slot : ℕ) → None ≡ f slot → filter_map f (slot ∷ []) ≡ []
  no_more slot none = rw (← none) refl

-- a list before others
pub seam : (xs zs : List ℕ) (n : ℕ) → n ≡ length xs → take n (xs ++ zs) ≡ xs
seam xs zs n e = ap (λ m. take m (xs ++ zs)) e ∙ at_end xs
  where
    at_end : (ys : List ℕ) → take (length ys) (ys ++ zs) ≡ ys
    at_end [] = none zs
      where
        none : (ws : List ℕ) → take 0 ws ≡ []
        none [] = refl
        none (w ∷ ws) = refl
    at_end (y ∷ ys) = ap (λ ws. y ∷ ws) (at_end ys)
