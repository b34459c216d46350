-- The longest prefix of rows, one row after the other.
use Rattle.std.proofs.Common.{◌≡◌, ◌∙◌, ℕ, ◌<◌, ◌+◌, cond, List, [], ◌∷◌, ◌++◌, map, take, get_or, length, Option, sym, ap, append_assoc}
use Rattle.std.proofs.lemmas.List.{take_more, map-append}
use Rattle.card_digits.specs.Longest.{begins, kept, longest}
use Rattle.card_digits.proofs.Deepest.{longest-push}

module _ {R : Type 0} (f : R → List ℕ) (before : List (List ℕ)) (rows : List R) (i : ℕ) (x : R) (card : List ℕ) where
  -- a row more
  row_more : i < length rows → x ≡ get_or rows i x
      → longest (λ p. p) (before ++ map f (take (i + 1) rows)) card ≡ cond (begins (f x) card) (kept (λ p. p) (longest (λ p. p) (before ++ map f (take i rows)) card) (f x)) (longest (λ p. p) (before ++ map f (take i rows)) card)
  row_more lt is =
      rw (take_more rows i x, ← is, map-append f (take i rows) (x ∷ []), ← append_assoc before (map f (take i rows)) (f x ∷ [])) (longest-push (λ p. p) (before ++ map f (take i rows)) (f x) card)

  -- the longest so far stays or is the new row's
  pub row_step : (old new : Option (List ℕ)) → i < length rows → x ≡ get_or rows i x → old ≡ longest (λ p. p) (before ++ map f (take i rows)) card
      → new ≡ cond (begins (f x) card) (kept (λ p. p) old (f x)) old → new ≡ longest (λ p. p) (before ++ map f (take (i + 1) rows)) card
  row_step old new lt is so_far now =
      now ∙ ap (λ (o : Option (List ℕ)). cond (begins (f x) card) (kept (λ p. p) o (f x)) o) so_far ∙ sym (row_more lt is)
