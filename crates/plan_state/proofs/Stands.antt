-- Where time and trace number stand in bytes that are looked at one after the other.
use Rattle.std.proofs.Common.{◌≡◌, ℕ, ◌+◌, ◌-◌, ◌<◌, List, ◌∷◌, drop, take, length, true, false, refl, arith, add-one, sym, ap, ◌∙◌}
use Rattle.std.proofs.Math.Seq.{drop-cons}
use Rattle.std.proofs.lemmas.List.{length-drop, take_all}
use Rattle.plan_state.specs.declared.wanted.Wanted.{Wanted}
use Rattle.plan_state.specs.Wanted.{begins, stands_in}

here : (w : Wanted) (bytes : List ℕ) (b : ℕ) (rest : List ℕ) → bytes ≡ b ∷ rest → begins w bytes ≡ true → stands_in w bytes ≡ true
here w bytes b rest is at = rw (is, sym is, at) refl

pub stands_here : (w : Wanted) (bytes : List ℕ) (i : ℕ) → i < length bytes → begins w (drop i bytes) ≡ true → stands_in w (drop i bytes) ≡ true
stands_here w bytes i within at = here w (drop i bytes) _ _ (drop-cons bytes i 0 within) at

later : (w : Wanted) (bytes : List ℕ) (b : ℕ) (rest : List ℕ) → bytes ≡ b ∷ rest → begins w bytes ≡ false → stands_in w bytes ≡ stands_in w rest
later w bytes b rest is at = rw (is, sym is, at) refl

pub stands_later : (w : Wanted) (bytes : List ℕ) (i : ℕ) → i < length bytes → false ≡ begins w (take (length bytes - i) (drop i bytes)) → stands_in w (drop i bytes) ≡ stands_in w (drop (i + 1) bytes)
stands_later w bytes i within at =
    let whole : take (length bytes - i) (drop i bytes) ≡ drop i bytes = take_all (length bytes - i) (drop i bytes) (omega (length-drop i bytes, arith)) in
    later w (drop i bytes) _ _ (drop-cons bytes i 0 within) (sym (at ∙ ap (begins w) whole)) ∙ ap (λ n. stands_in w (drop n bytes)) (sym (add-one i))
