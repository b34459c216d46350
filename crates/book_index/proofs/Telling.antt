-- What an index tells after a change.
use Rattle.std.proofs.Common.{◌≡◌, ℕ, Bool, true, false, ◌||◌, refl, sym, ◌∙◌, eqb, eq-eqb, eqb-true}
use Rattle.book_index.specs.declared.index.Place.{Place}
use Rattle.book_index.specs.declared.index.Place.TheVariants as places
use Rattle.book_index.specs.Found.{Tells, joined}

-- the same places pass
pub tells_same : (p : Place) (has new : ℕ → Bool) → ((i : ℕ) → new i ≡ has i) → Tells p has → Tells p new
tells_same places.Nowhere has new same t = λ i. same i ∙ t i
tells_same (places.At i) has new same t = (same i ∙ t.0, λ j h. t.1 j (sym (same j) ∙ h))
tells_same places.Several has new same t = tt

or_right : (a b : Bool) → a ≡ false → (a || b) ≡ b
or_right true b e = absurd (cc)
or_right false b e = refl

or_left : (a b : Bool) → b ≡ true → (a || b) ≡ true
or_left true b e = refl
or_left false b e = e

-- one place more passes
pub tells_joined : (p : Place) (n : ℕ) (has new : ℕ → Bool) → ((i : ℕ) → new i ≡ (has i || eqb i n)) → Tells p has → Tells (joined p n) new
tells_joined places.Nowhere n has new same t = (
  same n ∙ or_left (has n) (eqb n n) (eq-eqb n n refl),
  λ j h. eqb-true j n (sym (or_right (has j) (eqb j n) (t j)) ∙ (sym (same j) ∙ h)),
)
tells_joined (places.At i) n has new same t = tt
tells_joined places.Several n has new same t = tt
