-- One place more than a load.
use Rattle.std.proofs.Common.{◌≡◌, ℕ, ◌+◌, ◌<◌, ◌≤◌, Bool, true, false, nat_lt, nat_le, refl, inl, inr, arith, ◌∙◌, Result, IfOk}
use Rattle.std.specs.Prelude.{◌&&◌}
use Rattle.std.proofs.lemmas.Result.{IfOk-weaker}
use Rattle.std.proofs.lemmas.Bool.{cases_lt, lt-ltb, le-ltb, le-leb, lt-leb}

pub one_more : (a x : ℕ) → nat_le a x ≡ nat_lt a (x + 1)
one_more a x = elim (cases_lt x a) [
  | inl lt ↦ rw (lt-leb a x lt, le-ltb a (x + 1) (omega arith)) refl
  | inr le ↦ rw (le-leb a x le, lt-ltb a (x + 1) (omega arith)) refl
]

pub has_room : (a x : ℕ) → x < a → nat_lt a (x + 1) ≡ false
has_room a x less = le-ltb a (x + 1) (omega (arith, less))

pub has_none : (a x : ℕ) → a ≤ x → nat_lt a (x + 1) ≡ true
has_none a x more = lt-ltb a (x + 1) (omega (arith, more))

pub and_false : (b : Bool) → false ≡ (b && false)
and_false true = refl
and_false false = refl

pub and_true : (b : Bool) → b ≡ (b && true)
and_true true = refl
and_true false = refl

-- what is one thing is an equal thing
pub if_ok_is : {X E : Type 0} (r : Result X E) (x y : X) → x ≡ y → IfOk r (λ z. z ≡ x) → IfOk r (λ z. z ≡ y)
if_ok_is r x y e = IfOk-weaker r _ _ (λ z p. p ∙ e)
