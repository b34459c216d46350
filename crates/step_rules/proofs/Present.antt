-- Elements that a message has.
use Rattle.std.proofs.Common.{◌≡◌, ℕ, List, [], ◌∷◌, true, refl, ap, ◌∙◌, inl, inr}
use Rattle.std.specs.Prelude.{is_some, ⊤}
use Rattle.std.proofs.lemmas.Bool.{eq-eqb, cases_eq, ne_eqb}
use Rattle.iso_message.specs.Fields.{Fields, get, has}
use Rattle.iso_message.specs.Finding.{find_element}
use Rattle.network_law.specs.Refusals.{first_missing}

-- the message has an element of the number of each
abbrev pub AreThere : Fields → List (ℕ × List ℕ) → Type 0
AreThere m [] = ⊤
AreThere m (e ∷ es) = (has m e.0 ≡ true) × AreThere m es

found_first : (e : ℕ × List ℕ) (es : List (ℕ × List ℕ)) → is_some (find_element e.0 (e ∷ es)) ≡ true
unfolding find_element
found_first e es = rw (eq-eqb e.0 e.0 refl) refl

found_later : (n : ℕ) (e : ℕ × List ℕ) (es : List (ℕ × List ℕ)) → is_some (find_element n es) ≡ true → is_some (find_element n (e ∷ es)) ≡ true
unfolding find_element
found_later n e es h = elim (cases_eq e.0 n) [
  | inl same ↦ rw (eq-eqb e.0 n same) refl
  | inr other ↦ rw (ne_eqb e.0 n other) h
]

there_in : (m : Fields) (es : List (ℕ × List ℕ)) → ((n : ℕ) → is_some (find_element n es) ≡ true → has m n ≡ true) → AreThere m es
there_in m [] f = tt
there_in m (e ∷ es) f = (f e.0 (found_first e es), there_in m es (λ n h. f n (found_later n e es h)))

pub all_there : (m : Fields) → AreThere m m.elements
unfolding has get
all_there m = there_in m m.elements (λ n h. h)

-- a number that is there is not the first that lacks
pub passes : (m : Fields) (n : ℕ) (all ns rest : List ℕ) → has m n ≡ true → first_missing m all ≡ first_missing m ns → ns ≡ n ∷ rest → first_missing m all ≡ first_missing m rest
passes m n all ns rest h e is = e ∙ (ap (first_missing m) is ∙ rw h refl)
