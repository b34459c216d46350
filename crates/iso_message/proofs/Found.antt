-- Elements that are found, and that their values are good.
use Rattle.std.proofs.Common.{◌≡◌, ℕ, ◌≤◌, true, false, List, [], ◌∷◌, length, Option, Some, None, is_some, refl, ap, subst, inl, inr}
use Rattle.std.specs.Prelude.{unwrap_or}
use Rattle.std.proofs.lemmas.Bool.{eq-eqb, cases_eq, ne_eqb}
use Rattle.message_elements.specs.Table.{table, form_of}
use Rattle.iso_message.specs.Finding.{find_element}
use Rattle.iso_message.specs.Fields.{Fields, get, has, el}
use Rattle.iso_message.specs.Spelling.{IsGood, AreGood, IsMessage}

pub has_some : (m : Fields) (n : ℕ) (v : List ℕ) → get m n ≡ Some v → has m n ≡ true
unfolding has
has_some m n v e = ap is_some e

pub has_none : (m : Fields) (n : ℕ) → get m n ≡ None → has m n ≡ false
unfolding has
has_none m n e = ap is_some e

pub el_some : (m : Fields) (n : ℕ) (v : List ℕ) → get m n ≡ Some v → el m n ≡ v
unfolding el
el_some m n v e = ap (λ o. unwrap_or o []) e

-- an element that is there
pub here : (m : Fields) (n : ℕ) → has m n ≡ true → get m n ≡ Some (el m n)
unfolding has el
here m n h = go (get m n) h
  where
    go : (o : Option (List ℕ)) → is_some o ≡ true → o ≡ Some (unwrap_or o [])
    go None h = absurd cc
    go (Some v) h = refl

good_in : (n : ℕ) (v : List ℕ) (es : List (ℕ × List ℕ)) → AreGood es → find_element n es ≡ Some v → IsGood (form_of n) v
unfolding find_element
good_in n v [] g e = absurd cc
good_in n v (x ∷ xs) g e =
    elim (cases_eq x.0 n) [
      | inl same ↦
          let found : Some x.1 ≡ Some v = rw (eq-eqb _ _ same) at e in
          let value : x.1 ≡ v = cc in
          subst (λ (w : List ℕ). IsGood (form_of n) w) value (subst (λ (k : ℕ). IsGood (form_of k) x.1) same g.0)
      | inr other ↦ good_in n v xs g.1 (rw (ne_eqb _ _ other) at e)
    ]

pub good_found : (m : Fields) (n : ℕ) (v : List ℕ) → IsMessage m → get m n ≡ Some v → IsGood (form_of n) v
unfolding get
good_found m n v g e = good_in n v m.elements g.values e

pub id_length : (m : Fields) (g : IsMessage m) (v : List ℕ) → get m 32 ≡ Some v → length v ≤ 11
unfolding form_of table
id_length m g v e = (good_found m 32 v g e).0
