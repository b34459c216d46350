-- Names of items, however they are compared.
use Rattle.std.proofs.Common.{◌≡◌, true, refl, sym, ap, ◌∙◌, inl, inr, eq-eqb}
use Rattle.std.proofs.lemmas.Bool.{cases_Bool, eqb-true}
use Rattle.message_keys.proofs.Equality.{identity_eq_refl, identity_eq_is}
use Rattle.advice_slots.specs.Items.{name_eq}
use Rattle.advice_slots.specs.declared.item.ItemName.{ItemName}
use Rattle.advice_slots.specs.declared.item.ItemName.TheVariants as names

pub name_refl : (n : ItemName) → name_eq n n ≡ true
name_refl (names.Advice a) = identity_eq_refl a
name_refl (names.Grant g) = eq-eqb g g refl

pub name_same : (a b : ItemName) → name_eq a b ≡ true → a ≡ b
name_same (names.Advice a) (names.Advice b) e = ap names.Advice (identity_eq_is a b e)
name_same (names.Grant a) (names.Grant b) e = ap names.Grant (eqb-true a b e)
name_same (names.Advice a) (names.Grant b) e = absurd (cc)
name_same (names.Grant a) (names.Advice b) e = absurd (cc)

pub name_flip : (a b : ItemName) → name_eq a b ≡ name_eq b a
name_flip a b = elim (cases_Bool (name_eq a b)) [
  | inl t ↦ (let e : a ≡ b = name_same a b t in rw e refl)
  | inr f ↦ elim (cases_Bool (name_eq b a)) [
    | inl t ↦ (let e : b ≡ a = name_same b a t in rw e refl)
    | inr g ↦ f ∙ sym g
  ]
]
