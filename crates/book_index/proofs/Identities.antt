-- Identities are the same either way round, and the derived comparison is the stated one.
use Rattle.std.proofs.Common.{◌≡◌, Bool, List, refl, sym, ◌∙◌, inl, inr}
use Rattle.std.specs.List.{list_any}
use Rattle.std.proofs.lemmas.Bool.{cases_Bool}
use Rattle.message_keys.specs.Keys.{identity_eq}
use Rattle.message_keys.specs.declared.keys.AdviceId.{AdviceId}
use Rattle.message_keys.specs.declared.keys.AdviceKind.{AdviceKind}
use Rattle.message_keys.specs.declared.keys.AdviceKind.TheVariants as kinds
use Rattle.message_keys.specs.contracts.keys.AdviceIdPartialEq.TheImpl as derived
use Rattle.message_keys.proofs.Equality.{identity_eq_is}
use Rattle.book_index.specs.Found.{found}
use Rattle.book_index.specs.declared.index.Place.{Place}

pub id_flip : (a b : AdviceId) → identity_eq a b ≡ identity_eq b a
id_flip a b = elim (cases_Bool (identity_eq a b)) [
  | inl t ↦ (let e : a ≡ b = identity_eq_is a b t in rw e refl)
  | inr f ↦ elim (cases_Bool (identity_eq b a)) [
    | inl t ↦ (let e : b ≡ a = identity_eq_is b a t in rw e refl)
    | inr g ↦ f ∙ sym g
  ]
]

abbrev pub derived_id_eq : AdviceId → AdviceId → Bool
derived_id_eq a b = (derived.ghosts).eq a b

pub derived_id_is : (a b : AdviceId) → derived_id_eq a b ≡ identity_eq a b
derived_id_is a b = by_kind a.kind b.kind
  where
    by_kind : (x y : AdviceKind) → derived_id_eq (record { kind = x; key = a.key; forwarder = a.forwarder }) (record { kind = y; key = b.key; forwarder = b.forwarder }) ≡ identity_eq (record { kind = x; key = a.key; forwarder = a.forwarder }) (record { kind = y; key = b.key; forwarder = b.forwarder })
    by_kind kinds.StandIn kinds.StandIn = refl
    by_kind kinds.StandIn kinds.Reversal = refl
    by_kind kinds.Reversal kinds.StandIn = refl
    by_kind kinds.Reversal kinds.Reversal = refl

pub any_is : (id : AdviceId) (ids : List AdviceId) → list_any (derived_id_eq id) ids ≡ list_any (identity_eq id) ids
any_is id ids = λ i. list_any (λ x. derived_id_is id x i) ids

pub found_id_is : (id : AdviceId) (entries : List (AdviceId × Place)) → found (derived_id_eq id) entries ≡ found (identity_eq id) entries
found_id_is id entries = λ i. found (λ x. derived_id_is id x i) entries
