-- The derived comparison of keys is the stated one.
use Rattle.std.proofs.Common.{◌≡◌, ℕ, Bool, List, refl}
use Rattle.std.specs.Map.{lookup}
use Rattle.message_keys.specs.declared.keys.AdviceKind.{AdviceKind}
use Rattle.message_keys.specs.declared.keys.AdviceKind.TheVariants as kinds
use Rattle.advice_slots.specs.Items.{name_eq}
use Rattle.advice_slots.specs.declared.item.ItemName.{ItemName}
use Rattle.advice_slots.specs.declared.item.ItemName.TheVariants as names
use Rattle.advice_slots.specs.contracts.item.ItemNamePartialEq.TheImpl as derived

abbrev pub derived_eq : ItemName → ItemName → Bool
derived_eq a b = (derived.ghosts).eq a b

pub derived_is : (a b : ItemName) → derived_eq a b ≡ name_eq a b
derived_is (names.Advice a) (names.Advice b) = by_kind a.kind b.kind
  where
    by_kind : (x y : AdviceKind) → derived_eq (names.Advice (record { kind = x; key = a.key; forwarder = a.forwarder })) (names.Advice (record { kind = y; key = b.key; forwarder = b.forwarder })) ≡ name_eq (names.Advice (record { kind = x; key = a.key; forwarder = a.forwarder })) (names.Advice (record { kind = y; key = b.key; forwarder = b.forwarder }))
    by_kind kinds.StandIn kinds.StandIn = refl
    by_kind kinds.StandIn kinds.Reversal = refl
    by_kind kinds.Reversal kinds.StandIn = refl
    by_kind kinds.Reversal kinds.Reversal = refl
derived_is (names.Grant a) (names.Grant b) = refl
derived_is (names.Advice a) (names.Grant b) = refl
derived_is (names.Grant a) (names.Advice b) = refl

pub lookup_is : (k : ItemName) (es : List (ItemName × ℕ)) → lookup (derived_eq k) es ≡ lookup (name_eq k) es
lookup_is k es = λ i. lookup (λ x. derived_is k x i) es
