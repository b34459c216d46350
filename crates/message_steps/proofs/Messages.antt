-- Keys and identities of messages that come, and of what a node forwards and keeps.
use Rattle.std.proofs.Common.{◌≡◌, Bool, true, false, refl, sym, ◌∙◌, Option, Some, None, ap}
use Rattle.card_digits.specs.declared.key.Key.{Key}
use Rattle.iso_message.specs.Fields.{Fields, get, as_kind}
use Rattle.message_elements.specs.declared.kind.Kind.{Kind}
use Rattle.message_elements.specs.declared.kind.Kind.TheVariants.{K0100, K0101, K0110, K0120, K0121, K0130, K0400, K0401, K0410, K0420, K0421, K0430}
use Rattle.message_keys.specs.declared.keys.AdviceId.{AdviceId}
use Rattle.message_elements.specs.Groups.{group, is_request, is_04xx}
use Rattle.message_elements.specs.declared.kind.Group.TheVariants as groups
use Rattle.message_keys.specs.Keys.{key_of, identity_of, has_key, has_identity, when}
use Rattle.iso_message.specs.Made.{has_own_key}
use Rattle.network_law.specs.Traces.{as_kept}
use Rattle.message_keys.specs.Amounts.{actual_amount}
use Rattle.node_machine.specs.Lists.{leaves}
use Rattle.network_law.proofs.Provenance.{as_kind_key}
use Rattle.pending_book.specs.Rows.{IsKeyOf}

pub kept_leaves : (m : Fields) → leaves (as_kept m) ≡ leaves m
unfolding actual_amount get
kept_leaves m = refl

pub request_plain : (k : Kind) → is_request k ≡ true → is_04xx k ≡ false
request_plain K0100 e = refl
request_plain K0101 e = refl
request_plain K0110 e = cc
request_plain K0120 e = cc
request_plain K0121 e = cc
request_plain K0130 e = cc
request_plain K0400 e = cc
request_plain K0401 e = cc
request_plain K0410 e = cc
request_plain K0420 e = cc
request_plain K0421 e = cc
request_plain K0430 e = cc

pub forward_key : (m : Fields) (k : Key) → IsKeyOf k m → k ≡ key_of (as_kind K0100 m)
forward_key m k own = own.key_is ∙ sym (as_kind_key K0100 m (sym (request_plain m.kind own.request)))

pub forward_same : (m k : Fields) → k ≡ m → k.kind ≡ K0100 → k ≡ as_kind K0100 m
forward_same m k e f = e ∙ ap (λ z. as_kind z m) (sym (ap (λ (z : Fields). z.kind) e) ∙ f)

when_some : {X : Type 0} (b : Bool) (x y : X) → when b x ≡ Some y → (b ≡ true) × (y ≡ x)
when_some true x y e = (refl, cc)
when_some {X = X} false x y e = let q : Path (Option X) None (Some y) = e in absurd cc

own_of_key : (m : Fields) → is_request m.kind ≡ true → has_key m ≡ true → has_own_key m ≡ true
unfolding has_key
own_of_key m r h = let plain = request_plain m.kind r in rw plain at h

pub request_key : (m : Fields) (k : Key) → is_request m.kind ≡ true → when (has_key m) (key_of m) ≡ Some k → IsKeyOf k m
request_key m k r e = let w = when_some (has_key m) (key_of m) k e in record { key_is = w.1; own = own_of_key m r w.0; request = r }

pub known_identity : (m : Fields) (id : AdviceId) → when (has_identity m) (identity_of m) ≡ Some id → id ≡ identity_of m
known_identity m id e = (when_some (has_identity m) (identity_of m) id e).1

pub known_key : (m : Fields) (k : Key) → when (has_key m) (key_of m) ≡ Some k → k ≡ key_of m
known_key m k e = (when_some (has_key m) (key_of m) k e).1

pub request_group : (k : Kind) → group k ≡ groups.AuthorizationRequest → is_request k ≡ true
request_group K0100 e = refl
request_group K0101 e = refl
request_group K0110 e = cc
request_group K0120 e = cc
request_group K0121 e = cc
request_group K0130 e = cc
request_group K0400 e = cc
request_group K0401 e = cc
request_group K0410 e = cc
request_group K0420 e = cc
request_group K0421 e = cc
request_group K0430 e = cc
