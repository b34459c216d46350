-- Keys and identities of what a node makes of messages.
use Rattle.std.proofs.Common.{◌≡◌, ℕ, ◌≤◌, List, Bool, true, false, cond, refl, sym, ap, ◌∙◌, Option, Some, None, length}
use Rattle.std.specs.Prelude.{◌&&◌, is_some}
use Rattle.card_digits.specs.declared.key.Key.{Key}
use Rattle.card_digits.specs.Numbers.{pad11}
use Rattle.iso_message.specs.Fields.{Fields, get, has, el, as_kind, set_element}
use Rattle.iso_message.specs.Spelling.{IsMessage}
use Rattle.message_elements.specs.declared.kind.Kind.{Kind}
use Rattle.message_elements.specs.declared.kind.Kind.TheVariants.{K0100, K0101, K0110, K0120, K0121, K0130, K0400, K0401, K0410, K0420, K0421, K0430}
use Rattle.message_keys.specs.declared.keys.AdviceId.{AdviceId}
use Rattle.message_keys.specs.declared.keys.AdviceKind.TheVariants.{Reversal, StandIn}
use Rattle.message_elements.specs.Groups.{group, is_04xx, response_kind, is_advice_group}
use Rattle.message_keys.specs.Keys.{key_of, own_key, original_key, part, identity_of}
use Rattle.iso_message.specs.Made.{has_own_key, response, made_reversal, made_stand_in, made_from}
use Rattle.iso_message.proofs.Found as found
use Rattle.message_keys.proofs.KeyLemmas as keys
use Rattle.card_digits.specs.Digits.{digits_of}
use Rattle.message_elements.specs.Codes.{code_00}
use Rattle.network_law.specs.Cards.{Bytes, card_of}
use Rattle.network_law.specs.Traces.{as_kept}
use Rattle.network_law.specs.Decision.{sent_kind}
use Rattle.network_law.proofs.Node.{response_is_of_kind}
use Rattle.network_law.proofs.Origins.{reversal_maker, stand_in_maker}
use Rattle.network_law.proofs.Elements.{el_made, el_made_reversal, own_key_response, el_response, made_reversal_key, reversal_kind}
use Rattle.network_law.proofs.AdviceMarks.{made_stand_in_key, as_kind_identity, kept_alike, reversal_reverses, stand_in_stands, identity_key}
use Rattle.pending_book.specs.Rows.{IsKeyOf}

-- responses

response_same : (k : Kind) → is_04xx (response_kind k) ≡ is_04xx k
response_same K0100 = refl
response_same K0101 = refl
response_same K0110 = refl
response_same K0120 = refl
response_same K0121 = refl
response_same K0130 = refl
response_same K0400 = refl
response_same K0401 = refl
response_same K0410 = refl
response_same K0420 = refl
response_same K0421 = refl
response_same K0430 = refl

original_response : (m : Fields) (c : Bytes) → original_key (response m c) ≡ original_key m
unfolding original_key
original_response m c =
    let e = el_response m c 90 refl refl in
    λ j. record { acquirer = part 20 11 (e j); trace = part 4 6 (e j); time = part 10 10 (e j) }

pub key_response : (m : Fields) (c : Bytes) → key_of (response m c) ≡ key_of m
unfolding key_of
key_response m c = go (is_04xx m.kind) refl (ap is_04xx (response_is_of_kind m c) ∙ response_same m.kind)
  where
    go : (b : Bool) → is_04xx m.kind ≡ b → is_04xx (response m c).kind ≡ is_04xx m.kind → cond (is_04xx (response m c).kind) (original_key (response m c)) (own_key (response m c)) ≡ cond (is_04xx m.kind) (original_key m) (own_key m)
    go true at e = rw (e, at) (original_response m c)
    go false at e = rw (e, at) (own_key_response m c)

pub response_key : (k : Key) (m : Fields) (c : Bytes) → k ≡ key_of m → k ≡ key_of (response m c)
response_key k m c e = e ∙ sym (key_response m c)

plain_response : (k : Kind) → is_advice_group (group (response_kind k)) ≡ false
plain_response K0100 = refl
plain_response K0101 = refl
plain_response K0110 = refl
plain_response K0120 = refl
plain_response K0121 = refl
plain_response K0130 = refl
plain_response K0400 = refl
plain_response K0401 = refl
plain_response K0410 = refl
plain_response K0420 = refl
plain_response K0421 = refl
plain_response K0430 = refl

pub response_plain : (m : Fields) (c : Bytes) → is_advice_group (group (response m c).kind) ≡ false
response_plain m c = ap (λ k. is_advice_group (group k)) (response_is_of_kind m c) ∙ plain_response m.kind

-- made advices

is_there : (m : Fields) (n : ℕ) → has m n ≡ true → (v : List ℕ) × (get m n ≡ Some v)
unfolding has
is_there m n e = go (get m n) e
  where
    go : (o : Option (List ℕ)) → is_some o ≡ true → (v : List ℕ) × (o ≡ Some v)
    go None e = cc
    go (Some v) e = (v, refl)

and_left : (a b : Bool) → (a && b) ≡ true → a ≡ true
and_left true b e = refl
and_left false b e = cc

and_right : (a b : Bool) → (a && b) ≡ true → b ≡ true
and_right true b e = e
and_right false b e = cc

module _ (m : Fields) (g : IsMessage m) (own : has_own_key m ≡ true) where
  there : (n : ℕ) → has m n ≡ true → (v : List ℕ) × (get m n ≡ Some v)
  there n e = is_there m n e

  has_32 : has m 32 ≡ true
  unfolding has_own_key
  has_32 = and_left (has m 32) (has m 11) (and_left (has m 32 && has m 11) (has m 7) own)

  has_11 : has m 11 ≡ true
  unfolding has_own_key
  has_11 = and_right (has m 32) (has m 11) (and_left (has m 32 && has m 11) (has m 7) own)

  has_7 : has m 7 ≡ true
  unfolding has_own_key
  has_7 = and_right (has m 32 && has m 11) (has m 7) own

  pub trace_length : length (el m 11) ≡ 6
  unfolding el
  trace_length = let w = there 11 has_11 in let e : get m 11 ≡ Some w.0 = w.1 in rw e (keys.trace_length m g w.0 w.1)

  pub time_length : length (el m 7) ≡ 10
  unfolding el
  time_length = let w = there 7 has_7 in let e : get m 7 ≡ Some w.0 = w.1 in rw e (keys.time_length m g w.0 w.1)

  pub acquirer_length : length (el m 32) ≤ 11
  unfolding el
  acquirer_length = let w = there 32 has_32 in let e : get m 32 ≡ Some w.0 = w.1 in rw e (found.id_length m g w.0 w.1)

pub reversal_identity : (m : Fields) (id : Bytes) (k : Key) → IsMessage m → IsKeyOf k m → Path AdviceId (record { kind = Reversal; key = k; forwarder = pad11 id }) (identity_of (made_reversal m id))
reversal_identity m id k g own =
    let a = reversal_reverses m id in
    let b : (identity_of (made_reversal m id)).key ≡ k = identity_key (made_reversal m id) ∙ (made_reversal_key m id (trace_length m g own.own) (time_length m g own.own) (acquirer_length m g own.own) own.request ∙ sym own.key_is) in
    let c = reversal_maker m id in
    sym (λ j. record { kind = a j; key = b j; forwarder = c j })

pub stand_in_identity : (m : Fields) (id : Bytes) (k : Key) → IsKeyOf k m → Path AdviceId (record { kind = StandIn; key = k; forwarder = pad11 id }) (identity_of (made_stand_in m id))
stand_in_identity m id k own =
    let a = stand_in_stands m id in
    let b : (identity_of (made_stand_in m id)).key ≡ k = identity_key (made_stand_in m id) ∙ (made_stand_in_key m id own.request ∙ sym own.key_is) in
    let c = stand_in_maker m id in
    sym (λ j. record { kind = a j; key = b j; forwarder = c j })

pub reversal_is_advice : (m : Fields) (id : Bytes) → is_advice_group (group (made_reversal m id).kind) ≡ true
reversal_is_advice m id = ap (λ k. is_advice_group (group k)) (reversal_kind m id)

pub stand_in_is_advice : (m : Fields) (id : Bytes) → is_advice_group (group (made_stand_in m id).kind) ≡ true
unfolding made_stand_in made_from set_element
stand_in_is_advice m id = refl

pub kept_identity : (m : Fields) → identity_of (as_kept m) ≡ identity_of m
kept_identity m = (kept_alike m).id

pub kept_is_advice : (m : Fields) → is_advice_group (group (as_kept m).kind) ≡ true
kept_is_advice m = go (is_04xx m.kind)
  where
    go : (b : Bool) → is_advice_group (group (cond b K0420 K0120)) ≡ true
    go true = refl
    go false = refl

-- the card numbers of advices

pub reversal_card : (m : Fields) (id digits : Bytes) → digits_of digits ≡ card_of m → digits_of digits ≡ card_of (made_reversal m id)
unfolding card_of
reversal_card m id digits e = e ∙ sym (ap digits_of (el_made_reversal m id 2 refl refl refl refl))

pub stand_in_card : (m : Fields) (id digits : Bytes) → digits_of digits ≡ card_of m → digits_of digits ≡ card_of (made_stand_in m id)
unfolding card_of made_stand_in
stand_in_card m id digits e = e ∙ sym (ap digits_of (el_made K0120 m id code_00 2 refl refl refl))

pub kept_card : (m : Fields) (digits : Bytes) → digits_of digits ≡ card_of m → digits_of digits ≡ card_of (as_kept m)
unfolding card_of el get
kept_card m digits e = e

-- an advice as it is sent

sent_04xx : (b again : Bool) → is_04xx (sent_kind b again) ≡ b
sent_04xx true true = refl
sent_04xx true false = refl
sent_04xx false true = refl
sent_04xx false false = refl

pub sent_identity : (x : Fields) (again : Bool) → identity_of (as_kind (sent_kind (is_04xx x.kind) again) x) ≡ identity_of x
sent_identity x again = as_kind_identity (sent_kind (is_04xx x.kind) again) x (sent_04xx (is_04xx x.kind) again)

pub sent_is_advice : (b again : Bool) → is_advice_group (group (sent_kind b again)) ≡ true
sent_is_advice true true = refl
sent_is_advice true false = refl
sent_is_advice false true = refl
sent_is_advice false false = refl

pub advice_key : (x : Fields) (id : AdviceId) → id ≡ identity_of x → AdviceId.key id ≡ key_of x
unfolding identity_of
advice_key x id e = rw e refl
