-- The tests of keys, contents and identities tell whether they are equal.
use Rattle.std.proofs.Common.{◌≡◌, ℕ, List, true, false, ◌&&◌, bytes_eq, refl, sym, subst, ◌∙◌, inl, inr}
use Rattle.std.proofs.lemmas.Bool.{cases_Bool, and_parts, false≢true}
use Rattle.std.proofs.lemmas.Slice.Eq.{bytes_eq-Decides}
use Rattle.card_digits.specs.declared.key.Key.{Key}
use Rattle.message_keys.specs.declared.keys.AdviceKind.{AdviceKind}
use Rattle.message_keys.specs.declared.keys.AdviceKind.TheVariants.{StandIn, Reversal}
use Rattle.message_keys.specs.declared.keys.AdviceId.{AdviceId}
use Rattle.message_keys.specs.Keys.{key_eq, Content, content_eq, same_kind, identity_eq}

pub bytes_eq_refl : (bytes : List ℕ) → bytes_eq bytes bytes ≡ true
bytes_eq_refl bytes = (bytes_eq-Decides bytes bytes).1 refl

pub bytes_eq_is : (a b : List ℕ) → bytes_eq a b ≡ true → a ≡ b
bytes_eq_is a b = (bytes_eq-Decides a b).0

pub key_eq_refl : (k : Key) → key_eq k k ≡ true
key_eq_refl k = rw (bytes_eq_refl k.acquirer, bytes_eq_refl k.trace, bytes_eq_refl k.time) refl

pub key_eq_is : (a b : Key) → key_eq a b ≡ true → a ≡ b
key_eq_is a b e =
    let p = and_parts (bytes_eq a.acquirer b.acquirer) (bytes_eq a.trace b.trace && bytes_eq a.time b.time) e in
    let q = and_parts (bytes_eq a.trace b.trace) (bytes_eq a.time b.time) p.1 in
    let x = bytes_eq_is a.acquirer b.acquirer p.0 in
    let y = bytes_eq_is a.trace b.trace q.0 in
    let z = bytes_eq_is a.time b.time q.1 in
    λ j. record { acquirer = x j; trace = y j; time = z j }

pub key_eq_flip : (a b : Key) → key_eq a b ≡ false → key_eq b a ≡ false
key_eq_flip a b f = elim (cases_Bool (key_eq b a)) [
  | inl t ↦ absurd (false≢true (sym f ∙ subst (λ k. key_eq a k ≡ true) (sym (key_eq_is b a t)) (key_eq_refl a)))
  | inr g ↦ g
]

pub content_eq_refl : (c : Content) → content_eq c c ≡ true
content_eq_refl c = rw (bytes_eq_refl c.card, bytes_eq_refl c.processing, bytes_eq_refl c.amount, bytes_eq_refl c.currency) refl

pub content_eq_is : (a b : Content) → content_eq a b ≡ true → a ≡ b
content_eq_is a b e =
    let p = and_parts (bytes_eq a.card b.card && bytes_eq a.processing b.processing && bytes_eq a.amount b.amount) (bytes_eq a.currency b.currency) e in
    let q = and_parts (bytes_eq a.card b.card && bytes_eq a.processing b.processing) (bytes_eq a.amount b.amount) p.0 in
    let r = and_parts (bytes_eq a.card b.card) (bytes_eq a.processing b.processing) q.0 in
    let w = bytes_eq_is a.card b.card r.0 in
    let x = bytes_eq_is a.processing b.processing r.1 in
    let y = bytes_eq_is a.amount b.amount q.1 in
    let z = bytes_eq_is a.currency b.currency p.1 in
    λ j. record { card = w j; processing = x j; amount = y j; currency = z j }

same_kind_refl : (k : AdviceKind) → same_kind k k ≡ true
same_kind_refl StandIn = refl
same_kind_refl Reversal = refl

same_kind_is : (a b : AdviceKind) → same_kind a b ≡ true → a ≡ b
same_kind_is StandIn StandIn e = refl
same_kind_is StandIn Reversal e = cc
same_kind_is Reversal StandIn e = cc
same_kind_is Reversal Reversal e = refl

pub identity_eq_refl : (i : AdviceId) → identity_eq i i ≡ true
identity_eq_refl i = rw (same_kind_refl i.kind, key_eq_refl i.key, bytes_eq_refl i.forwarder) refl

pub identity_eq_is : (a b : AdviceId) → identity_eq a b ≡ true → a ≡ b
identity_eq_is a b e =
    let p = and_parts (same_kind a.kind b.kind) (key_eq a.key b.key && bytes_eq a.forwarder b.forwarder) e in
    let q = and_parts (key_eq a.key b.key) (bytes_eq a.forwarder b.forwarder) p.1 in
    let x = same_kind_is a.kind b.kind p.0 in
    let y = key_eq_is a.key b.key q.0 in
    let z = bytes_eq_is a.forwarder b.forwarder q.1 in
    λ j. record { kind = x j; key = y j; forwarder = z j }
