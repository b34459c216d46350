-- The elements that make up keys, and their lengths.
use Rattle.std.proofs.Common.{◌≡◌, ℕ, ◌≤◌, ◌&&◌, Bool, true, false, List, length, Some, None, refl, sym, ap, ◌∙◌, arith, inl, inr, ◌⊎◌}
use Rattle.std.proofs.lemmas.Bool.{and_left, and_right, eq-eqb}
use Rattle.std.proofs.lemmas.List.{take_all}
use Rattle.card_digits.specs.Numbers.{pad11}
use Rattle.card_digits.specs.declared.key.Key.{Key}
use Rattle.message_keys.specs.declared.keys.AdviceKind.{AdviceKind}
use Rattle.message_elements.specs.Table.{table, form_of}
use Rattle.iso_message.specs.Fields.{Fields, get, has}
use Rattle.message_elements.specs.Groups.{group, is_04xx}
use Rattle.message_elements.specs.Codes.{read_code}
use Rattle.message_keys.specs.Keys.{part, when, own_key, original_key, key_of, has_key, is_identified, advice_kind, padded_or_zeros, identity_of, has_identity}
use Rattle.iso_message.specs.Made.{has_own_key}
use Rattle.iso_message.proofs.Found.{has_some, has_none, el_some, good_found}
use Rattle.iso_message.specs.Spelling.{IsMessage}

pub when_some : {A : Type 0} (b : Bool) (x y : A) → when b x ≡ Some y → (b ≡ true) × (x ≡ y)
when_some true x y e = (refl, cc)
when_some false x y e = absurd cc

pub when_none : {A : Type 0} (b : Bool) (x : A) → when b x ≡ None → b ≡ false
when_none true x e = absurd cc
when_none false x e = refl

-- whose key a message has
pub key_of_original : (m : Fields) → is_04xx m.kind ≡ true → when (has_key m) (key_of m) ≡ when (has m 90) (original_key m)
unfolding has_key key_of
key_of_original m is = rw is

pub key_of_itself : (m : Fields) → is_04xx m.kind ≡ false → when (has_key m) (key_of m) ≡ when (has_own_key m) (own_key m)
unfolding has_key key_of
key_of_itself m is = rw is

module _ (m : Fields) (g : IsMessage m) (v : List ℕ) where
  pub forwarder_length : get m 33 ≡ Some v → length v ≤ 11
  unfolding form_of table
  forwarder_length e = (good_found m 33 v g e).0

  pub trace_length : get m 11 ≡ Some v → length v ≡ 6
  unfolding form_of table
  trace_length e = (good_found m 11 v g e).0

  pub time_length : get m 7 ≡ Some v → length v ≡ 10
  unfolding form_of table
  time_length e = (good_found m 7 v g e).0

  pub original_length : get m 90 ≡ Some v → length v ≡ 42
  unfolding form_of table
  original_length e = (good_found m 90 v g e).0

  pub code_again : get m 39 ≡ Some v → read_code v ≡ Some v
  unfolding form_of table
  code_again e =
      let good = good_found m 39 v g e in
      rw (eq-eqb (length v) 2 good.0, good.1) refl

whole_part : (n : ℕ) (v : List ℕ) → length v ≡ n → part 0 n v ≡ v
whole_part n v e = take_all n v (omega arith)

-- ---- keys

pub own_some : (m : Fields) (a t d acquirer trace time : List ℕ) → IsMessage m → get m 32 ≡ Some a → get m 11 ≡ Some t → get m 7 ≡ Some d
    → acquirer ≡ pad11 a → trace ≡ part 0 6 t → time ≡ part 0 10 d
    → Some (record { acquirer = acquirer; trace = trace; time = time }) ≡ when (has_own_key m) (own_key m)
unfolding has_own_key own_key
own_some m a t d acquirer trace time g ea et ed ka kt kd =
    let trace_is : trace ≡ t = kt ∙ whole_part 6 t (trace_length m g t et) in
    let time_is : time ≡ d = kd ∙ whole_part 10 d (time_length m g d ed) in
    rw (has_some m 32 a ea, has_some m 11 t et, has_some m 7 d ed, el_some m 32 a ea, el_some m 11 t et, el_some m 7 d ed, ka, trace_is, time_is) refl

pub own_none : (m : Fields) (n : ℕ) → (n ≡ 32) ⊎ ((n ≡ 11) ⊎ (n ≡ 7)) → get m n ≡ None → None ≡ when (has_own_key m) (own_key m)
unfolding has_own_key
own_none m n which e = ap (λ b. when b (own_key m)) (sym (none which))
  where
    none : (n ≡ 32) ⊎ ((n ≡ 11) ⊎ (n ≡ 7)) → (has m 32 && has m 11 && has m 7) ≡ false
    none (inl k) = and_left _ _ (and_left _ _ (ap (has m) (sym k) ∙ has_none m n e))
    none (inr (inl k)) = and_left _ _ (and_right _ _ (ap (has m) (sym k) ∙ has_none m n e))
    none (inr (inr k)) = and_right _ _ (ap (has m) (sym k) ∙ has_none m n e)

pub original_some : (m : Fields) (v acquirer trace time : List ℕ) → get m 90 ≡ Some v → acquirer ≡ part 20 11 v → trace ≡ part 4 6 v → time ≡ part 10 10 v
    → Some (record { acquirer = acquirer; trace = trace; time = time }) ≡ when (has m 90) (original_key m)
unfolding original_key
original_some m v acquirer trace time e ka kt kd = rw (has_some m 90 v e, el_some m 90 v e, ka, kt, kd) refl

pub original_none : (m : Fields) → get m 90 ≡ None → None ≡ when (has m 90) (original_key m)
original_none m e = rw (has_none m 90 e) refl

pub identity_some : (m : Fields) (kind : AdviceKind) (key : Key) (forwarder : List ℕ)
    → Some kind ≡ when (is_identified (group m.kind)) (advice_kind (is_04xx m.kind)) → Some key ≡ when (has_key m) (key_of m) → forwarder ≡ padded_or_zeros (get m 33)
    → Some (record { kind = kind; key = key; forwarder = forwarder }) ≡ when (has_identity m) (identity_of m)
unfolding has_identity identity_of
identity_some m kind key forwarder ek ey ef =
    let a = when_some _ _ kind (sym ek) in
    let b = when_some _ _ key (sym ey) in
    rw (a.0, b.0, a.1, b.1, ef) refl

pub identity_none : (m : Fields) → (None ≡ when (is_identified (group m.kind)) (advice_kind (is_04xx m.kind))) ⊎ (None ≡ when (has_key m) (key_of m)) → None ≡ when (has_identity m) (identity_of m)
unfolding has_identity
identity_none m (inl e) = ap (λ b. when b (identity_of m)) (sym (and_left _ _ (when_none _ _ (sym e))))
identity_none m (inr e) = ap (λ b. when b (identity_of m)) (sym (and_right _ _ (when_none _ _ (sym e))))
