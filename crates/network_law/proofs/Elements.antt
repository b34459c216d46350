-- Elements of responses and made messages.
use Rattle.std.proofs.Common.{◌≡◌, ℕ, ◌+◌, List, [], ◌∷◌, ◌++◌, Bool, true, false, cond, refl, sym, ap, ◌∙◌, arith, eqb, unwrap_or, length, ◌≤◌, ◌-◌, take, drop, replicate}
use Rattle.std.proofs.lemmas.List.{length-append, length-replicate, drop_at, take_at}
use lib.Seq.{drop-drop}
use Rattle.card_digits.specs.Numbers.{pad11}
use Rattle.network_law.proofs.Node.{el_set, request_no_04xx}
use Rattle.network_law.specs.Cards.{Bytes}
use Rattle.iso_message.proofs.Changes.{get_set_same, find_kept}
use Rattle.iso_message.specs.Fields.{Fields, el, get, set_element}
use Rattle.message_elements.specs.declared.kind.Kind.{Kind}
use Rattle.message_elements.specs.declared.kind.Kind.TheVariants.{K0100, K0101, K0110, K0120, K0121, K0130, K0400, K0401, K0410, K0420, K0421, K0430}
use Rattle.message_elements.specs.Groups.{is_request, is_04xx, response_kind}
use Rattle.message_keys.specs.Keys.{key_of, own_key, original_key, content, part, code_of}
use Rattle.iso_message.specs.Made.{response_numbers, advice_numbers, kept, is_one_of, response, made_from, made_reversal}
use Rattle.message_elements.specs.Codes.{code_68}

pub el_set_same : (m : Fields) (k : ℕ) (v : Bytes) → el (set_element m k v) k ≡ v
unfolding el
el_set_same m k v = ap (λ o. unwrap_or o []) (get_set_same m k v)

abbrev pub carried : ℕ → Bool
carried = is_one_of response_numbers

-- the response before its code is written
abbrev pub carried_of : Fields → Fields
carried_of m = record { kind = response_kind m.kind; elements = kept response_numbers m.elements }

pub code_response : (m : Fields) (c : Bytes) → code_of (response m c) ≡ c
unfolding code_of response
code_response m c = el_set_same (carried_of m) 39 c

kept_el : (m : Fields) (k : Kind) (n : ℕ) → carried n ≡ true → el (record { kind = k; elements = kept response_numbers m.elements }) n ≡ el m n
unfolding el get
kept_el m k n has = ap (λ o. unwrap_or o []) (find_kept carried n m.elements has)

pub el_response : (m : Fields) (c : Bytes) (n : ℕ) → eqb n 39 ≡ false → carried n ≡ true → el (response m c) n ≡ el m n
unfolding response
el_response m c n d has = el_set (carried_of m) 39 n c d ∙ kept_el m (response_kind m.kind) n has

response_no_04xx : (k : Kind) → is_request k ≡ true → is_04xx (response_kind k) ≡ false
response_no_04xx K0100 e = refl
response_no_04xx K0101 e = refl
response_no_04xx K0110 e = refl
response_no_04xx K0120 e = refl
response_no_04xx K0121 e = refl
response_no_04xx K0130 e = refl
response_no_04xx K0400 e = cc
response_no_04xx K0401 e = cc
response_no_04xx K0410 e = cc
response_no_04xx K0420 e = cc
response_no_04xx K0421 e = cc
response_no_04xx K0430 e = cc

pub own_key_response : (m : Fields) (c : Bytes) → own_key (response m c) ≡ own_key m
unfolding own_key
own_key_response m c =
    let a = el_response m c 32 refl refl in
    let b = el_response m c 11 refl refl in
    let d = el_response m c 7 refl refl in
    λ j. record { acquirer = pad11 (a j); trace = b j; time = d j }

pub response_key : (m : Fields) (c : Bytes) → is_request m.kind ≡ true → key_of (response m c) ≡ key_of m
unfolding key_of
response_key m c r = go (is_04xx (response m c).kind) refl (is_04xx m.kind) refl
  where
    kind_is : (response m c).kind ≡ response_kind m.kind
    kind_is = Rattle.network_law.proofs.Node.response_is_of_kind m c

    go : (b : Bool) → is_04xx (response m c).kind ≡ b → (b' : Bool) → is_04xx m.kind ≡ b' → cond (is_04xx (response m c).kind) (original_key (response m c)) (own_key (response m c)) ≡ cond (is_04xx m.kind) (original_key m) (own_key m)
    go false at false at' = rw (at, at') (own_key_response m c)
    go true at b' at' = absurd (no (sym at ∙ (ap is_04xx kind_is ∙ response_no_04xx m.kind r)))
      where
        no : true ≡ false → ⊥
        no q = cc
    go false at true at' = absurd (no (sym at' ∙ request_no_04xx m.kind r))
      where
        no : true ≡ false → ⊥
        no q = cc

-- made reversals

abbrev pub made_kept : ℕ → Bool
made_kept = is_one_of advice_numbers

abbrev pub made_base : Kind → Fields → Fields
made_base k m = record { kind = k; elements = kept advice_numbers m.elements }

kept_made : (m : Fields) (k : Kind) (n : ℕ) → made_kept n ≡ true → el (made_base k m) n ≡ el m n
unfolding el get
kept_made m k n has = ap (λ o. unwrap_or o []) (find_kept made_kept n m.elements has)

pub el_made : (k : Kind) (m : Fields) (id code : Bytes) (n : ℕ) → eqb n 33 ≡ false → eqb n 39 ≡ false → made_kept n ≡ true → el (made_from k m id code) n ≡ el m n
unfolding made_from
el_made k m id code n d d' has = el_set (set_element (made_base k m) 33 id) 39 n code d' ∙ (el_set (made_base k m) 33 n id d ∙ kept_made m k n has)

pub el_made_reversal : (m : Fields) (id : Bytes) (n : ℕ) → eqb n 33 ≡ false → eqb n 39 ≡ false → eqb n 90 ≡ false → made_kept n ≡ true → el (made_reversal m id) n ≡ el m n
unfolding made_reversal
el_made_reversal m id n d d' d'' has = el_set (made_from K0420 m id code_68) 90 n _ d'' ∙ el_made K0420 m id code_68 n d d' has

pub content_made_reversal : (m : Fields) (id : Bytes) → content (made_reversal m id) ≡ content m
unfolding content
content_made_reversal m id =
    let a = el_made_reversal m id 2 refl refl refl refl in
    let b = el_made_reversal m id 3 refl refl refl refl in
    let c = el_made_reversal m id 4 refl refl refl refl in
    let d = el_made_reversal m id 49 refl refl refl refl in
    λ j. record { card = a j; processing = b j; amount = c j; currency = d j }

pad11_long : (bs : List ℕ) → length bs ≤ 11 → length (pad11 bs) ≡ 11
pad11_long bs le =
    let a = length-append (replicate (11 - length bs) 48) bs in
    let b = length-replicate {A = ℕ} (11 - length bs) 48 in
    omega (arith, a, b)

abbrev original : Bytes → Bytes → Bytes → Bytes
original trace time acquirer = (48 ∷ 49 ∷ 48 ∷ 48 ∷ []) ++ (trace ++ (time ++ (acquirer ++ replicate 11 48)))

drop_two : (a b rest : List ℕ) (n m : ℕ) → length a ≡ n → length b ≡ m → drop (n + m) (a ++ (b ++ rest)) ≡ rest
drop_two a b rest n m la lb = sym (drop-drop m n (a ++ (b ++ rest))) ∙ (ap (drop m) (drop_at a (b ++ rest) n la) ∙ drop_at b rest m lb)

original_parts : (trace time acquirer : Bytes) → length trace ≡ 6 → length time ≡ 10 → length acquirer ≡ 11 → (part 4 6 (original trace time acquirer) ≡ trace) × (part 10 10 (original trace time acquirer) ≡ time) × (part 20 11 (original trace time acquirer) ≡ acquirer)
original_parts trace time acquirer a b c = (
  take_at trace (time ++ (acquirer ++ replicate 11 48)) 6 a,
  ap (take 10) (drop_at trace (time ++ (acquirer ++ replicate 11 48)) 6 a) ∙ take_at time (acquirer ++ replicate 11 48) 10 b,
  ap (take 11) (drop_two trace time (acquirer ++ replicate 11 48) 6 10 a b) ∙ take_at acquirer (replicate 11 48) 11 c,
)

reversal_original : (m : Fields) (id : Bytes) → el (made_reversal m id) 90 ≡ original (el m 11) (el m 7) (pad11 (el m 32))
unfolding made_reversal
reversal_original m id = el_set_same (made_from K0420 m id code_68) 90 (original (el m 11) (el m 7) (pad11 (el m 32)))

pub reversal_kind : (m : Fields) (id : Bytes) → (made_reversal m id).kind ≡ K0420
unfolding made_reversal made_from set_element
reversal_kind m id = refl

pub original_is : (m x : Fields) → part 20 11 (el x 90) ≡ pad11 (el m 32) → part 4 6 (el x 90) ≡ el m 11 → part 10 10 (el x 90) ≡ el m 7 → original_key x ≡ own_key m
unfolding original_key own_key
original_is m x a b c = λ j. record { acquirer = a j; trace = b j; time = c j }

pub made_reversal_key : (m : Fields) (id : Bytes) → length (el m 11) ≡ 6 → length (el m 7) ≡ 10 → length (el m 32) ≤ 11 → is_request m.kind ≡ true → key_of (made_reversal m id) ≡ key_of m
unfolding key_of
made_reversal_key m id a b c r = rw (reversal_kind m id, request_no_04xx m.kind r) keys
  where
    p : (part 4 6 (original (el m 11) (el m 7) (pad11 (el m 32))) ≡ el m 11) × (part 10 10 (original (el m 11) (el m 7) (pad11 (el m 32))) ≡ el m 7) × (part 20 11 (original (el m 11) (el m 7) (pad11 (el m 32))) ≡ pad11 (el m 32))
    p = original_parts (el m 11) (el m 7) (pad11 (el m 32)) a b (pad11_long (el m 32) c)

    e : el (made_reversal m id) 90 ≡ original (el m 11) (el m 7) (pad11 (el m 32))
    e = reversal_original m id

    keys : original_key (made_reversal m id) ≡ own_key m
    keys = original_is m (made_reversal m id) (ap (part 20 11) e ∙ p.2) (ap (part 4 6) e ∙ p.0) (ap (part 10 10) e ∙ p.1)
