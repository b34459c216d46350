-- Open requests and the answers to them have what a key is made of.
use Rattle.std.proofs.Common.{◌≡◌, ℕ, List, Some, None, is_some, true, false, ◌&&◌, refl, sym, ap, ◌∙◌, subst, inl, inr, bytes_eq, eqb}
use Rattle.std.proofs.lemmas.Bool.{cond_both, and_parts}
use Rattle.std.proofs.lemmas.Option.{same_Some}
use Rattle.message_elements.specs.declared.kind.Kind.{Kind}
use Rattle.message_elements.specs.declared.kind.Kind.TheVariants.{K0100, K0101, K0110, K0120, K0121, K0130, K0400, K0401, K0410, K0420, K0421, K0430}
use Rattle.message_elements.specs.declared.kind.Group.TheVariants as groups
use Rattle.message_elements.specs.Groups.{group, is_request, is_answer, is_04xx}
use Rattle.message_elements.specs.Codes.{code_94}
use Rattle.message_keys.specs.Keys.{code_of, has_key}
use Rattle.iso_message.specs.Fields.{Fields, get, has, set_element, remove_element}
use Rattle.iso_message.specs.Made.{response, has_own_key}
use Rattle.iso_message.proofs.Changes.{get_set, get_set_same, get_remove, find_kept}
use Rattle.card_digits.specs.declared.key.Key.{Key}
use Rattle.net_rows.specs.Network.{Network}
use Rattle.network_law.specs.Cards.{Bytes, text_of}
use Rattle.network_law.specs.Traces.{ReadInput, Enter, Take, LinkUp, LinkDown, Tick, HostAnswer, NewDate, TakePacket, Lend, History, Handled, handled, Opening, dated, date_of}
use Rattle.network_law.specs.Refusals.{refusal, required_entered, required_taken, first_missing}
use Rattle.network_law.proofs.Elements.{carried, carried_of, code_response}
use Rattle.network_law.proofs.Late.{response_answers}
use Rattle.network_law.proofs.Node.{OpensNow, dated_kind, response_is_of_kind}
use Rattle.network_law.proofs.Refused.{EnteredFacts, entered_facts, TakenFacts, taken_facts, IsWhole, is_there}

group_of_request : (k : Kind) → is_request k ≡ true → group k ≡ groups.AuthorizationRequest
group_of_request K0100 e = refl
group_of_request K0101 e = refl
group_of_request K0110 e = cc
group_of_request K0120 e = cc
group_of_request K0121 e = cc
group_of_request K0130 e = cc
group_of_request K0400 e = cc
group_of_request K0401 e = cc
group_of_request K0410 e = cc
group_of_request K0420 e = cc
group_of_request K0421 e = cc
group_of_request K0430 e = cc

answer_no_04xx : (k : Kind) → is_answer k ≡ true → is_04xx k ≡ false
answer_no_04xx K0100 e = refl
answer_no_04xx K0101 e = refl
answer_no_04xx K0110 e = refl
answer_no_04xx K0120 e = refl
answer_no_04xx K0121 e = refl
answer_no_04xx K0130 e = refl
answer_no_04xx K0400 e = cc
answer_no_04xx K0401 e = cc
answer_no_04xx K0410 e = cc
answer_no_04xx K0420 e = cc
answer_no_04xx K0421 e = cc
answer_no_04xx K0430 e = cc

-- elements of a key

own_key_from : (m : Fields) → has m 32 ≡ true → has m 11 ≡ true → has m 7 ≡ true → has_own_key m ≡ true
unfolding has_own_key
own_key_from m a b c = rw (a, b, c) refl

pub own_key_parts : (m : Fields) → has_own_key m ≡ true → (has m 32 ≡ true) × (has m 11 ≡ true) × (has m 7 ≡ true)
unfolding has_own_key
own_key_parts m e =
    let p = and_parts (has m 32 && has m 11) (has m 7) e in
    let q = and_parts (has m 32) (has m 11) p.0 in
    (q.0, q.1, p.1)

-- a message with the same elements of the key
keyed_as : (m x : Fields) → get x 32 ≡ get m 32 → get x 11 ≡ get m 11 → get x 7 ≡ get m 7 → has_own_key m ≡ true → has_own_key x ≡ true
unfolding has
keyed_as m x a b c e =
    let p = own_key_parts m e in
    own_key_from x (ap is_some a ∙ p.0) (ap is_some b ∙ p.1) (ap is_some c ∙ p.2)

-- requests

pub entered_keyed : (t : Network) (n : ℕ) (h : History) (m : Fields) → refusal t n h (Enter m) ≡ None → is_request m.kind ≡ true → has_own_key m ≡ true
entered_keyed t n h m ok r =
    let ns = required_entered groups.AuthorizationRequest in
    let f : first_missing m ns ≡ None = ap (λ g. first_missing m (required_entered g)) (sym (group_of_request m.kind r)) ∙ IsWhole.none_missing (EnteredFacts.is_whole (entered_facts t n h m ok)) in
    own_key_from m (is_there m ns 32 f (inr (inr (inr (inr (inr (inl refl))))))) (is_there m ns 11 f (inr (inr (inr (inr (inl refl)))))) (is_there m ns 7 f (inr (inr (inr (inl refl)))))

pub taken_keyed : (t : Network) (n : ℕ) (h : History) (l s : ℕ) (m : Fields) → refusal t n h (Take l s m) ≡ None → is_request m.kind ≡ true → has_own_key m ≡ true
taken_keyed t n h l s m ok r =
    let ns = required_taken groups.AuthorizationRequest m.kind in
    let f : first_missing m ns ≡ None = ap (λ g. first_missing m (required_taken g m.kind)) (sym (group_of_request m.kind r)) ∙ IsWhole.none_missing (TakenFacts.is_whole (taken_facts t n h l s m ok)) in
    own_key_from m (is_there m ns 32 f (inr (inr (inr (inr (inr (inr (inl refl)))))))) (is_there m ns 11 f (inr (inr (inr (inr (inl refl)))))) (is_there m ns 7 f (inr (inr (inr (inl refl)))))

get_dated : (date : List ℕ) (m : Fields) (n : ℕ) → eqb 15 n ≡ false → get (dated date m) n ≡ get m n
get_dated date m n d = cond_both (is_request m.kind) (set_element m 15 (text_of date)) m (λ x. get x n ≡ get m n) (λ _. get_set m 15 n (text_of date) d) (λ _. refl)

dated_keyed : (date : List ℕ) (m : Fields) → has_own_key m ≡ true → has_own_key (dated date (remove_element m 33)) ≡ true
dated_keyed date m = keyed_as m (dated date (remove_element m 33)) (same 32 refl refl) (same 11 refl refl) (same 7 refl refl)
  where
    same : (n : ℕ) → eqb 15 n ≡ false → eqb 33 n ≡ false → get (dated date (remove_element m 33)) n ≡ get m n
    same n a b = get_dated date (remove_element m 33) n a ∙ get_remove m 33 n b

-- what opens a key has the elements of a key
pub opens_keyed : (t : Network) (n : ℕ) (h : History) (i : ReadInput) (k : Key) (op : Opening) → refusal t n h i ≡ None → OpensNow t h i k op → has_own_key op.message ≡ true
unfolding handled remove_element
opens_keyed t n h i k op ok o = go i ok o.is_handled
  where
    go : (j : ReadInput) → refusal t n h j ≡ None → handled t h j ≡ Some (record { message = op.message; source = op.source }) → has_own_key op.message ≡ true
    go (Enter m) ok e =
        let a : dated (date_of t h) (remove_element m 33) ≡ op.message = ap (λ (z : Handled). z.message) (same_Some _ _ e) in
        let r : is_request m.kind ≡ true = sym (ap (λ z. is_request (Fields.kind z)) (sym a) ∙ dated_kind (date_of t h) (remove_element m 33)) ∙ o.request in
        subst (λ z. has_own_key z ≡ true) a (dated_keyed (date_of t h) m (entered_keyed t n h m ok r))
    go (Take l s m) ok e =
        let a : m ≡ op.message = ap (λ (z : Handled). z.message) (same_Some _ _ e) in
        subst (λ z. has_own_key z ≡ true) a (taken_keyed t n h l s m ok (ap (λ z. is_request (Fields.kind z)) a ∙ o.request))
    go (LinkUp l) ok e = cc
    go (LinkDown l) ok e = cc
    go Tick ok e = cc
    go (HostAnswer a c) ok e = cc
    go (NewDate d) ok e = cc
    go (TakePacket l s p) ok e = cc
    go (Lend b c d a) ok e = cc

-- answers

-- a 0110 with a key and a code, which isn't 94
pub record IsAnswer (m : Fields) : Type 0 where
  pub kind : is_answer m.kind ≡ true
  pub keyed : has_key m ≡ true
  pub code : get m 39 ≡ Some (code_of m)
  pub not_94 : bytes_eq (code_of m) code_94 ≡ false

pub response_has_code : (m : Fields) (c : Bytes) → get (response m c) 39 ≡ Some c
unfolding response
response_has_code m c = get_set_same (carried_of m) 39 c

get_carried : (m : Fields) (n : ℕ) → carried n ≡ true → get (carried_of m) n ≡ get m n
unfolding get
get_carried m n has = find_kept carried n m.elements has

get_response : (m : Fields) (c : Bytes) (n : ℕ) → eqb 39 n ≡ false → carried n ≡ true → get (response m c) n ≡ get m n
unfolding response
get_response m c n d has = get_set (carried_of m) 39 n c d ∙ get_carried m n has

has_key_itself : (m : Fields) → is_04xx m.kind ≡ false → has_own_key m ≡ true → has_key m ≡ true
unfolding has_key
has_key_itself m e k = rw (e, k) refl

-- the response to a request is one
pub response_is_answer : (m : Fields) (c : Bytes) → is_request m.kind ≡ true → has_own_key m ≡ true → bytes_eq c code_94 ≡ false → IsAnswer (response m c)
response_is_answer m c r keyed n94 =
    let kind : is_answer (response m c).kind ≡ true = ap is_answer (response_is_of_kind m c) ∙ response_answers m.kind r in
    record {
      kind = kind;
      keyed = has_key_itself (response m c) (answer_no_04xx (response m c).kind kind) (keyed_as m (response m c) (get_response m c 32 refl refl) (get_response m c 11 refl refl) (get_response m c 7 refl refl) keyed);
      code = response_has_code m c ∙ ap Some (sym (code_response m c));
      not_94 = ap (λ z. bytes_eq z code_94) (code_response m c) ∙ n94;
    }
