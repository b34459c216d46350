-- What an output and an input mark of advices, and what they mark not.
use Rattle.std.proofs.Common.{◌≡◌, ℕ, ◌≤◌, List, [], ◌∷◌, ◌++◌, map, Option, Some, None, Bool, true, false, cond, not, ◌&&◌, ◌||◌, if◌then◌else◌, refl, sym, ap, ◌∙◌, inr, bytes_eq}
use Rattle.std.proofs.lemmas.Bool.{cond_both}
use Rattle.std.proofs.lemmas.Option.{same_Some}
use Rattle.std.specs.Option.{option_or, option_and_then}
use Rattle.std.specs.List.{list_any}
use Rattle.net_rows.specs.Network.{Network}
use Rattle.network_law.specs.Tables.{node_id}
use Rattle.network_law.specs.Traces.{Source, Gate, ByLink, ReadInput, Enter, Take, LinkUp, LinkDown, Tick, HostAnswer, NewDate, TakePacket, Lend, ReadOutput, Put, Post, In, Out, History, Handled, handled, Opening, opening, answer, answers, sent, has_00, is_00_of, brings_00, own_approval, Advice, advices, add_advice, add_made, acked_by, has_identity, late_key, failed_key, is_ok_ack, is_ack_kind, as_kept, count_of, IsIn}
use Rattle.network_law.specs.Decision.{sent_kind}
use Rattle.network_law.proofs.Emits.{handled_as, is_kept_group}
use Rattle.network_law.proofs.Node.{NodeFacts, answer_is, answers_is, response_is_of_kind, answer_no_request, OpensNow, opening_in_cases}
use Rattle.network_law.proofs.Elements.{reversal_kind, el_made}
use Rattle.network_law.proofs.Late.{LateFacts, answer_when}
use Rattle.network_law.proofs.Provenance.{as_kept_04xx, as_kept_content, as_kind_content, as_kind_key, made_stand_in_kind}
use Rattle.network_law.proofs.Accounts.{Alike, Accounts}
use Rattle.message_keys.proofs.Equality.{identity_eq_is, key_eq_is, bytes_eq_is}
use Rattle.card_digits.specs.Numbers.{pad11}
use Rattle.network_law.specs.Cards.{Bytes}
use Rattle.message_keys.specs.declared.keys.AdviceKind.TheVariants.{StandIn, Reversal}
use Rattle.iso_message.specs.Fields.{Fields, get, el, as_kind, set_element, remove_element}
use Rattle.message_elements.specs.declared.kind.Kind.{Kind}
use Rattle.message_elements.specs.declared.kind.Group.{Group}
use Rattle.message_elements.specs.Groups.{group, is_request, is_answer, is_04xx, response_kind, is_advice_group}
use Rattle.message_elements.specs.declared.kind.Kind.TheVariants.{K0100, K0101, K0110, K0120, K0121, K0130, K0400, K0401, K0410, K0420, K0421, K0430}
use Rattle.card_digits.specs.declared.key.Key.{Key}
use Rattle.message_keys.specs.Keys.{advice_kind, key_of, key_eq, own_key, identity_of, padded_or_zeros, content, code_of}
use Rattle.message_keys.specs.declared.keys.AdviceId.{AdviceId}
use Rattle.message_elements.specs.Codes.{code_94, code_00}
use Rattle.iso_message.specs.Made.{response, made_reversal, made_stand_in, made_from}
use Rattle.network_law.specs.Claims.{answered_by, post_count}
use Rattle.message_elements.specs.declared.kind.Group.TheVariants as groups

pub not_both : (b : Bool) → b ≡ true → b ≡ false → ⊥
not_both b p q = cc

pub none_some : {X : Type 0} (x : X) → None ≡ Some x → ⊥
none_some x p = cc

-- posts and puts of advices

abbrev pub post_in : ReadOutput → List Fields
post_in (Post x) = x ∷ []
post_in _ = []

abbrev pub sends_in : ReadOutput → List (ℕ × Fields)
sends_in (Put l s x) = if is_advice_group (group x.kind) then (l, x) ∷ [] else []
sends_in _ = []

unfoldable pub posts : History → List Fields
posts [] = []
posts (In i ∷ h) = posts h
posts (Out i o ∷ h) = post_in o ++ posts h

unfoldable pub sends : History → List (ℕ × Fields)
sends [] = []
sends (In i ∷ h) = sends h
sends (Out i o ∷ h) = sends_in o ++ sends h

abbrev pub Acc : Network → ℕ → History → Type 0
Acc t n h = Accounts t n (advices t n h) (posts h) (sends h)

-- kinds

pub response_no_advice : (k : Kind) → is_advice_group (group (response_kind k)) ≡ false
response_no_advice K0100 = refl
response_no_advice K0101 = refl
response_no_advice K0110 = refl
response_no_advice K0120 = refl
response_no_advice K0121 = refl
response_no_advice K0130 = refl
response_no_advice K0400 = refl
response_no_advice K0401 = refl
response_no_advice K0410 = refl
response_no_advice K0420 = refl
response_no_advice K0421 = refl
response_no_advice K0430 = refl

pub answer_no_advice : (k : Kind) → is_answer k ≡ true → is_advice_group (group k) ≡ false
answer_no_advice K0100 e = refl
answer_no_advice K0101 e = refl
answer_no_advice K0110 e = refl
answer_no_advice K0120 e = cc
answer_no_advice K0121 e = cc
answer_no_advice K0130 e = refl
answer_no_advice K0400 e = cc
answer_no_advice K0401 e = cc
answer_no_advice K0410 e = refl
answer_no_advice K0420 e = cc
answer_no_advice K0421 e = cc
answer_no_advice K0430 e = refl

pub ack_of_kept : (k : Kind) → is_kept_group (group k) ≡ true → is_ack_kind (group (response_kind k)) ≡ true
ack_of_kept K0100 e = cc
ack_of_kept K0101 e = cc
ack_of_kept K0110 e = cc
ack_of_kept K0120 e = refl
ack_of_kept K0121 e = refl
ack_of_kept K0130 e = cc
ack_of_kept K0400 e = refl
ack_of_kept K0401 e = refl
ack_of_kept K0410 e = cc
ack_of_kept K0420 e = refl
ack_of_kept K0421 e = refl
ack_of_kept K0430 e = cc

pub kept_is_advice : (g : Group) → is_kept_group g ≡ true → is_advice_group g ≡ true
kept_is_advice groups.AuthorizationRequest e = cc
kept_is_advice groups.AuthorizationResponse e = cc
kept_is_advice groups.Advice e = refl
kept_is_advice groups.Reversal e = refl
kept_is_advice groups.AdviceResponse e = cc
kept_is_advice groups.ReversalResponse e = cc

pub advice_is_kept : (g : Group) → is_advice_group g ≡ true → is_kept_group g ≡ true
advice_is_kept groups.AuthorizationRequest e = cc
advice_is_kept groups.AuthorizationResponse e = cc
advice_is_kept groups.Advice e = refl
advice_is_kept groups.Reversal e = refl
advice_is_kept groups.AdviceResponse e = cc
advice_is_kept groups.ReversalResponse e = cc

pub advice_kind_group : (a b : Bool) → is_advice_group (group (sent_kind a b)) ≡ true
advice_kind_group true true = refl
advice_kind_group true false = refl
advice_kind_group false true = refl
advice_kind_group false false = refl

pub advice_kind_04xx : (a b : Bool) → is_04xx (sent_kind a b) ≡ a
advice_kind_04xx true true = refl
advice_kind_04xx true false = refl
advice_kind_04xx false true = refl
advice_kind_04xx false false = refl

pub as_kind_identity : (k : Kind) (m : Fields) → is_04xx k ≡ is_04xx m.kind → identity_of (as_kind k m) ≡ identity_of m
unfolding identity_of get
as_kind_identity k m e =
    let b = as_kind_key k m e in
    λ j. record { kind = advice_kind (e j); key = b j; forwarder = padded_or_zeros (get m 33) }

pub kept_alike : (m : Fields) → Alike (as_kept m) m
kept_alike m = record { id = as_kind_identity (if is_04xx m.kind then K0420 else K0120) m (as_kept_04xx m); content_is = as_kept_content m }

pub sent_alike : (x : Fields) (again : Bool) → Alike x (as_kind (sent_kind (is_04xx x.kind) again) x)
sent_alike x again = record { id = sym (as_kind_identity (sent_kind (is_04xx x.kind) again) x (advice_kind_04xx (is_04xx x.kind) again)); content_is = sym (as_kind_content (sent_kind (is_04xx x.kind) again) x) }

-- the key of a made stand-in
pub made_stand_in_key : (m : Fields) (id : Bytes) → is_request m.kind ≡ true → key_of (made_stand_in m id) ≡ key_of m
unfolding key_of own_key made_stand_in Rattle.iso_message.specs.Made.made_from Rattle.iso_message.specs.Fields.set_element
made_stand_in_key m id r =
    let a = el_made K0120 m id code_00 32 refl refl refl in
    let b = el_made K0120 m id code_00 11 refl refl refl in
    let c = el_made K0120 m id code_00 7 refl refl refl in
    rw (Rattle.network_law.proofs.Node.request_no_04xx m.kind r) (λ j. record { acquirer = Rattle.card_digits.specs.Numbers.pad11 (a j); trace = b j; time = c j })

pub content_made_stand_in : (m : Fields) (id : Bytes) → content (made_stand_in m id) ≡ content m
unfolding content made_stand_in
content_made_stand_in m id =
    let a = el_made K0120 m id code_00 2 refl refl refl in
    let b = el_made K0120 m id code_00 3 refl refl refl in
    let c = el_made K0120 m id code_00 4 refl refl refl in
    let d = el_made K0120 m id code_00 49 refl refl refl in
    λ j. record { card = a j; processing = b j; amount = c j; currency = d j }

-- an answer with 00 was put out, so the key is answered
pub answered_00 : (h : History) (k : Key) → answer h k ≡ None → has_00 h k ≡ false
unfolding answer has_00
answered_00 [] k e = refl
answered_00 (In i ∷ h) k e = answered_00 h k e
answered_00 (Out i o ∷ h) k e = go (answer h k) refl e (answered_00 h k)
  where
    none_of : (w : Option Fields) → answers k w ≡ None → is_00_of k w ≡ false
    none_of None e = refl
    none_of (Some m) e = test (is_answer m.kind && key_eq (key_of m) k) refl (bytes_eq (code_of m) code_00) refl
      where
        test : (b : Bool) → (is_answer m.kind && key_eq (key_of m) k) ≡ b → (c : Bool) → bytes_eq (code_of m) code_00 ≡ c → ((is_answer m.kind && key_eq (key_of m) k) && bytes_eq (code_of m) code_00) ≡ false
        test false at c at' = rw at refl
        test true at false at' = rw (at, at') refl
        test true at true at' =
            let same : code_of m ≡ code_00 = bytes_eq_is (code_of m) code_00 at' in
            let n94 : bytes_eq (code_of m) code_94 ≡ false = ap (λ z. bytes_eq z code_94) same in
            absurd (none_some m (sym (rw (at, n94) at e)))

    go : (w : Option Fields) → answer h k ≡ w → option_or (answer h k) (answers k (sent o)) ≡ None → (answer h k ≡ None → has_00 h k ≡ false) → (has_00 h k || is_00_of k (sent o)) ≡ false
    go (Some a) at e rest = absurd (none_some a (sym (rw at at e)))
    go None at e rest = let x = none_of (sent o) (rw at at e) in rw (rest at, x) refl

-- identities of others
pub no_identity : (id : AdviceId) (a : Advice) → (identity_of a.message ≡ id → ⊥) → has_identity id a ≡ false
no_identity id a other = go (has_identity id a) refl
  where
    go : (b : Bool) → has_identity id a ≡ b → has_identity id a ≡ false
    go true at = absurd (other (identity_eq_is (identity_of a.message) id at))
    go false at = at

pub add_other : (id : AdviceId) (a : Advice) (as' : List Advice) → (identity_of a.message ≡ id → ⊥) → list_any (has_identity id) (add_advice a as') ≡ list_any (has_identity id) as'
add_other id a as' other = cond_both (list_any (has_identity (identity_of a.message)) as') as' (a ∷ as') (λ z. list_any (has_identity id) z ≡ list_any (has_identity id) as') (λ _. refl) (λ _. rw (no_identity id a other) refl)

-- the kinds of identities of made messages
pub reversal_reverses : (m : Fields) (id : Bytes) → (identity_of (made_reversal m id)).kind ≡ Reversal
unfolding identity_of
reversal_reverses m id = ap (λ k. advice_kind (is_04xx k)) (reversal_kind m id)

pub stand_in_stands : (m : Fields) (id : Bytes) → (identity_of (made_stand_in m id)).kind ≡ StandIn
unfolding identity_of
stand_in_stands m id = ap (λ k. advice_kind (is_04xx k)) (made_stand_in_kind m id)

pub identity_key : (x : Fields) → (identity_of x).key ≡ key_of x
unfolding identity_of
identity_key x = refl

-- what an answer marks
pub marks_out : (t : Network) (n : ℕ) (i : ReadInput) (o : ReadOutput) (h : History) (own : Option Key) (adv : List Advice) → own_approval h i o ≡ own → is_ok_ack (sent o) ≡ false → add_made (λ m. made_reversal m (node_id t n)) (count_of h) (option_and_then (opening t h) (failed_key t h i (sent o))) (advices t n h) ≡ adv → advices t n (Out i o ∷ h) ≡ add_made (λ m. made_stand_in m (node_id t n)) (count_of h) (option_and_then (opening t h) own) adv
unfolding advices
marks_out t n i o h own adv e ack mark = rw (ack, e, mark) refl

pub opening_out : (t : Network) (i : ReadInput) (o : ReadOutput) (h : History) (k : Key) → opening t (Out i o ∷ h) k ≡ opening t h k
unfolding opening
opening_out t i o h k = refl

-- an answer of another key
pub other_answers : (h : History) (i : ReadInput) (j : Key) (o : ReadOutput) (m : Fields) → sent o ≡ Some m → (key_of m ≡ j → ⊥) → answer (Out i o ∷ h) j ≡ answer h j
unfolding answer
other_answers h i j o m e other = rw e (go (answer h j) (is_answer m.kind) (key_eq (key_of m) j) refl)
  where
    go : (w : Option Fields) (a b : Bool) → key_eq (key_of m) j ≡ b → option_or w (cond (a && b && not (bytes_eq (code_of m) code_94)) (Some m) None) ≡ w
    go (Some x) a b at = refl
    go None true true at = absurd (other (key_eq_is (key_of m) j at))
    go None true false at = refl
    go None false b at = refl

-- what a late 00 marks
pub marks_in : (t : Network) (n : ℕ) (i : ReadInput) (h : History) (k : Key) (op : Opening) → late_key h (advices t n h) i ≡ Some k → opening t h k ≡ Some op → advices t n (In i ∷ h) ≡ add_advice (record { message = made_reversal op.message (node_id t n); count = count_of h; own = true; acked = false }) (map (acked_by i) (advices t n h))
unfolding advices
marks_in t n i h k op e o = rw (e, o) refl

pub marks_none : (t : Network) (n : ℕ) (i : ReadInput) (o : ReadOutput) (h : History) → own_approval h i o ≡ None → failed_key t h i (sent o) ≡ None → is_ok_ack (sent o) ≡ false → advices t n (Out i o ∷ h) ≡ advices t n h
unfolding advices
marks_none t n i o h a b c = rw (a, b, c) refl

pub has_in : (h : History) (i : ReadInput) (k : Key) → has_00 h k ≡ true → has_00 (In i ∷ h) k ≡ true
unfolding has_00
has_in h i k e = e

pub answer_in : (h : History) (i : ReadInput) (k : Key) → answer (In i ∷ h) k ≡ answer h k
unfolding answer
answer_in h i k = refl

pub request_no_answer : (k : Kind) → is_request k ≡ true → is_answer k ≡ false
request_no_answer K0100 e = refl
request_no_answer K0101 e = refl
request_no_answer K0110 e = cc
request_no_answer K0120 e = cc
request_no_answer K0121 e = cc
request_no_answer K0130 e = cc
request_no_answer K0400 e = cc
request_no_answer K0401 e = cc
request_no_answer K0410 e = cc
request_no_answer K0420 e = cc
request_no_answer K0421 e = cc
request_no_answer K0430 e = cc

-- a request brings no 00
pub request_brings_none : (t : Network) (past h : History) (j : ReadInput) (m : Fields) (src : Source) → handled_as t past j m src → is_request m.kind ≡ true → brings_00 h (key_of m) j ≡ false
unfolding handled
request_brings_none t past h (Enter x) m src e r = refl
request_brings_none t past h (Take l s x) m src e r =
    let same : x ≡ m = ap (λ (z : Handled). z.message) (same_Some _ _ e) in
    let a : is_answer x.kind ≡ false = ap (λ z. is_answer (Fields.kind z)) same ∙ request_no_answer m.kind r in
    rw a refl
request_brings_none t past h (LinkUp l) m src e r = refl
request_brings_none t past h (LinkDown l) m src e r = refl
request_brings_none t past h Tick m src e r = refl
request_brings_none t past h (HostAnswer a c) m src e r = absurd (none_some _ e)
request_brings_none t past h (NewDate d) m src e r = refl
request_brings_none t past h (TakePacket lk sr pk) m src e r = refl
request_brings_none t past h (Lend br cd dt am) m src e r = refl

-- what isn't open is not answered
pub unopened : {t : Network} {n : ℕ} {past : History} → LateFacts t n past → (k : Key) → opening t past k ≡ None → answer past k ≡ None
unopened {t = t} {past = past} late k e = go (Rattle.network_law.specs.Claims.answered_by past k) refl
  where
    go : (w : Option ReadInput) → Rattle.network_law.specs.Claims.answered_by past k ≡ w → answer past k ≡ None
    go None at = answer_when past k at
    go (Some j) at = let r = late.open_answers k j at in absurd (none_some r.0 (sym e ∙ r.1))

pub in_later : {X : Type 0} (xs ys : List X) (x : X) → IsIn x ys → IsIn x (xs ++ ys)
in_later [] ys x m = m
in_later (z ∷ zs) ys x m = inr (in_later zs ys x m)

pub no_in : (i j : ReadInput) (o : ReadOutput) → In i ≡ Out j o → ⊥
no_in i j o e = cc

pub out_is : (i j : ReadInput) (o p : ReadOutput) → Out i o ≡ Out j p → o ≡ p
out_is i j o p e = cc

pub ack_no_answer : (k : Kind) → group k ≡ groups.AdviceResponse → is_answer k ≡ false
ack_no_answer K0100 e = refl
ack_no_answer K0101 e = refl
ack_no_answer K0110 e = cc
ack_no_answer K0120 e = refl
ack_no_answer K0121 e = refl
ack_no_answer K0130 e = refl
ack_no_answer K0400 e = refl
ack_no_answer K0401 e = refl
ack_no_answer K0410 e = refl
ack_no_answer K0420 e = refl
ack_no_answer K0421 e = refl
ack_no_answer K0430 e = refl

pub reply_no_answer : (k : Kind) → group k ≡ groups.ReversalResponse → is_answer k ≡ false
reply_no_answer K0100 e = refl
reply_no_answer K0101 e = refl
reply_no_answer K0110 e = cc
reply_no_answer K0120 e = refl
reply_no_answer K0121 e = refl
reply_no_answer K0130 e = refl
reply_no_answer K0400 e = refl
reply_no_answer K0401 e = refl
reply_no_answer K0410 e = refl
reply_no_answer K0420 e = refl
reply_no_answer K0421 e = refl
reply_no_answer K0430 e = refl

-- what is entered brings no late 00
pub gate_brings_none : (t : Network) (past : History) (i : ReadInput) (as' : List Advice) (m : Fields) → handled_as t past i m Gate → late_key past as' i ≡ None
unfolding handled
gate_brings_none t past (Take l s x) as' m e = absurd (no_gate (ap (λ (z : Handled). z.source) (same_Some _ _ e)))
  where
    no_gate : ByLink l ≡ Gate → ⊥
    no_gate p = cc
gate_brings_none t past (Enter x) as' m e = refl
gate_brings_none t past (LinkUp l) as' m e = refl
gate_brings_none t past (LinkDown l) as' m e = refl
gate_brings_none t past Tick as' m e = refl
gate_brings_none t past (HostAnswer a c) as' m e = absurd (none_some _ e)
gate_brings_none t past (NewDate d) as' m e = refl
gate_brings_none t past (TakePacket lk sr pk) as' m e = refl
gate_brings_none t past (Lend br cd dt am) as' m e = refl

-- no key stands twice
abbrev pub NoRepeat : List Key → Type 0
NoRepeat [] = 0 ≤ 0
NoRepeat (k ∷ ks) = (IsIn k ks → ⊥) × NoRepeat ks
