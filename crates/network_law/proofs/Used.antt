-- A node's own approvals stay within its limit, and only a node with a limit approves by itself.
use Rattle.std.proofs.Common.{◌≡◌, ℕ, suc, ◌+◌, ◌≤◌, ◌<◌, List, [], ◌∷◌, ◌++◌, map, Option, Some, None, Bool, true, false, cond, not, ◌&&◌, ◌||◌, refl, sym, ap, ◌∙◌, subst, inl, inr, ⊎_elim, ◌⊎◌, arith, bytes_eq, eqb, nat_lt, length, unwrap_or, is_none}
use Rattle.std.specs.Prelude.{min, Contains}
use Rattle.std.proofs.lemmas.Bool.{and_parts, or_right, or_parts, eqb-false, eqb-true, ltb-false, cond_both, cases_lt}
use Rattle.std.proofs.lemmas.Option.{same_Some}
use Rattle.std.specs.Option.{option_and_then}
use Rattle.std.specs.List.{list_any}
use Rattle.card_digits.specs.Numbers.{decimal}
use Rattle.net_rows.specs.Network.{Network, issuer, day, stand_in}
use Rattle.network_law.proofs.Lending.{LentMore, lent_in, borrowed_in, BorrowsNamed, borrows_in, borrowed_some}
use Rattle.net_rows.specs.declared.row.Issuer.{Issuer}
use Rattle.network_law.specs.Tables.{node_id, single, is_named}
use Rattle.network_law.specs.Traces.{Source, Gate, ByLink, ReadInput, Enter, Take, LinkUp, LinkDown, Tick, HostAnswer, NewDate, TakePacket, Lend, ReadOutput, Put, Answer, Ask, Post, Event, In, Out, History, Opening, opening, answer, answers, sent, has_00, is_00_of, brings_00, key_of_00, own_in, own_approval, Approval, approval_by, approval_of, approvals, Advice, advices, add_advice, add_made, add_accepted, acked_by, has_identity, reverses_key, reversed, left_by, left_of, left, counted, added, used, lent, grants, borrowed, taken, allowance, ask_key, key_asked, is_key, count_of, late_key, failed_key, is_ok_ack, handled, IsIn}
use Rattle.network_law.specs.Decision.{decide, reply_output, sent_kind, standin_code, limit, code_by_limits}
use Rattle.network_law.specs.Refusals.{refusal}
use Rattle.network_law.specs.Entries.{ReadEntry, read_history}
use Rattle.network_law.proofs.ReadRuns.{IsFormed, IsLegalRead, IsReadRun}
use Rattle.network_law.specs.Checked.{IsBounded}
use Rattle.network_law.specs.Claims.{IsWithinLimits, NamedApprovers}
use Rattle.message_keys.proofs.Equality.{key_eq_refl, bytes_eq_is}
use Rattle.network_law.proofs.Emits.{Allowed, forwarding, asking, standing_in, passing, declining, repeating, refusing, acking, sending, posting, putting_packet, Forwarding, Asking, StandingIn, Passing, Declining, Repeating, Refusing, Acking, Sending, Posting, is_kept_group, Issued, decide_keeps}
use Rattle.network_law.proofs.Node.{NodeFacts, EntryFacts, Opened, legal_facts, facts_in, facts_out, facts_decide, keeps_issuers, answers_is, response_is_of_kind}
use Rattle.network_law.proofs.Elements.{code_response, response_key}
use Rattle.network_law.proofs.Ends.{legal_at, histories}
use Rattle.network_law.specs.Cards.{label_of, Bytes, card_of}
use Rattle.message_keys.specs.Amounts.{actual_amount}
use Rattle.iso_message.specs.Fields.{Fields, el, as_kind}
use Rattle.message_elements.specs.declared.kind.Kind.{Kind}
use Rattle.message_elements.specs.declared.kind.Kind.TheVariants.{K0100, K0110, K0120, K0121, K0130, K0400, K0401, K0410, K0420, K0421, K0430, K0101}
use Rattle.message_elements.specs.Groups.{group, is_request, is_answer, is_04xx, response_kind, is_advice_group}
use Rattle.card_digits.specs.declared.key.Key.{Key}
use Rattle.message_keys.specs.Keys.{key_of, key_eq, code_of}
use Rattle.message_elements.specs.Codes.{code_00, code_57, code_61, code_94}
use Rattle.iso_message.specs.Made.{response, made_reversal, made_stand_in}

not_both : (b : Bool) → b ≡ true → b ≡ false → ⊥
not_both b p q = cc

-- more marks only add

pub any_more : {X : Type 0} (p : X → Bool) (x : X) (xs : List X) → list_any p xs ≡ true → list_any p (x ∷ xs) ≡ true
any_more p x xs e = go (p x) refl
  where
    go : (b : Bool) → p x ≡ b → (p x || list_any p xs) ≡ true
    go true at = rw at refl
    go false at = rw (at, e) refl

pub add_advice_keeps : (p : Advice → Bool) (a : Advice) (as' : List Advice) → list_any p as' ≡ true → list_any p (add_advice a as') ≡ true
add_advice_keeps p a as' e = cond_both _ as' (a ∷ as') (λ z. list_any p z ≡ true) (λ _. e) (λ _. any_more p a as' e)

pub add_made_keeps : (p : Advice → Bool) (make : Fields → Fields) (count : ℕ) (o : Option Opening) (as' : List Advice) → list_any p as' ≡ true → list_any p (add_made make count o as') ≡ true
add_made_keeps p make count None as' e = e
add_made_keeps p make count (Some op) as' e = add_advice_keeps p (record { message = make op.message; count = count; own = true; acked = false }) as' e

pub add_accepted_keeps : (p : Advice → Bool) (count : ℕ) (b : Bool) (o : Option Rattle.network_law.specs.Traces.Handled) (as' : List Advice) → list_any p as' ≡ true → list_any p (add_accepted count b o as') ≡ true
add_accepted_keeps p count true (Some x) as' e = cond_both (is_advice_group (group x.message.kind)) _ as' (λ z. list_any p z ≡ true) (λ _. add_advice_keeps p _ as' e) (λ _. e)
add_accepted_keeps p count true None as' e = e
add_accepted_keeps p count false o as' e = e

abbrev reverses : Key → Advice → Bool
reverses k a = not a.own && reverses_key k a

acked_same : (k : Key) (i : ReadInput) (a : Advice) → reverses k (acked_by i a) ≡ reverses k a
acked_same k (Take l s m) a = refl
acked_same k (Enter m) a = refl
acked_same k (LinkUp l) a = refl
acked_same k (LinkDown l) a = refl
acked_same k Tick a = refl
acked_same k (HostAnswer b c) a = refl
acked_same k (NewDate d) a = refl
acked_same k (TakePacket lk sr pk) a = refl
acked_same k (Lend br cd dt am) a = refl

any_acked : (k : Key) (i : ReadInput) (as' : List Advice) → list_any (reverses k) (map (acked_by i) as') ≡ list_any (reverses k) as'
any_acked k i [] = refl
any_acked k i (a ∷ as') = ap (λ b. b || list_any (reverses k) (map (acked_by i) as')) (acked_same k i a) ∙ ap (λ b. reverses k a || b) (any_acked k i as')

pub reversed_more : (t : Network) (n : ℕ) (e : Event) (h : History) (k : Key) → reversed t n h k ≡ true → reversed t n (e ∷ h) k ≡ true
unfolding reversed advices
reversed_more t n (In i) h k r = add_made_keeps (reverses k) (λ m. made_reversal m (node_id t n)) (count_of h) (option_and_then (opening t h) (late_key h (advices t n h) i)) (map (acked_by i) (advices t n h)) (any_acked k i (advices t n h) ∙ r)
reversed_more t n (Out i o) h k r =
    add_accepted_keeps (reverses k) (count_of h) (is_ok_ack (sent o)) (handled t h i) (add_made (λ m. made_stand_in m (node_id t n)) (count_of h) (option_and_then (opening t h) (own_approval h i o)) (add_made (λ m. made_reversal m (node_id t n)) (count_of h) (option_and_then (opening t h) (failed_key t h i (sent o))) (advices t n h)))
    (add_made_keeps (reverses k) (λ m. made_stand_in m (node_id t n)) (count_of h) (option_and_then (opening t h) (own_approval h i o)) (add_made (λ m. made_reversal m (node_id t n)) (count_of h) (option_and_then (opening t h) (failed_key t h i (sent o))) (advices t n h))
    (add_made_keeps (reverses k) (λ m. made_reversal m (node_id t n)) (count_of h) (option_and_then (opening t h) (failed_key t h i (sent o))) (advices t n h) r))

-- has_00 and what brings a 00 stay

pub has_00_more : (h : History) (e : Event) (k : Key) → has_00 h k ≡ true → has_00 (e ∷ h) k ≡ true
unfolding has_00
has_00_more h (In i) k r = r
has_00_more h (Out i o) k r = rw r refl

pub ask_key_more : (h : History) (i : ReadInput) (o : ReadOutput) (a : ℕ) (k : Key) → ask_key h a ≡ Some k → ask_key (Out i o ∷ h) a ≡ Some k
unfolding ask_key
ask_key_more h i o a k e = rw e refl

is_key_some : (k : Key) (o : Option Key) → is_key k o ≡ true → (j : Key) × (o ≡ Some j) × (key_eq j k ≡ true)
is_key_some k None e = absurd (not_both false e refl)
is_key_some k (Some j) e = (j, refl, e)

pub brings_more : (h : History) (j : ReadInput) (o : ReadOutput) (k : Key) (i : ReadInput) → brings_00 h k i ≡ true → brings_00 (Out j o ∷ h) k i ≡ true
brings_more h j o k (Take l s m) r = r
brings_more h j o k (HostAnswer a c) r =
    let p = and_parts (is_key k (ask_key h a)) (bytes_eq c code_00) r in
    let q = is_key_some k (ask_key h a) p.0 in
    rw (ask_key_more h j o a q.0 q.1, q.2, p.1) refl
brings_more h j o k (Enter m) r = r
brings_more h j o k (LinkUp l) r = r
brings_more h j o k (LinkDown l) r = r
brings_more h j o k Tick r = r
brings_more h j o k (NewDate d) r = r
brings_more h j o k (TakePacket lk sr pk) r = r
brings_more h j o k (Lend br cd dt am) r = r

-- an answer with 00 has been put out
pub answer_has_00 : (h : History) (k : Key) (m : Fields) → answer h k ≡ Some m → bytes_eq (code_of m) code_00 ≡ true → has_00 h k ≡ true
unfolding answer has_00
answer_has_00 [] k m e z = cc
answer_has_00 (In i ∷ h) k m e z = answer_has_00 h k m e z
answer_has_00 (Out i o ∷ h) k m e z = go (answer h k) refl (answer_has_00 h k m)
  where
    go : (x : Option Fields) → answer h k ≡ x → (answer h k ≡ Some m → bytes_eq (code_of m) code_00 ≡ true → has_00 h k ≡ true) → (has_00 h k || is_00_of k (sent o)) ≡ true
    go (Some x) at rest = rw (rest (at ∙ (rw at at e)) z) refl
    go None at rest =
        let a = answers_is k (sent o) m (rw at at e) in
        or_right (has_00 h k) (is_00_of k (sent o)) (rw (a.0, a.1, a.2, key_eq_refl k, z) refl)

-- what the own approval of a key says

pub record OwnNow (h : History) (i : ReadInput) (o : ReadOutput) (k : Key) : Type 0 where
  pub message : Fields
  pub is : sent o ≡ Some message
  pub answer_kind : is_answer message.kind ≡ true
  pub code : bytes_eq (code_of message) code_00 ≡ true
  pub key : key_of message ≡ k
  pub none_before : has_00 h k ≡ false
  pub not_brought : brings_00 h k i ≡ false

pub own_now : (h : History) (i : ReadInput) (o : ReadOutput) (k : Key) → own_approval h i o ≡ Some k → OwnNow h i o k
own_now h i o k e = by_message (sent o) refl e
  where
    none_some : (x : Key) → None ≡ Some x → ⊥
    none_some x p = cc

    by_key : (m : Fields) → sent o ≡ Some m → (b : Bool) → (is_answer m.kind && bytes_eq (code_of m) code_00) ≡ b → own_in h i (cond (is_answer m.kind && bytes_eq (code_of m) code_00) (Some (key_of m)) None) ≡ Some k → OwnNow h i o k
    by_key m is false at e = absurd (none_some k (rw at at e))
    by_key m is true at e = by_past (has_00 h (key_of m) || brings_00 h (key_of m) i) refl (rw at at e)
      where
        by_past : (b : Bool) → (has_00 h (key_of m) || brings_00 h (key_of m) i) ≡ b → cond (has_00 h (key_of m) || brings_00 h (key_of m) i) None (Some (key_of m)) ≡ Some k → OwnNow h i o k
        by_past true past e = absurd (none_some k (rw past at e))
        by_past false past e =
            let same : key_of m ≡ k = same_Some _ _ (rw past at e) in
            let p = and_parts (is_answer m.kind) (bytes_eq (code_of m) code_00) at in
            let q = or_parts (has_00 h (key_of m)) (brings_00 h (key_of m) i) past in
            record { message = m; is = is; answer_kind = p.0; code = p.1; key = same; none_before = ap (has_00 h) (sym same) ∙ q.0; not_brought = ap (λ z. brings_00 h z i) (sym same) ∙ q.1 }

    by_message : (w : Option Fields) → sent o ≡ w → own_in h i (key_of_00 (sent o)) ≡ Some k → OwnNow h i o k
    by_message None is e = absurd (none_some k (rw is at e))
    by_message (Some m) is e = by_key m is (is_answer m.kind && bytes_eq (code_of m) code_00) refl (rw is at e)

-- within an entry
pub record OwnFacts (t : Network) (n : ℕ) (past : History) (i : ReadInput) (h : History) : Type 0 where
  pub entry : EntryFacts t n past i h
  pub stays_00 : (k : Key) → has_00 past k ≡ true → has_00 h k ≡ true
  pub stays_brought : (k : Key) → brings_00 past k i ≡ true → brings_00 h k i ≡ true

-- a stand-in with 00
pub record Stood (t : Network) (n : ℕ) (h : History) (k : Key) : Type 0 where
  pub op : Opening
  pub s : Issuer
  pub opens : opening t h k ≡ Some op
  pub issued : issuer t (card_of op.message) ≡ Some s
  pub code : bytes_eq (standin_code t n h op.message) code_00 ≡ true

pub sent_reply : (src : Source) (m : Fields) (h : History) → sent (reply_output src m h) ≡ Some m
sent_reply Gate m h = refl
sent_reply (ByLink l) m h = refl

pub reply_message : (src : Source) (m : Fields) (h : History) (o : ReadOutput) (x : Fields) → o ≡ reply_output src m h → sent o ≡ Some x → m ≡ x
reply_message src m h o x is e = same_Some m x (sym (sent_reply src m h) ∙ (ap sent (sym is) ∙ e))

pub acked_kind : (k : Kind) → is_kept_group (group k) ≡ true → is_answer (response_kind k) ≡ false
acked_kind K0100 e = cc
acked_kind K0101 e = cc
acked_kind K0110 e = cc
acked_kind K0120 e = refl
acked_kind K0121 e = refl
acked_kind K0130 e = refl
acked_kind K0400 e = refl
acked_kind K0401 e = refl
acked_kind K0410 e = refl
acked_kind K0420 e = refl
acked_kind K0421 e = refl
acked_kind K0430 e = refl

pub advice_no_answer : (a b : Bool) → is_answer (sent_kind a b) ≡ false
advice_no_answer true true = refl
advice_no_answer true false = refl
advice_no_answer false true = refl
advice_no_answer false false = refl

-- the code of a response that stands in the output
pub response_code : (m : Fields) (c : Bytes) (x : Fields) → response m c ≡ x → code_of x ≡ c
response_code m c x e = ap code_of (sym e) ∙ code_response m c

open_here : (t : Network) (n : ℕ) (past : History) (i : ReadInput) (h : History) (e : EntryFacts t n past i h) (op : Opening) (k : Key) → opening t (In i ∷ past) k ≡ Some op → (opening t h k ≡ Some op) × (key_of op.message ≡ k) × (is_request op.message.kind ≡ true)
open_here t n past i h e op k is =
    let now : opening t h k ≡ Some op = e.opening_is k ∙ is in
    let w = e.node.opens k op now in
    (now, w.key, w.request)

-- a key that the node approves by itself is stood in for
pub own_stands : (t : Network) (n : ℕ) (past : History) (i : ReadInput) (h : History) (o : ReadOutput) (k : Key) → OwnFacts t n past i h → Allowed t n past i h o → own_approval h i o ≡ Some k → (f : StandingIn t n past i h o) × (f.opens.key ≡ k)
own_stands t n past i h o k facts allowed own = go allowed
  where
    w : OwnNow h i o k
    w = own_now h i o k own

    ends : {A : Type 0} (b : Bool) → b ≡ true → b ≡ false → A
    ends b p q = absurd (not_both b p q)

    go : Allowed t n past i h o → (f : StandingIn t n past i h o) × (f.opens.key ≡ k)
    go (forwarding f) =
        let same : as_kind K0100 f.message ≡ w.message = same_Some _ _ (ap sent (sym f.is) ∙ w.is) in
        ends (is_answer w.message.kind) w.answer_kind (ap (λ z. is_answer (Fields.kind z)) (sym same))
    go (asking f) = absurd (no (ap sent (sym f.is) ∙ w.is))
      where
        no : None ≡ Some w.message → ⊥
        no p = cc
    go (standing_in f) =
        let same : response f.op.message (standin_code t n h f.op.message) ≡ w.message = reply_message f.op.source _ h o w.message f.is w.is in
        let here = open_here t n past i h facts.entry f.op f.opens.key f.opens.is in
        let key : f.opens.key ≡ k = sym here.1 ∙ (sym (response_key f.op.message (standin_code t n h f.op.message) here.2) ∙ (ap key_of same ∙ w.key)) in
        (f, key)
    go (passing f) =
        let same : response f.op.message f.code ≡ w.message = reply_message f.op.source _ h o w.message f.is w.is in
        let here = open_here t n past i h facts.entry f.op f.key (Rattle.network_law.proofs.Emits.stays_open t past i f.key f.op f.opens) in
        let key : f.key ≡ k = sym here.1 ∙ (sym (response_key f.op.message f.code here.2) ∙ (ap key_of same ∙ w.key)) in
        let code : bytes_eq f.code code_00 ≡ true = ap (λ c. bytes_eq c code_00) (sym (response_code f.op.message f.code w.message same)) ∙ w.code in
        ends (brings_00 h k i) (ap (λ z. brings_00 h z i) (sym key) ∙ facts.stays_brought f.key (f.brought code)) w.not_brought
    go (declining f) =
        let same : response f.op.message f.code ≡ w.message = reply_message f.op.source _ h o w.message f.is w.is in
        ends (bytes_eq f.code code_00) (ap (λ c. bytes_eq c code_00) (sym (response_code f.op.message f.code w.message same)) ∙ w.code) f.not_00
    go (repeating f) =
        let same : f.before ≡ w.message = reply_message f.source f.before h o w.message f.is w.is in
        let key : f.key ≡ k = sym ((Rattle.network_law.proofs.Node.answer_is past f.key f.before f.answered).1) ∙ (ap key_of same ∙ w.key) in
        let code : bytes_eq (code_of f.before) code_00 ≡ true = ap (λ z. bytes_eq (code_of z) code_00) same ∙ w.code in
        ends (has_00 h k) (ap (has_00 h) (sym key) ∙ facts.stays_00 f.key (answer_has_00 past f.key f.before f.answered code)) w.none_before
    go (refusing f) =
        let same : response f.message code_94 ≡ w.message = reply_message f.source _ h o w.message f.is w.is in
        ends (bytes_eq code_94 code_00) (ap (λ c. bytes_eq c code_00) (sym (response_code f.message code_94 w.message same)) ∙ w.code) refl
    go (acking f) =
        let same : response f.message f.code ≡ w.message = reply_message f.source _ h o w.message f.is w.is in
        ends (is_answer w.message.kind) w.answer_kind (ap (λ z. is_answer (Fields.kind z)) (sym same) ∙ (ap is_answer (response_is_of_kind f.message f.code) ∙ acked_kind f.message.kind f.kind))
    go (sending f) =
        let same : as_kind (sent_kind (is_04xx f.message.kind) f.again) f.message ≡ w.message = same_Some _ _ (ap sent (sym f.is) ∙ w.is) in
        ends (is_answer w.message.kind) w.answer_kind (ap (λ z. is_answer (Fields.kind z)) (sym same) ∙ advice_no_answer (is_04xx f.message.kind) f.again)
    go (putting_packet f) = absurd (no (ap sent (sym f.is) ∙ w.is))
      where
        no : None ≡ Some w.message → ⊥
        no p = cc
    go (posting f) = absurd (no (ap sent (sym f.is) ∙ w.is))
      where
        no : None ≡ Some w.message → ⊥
        no p = cc

pub own_case : (t : Network) (n : ℕ) (past : History) (i : ReadInput) (h : History) (o : ReadOutput) (k : Key) → OwnFacts t n past i h → Allowed t n past i h o → own_approval h i o ≡ Some k → Stood t n h k
own_case t n past i h o k facts allowed own =
    let r = own_stands t n past i h o k facts allowed own in
    let w = own_now h i o k own in
    let f = r.0 in
    let here = open_here t n past i h facts.entry f.op f.opens.key f.opens.is in
    let same : response f.op.message (standin_code t n h f.op.message) ≡ w.message = reply_message f.op.source _ h o w.message f.is w.is in
    record { op = f.op; s = f.s; opens = ap (opening t h) (sym r.1) ∙ here.0; issued = f.issued; code = ap (λ c. bytes_eq c code_00) (sym (response_code f.op.message (standin_code t n h f.op.message) w.message same)) ∙ w.code }

-- the limits

pub record WithinLimits (day sum : ℕ) : Type 0 where
  pub some : 0 < day
  pub all : sum ≤ day

code_within : (day single : ℕ) (currency : Bytes) (u : ℕ) (m : Fields) (amount : ℕ) → bytes_eq (code_by_limits day single currency u m amount) code_00 ≡ true → WithinLimits day (u + amount)
code_within day single currency u m amount e = first (eqb day 0) refl e
  where
    no : {A : Type 0} → false ≡ true → A
    no p = cc

    fourth : (b : Bool) → nat_lt day (u + amount) ≡ b → eqb day 0 ≡ false → bytes_eq (cond (nat_lt day (u + amount)) code_61 code_00) code_00 ≡ true → WithinLimits day (u + amount)
    fourth true at z e = no (rw at at e)
    fourth false at z e =
        let a = eqb-false day 0 z in
        let b : u + amount ≤ day = ltb-false day (u + amount) at in
        record { some = omega (arith, a); all = b }

    third : (b : Bool) → nat_lt single amount ≡ b → eqb day 0 ≡ false → bytes_eq (cond (nat_lt single amount) code_61 (cond (nat_lt day (u + amount)) code_61 code_00)) code_00 ≡ true → WithinLimits day (u + amount)
    third true at z e = no (rw at at e)
    third false at z e = fourth (nat_lt day (u + amount)) refl z (rw at at e)

    second : (b : Bool) → not (bytes_eq (el m 49) currency) ≡ b → eqb day 0 ≡ false → bytes_eq (cond (not (bytes_eq (el m 49) currency)) code_57 (cond (nat_lt single amount) code_61 (cond (nat_lt day (u + amount)) code_61 code_00))) code_00 ≡ true → WithinLimits day (u + amount)
    second true at z e = no (rw at at e)
    second false at z e = third (nat_lt single amount) refl z (rw at at e)

    first : (b : Bool) → eqb day 0 ≡ b → bytes_eq (code_by_limits day single currency u m amount) code_00 ≡ true → WithinLimits day (u + amount)
    first true at e = no (rw at at e)
    first false at e = second (not (bytes_eq (el m 49) currency)) refl at (rw at at e)

stood_within : (t : Network) (n : ℕ) (h : History) (k : Key) (s : Stood t n h k) → WithinLimits (allowance t n h (card_of s.op.message) (label_of s.op.message)) (used t n h (card_of s.op.message) (label_of s.op.message) + decimal (el s.op.message 4))
unfolding standin_code
stood_within t n h k s = go (is_none (stand_in t n card)) refl (code_within (limit t n h card date) (single t n card) t.settings.currency (used t n h card date) s.op.message (decimal (el s.op.message 4)) s.code)
  where
    card : List ℕ
    card = card_of s.op.message

    date : List ℕ
    date = label_of s.op.message

    total : ℕ
    total = used t n h card date + decimal (el s.op.message 4)

    go : (b : Bool) → is_none (stand_in t n card) ≡ b → WithinLimits (limit t n h card date) total → WithinLimits (allowance t n h card date) total
    go true at w = let e : limit t n h card date ≡ 0 = rw at refl in let some = w.some in absurd (omega (arith, e, some))
    go false at w = let e : limit t n h card date ≡ allowance t n h card date = rw at refl in subst (λ z. WithinLimits z total) e w

-- amounts

pub left_by_less : (k : Key) (a : Advice) (x : ℕ) → left_by k a x ≤ x
left_by_less k a x = cond_both (not a.own && reverses_key k a) (min (unwrap_or (actual_amount a.message) 0) x) x (λ z. z ≤ x) (λ _. omega arith) (λ _. omega arith)

left_by_keeps : (k : Key) (a : Advice) (x y : ℕ) → x ≤ y → left_by k a x ≤ left_by k a y
left_by_keeps k a x y le = go (not a.own && reverses_key k a) refl
  where
    go : (b : Bool) → (not a.own && reverses_key k a) ≡ b → left_by k a x ≤ left_by k a y
    go true at = rw at (omega (arith, le))
    go false at = rw at le

left_acked_by : (k : Key) (i : ReadInput) (a : Advice) (x : ℕ) → left_by k (acked_by i a) x ≡ left_by k a x
left_acked_by k (Take l s m) a x = refl
left_acked_by k (Enter m) a x = refl
left_acked_by k (LinkUp l) a x = refl
left_acked_by k (LinkDown l) a x = refl
left_acked_by k Tick a x = refl
left_acked_by k (HostAnswer b c) a x = refl
left_acked_by k (NewDate d) a x = refl
left_acked_by k (TakePacket lk sr pk) a x = refl
left_acked_by k (Lend br cd dt am) a x = refl

left_acked : (k : Key) (i : ReadInput) (as' : List Advice) (x : ℕ) → left_of k (map (acked_by i) as') x ≡ left_of k as' x
left_acked k i [] x = refl
left_acked k i (a ∷ as') x = left_acked_by k i a (left_of k (map (acked_by i) as') x) ∙ ap (left_by k a) (left_acked k i as' x)

left_add : (k : Key) (a : Advice) (as' : List Advice) (x : ℕ) → left_of k (add_advice a as') x ≤ left_of k as' x
left_add k a as' x = cond_both _ as' (a ∷ as') (λ z. left_of k z x ≤ left_of k as' x) (λ _. omega arith) (λ _. left_by_less k a (left_of k as' x))

left_made : (k : Key) (make : Fields → Fields) (count : ℕ) (o : Option Opening) (as' : List Advice) (x : ℕ) → left_of k (add_made make count o as') x ≤ left_of k as' x
left_made k make count None as' x = omega arith
left_made k make count (Some op) as' x = left_add k (record { message = make op.message; count = count; own = true; acked = false }) as' x

left_accepted : (k : Key) (count : ℕ) (b : Bool) (o : Option Rattle.network_law.specs.Traces.Handled) (as' : List Advice) (x : ℕ) → left_of k (add_accepted count b o as') x ≤ left_of k as' x
left_accepted k count true (Some m) as' x = cond_both (is_advice_group (group m.message.kind)) _ as' (λ z. left_of k z x ≤ left_of k as' x) (λ _. left_add k _ as' x) (λ _. omega arith)
left_accepted k count true None as' x = omega arith
left_accepted k count false o as' x = omega arith

left_more : (t : Network) (n : ℕ) (e : Event) (h : History) (a : Approval) → left t n (e ∷ h) a ≤ left t n h a
unfolding left advices
left_more t n (In i) h a =
    let x = decimal (el a.request 4) in
    let p = left_made a.key (λ m. made_reversal m (node_id t n)) (count_of h) (option_and_then (opening t h) (late_key h (advices t n h) i)) (map (acked_by i) (advices t n h)) x in
    let q = left_acked a.key i (advices t n h) x in
    omega (arith, p, q)
left_more t n (Out i o) h a =
    let x = decimal (el a.request 4) in
    let failed = add_made (λ m. made_reversal m (node_id t n)) (count_of h) (option_and_then (opening t h) (failed_key t h i (sent o))) (advices t n h) in
    let stood = add_made (λ m. made_stand_in m (node_id t n)) (count_of h) (option_and_then (opening t h) (own_approval h i o)) failed in
    let p = left_made a.key (λ m. made_reversal m (node_id t n)) (count_of h) (option_and_then (opening t h) (failed_key t h i (sent o))) (advices t n h) x in
    let q = left_made a.key (λ m. made_stand_in m (node_id t n)) (count_of h) (option_and_then (opening t h) (own_approval h i o)) failed x in
    let r = left_accepted a.key (count_of h) (is_ok_ack (sent o)) (handled t h i) stood x in
    omega (arith, p, q, r)

left_of_less : (k : Key) (as' : List Advice) (x : ℕ) → left_of k as' x ≤ x
left_of_less k [] x = omega arith
left_of_less k (a ∷ as') x =
    let p = left_by_less k a (left_of k as' x) in
    let q = left_of_less k as' x in
    omega (arith, p, q)

pub left_less : (t : Network) (n : ℕ) (h : History) (a : Approval) → left t n h a ≤ decimal (el a.request 4)
unfolding left
left_less t n h a = left_of_less a.key (advices t n h) (decimal (el a.request 4))

picked : (b : Bool) (x y : ℕ) → x ≤ y → cond b x 0 ≤ cond b y 0
picked false x y le = omega arith
picked true x y le = le

counted_more : (t : Network) (n : ℕ) (e : Event) (h : History) (card : List ℕ) (date : List ℕ) (a : Approval) → counted t n (e ∷ h) card date a ≤ counted t n h card date a
counted_more t n e h card date a = picked (bytes_eq (card_of a.request) card && bytes_eq (label_of a.request) date) (left t n (e ∷ h) a) (left t n h a) (left_more t n e h a)

sum_less : {X : Type 0} (f g : X → ℕ) (xs : List X) → ((x : X) → f x ≤ g x) → added f xs ≤ added g xs
sum_less f g [] le = omega arith
sum_less f g (x ∷ xs) le =
    let a = le x in
    let b = sum_less f g xs le in
    omega (arith, a, b)

counted_at_most : (t : Network) (n : ℕ) (h : History) (card : List ℕ) (date : List ℕ) (a : Approval) → counted t n h card date a ≤ decimal (el a.request 4)
counted_at_most t n h card date a = cond_both (bytes_eq (card_of a.request) card && bytes_eq (label_of a.request) date) (left t n h a) 0 (λ z. z ≤ decimal (el a.request 4)) (λ _. left_less t n h a) (λ _. omega arith)

-- what counts for a card and date is of them
counted_of : (t : Network) (n : ℕ) (h : History) (card : List ℕ) (date : List ℕ) (a : Approval) → (counted t n h card date a ≡ 0) ⊎ ((card_of a.request ≡ card) × (label_of a.request ≡ date))
counted_of t n h card date a = cond_both (bytes_eq (card_of a.request) card && bytes_eq (label_of a.request) date) (left t n h a) 0 (λ z. (z ≡ 0) ⊎ ((card_of a.request ≡ card) × (label_of a.request ≡ date)))
    (λ e. inr (parts e)) (λ _. inl refl)
  where
    parts : (bytes_eq (card_of a.request) card && bytes_eq (label_of a.request) date) ≡ true → (card_of a.request ≡ card) × (label_of a.request ≡ date)
    parts e =
        let q = and_parts (bytes_eq (card_of a.request) card) (bytes_eq (label_of a.request) date) e in
        (bytes_eq_is (card_of a.request) card q.0, bytes_eq_is (label_of a.request) date q.1)

-- the limit of a card at a node, 0 without an issuer
unfoldable pub cap_of : Option Issuer → ℕ → ℕ
cap_of None day = 0
cap_of (Some s) day = day

-- the node has a limit for the card, or is named by its issuer
abbrev pub MayApprove : Network → ℕ → List ℕ → Type 0
MayApprove t n card = (0 < day t n card) ⊎ (is_named (issuer t card) n ≡ true)

abbrev IsNamedApproval : Network → ℕ → Approval → Type 0
IsNamedApproval t n a = (s : Issuer) × (issuer t (card_of a.request) ≡ Some s) × MayApprove t n (card_of a.request)

pub record UsedFacts (t : Network) (n : ℕ) (h : History) : Type 0 where
  pub named : (a : Approval) → IsIn a (approvals t h) → IsNamedApproval t n a
  pub within : (card : List ℕ) (date : List ℕ) → used t n h card date + lent t n h card date ≤ cap_of (issuer t card) (day t n card + borrowed h card date)
  pub borrows : BorrowsNamed t n (taken h)

cap_more : (o : Option Issuer) (x y : ℕ) → x ≤ y → cap_of o x ≤ cap_of o y
unfolding cap_of
cap_more None x y le = omega arith
cap_more (Some s) x y le = le

cap_named : (o : Option Issuer) (m x : ℕ) → is_named o m ≡ true → cap_of o x ≡ x
unfolding cap_of
cap_named None m x e = absurd (not_both false e refl)
cap_named (Some s) m x e = refl

used_in : (t : Network) (n : ℕ) (i : ReadInput) (h : History) → refusal t n h i ≡ None → UsedFacts t n h → UsedFacts t n (In i ∷ h)
unfolding used approvals
used_in t n i h ok f = record {
  named = f.named;
  within = λ card date. ⊎_elim (same card date) (more card date) (lent_in t n h i ok card date);
  borrows = borrows_in t n h i ok f.borrows;
}
  where
    less : (card date : List ℕ) → used t n (In i ∷ h) card date ≤ used t n h card date
    less card date = sum_less (counted t n (In i ∷ h) card date) (counted t n h card date) (approvals t h) (counted_more t n (In i) h card date)

    wider : (card date : List ℕ) → cap_of (issuer t card) (day t n card + borrowed h card date) ≤ cap_of (issuer t card) (day t n card + borrowed (In i ∷ h) card date)
    wider card date = let p = borrowed_in h i card date in cap_more (issuer t card) (day t n card + borrowed h card date) (day t n card + borrowed (In i ∷ h) card date) (omega (arith, p))

    same : (card date : List ℕ) → lent t n (In i ∷ h) card date ≡ lent t n h card date → used t n (In i ∷ h) card date + lent t n (In i ∷ h) card date ≤ cap_of (issuer t card) (day t n card + borrowed (In i ∷ h) card date)
    same card date e =
        let a = f.within card date in
        let b = less card date in
        let c = wider card date in
        omega (arith, a, b, c, e)

    more : (card date : List ℕ) → LentMore t n h i card date → used t n (In i ∷ h) card date + lent t n (In i ∷ h) card date ≤ cap_of (issuer t card) (day t n card + borrowed (In i ∷ h) card date)
    more card date e =
        let a = e.1 in
        let b = less card date in
        let c = borrowed_in h i card date in
        let d = cap_named (issuer t card) e.0.0 (day t n card + borrowed (In i ∷ h) card date) e.0.1 in
        omega (arith, a, b, c, d)

-- an approval within the allowance is of a card of which the node has a limit or borrowed
approves : (t : Network) (n : ℕ) (h : History) (card date : List ℕ) → BorrowsNamed t n (taken h) → 0 < allowance t n h card date → MayApprove t n card
unfolding borrowed
approves t n h card date named some = ⊎_elim inl from (cases_lt 0 (day t n card))
  where
    from : day t n card ≤ 0 → MayApprove t n card
    from none =
        let r = borrowed_some card date (taken h) (omega (arith, some, none)) in
        inr (subst (λ x. is_named (issuer t x) n ≡ true) r.2 (named r.0 r.1).0)

used_out : (t : Network) (n : ℕ) (i : ReadInput) (o : ReadOutput) (h : History) → ((k : Key) → own_approval h i o ≡ Some k → Stood t n h k) → UsedFacts t n h → UsedFacts t n (Out i o ∷ h)
unfolding used approvals cap_of lent grants borrowed taken
used_out t n i o h stood f = go (own_approval h i o) refl
  where
    cap : List ℕ → List ℕ → ℕ
    cap card date = cap_of (issuer t card) (day t n card + borrowed h card date)

    step : (card : List ℕ) (date : List ℕ) → added (counted t n (Out i o ∷ h) card date) (approvals t h) ≤ added (counted t n h card date) (approvals t h)
    step card date = sum_less (counted t n (Out i o ∷ h) card date) (counted t n h card date) (approvals t h) (counted_more t n (Out i o) h card date)

    named_more : (as' : List Approval) → approval_of t h (own_approval h i o) ≡ as' → ((a : Approval) → IsIn a as' → IsNamedApproval t n a) → (a : Approval) → IsIn a (approval_of t h (own_approval h i o) ++ approvals t h) → IsNamedApproval t n a
    named_more [] e each a m = f.named a (rw e at m)
    named_more (b ∷ bs) e each a m = ⊎_elim (λ x. each a (inl x)) (λ r. rest bs (λ z q. each z (inr q)) r) (rw e at m)
      where
        rest : (cs : List Approval) → ((z : Approval) → IsIn z cs → IsNamedApproval t n z) → IsIn a (cs ++ approvals t h) → IsNamedApproval t n a
        rest [] each' r = f.named a r
        rest (c ∷ cs) each' r = ⊎_elim (λ x. each' a (inl x)) (λ q. rest cs (λ z w. each' z (inr w)) q) r

    go : (w : Option Key) → own_approval h i o ≡ w → UsedFacts t n (Out i o ∷ h)
    go None e =
        let none : approval_of t h (own_approval h i o) ≡ [] = ap (approval_of t h) e in
        record {
          named = named_more [] none (λ a m. absurd m);
          within = λ card date. (let a = f.within card date in let b = step card date in rw none (omega (arith, a, b)));
          borrows = f.borrows;
        }
    go (Some k) e =
        let s : Stood t n h k = stood k e in
        let within = stood_within t n h k s in
        let new : Approval = record { key = k; request = s.op.message } in
        let one : approval_of t h (own_approval h i o) ≡ new ∷ [] = ap (approval_of t h) e ∙ ap (approval_by k) s.opens in
        record {
          named = named_more (new ∷ []) one (λ a m. ⊎_elim (λ same. subst (IsNamedApproval t n) same (s.s, s.issued, approves t n h (card_of s.op.message) (label_of s.op.message) f.borrows within.some)) (λ bad. absurd bad) m);
          within = λ card date. rw one (sums k s card date);
          borrows = f.borrows;
        }
      where
        sums : (k : Key) (s : Stood t n h k) (card : List ℕ) (date : List ℕ) → counted t n (Out i o ∷ h) card date (record { key = k; request = s.op.message }) + added (counted t n (Out i o ∷ h) card date) (approvals t h) + lent t n h card date ≤ cap card date
        sums k s card date = ⊎_elim none same (counted_of t n (Out i o ∷ h) card date (record { key = k; request = s.op.message }))
          where
            none : counted t n (Out i o ∷ h) card date (record { key = k; request = s.op.message }) ≡ 0 → counted t n (Out i o ∷ h) card date (record { key = k; request = s.op.message }) + added (counted t n (Out i o ∷ h) card date) (approvals t h) + lent t n h card date ≤ cap card date
            none z = let a = f.within card date in let b = step card date in omega (arith, a, b, z)

            same : (card_of s.op.message ≡ card) × (label_of s.op.message ≡ date) → counted t n (Out i o ∷ h) card date (record { key = k; request = s.op.message }) + added (counted t n (Out i o ∷ h) card date) (approvals t h) + lent t n h card date ≤ cap card date
            same e =
                let w : WithinLimits (allowance t n h card date) (used t n h card date + decimal (el s.op.message 4)) =
                subst (λ c. WithinLimits (allowance t n h c date) (used t n h c date + decimal (el s.op.message 4))) e.0 (subst (λ d. WithinLimits (allowance t n h (card_of s.op.message) d) (used t n h (card_of s.op.message) d + decimal (el s.op.message 4))) e.1 (stood_within t n h k s))
                in
                let some = w.some in
                let all = w.all in
                let b = step card date in
                let c = counted_at_most t n (Out i o ∷ h) card date (record { key = k; request = s.op.message }) in
                let d : cap card date ≡ day t n card + borrowed h card date = ap (λ z. cap_of z (day t n card + borrowed h card date)) (ap (issuer t) (sym e.0) ∙ s.issued) in
                omega (arith, some, all, b, c, d)

no_used : (t : Network) (n : ℕ) → UsedFacts t n []
unfolding used approvals lent grants taken
no_used t n = record { named = λ a m. absurd m; within = λ card date. omega arith; borrows = λ g m. absurd m }

-- within an entry
record Both (t : Network) (n : ℕ) (past : History) (i : ReadInput) (h : History) : Type 0 where
  own : OwnFacts t n past i h
  all : UsedFacts t n h

pub own_in_entry : (t : Network) (n : ℕ) (past : History) (i : ReadInput) → IsFormed i → refusal t n past i ≡ None → NodeFacts t n past → OwnFacts t n past i (In i ∷ past)
unfolding ask_key
own_in_entry t n past i form ok f = record {
  entry = record { node = facts_in t n past i form ok f; opening_is = λ k. refl };
  stays_00 = λ k r. has_00_more past (In i) k r;
  stays_brought = λ k r. brought_in k i r;
}
  where
    brought_in : (k : Key) (j : ReadInput) → brings_00 past k j ≡ true → brings_00 (In i ∷ past) k j ≡ true
    brought_in k (Take l s m) r = r
    brought_in k (HostAnswer a c) r = r
    brought_in k (Enter m) r = r
    brought_in k (LinkUp l) r = r
    brought_in k (LinkDown l) r = r
    brought_in k Tick r = r
    brought_in k (NewDate d) r = r
    brought_in k (TakePacket lk sr pk) r = r
    brought_in k (Lend br cd dt am) r = r

used_decide : (t : Network) (n : ℕ) (past : History) (i : ReadInput) → IsFormed i → refusal t n past i ≡ None → NodeFacts t n past → UsedFacts t n past → UsedFacts t n (decide t n past i)
used_decide t n past i form ok f u =
    (decide_keeps t n past i (Both t n past i)
    (λ h o q allowed. record {
      own = record { entry = facts_out t n past i h o f q.own.entry allowed; stays_00 = λ k r. has_00_more h (Out i o) k (q.own.stays_00 k r); stays_brought = λ k r. brings_more h i o k i (q.own.stays_brought k r) };
      all = used_out t n i o h (λ k e. own_case t n past i h o k q.own allowed e) q.all;
    })
    (keeps_issuers t n past f)
    (record { own = own_in_entry t n past i form ok f; all = used_in t n i past ok u })).all

pub legal_used : (t : Network) (n : ℕ) (es : List ReadEntry) → IsLegalRead t n es → UsedFacts t n (read_history es)
unfolding read_history
legal_used t n [] l = no_used t n
legal_used t n (e ∷ es) l = subst (UsedFacts t n) (sym l.1.outputs) (used_decide t n (read_history es) e.input l.1.formed l.1.accepted (legal_facts t n es l.0) (legal_used t n es l.0))

-- the laws

any_contains : (n : ℕ) (ns : List ℕ) → list_any (λ m. eqb m n) ns ≡ true → Contains ns n
any_contains n [] e = absurd (not_both false e refl)
any_contains n (m ∷ ns) e = go (eqb m n) refl (any_contains n ns)
  where
    go : (b : Bool) → eqb m n ≡ b → (list_any (λ k. eqb k n) ns ≡ true → Contains ns n) → Contains (m ∷ ns) n
    go true at rest = (0, omega arith, eqb-true m n at)
    go false at rest = let r = rest (rw at at e) in (suc r.0, (let less = r.1 in omega (arith, less)), r.2)

names : (t : Network) (n : ℕ) (card : List ℕ) (s : Issuer) → IsBounded t → n < length t.nodes → issuer t card ≡ Some s → MayApprove t n card → Contains s.named n
names t n card s bounded less is may = ⊎_elim (λ some. bounded.named card s n is less some) (λ named. any_contains n s.named (ap (λ z. is_named z n) (sym is) ∙ named)) may

pub NamedApprovers_holds : (t : Network) (traces : ℕ → List ReadEntry) → IsReadRun t traces → IsBounded t → NamedApprovers t (histories traces)
unfolding read_history approvals
NamedApprovers_holds t traces run bounded n a m =
    let f = (legal_used t n (traces n) (legal_at run n)).named a m in
    (f.0, f.1, names t n (card_of a.request) f.0 bounded (live (traces n) refl m) f.1 f.2)
  where
    -- a node that approved has a trace
    live : (es : List ReadEntry) → traces n ≡ es → IsIn a (approvals t (read_history es)) → n < length t.nodes
    live [] e has = absurd has
    live (x ∷ xs) e has = ⊎_elim (λ less. less) (λ more. absurd (no (sym e ∙ run.no_others n more))) (cases_lt n (length t.nodes))
      where
        no : x ∷ xs ≡ [] → ⊥
        no p = cc

pub within_limits : (t : Network) (n : ℕ) (es : List ReadEntry) → IsBounded t → n < length t.nodes → IsLegalRead t n es → IsWithinLimits t n (read_history es)
unfolding cap_of
within_limits t n es bounded less l = record {
  named = λ a m. (let f = u.named a m in (f.0, f.1, names t n (card_of a.request) f.0 bounded less f.1 f.2));
  within = λ card date. (let a = all card date (issuer t card) (u.within card date) in omega (arith, a));
  with_lent = λ card date. all card date (issuer t card) (u.within card date);
}
  where
    u : UsedFacts t n (read_history es)
    u = legal_used t n es l

    all : (card date : List ℕ) (o : Option Issuer) → used t n (read_history es) card date + lent t n (read_history es) card date ≤ cap_of o (day t n card + borrowed (read_history es) card date) → used t n (read_history es) card date + lent t n (read_history es) card date ≤ day t n card + borrowed (read_history es) card date
    all card date None le = omega (arith, le)
    all card date (Some s) le = le
