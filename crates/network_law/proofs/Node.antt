-- What stands in one node's legal trace: requests that were put on, asked and opened.
use Rattle.std.proofs.Common.{◌≡◌, ℕ, ◌≤◌, List, [], ◌∷◌, Option, Some, None, is_some, Bool, true, false, not, ◌&&◌, refl, sym, ap, ◌∙◌, subst, inl, inr, ⊎_elim, eqb, unwrap_or, length, ◌⊎◌, bytes_eq}
use Rattle.std.proofs.lemmas.Bool.{and_parts, ne_eqb, eqb-false}
use Rattle.std.proofs.lemmas.Option.{same_Some}
use Rattle.net_rows.specs.Network.{Network, issuer}
use Rattle.net_rows.specs.declared.row.Issuer.{Issuer}
use Rattle.network_law.specs.Tables.{is_home, route_links, is_attached}
use Rattle.network_law.specs.declared.grant.GrantPacket.{GrantPacket}
use Rattle.network_law.specs.Traces.{Source, Gate, ByLink, ReadInput, Enter, Take, LinkUp, LinkDown, Tick, HostAnswer, NewDate, TakePacket, Lend, ReadOutput, Put, Answer, Ask, Post, PutPacket, In, Out, History, Handled, handled, Opening, opening, opened_by, answer, answers, sent, forwarded, forwards, asked, asks, ticks_by, count_of, dated, date_of, IsIn, Has}
use Rattle.network_law.specs.Decision.{decide, reply_output, sent_kind}
use Rattle.network_law.proofs.Refused.{EnteredFacts, entered_facts}
use Rattle.network_law.specs.Refusals.{refusal}
use Rattle.network_law.specs.Entries.{ReadEntry, read_history}
use Rattle.network_law.proofs.ReadRuns.{IsLegalRead, HasLengths, IsFormed}
use Rattle.message_keys.proofs.Equality.{key_eq_is}
use Rattle.network_law.proofs.Emits.{Allowed, forwarding, asking, standing_in, passing, declining, repeating, refusing, acking, sending, posting, putting_packet, Forwarding, Asking, handled_as, Issued, KeepsIssuers, decide_keeps, stays_open, opening_now, opens_now}
use Rattle.network_law.specs.Cards.{text_of, Bytes, card_of}
use Rattle.iso_message.proofs.Changes.{get_set, get_remove}
use Rattle.iso_message.specs.Fields.{Fields, el, set_element, remove_element, as_kind}
use Rattle.message_elements.specs.declared.kind.Kind.{Kind}
use Rattle.message_elements.specs.declared.kind.Kind.TheVariants.{K0100, K0101, K0110, K0120, K0121, K0130, K0400, K0401, K0410, K0420, K0421, K0430}
use Rattle.message_elements.specs.Groups.{is_request, is_answer, is_04xx, response_kind}
use Rattle.iso_message.specs.Made.{response}
use Rattle.card_digits.specs.declared.key.Key.{Key}
use Rattle.message_keys.specs.Keys.{key_of, own_key, key_eq, code_of}
use Rattle.message_elements.specs.Codes.{code_94}

-- kinds

pub response_no_request : (k : Kind) → is_request (response_kind k) ≡ false
response_no_request K0100 = refl
response_no_request K0101 = refl
response_no_request K0110 = refl
response_no_request K0120 = refl
response_no_request K0121 = refl
response_no_request K0130 = refl
response_no_request K0400 = refl
response_no_request K0401 = refl
response_no_request K0410 = refl
response_no_request K0420 = refl
response_no_request K0421 = refl
response_no_request K0430 = refl

pub answer_no_request : (k : Kind) → is_answer k ≡ true → is_request k ≡ false
answer_no_request K0100 e = cc
answer_no_request K0101 e = cc
answer_no_request K0110 e = refl
answer_no_request K0120 e = refl
answer_no_request K0121 e = refl
answer_no_request K0130 e = refl
answer_no_request K0400 e = refl
answer_no_request K0401 e = refl
answer_no_request K0410 e = refl
answer_no_request K0420 e = refl
answer_no_request K0421 e = refl
answer_no_request K0430 e = refl

pub request_no_04xx : (k : Kind) → is_request k ≡ true → is_04xx k ≡ false
request_no_04xx K0100 e = refl
request_no_04xx K0101 e = refl
request_no_04xx K0110 e = refl
request_no_04xx K0120 e = refl
request_no_04xx K0121 e = refl
request_no_04xx K0130 e = refl
request_no_04xx K0400 e = cc
request_no_04xx K0401 e = cc
request_no_04xx K0410 e = cc
request_no_04xx K0420 e = cc
request_no_04xx K0421 e = cc
request_no_04xx K0430 e = cc

advice_no_request : (a b : Bool) → is_request (sent_kind a b) ≡ false
advice_no_request true true = refl
advice_no_request true false = refl
advice_no_request false true = refl
advice_no_request false false = refl

pub response_is_of_kind : (m : Fields) (c : Bytes) → (response m c).kind ≡ response_kind m.kind
unfolding response set_element
response_is_of_kind m c = refl

-- the key of a request that is put on as 0100
pub forwarded_key : (m : Fields) → is_request m.kind ≡ true → key_of (as_kind K0100 m) ≡ key_of m
unfolding key_of own_key el
forwarded_key m r = rw (request_no_04xx m.kind r) refl

-- an answer in the outputs is a 0110 of its key
pub answers_is : (k : Key) (o : Option Fields) (a : Fields) → answers k o ≡ Some a → (o ≡ Some a) × (is_answer a.kind ≡ true) × (key_of a ≡ k)
answers_is k None a e = cc
answers_is k (Some m) a e = go (is_answer m.kind && key_eq (key_of m) k && not (bytes_eq (code_of m) code_94)) refl
  where
    go : (b : Bool) → (is_answer m.kind && key_eq (key_of m) k && not (bytes_eq (code_of m) code_94)) ≡ b → (Some m ≡ Some a) × (is_answer a.kind ≡ true) × (key_of a ≡ k)
    go true at =
        let same : m ≡ a = same_Some m a (rw at at e) in
        let p = and_parts (is_answer m.kind && key_eq (key_of m) k) (not (bytes_eq (code_of m) code_94)) at in
        let q = and_parts (is_answer m.kind) (key_eq (key_of m) k) p.0 in
        (ap Some same, subst (λ z. is_answer z.kind ≡ true) same q.0, subst (λ z. key_of z ≡ k) same (key_eq_is (key_of m) k q.1))
    go false at = absurd (bad (rw at at e))
      where
        bad : None ≡ Some a → ⊥
        bad x = cc

pub answer_is : (h : History) (k : Key) (a : Fields) → answer h k ≡ Some a → (is_answer a.kind ≡ true) × (key_of a ≡ k)
unfolding answer
answer_is [] k a e = cc
answer_is (In i ∷ h) k a e = answer_is h k a e
answer_is (Out i o ∷ h) k a e = go (answer h k) refl (answer_is h k a)
  where
    go : (x : Option Fields) → answer h k ≡ x → (answer h k ≡ Some a → (is_answer a.kind ≡ true) × (key_of a ≡ k)) → (is_answer a.kind ≡ true) × (key_of a ≡ k)
    go None at rest = let r = answers_is k (sent o) a (rw at at e) in (r.1, r.2)
    go (Some x) at rest = rest (at ∙ (rw at at e))

-- replies put no request and ask nothing

reply_puts : (src : Source) (m : Fields) (h : History) (l s : ℕ) (x : Fields) → reply_output src m h ≡ Put l s x → m ≡ x
reply_puts Gate m h l s x e = cc
reply_puts (ByLink k) m h l s x e = cc

reply_asks_nothing : (src : Source) (m : Fields) (h : History) (a : ℕ) (x : Fields) → reply_output src m h ≡ Ask a x → ⊥
reply_asks_nothing Gate m h a x e = cc
reply_asks_nothing (ByLink k) m h a x e = cc

not_both : (b : Bool) → b ≡ true → b ≡ false → ⊥
not_both b p q = cc

reply_no_request : (src : Source) (m : Fields) (c : Bytes) (h : History) (o : ReadOutput) (l s : ℕ) (x : Fields) → o ≡ reply_output src (response m c) h → o ≡ Put l s x → is_request x.kind ≡ true → ⊥
reply_no_request src m c h o l s x is e r =
    let same : response m c ≡ x = reply_puts src (response m c) h l s x (sym is ∙ e) in
    not_both (is_request x.kind) r (ap (λ z. is_request (Fields.kind z)) (sym same) ∙ (ap is_request (response_is_of_kind m c) ∙ response_no_request m.kind))

-- a request on a link is a forwarding
pub put_case : (t : Network) (n : ℕ) (past : History) (i : ReadInput) (h : History) (o : ReadOutput) (l s : ℕ) (x : Fields) → Allowed t n past i h o → o ≡ Put l s x → is_request x.kind ≡ true → Forwarding t n past i h o
put_case t n past i h o l s x (forwarding f) e r = f
put_case t n past i h o l s x (asking f) e r = absurd (no (sym f.is ∙ e))
  where
    no : {a b c : ℕ} {m w : Fields} → Ask a m ≡ Put b c w → ⊥
    no q = cc
put_case t n past i h o l s x (standing_in f) e r = absurd (reply_no_request f.op.source f.op.message _ h o l s x f.is e r)
put_case t n past i h o l s x (passing f) e r = absurd (reply_no_request f.op.source f.op.message _ h o l s x f.is e r)
put_case t n past i h o l s x (declining f) e r = absurd (reply_no_request f.op.source f.op.message _ h o l s x f.is e r)
put_case t n past i h o l s x (repeating f) e r =
    let same : f.before ≡ x = reply_puts f.source f.before h l s x (sym f.is ∙ e) in
    absurd (not_both (is_request x.kind) r (ap (λ z. is_request (Fields.kind z)) (sym same) ∙ answer_no_request f.before.kind ((answer_is past f.key f.before f.answered).0)))
put_case t n past i h o l s x (refusing f) e r = absurd (reply_no_request f.source f.message _ h o l s x f.is e r)
put_case t n past i h o l s x (acking f) e r = absurd (reply_no_request f.source f.message _ h o l s x f.is e r)
put_case t n past i h o l s x (sending f) e r =
    absurd (not_both (is_request x.kind) r (ap (λ z. is_request (Fields.kind z)) (sym (parts (sym f.is ∙ e))) ∙ advice_no_request (is_04xx f.message.kind) f.again))
  where
    parts : {a b c d : ℕ} {m w : Fields} → Put a b m ≡ Put c d w → m ≡ w
    parts q = cc
put_case t n past i h o l s x (putting_packet f) e r = absurd (no (sym f.is ∙ e))
  where
    no : {a b c d : ℕ} {p : GrantPacket} {w : Fields} → PutPacket a b p ≡ Put c d w → ⊥
    no q = cc
put_case t n past i h o l s x (posting f) e r = absurd (no (sym f.is ∙ e))
  where
    no : {b c : ℕ} {m w : Fields} → Post m ≡ Put b c w → ⊥
    no q = cc

pub ask_case : (t : Network) (n : ℕ) (past : History) (i : ReadInput) (h : History) (o : ReadOutput) (a : ℕ) (x : Fields) → Allowed t n past i h o → o ≡ Ask a x → Asking t n past i h o
ask_case t n past i h o a x (forwarding f) e = absurd (no (sym f.is ∙ e))
  where
    no : {a b c : ℕ} {m w : Fields} → Put b c w ≡ Ask a m → ⊥
    no q = cc
ask_case t n past i h o a x (asking f) e = f
ask_case t n past i h o a x (standing_in f) e = absurd (reply_asks_nothing f.op.source _ h a x (sym f.is ∙ e))
ask_case t n past i h o a x (passing f) e = absurd (reply_asks_nothing f.op.source _ h a x (sym f.is ∙ e))
ask_case t n past i h o a x (declining f) e = absurd (reply_asks_nothing f.op.source _ h a x (sym f.is ∙ e))
ask_case t n past i h o a x (repeating f) e = absurd (reply_asks_nothing f.source _ h a x (sym f.is ∙ e))
ask_case t n past i h o a x (refusing f) e = absurd (reply_asks_nothing f.source _ h a x (sym f.is ∙ e))
ask_case t n past i h o a x (acking f) e = absurd (reply_asks_nothing f.source _ h a x (sym f.is ∙ e))
ask_case t n past i h o a x (sending f) e = absurd (no (sym f.is ∙ e))
  where
    no : {a b c : ℕ} {m w : Fields} → Put b c w ≡ Ask a m → ⊥
    no q = cc
ask_case t n past i h o a x (putting_packet f) e = absurd (no (sym f.is ∙ e))
  where
    no : {a b c : ℕ} {p : GrantPacket} {w : Fields} → PutPacket a b p ≡ Ask c w → ⊥
    no q = cc
ask_case t n past i h o a x (posting f) e = absurd (no (sym f.is ∙ e))
  where
    no : {a : ℕ} {m w : Fields} → Post w ≡ Ask a m → ⊥
    no q = cc

-- a request that stands on a link
pub record Sent (t : Network) (n : ℕ) (h : History) (l : ℕ) (x : Fields) : Type 0 where
  pub op : Opening
  pub s : Issuer
  pub is : opening t h (key_of x) ≡ Some op
  pub same : x ≡ as_kind K0100 op.message
  pub issued : issuer t (card_of op.message) ≡ Some s
  pub away : is_home s n ≡ false
  pub on_route : IsIn l (route_links t n (card_of op.message))

pub record Asked (t : Network) (n : ℕ) (h : History) (x : Fields) : Type 0 where
  pub op : Opening
  pub s : Issuer
  pub is : opening t h (key_of x) ≡ Some op
  pub issued : issuer t (card_of op.message) ≡ Some s
  pub home : is_home s n ≡ true

-- how a key came to be open
pub record Opened (t : Network) (n : ℕ) (h : History) (k : Key) (op : Opening) : Type 0 where
  pub has : Has (In op.input) h
  pub key : key_of op.message ≡ k
  pub request : is_request op.message.kind ≡ true
  pub formed : HasLengths op.message
  pub from : ((l : ℕ) × (s : ℕ) × (op.input ≡ Take l s op.message) × (op.source ≡ ByLink l)) ⊎ ((m : Fields) × (op.input ≡ Enter m) × (is_attached t n k.acquirer ≡ true))

pub record NodeFacts (t : Network) (n : ℕ) (h : History) : Type 0 where
  pub puts : (i : ReadInput) (l s : ℕ) (x : Fields) → Has (Out i (Put l s x)) h → is_request x.kind ≡ true → Sent t n h l x
  pub asks : (i : ReadInput) (a : ℕ) (x : Fields) → Has (Out i (Ask a x)) h → Asked t n h x
  pub one_put : (i i' : ReadInput) (l s l' s' : ℕ) (x x' : Fields) → Has (Out i (Put l s x)) h → Has (Out i' (Put l' s' x')) h → is_request x.kind ≡ true → is_request x'.kind ≡ true → key_of x ≡ key_of x' → (l ≡ l') × (s ≡ s') × (x ≡ x')
  pub one_ask : (i i' : ReadInput) (a a' : ℕ) (x x' : Fields) → Has (Out i (Ask a x)) h → Has (Out i' (Ask a' x')) h → key_of x ≡ key_of x' → a ≡ a'
  pub opens : (k : Key) (op : Opening) → opening t h k ≡ Some op → Opened t n h k op

no_facts : (t : Network) (n : ℕ) → NodeFacts t n []
unfolding opening
no_facts t n = record {
  puts = λ i l s x has. absurd has;
  asks = λ i a x has. absurd has;
  one_put = λ i i' l s l' s' x x' has. absurd has;
  one_ask = λ i i' a a' x x' has. absurd has;
  opens = λ k op e. absurd (no k op e);
}
  where
    no : (k : Key) (op : Opening) → None ≡ Some op → ⊥
    no k op e = cc

in-out : (i j : ReadInput) (o : ReadOutput) → In i ≡ Out j o → ⊥
in-out i j o e = cc

out-in : (i j : ReadInput) (o : ReadOutput) → Out j o ≡ In i → ⊥
out-in i j o e = cc

has_out_below : (i j : ReadInput) (o : ReadOutput) (h : History) → Has (Out j o) (In i ∷ h) → Has (Out j o) h
has_out_below i j o h (inl e) = absurd (in-out i j o e)
has_out_below i j o h (inr m) = m

-- what opens a key now
pub record OpensNow (t : Network) (h : History) (i : ReadInput) (k : Key) (op : Opening) : Type 0 where
  pub input : op.input ≡ i
  pub is_handled : handled_as t h i op.message op.source
  pub request : is_request op.message.kind ≡ true
  pub key : key_of op.message ≡ k

opened_by_is : (t : Network) (h : History) (i : ReadInput) (k : Key) (o : Option Handled) (op : Opening) → handled t h i ≡ o → opened_by k (count_of h) i o ≡ Some op → OpensNow t h i k op
opened_by_is t h i k None op e f = absurd (no f)
  where
    no : None ≡ Some op → ⊥
    no p = cc
opened_by_is t h i k (Some x) op e f = go (is_request x.message.kind && key_eq (key_of x.message) k) refl
  where
    go : (b : Bool) → (is_request x.message.kind && key_eq (key_of x.message) k) ≡ b → OpensNow t h i k op
    go true at =
        let same : opening_now h i x.message x.source ≡ op = same_Some (opening_now h i x.message x.source) op (rw at at f) in
        let p = and_parts (is_request x.message.kind) (key_eq (key_of x.message) k) at in
        subst (λ z. OpensNow t h i k z) same (record { input = refl; is_handled = e; request = p.0; key = key_eq_is (key_of x.message) k p.1 })
    go false at = absurd (no (rw at at f))
      where
        no : None ≡ Some op → ⊥
        no p = cc

pub opening_in_cases : (t : Network) (h : History) (i : ReadInput) (k : Key) (op : Opening) → opening t (In i ∷ h) k ≡ Some op → (opening t h k ≡ Some op) ⊎ OpensNow t h i k op
unfolding opening
opening_in_cases t h i k op e = go (opening t h k) refl
  where
    go : (o : Option Opening) → opening t h k ≡ o → (opening t h k ≡ Some op) ⊎ OpensNow t h i k op
    go None at = inr (opened_by_is t h i k (handled t h i) op refl (rw at at e))
    go (Some x) at = inl (at ∙ (rw at at e))

-- Sent and the like stay
pub more_sent : (t : Network) (n : ℕ) (h h' : History) (l : ℕ) (x : Fields) → ((k : Key) (op : Opening) → opening t h k ≡ Some op → opening t h' k ≡ Some op) → Sent t n h l x → Sent t n h' l x
more_sent t n h h' l x more f = record { op = f.op; s = f.s; is = more _ _ f.is; same = f.same; issued = f.issued; away = f.away; on_route = f.on_route }

pub more_asked : (t : Network) (n : ℕ) (h h' : History) (x : Fields) → ((k : Key) (op : Opening) → opening t h k ≡ Some op → opening t h' k ≡ Some op) → Asked t n h x → Asked t n h' x
more_asked t n h h' x more f = record { op = f.op; s = f.s; is = more _ _ f.is; issued = f.issued; home = f.home }

-- elements

other_number : (n k : ℕ) → eqb n k ≡ false → eqb k n ≡ false
other_number n k d = ne_eqb k n (λ p. eqb-false n k d (sym p))

pub el_set : (m : Fields) (k n : ℕ) (v : Bytes) → eqb n k ≡ false → el (set_element m k v) n ≡ el m n
unfolding el
el_set m k n v d = ap (λ o. unwrap_or o []) (get_set m k n v (other_number n k d))

pub el_remove : (m : Fields) (k n : ℕ) → eqb n k ≡ false → el (remove_element m k) n ≡ el m n
unfolding el
el_remove m k n d = ap (λ o. unwrap_or o []) (get_remove m k n (other_number n k d))

pub el_dated : (date : List ℕ) (m : Fields) (n : ℕ) → eqb n 15 ≡ false → el (dated date m) n ≡ el m n
el_dated date m n d = go (is_request m.kind) refl
  where
    go : (b : Bool) → is_request m.kind ≡ b → el (dated date m) n ≡ el m n
    go true at = rw at (el_set m 15 n (text_of date) d)
    go false at = rw at refl

pub dated_kind : (date : List ℕ) (m : Fields) → is_request (dated date m).kind ≡ is_request m.kind
unfolding set_element
dated_kind date m = go (is_request m.kind) refl
  where
    go : (b : Bool) → is_request m.kind ≡ b → is_request (dated date m).kind ≡ is_request m.kind
    go true at = rw at at
    go false at = rw at at

-- entered and not refused: the acquirer is attached here
pub attached : (t : Network) (n : ℕ) (h : History) (m : Fields) → refusal t n h (Enter m) ≡ None → is_attached t n (own_key m).acquirer ≡ true
attached t n h m e = EnteredFacts.attached (entered_facts t n h m e)

-- the key of what is handled when entered has the entered acquirer
entered_acquirer : (t : Network) (h : History) (m : Fields) (x : Fields) (src : Source) → handled t h (Enter m) ≡ Some (record { message = x; source = src }) → is_request x.kind ≡ true → (key_of x).acquirer ≡ (own_key m).acquirer
unfolding handled key_of own_key
entered_acquirer t h m x src e r =
    let p = same_Some _ _ e in
    let a : dated (date_of t h) (remove_element m 33) ≡ x = ap (λ (z : Handled). z.message) p in
    let b : el x 32 ≡ el m 32 = ap (λ z. el z 32) (sym a) ∙ (el_dated (date_of t h) (remove_element m 33) 32 refl ∙ el_remove m 33 32 refl) in
    rw (request_no_04xx x.kind r, b) refl

opened_now : (t : Network) (n : ℕ) (h : History) (i : ReadInput) (k : Key) (op : Opening) → IsFormed i → refusal t n h i ≡ None → OpensNow t h i k op → Opened t n (In i ∷ h) k op
unfolding handled remove_element
opened_now t n h i k op form ok o = record { has = inl (ap In (sym o.input)); key = o.key; request = o.request; formed = lengths i form o.is_handled; from = from i ok o.is_handled o.input }
  where
    lengths : (j : ReadInput) → IsFormed j → handled_as t h j op.message op.source → HasLengths op.message
    lengths (Enter m) form e =
        let a : dated (date_of t h) (remove_element m 33) ≡ op.message = ap (λ (z : Handled). z.message) (same_Some _ _ e) in
        let kind : is_request m.kind ≡ true = sym (ap (λ z. is_request (Fields.kind z)) (sym a) ∙ dated_kind (date_of t h) (remove_element m 33)) ∙ o.request in
        let f = form kind in
        let same = λ (n : ℕ) (d : eqb n 15 ≡ false) (d' : eqb n 33 ≡ false). ap (λ z. el z n) (sym a) ∙ (el_dated (date_of t h) (remove_element m 33) n d ∙ el_remove m 33 n d') in
        record { trace = ap length (same 11 refl refl) ∙ f.trace; time = ap length (same 7 refl refl) ∙ f.time; acquirer = subst (λ z. length z ≤ 11) (sym (same 32 refl refl)) f.acquirer }
    lengths (Take l s m) form e =
        let a : m ≡ op.message = ap (λ (z : Handled). z.message) (same_Some _ _ e) in
        subst HasLengths a (form (ap (λ z. is_request (Fields.kind z)) a ∙ o.request))
    lengths (LinkUp l) form e = cc
    lengths (LinkDown l) form e = cc
    lengths Tick form e = cc
    lengths (HostAnswer a c) form e = cc
    lengths (NewDate d) form e = cc
    lengths (TakePacket lk sr pk) form e = cc
    lengths (Lend br cd dt am) form e = cc

    from : (j : ReadInput) → refusal t n h j ≡ None → handled_as t h j op.message op.source → op.input ≡ j → ((l : ℕ) × (s : ℕ) × (op.input ≡ Take l s op.message) × (op.source ≡ ByLink l)) ⊎ ((m : Fields) × (op.input ≡ Enter m) × (is_attached t n k.acquirer ≡ true))
    from (Enter m) ok e p = inr (m, p, subst (λ z. is_attached t n z ≡ true) (sym (entered_acquirer t h m op.message op.source e o.request) ∙ ap Key.acquirer o.key) (attached t n h m ok))
    from (Take l s m) ok e p =
        let q = same_Some _ _ e in
        let a : m ≡ op.message = ap (λ (z : Handled). z.message) q in
        let b : ByLink l ≡ op.source = ap (λ (z : Handled). z.source) q in
        inl (l, s, p ∙ ap (Take l s) a, sym b)
    from (LinkUp l) ok e p = cc
    from (LinkDown l) ok e p = cc
    from Tick ok e p = cc
    from (HostAnswer a c) ok e p = cc
    from (NewDate d) ok e p = cc
    from (TakePacket lk sr pk) ok e p = cc
    from (Lend br cd dt am) ok e p = cc

-- the facts stay through an input
pub facts_in : (t : Network) (n : ℕ) (h : History) (i : ReadInput) → IsFormed i → refusal t n h i ≡ None → NodeFacts t n h → NodeFacts t n (In i ∷ h)
facts_in t n h i form ok f = record {
  puts = λ j l s x has r. more_sent t n h (In i ∷ h) l x (stays_open t h i) (f.puts j l s x (has_out_below i j (Put l s x) h has) r);
  asks = λ j a x has. more_asked t n h (In i ∷ h) x (stays_open t h i) (f.asks j a x (has_out_below i j (Ask a x) h has));
  one_put = λ j j' l s l' s' x x' has has' r r' e. f.one_put j j' l s l' s' x x' (has_out_below i j (Put l s x) h has) (has_out_below i j' (Put l' s' x') h has') r r' e;
  one_ask = λ j j' a a' x x' has has' e. f.one_ask j j' a a' x x' (has_out_below i j (Ask a x) h has) (has_out_below i j' (Ask a' x') h has') e;
  opens = λ k op e. ⊎_elim (λ was. (let o = f.opens k op was in record { has = inr o.has; key = o.key; request = o.request; formed = o.formed; from = o.from })) (λ now. opened_now t n h i k op form ok now) (opening_in_cases t h i k op e);
}

-- within an entry
pub record EntryFacts (t : Network) (n : ℕ) (past : History) (i : ReadInput) (h : History) : Type 0 where
  pub node : NodeFacts t n h
  pub opening_is : (k : Key) → opening t h k ≡ opening t (In i ∷ past) k

-- what is handled in this entry is open in it
fresh_opening : (t : Network) (n : ℕ) (past : History) (i : ReadInput) (h : History) (o : ReadOutput) (e : EntryFacts t n past i h) (f : Forwarding t n past i h o) → opening t h (key_of (as_kind K0100 f.message)) ≡ Some (opening_now past i f.message f.source)
fresh_opening t n past i h o e f = rw (forwarded_key f.message f.request) (e.opening_is (key_of f.message) ∙ opens_now t past i f.message f.source f.is_handled f.request f.fresh)

none_some : {A : Type 0} {a : Option A} {x : A} → a ≡ None → a ≡ Some x → ⊥
none_some {x = x} p q = go (sym p ∙ q)
  where
    go : None ≡ Some x → ⊥
    go e = cc

-- a request of a key that wasn't open before this entry's input stands nowhere in the past
fresh_put : (t : Network) (n : ℕ) (past : History) (i : ReadInput) (h : History) → NodeFacts t n past → h ≡ In i ∷ past → (k : Key) → opening t past k ≡ None → (j : ReadInput) (l s : ℕ) (x : Fields) → Has (Out j (Put l s x)) h → is_request x.kind ≡ true → key_of x ≡ k → ⊥
fresh_put t n past i h facts first k none j l s x has r e =
    let below = has_out_below i j (Put l s x) past (subst (λ z. Has (Out j (Put l s x)) z) first has) in
    let sent' = facts.puts j l s x below r in
    none_some (ap (opening t past) e ∙ none) sent'.is

fresh_ask : (t : Network) (n : ℕ) (past : History) (i : ReadInput) (h : History) → NodeFacts t n past → h ≡ In i ∷ past → (k : Key) → opening t past k ≡ None → (j : ReadInput) (a : ℕ) (x : Fields) → Has (Out j (Ask a x)) h → key_of x ≡ k → ⊥
fresh_ask t n past i h facts first k none j a x has e =
    let below = has_out_below i j (Ask a x) past (subst (λ z. Has (Out j (Ask a x)) z) first has) in
    let asked' = facts.asks j a x below in
    none_some (ap (opening t past) e ∙ none) asked'.is

same_out : (i j : ReadInput) (o p : ReadOutput) → Out i o ≡ Out j p → o ≡ p
same_out i j o p e = cc

pub put_parts : {a b c d : ℕ} {m w : Fields} → Put a b m ≡ Put c d w → (a ≡ c) × (b ≡ d) × (m ≡ w)
put_parts e = (cc, cc, cc)

pub ask_parts : {a b : ℕ} {m w : Fields} → Ask a m ≡ Ask b w → (a ≡ b) × (m ≡ w)
ask_parts e = (cc, cc)

pub facts_out : (t : Network) (n : ℕ) (past : History) (i : ReadInput) (h : History) (o : ReadOutput) → NodeFacts t n past → EntryFacts t n past i h → Allowed t n past i h o → EntryFacts t n past i (Out i o ∷ h)
unfolding opening
facts_out t n past i h o before e allowed = record {
  opening_is = λ k. e.opening_is k;
  node = record {
    puts = λ j l s x has r. ⊎_elim (λ here. sent_now j l s x (same_out i j o (Put l s x) here) r) (λ m. more_sent t n h (Out i o ∷ h) l x (λ k op q. q) (e.node.puts j l s x m r)) has;
    asks = λ j a x has. ⊎_elim (λ here. asked_now a x (same_out i j o (Ask a x) here)) (λ m. more_asked t n h (Out i o ∷ h) x (λ k op q. q) (e.node.asks j a x m)) has;
    one_put = λ j j' l s l' s' x x' has has' r r' k. ⊎_elim
        (λ here. ⊎_elim (λ here'. put_parts (sym (same_out i j o (Put l s x) here) ∙ same_out i j' o (Put l' s' x') here')) (λ m'. absurd (fresh_now l s x (same_out i j o (Put l s x) here) r j' l' s' x' m' r' (sym k))) has')
        (λ m. ⊎_elim (λ here'. absurd (fresh_now l' s' x' (same_out i j' o (Put l' s' x') here') r' j l s x m r k)) (λ m'. e.node.one_put j j' l s l' s' x x' m m' r r' k) has')
        has;
    one_ask = λ j j' a a' x x' has has' k. ⊎_elim
        (λ here. ⊎_elim (λ here'. (ask_parts (sym (same_out i j o (Ask a x) here) ∙ same_out i j' o (Ask a' x') here')).0) (λ m'. absurd (fresh_asked a x (same_out i j o (Ask a x) here) j' a' x' m' (sym k))) has')
        (λ m. ⊎_elim (λ here'. absurd (fresh_asked a' x' (same_out i j' o (Ask a' x') here') j a x m k)) (λ m'. e.node.one_ask j j' a a' x x' m m' k) has')
        has;
    opens = λ k op q. (let w = e.node.opens k op q in record { has = inr w.has; key = w.key; request = w.request; formed = w.formed; from = w.from });
  };
}
  where
    sent_now : (j : ReadInput) (l s : ℕ) (x : Fields) → o ≡ Put l s x → is_request x.kind ≡ true → Sent t n (Out i o ∷ h) l x
    sent_now j l s x is r =
        let f = put_case t n past i h o l s x allowed is r in
        let p = put_parts (sym f.is ∙ is) in
        let now : opening t h (key_of (as_kind K0100 f.message)) ≡ Some (opening_now past i f.message f.source) = fresh_opening t n past i h o e f in
        record { op = opening_now past i f.message f.source; s = f.s; is = ap (λ z. opening t h (key_of z)) (sym p.2) ∙ now; same = sym p.2; issued = f.issued; away = f.away; on_route = subst (λ z. IsIn z (route_links t n (card_of f.message))) p.0 f.on_route }

    fresh_now : (l s : ℕ) (x : Fields) → o ≡ Put l s x → is_request x.kind ≡ true → (j : ReadInput) (l' s' : ℕ) (x' : Fields) → Has (Out j (Put l' s' x')) h → is_request x'.kind ≡ true → key_of x' ≡ key_of x → ⊥
    fresh_now l s x is r j l' s' x' has r' k =
        let f = put_case t n past i h o l s x allowed is r in
        let p = put_parts (sym f.is ∙ is) in
        fresh_put t n past i h before f.first (key_of f.message) f.fresh j l' s' x' has r' (k ∙ (ap key_of (sym p.2) ∙ forwarded_key f.message f.request))

    asked_now : (a : ℕ) (x : Fields) → o ≡ Ask a x → Asked t n (Out i o ∷ h) x
    asked_now a x is =
        let f = ask_case t n past i h o a x allowed is in
        let p = ask_parts (sym f.is ∙ is) in
        let now : opening t h (key_of f.message) ≡ Some (opening_now past i f.message f.source) = e.opening_is (key_of f.message) ∙ opens_now t past i f.message f.source f.is_handled f.request f.fresh in
        record { op = opening_now past i f.message f.source; s = f.s; is = ap (λ z. opening t h z) (ap key_of (sym p.1) ∙ forwarded_key f.message f.request) ∙ now; issued = f.issued; home = f.home }

    fresh_asked : (a : ℕ) (x : Fields) → o ≡ Ask a x → (j : ReadInput) (a' : ℕ) (x' : Fields) → Has (Out j (Ask a' x')) h → key_of x' ≡ key_of x → ⊥
    fresh_asked a x is j a' x' has k =
        let f = ask_case t n past i h o a x allowed is in
        let p = ask_parts (sym f.is ∙ is) in
        fresh_ask t n past i h before f.first (key_of f.message) f.fresh j a' x' has (k ∙ (ap key_of (sym p.1) ∙ forwarded_key f.message f.request))

-- forwarded and asked, as what stands in the read_history

pub forwarded_has : (h : History) (k : Key) (l : ℕ) → forwarded h k ≡ Some l → (i : ReadInput) × (s : ℕ) × (x : Fields) × Has (Out i (Put l s x)) h × (is_request x.kind ≡ true) × (key_of x ≡ k)
unfolding forwarded
forwarded_has [] k l e = absurd (none_some refl e)
forwarded_has (In i ∷ h) k l e = let r = forwarded_has h k l e in (r.0, r.1, r.2, inr r.3, r.4, r.5)
forwarded_has (Out i o ∷ h) k l e = go (forwarded h k) refl (forwarded_has h k)
  where
    Found : History → ℕ → Type 0
    Found g l' = (j : ReadInput) × (s : ℕ) × (x : Fields) × Has (Out j (Put l' s x)) g × (is_request x.kind ≡ true) × (key_of x ≡ k)

    here : (p : ReadOutput) → o ≡ p → forwards k p ≡ Some l → (j : ReadInput) × (s : ℕ) × (x : Fields) × Has (Out j (Put l s x)) (Out i o ∷ h) × (is_request x.kind ≡ true) × (key_of x ≡ k)
    here (Put b s x) is f = test (is_request x.kind && key_eq (key_of x) k) refl
      where
        test : (b' : Bool) → (is_request x.kind && key_eq (key_of x) k) ≡ b' → (j : ReadInput) × (s' : ℕ) × (x' : Fields) × Has (Out j (Put l s' x')) (Out i o ∷ h) × (is_request x'.kind ≡ true) × (key_of x' ≡ k)
        test true at =
            let same : b ≡ l = same_Some b l (rw at at f) in
            let p = and_parts (is_request x.kind) (key_eq (key_of x) k) at in
            (i, s, x, inl (ap (Out i) (is ∙ ap (λ z. Put z s x) same)), p.0, key_eq_is (key_of x) k p.1)
        test false at = absurd (none_some refl (rw at at f))
    here (Answer x) is f = absurd (none_some refl f)
    here (Ask a x) is f = absurd (none_some refl f)
    here (Post x) is f = absurd (none_some refl f)
    here (PutPacket b s p) is f = absurd (none_some refl f)

    go : (w : Option ℕ) → forwarded h k ≡ w → ((l' : ℕ) → forwarded h k ≡ Some l' → (j : ReadInput) × (s : ℕ) × (x : Fields) × Has (Out j (Put l' s x)) h × (is_request x.kind ≡ true) × (key_of x ≡ k)) → (j : ReadInput) × (s : ℕ) × (x : Fields) × Has (Out j (Put l s x)) (Out i o ∷ h) × (is_request x.kind ≡ true) × (key_of x ≡ k)
    go None at rest = here o refl (rw at at e)
    go (Some l') at rest = let r = rest l (at ∙ (rw at at e)) in (r.0, r.1, r.2, inr r.3, r.4, r.5)

pub asked_has : (h : History) (k : Key) → asked h k ≡ true → (i : ReadInput) × (a : ℕ) × (x : Fields) × Has (Out i (Ask a x)) h × (key_of x ≡ k)
unfolding asked
asked_has [] k e = absurd (not_both false e refl)
asked_has (In i ∷ h) k e = let r = asked_has h k e in (r.0, r.1, r.2, inr r.3, r.4)
asked_has (Out i o ∷ h) k e = go (asked h k) refl (asked_has h k)
  where
    here : (p : ReadOutput) → o ≡ p → asks k p ≡ true → (j : ReadInput) × (a : ℕ) × (x : Fields) × Has (Out j (Ask a x)) (Out i o ∷ h) × (key_of x ≡ k)
    here (Ask a x) is f = (i, a, x, inl (ap (Out i) is), key_eq_is (key_of x) k f)
    here (Put b s x) is f = absurd (not_both false f refl)
    here (Answer x) is f = absurd (not_both false f refl)
    here (Post x) is f = absurd (not_both false f refl)
    here (PutPacket b s p) is f = absurd (not_both false f refl)

    go : (b : Bool) → asked h k ≡ b → (asked h k ≡ true → (j : ReadInput) × (a : ℕ) × (x : Fields) × Has (Out j (Ask a x)) h × (key_of x ≡ k)) → (j : ReadInput) × (a : ℕ) × (x : Fields) × Has (Out j (Ask a x)) (Out i o ∷ h) × (key_of x ≡ k)
    go true at rest = let r = rest at in (r.0, r.1, r.2, inr r.3, r.4)
    go false at rest = here o refl (rw at at e)

-- so what has ticks has an issuer
pub keeps_issuers : (t : Network) (n : ℕ) (h : History) → NodeFacts t n h → KeepsIssuers t h
keeps_issuers t n h f k op e some = go (forwarded h k) refl (asked h k) refl some
  where
    go : (w : Option ℕ) → forwarded h k ≡ w → (b : Bool) → asked h k ≡ b → is_some (ticks_by t w b) ≡ true → Issued t op.message
    go (Some l) at b at' s =
        let r = forwarded_has h k l at in
        let z = f.puts r.0 l r.1 r.2 r.3 r.4 in
        let same : z.op ≡ op = same_Some z.op op (sym z.is ∙ (ap (opening t h) r.5 ∙ e)) in
        (z.s, subst (λ y. issuer t (card_of (Opening.message y)) ≡ Some z.s) same z.issued)
    go None at true at' s =
        let r = asked_has h k at' in
        let z = f.asks r.0 r.1 r.2 r.3 in
        let same : z.op ≡ op = same_Some z.op op (sym z.is ∙ (ap (opening t h) r.4 ∙ e)) in
        (z.s, subst (λ y. issuer t (card_of (Opening.message y)) ≡ Some z.s) same z.issued)
    go None at false at' s = absurd (not_both false s refl)

pub facts_decide : (t : Network) (n : ℕ) (past : History) (i : ReadInput) → IsFormed i → refusal t n past i ≡ None → NodeFacts t n past → NodeFacts t n (decide t n past i)
facts_decide t n past i form ok f =
    (decide_keeps t n past i (EntryFacts t n past i) (λ h o e allowed. facts_out t n past i h o f e allowed) (keeps_issuers t n past f)
    (record { node = facts_in t n past i form ok f; opening_is = λ k. refl })).node

-- of a legal trace

pub legal_facts : (t : Network) (n : ℕ) (es : List ReadEntry) → IsLegalRead t n es → NodeFacts t n (read_history es)
unfolding read_history
legal_facts t n [] l = no_facts t n
legal_facts t n (e ∷ es) l = subst (NodeFacts t n) (sym l.1.outputs) (facts_decide t n (read_history es) e.input l.1.formed l.1.accepted (legal_facts t n es l.0))

-- a forward is a put of a request
pub forwards_is : (k : Key) (o : ReadOutput) (l : ℕ) → forwards k o ≡ Some l → (s : ℕ) × (x : Fields) × (o ≡ Put l s x) × (is_request x.kind ≡ true) × (key_of x ≡ k)
forwards_is k (Put b s x) l f = test (is_request x.kind && key_eq (key_of x) k) refl
  where
    test : (b' : Bool) → (is_request x.kind && key_eq (key_of x) k) ≡ b' → (s' : ℕ) × (x' : Fields) × (Put b s x ≡ Put l s' x') × (is_request x'.kind ≡ true) × (key_of x' ≡ k)
    test true at =
        let same : b ≡ l = same_Some b l (rw at at f) in
        let p = and_parts (is_request x.kind) (key_eq (key_of x) k) at in
        (s, x, ap (λ z. Put z s x) same, p.0, key_eq_is (key_of x) k p.1)
    test false at = absurd (none_some refl (rw at at f))
forwards_is k (Answer x) l f = absurd (none_some refl f)
forwards_is k (Ask a x) l f = absurd (none_some refl f)
forwards_is k (Post x) l f = absurd (none_some refl f)
forwards_is k (PutPacket b s p) l f = absurd (none_some refl f)
