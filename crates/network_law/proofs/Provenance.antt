-- Where a reversal that a node holds comes from.
use Rattle.std.proofs.Common.{◌≡◌, ℕ, List, [], ◌∷◌, map, Option, Some, None, is_some, is_none, Bool, true, false, cond, not, ◌&&◌, ◌||◌, refl, sym, ap, ◌∙◌, subst, inl, inr, ⊎_elim, ◌⊎◌, bytes_eq}
use Rattle.std.proofs.lemmas.Bool.{and_parts, and_from, or_right, cond_both, not-false, and_left, and_right}
use Rattle.std.proofs.lemmas.Option.{same_Some}
use Rattle.std.specs.Option.{option_or, option_and_then}
use Rattle.std.specs.List.{list_any}
use Rattle.net_rows.specs.Network.{Network, issuer}
use Rattle.net_rows.specs.declared.row.Issuer.{Issuer}
use Rattle.network_law.specs.Tables.{is_home, node_id, route_links, is_attached}
use Rattle.network_law.specs.Traces.{Source, ReadInput, Enter, Take, LinkUp, LinkDown, Tick, HostAnswer, NewDate, TakePacket, Lend, ReadOutput, Put, In, Out, History, Handled, handled, Opening, opening, sent, own_approval, Advice, advices, add_advice, add_made, add_accepted, acked_by, has_identity, reverses_key, late_key, comes_late, failed_key, is_ok_ack, is_ack_kind, as_kept, ask_key, asked, is_timer, is_link, forwarded, forwards, count_of, known, reversed, dated, date_of, ticks_by, IsIn, Has}
use Rattle.network_law.specs.Decision.{reply_output, sent_kind, other_content}
use Rattle.network_law.proofs.Refused.{EnteredFacts, entered_facts, IsWhole}
use Rattle.network_law.specs.Refusals.{refusal, strange_original}
use Rattle.network_law.proofs.ReadRuns.{IsFormed}
use Rattle.message_keys.proofs.Equality.{key_eq_refl, bytes_eq_is}
use Rattle.network_law.proofs.Emits.{Allowed, forwarding, asking, standing_in, passing, declining, repeating, refusing, acking, sending, posting, putting_packet, Acking, handled_as, Issued, stays_open, is_kept_group, is_link_is, via_ticks, IsGood, handled_no_timer, Accepts}
use Rattle.network_law.proofs.Node.{NodeFacts, EntryFacts, Opened, OpensNow, opening_in_cases, legal_facts, facts_in, facts_out, keeps_issuers, answer_no_request, response_is_of_kind, response_no_request, forwarded_has, asked_has, Sent, el_dated, el_remove, put_parts, put_case}
use Rattle.network_law.proofs.Elements.{code_response, made_reversal_key, content_made_reversal}
use Rattle.network_law.proofs.Used.{reversed_more, acked_kind, sent_reply, reply_message}
use Rattle.network_law.proofs.Chain.{same_card}
use Rattle.network_law.proofs.Late.{kept_reversal, handled_in, handled_out}
use Rattle.network_law.specs.Cards.{Bytes, card_of}
use Rattle.iso_message.specs.Fields.{Fields, el, as_kind, remove_element, get, set_element}
use Rattle.message_elements.specs.declared.kind.Kind.{Kind}
use Rattle.message_elements.specs.Groups.{group, is_request, is_answer, is_reversal, is_04xx, response_kind, is_advice_group}
use Rattle.message_elements.specs.declared.kind.Kind.TheVariants.{K0100, K0101, K0110, K0120, K0121, K0130, K0400, K0401, K0410, K0420, K0421, K0430}
use Rattle.card_digits.specs.declared.key.Key.{Key}
use Rattle.message_keys.specs.Keys.{key_of, key_eq, own_key, original_key, part, identity_of, content, Content, content_eq, code_of}
use Rattle.message_keys.specs.declared.keys.AdviceId.{AdviceId}
use Rattle.message_elements.specs.Codes.{code_94, code_00, code_68}
use Rattle.iso_message.specs.Made.{response, made_reversal, made_stand_in, made_from}
use Rattle.message_elements.specs.declared.kind.Group.TheVariants as groups

pub none_some : {X : Type 0} (x : X) → None ≡ Some x → ⊥
none_some x p = cc

pub not_both : (b : Bool) → b ≡ true → b ≡ false → ⊥
not_both b p q = cc

-- kinds

pub reversal_is_04xx : (k : Kind) → is_reversal k ≡ true → is_04xx k ≡ true
reversal_is_04xx K0100 e = cc
reversal_is_04xx K0101 e = cc
reversal_is_04xx K0110 e = cc
reversal_is_04xx K0120 e = cc
reversal_is_04xx K0121 e = cc
reversal_is_04xx K0130 e = cc
reversal_is_04xx K0400 e = refl
reversal_is_04xx K0401 e = refl
reversal_is_04xx K0410 e = refl
reversal_is_04xx K0420 e = refl
reversal_is_04xx K0421 e = refl
reversal_is_04xx K0430 e = refl

pub kept_04xx : (k : Kind) → is_kept_group (group k) ≡ true → is_04xx k ≡ true → group k ≡ groups.Reversal
kept_04xx K0100 g e = cc
kept_04xx K0101 g e = cc
kept_04xx K0110 g e = cc
kept_04xx K0120 g e = cc
kept_04xx K0121 g e = cc
kept_04xx K0130 g e = cc
kept_04xx K0400 g e = refl
kept_04xx K0401 g e = refl
kept_04xx K0410 g e = cc
kept_04xx K0420 g e = refl
kept_04xx K0421 g e = refl
kept_04xx K0430 g e = cc

-- the type as it is kept says what it was
pub as_kept_04xx : (m : Fields) → is_04xx (as_kept m).kind ≡ is_04xx m.kind
as_kept_04xx m = go (is_04xx m.kind) refl
  where
    go : (b : Bool) → is_04xx m.kind ≡ b → is_04xx (as_kept m).kind ≡ is_04xx m.kind
    go true at = rw at refl
    go false at = rw at refl

pub as_kept_content : (m : Fields) → content (as_kept m) ≡ content m
unfolding content el
as_kept_content m = refl

pub as_kind_content : (k : Kind) (m : Fields) → content (as_kind k m) ≡ content m
unfolding content el
as_kind_content k m = refl

pub as_kind_key : (k : Kind) (m : Fields) → is_04xx k ≡ is_04xx m.kind → key_of (as_kind k m) ≡ key_of m
unfolding key_of original_key own_key
as_kind_key k m e = rw e refl

content_eq_is : (a b : Content) → content_eq a b ≡ true → a ≡ b
content_eq_is a b e =
    let p = and_parts (bytes_eq a.card b.card && bytes_eq a.processing b.processing && bytes_eq a.amount b.amount) (bytes_eq a.currency b.currency) e in
    let q = and_parts (bytes_eq a.card b.card && bytes_eq a.processing b.processing) (bytes_eq a.amount b.amount) p.0 in
    let r = and_parts (bytes_eq a.card b.card) (bytes_eq a.processing b.processing) q.0 in
    let u = bytes_eq_is a.card b.card r.0 in
    let v = bytes_eq_is a.processing b.processing r.1 in
    let w = bytes_eq_is a.amount b.amount q.1 in
    let x = bytes_eq_is a.currency b.currency p.1 in
    λ j. record { card = u j; processing = v j; amount = w j; currency = x j }

-- where a reversal comes from

pub record MadeHere (t : Network) (h : History) (x : Fields) : Type 0 where
  pub op : Opening
  pub opens : opening t h (key_of x) ≡ Some op
  pub same : content op.message ≡ content x

pub record TakenFrom (h : History) (x : Fields) : Type 0 where
  pub link : ℕ
  pub serial : ℕ
  pub message : Fields
  pub has : Has (In (Take link serial message)) h
  pub reversal : is_reversal message.kind ≡ true
  pub key : key_of message ≡ key_of x
  pub same : content message ≡ content x

pub record AcceptedHere (t : Network) (n : ℕ) (h : History) (x : Fields) : Type 0 where
  pub agrees : (op : Opening) (l : ℕ) → opening t h (key_of x) ≡ Some op → forwarded h (key_of x) ≡ Some l → content op.message ≡ content x
  pub source : TakenFrom h x ⊎ (is_attached t n (key_of x).acquirer ≡ true)

pub record Provenance (t : Network) (n : ℕ) (h : History) (x : Fields) : Type 0 where
  pub issued : Issued t x
  pub from : MadeHere t h x ⊎ ((reversed t n h (key_of x) ≡ true) × AcceptedHere t n h x)

-- a message with the same key and content has the same provenance
pub provenance_of : (t : Network) (n : ℕ) (h : History) (x y : Fields) → key_of x ≡ key_of y → content x ≡ content y → Provenance t n h x → Provenance t n h y
provenance_of t n h x y k c p = record {
  issued = (p.issued.0, ap (issuer t) (sym (same_card x y c)) ∙ p.issued.1);
  from = ⊎_elim
      (λ m. inl (record { op = m.op; opens = ap (opening t h) (sym k) ∙ m.opens; same = m.same ∙ c }))
      (λ a. inr (
        ap (reversed t n h) (sym k) ∙ a.0,
        record {
          agrees = λ op l o f. a.1.agrees op l (ap (opening t h) k ∙ o) (ap (forwarded h) k ∙ f) ∙ c;
          source = ⊎_elim (λ s. inl (record { link = s.link; serial = s.serial; message = s.message; has = s.has; reversal = s.reversal; key = s.key ∙ k; same = s.same ∙ c })) (λ g. inr (ap (λ z. is_attached t n (Key.acquirer z)) (sym k) ∙ g)) a.1.source;
        },
      ))
      p.from;
}

pub not_strange : (t : Network) (n : ℕ) (h : History) (m : Fields) → refusal t n h (Enter m) ≡ None → strange_original m ≡ false
not_strange t n h m e = IsWhole.not_strange (EnteredFacts.is_whole (entered_facts t n h m e))

not_strange_is : (m : Fields) → is_04xx m.kind ≡ true → strange_original m ≡ false → part 20 11 (el m 90) ≡ (own_key m).acquirer
not_strange_is m r e =
    let a : (is_04xx m.kind && not (bytes_eq (part 0 4 (el m 90)) (48 ∷ 49 ∷ 48 ∷ 48 ∷ []) && bytes_eq (part 20 11 (el m 90)) (own_key m).acquirer)) ≡ false = e in
    let b : not (bytes_eq (part 0 4 (el m 90)) (48 ∷ 49 ∷ 48 ∷ 48 ∷ []) && bytes_eq (part 20 11 (el m 90)) (own_key m).acquirer) ≡ false = rw r at a in
    let c = and_parts (bytes_eq (part 0 4 (el m 90)) (48 ∷ 49 ∷ 48 ∷ 48 ∷ [])) (bytes_eq (part 20 11 (el m 90)) (own_key m).acquirer) (not-false _ b) in
    bytes_eq_is (part 20 11 (el m 90)) (own_key m).acquirer c.1

dated_04xx : (date : List ℕ) (m : Fields) → is_04xx (dated date m).kind ≡ is_04xx m.kind
unfolding Rattle.iso_message.specs.Fields.set_element
dated_04xx date m = go (is_request m.kind) refl
  where
    go : (b : Bool) → is_request m.kind ≡ b → is_04xx (dated date m).kind ≡ is_04xx m.kind
    go true at = rw at refl
    go false at = rw at refl

-- an entered reversal names an acquirer of this node
pub entered_reversal : (t : Network) (n : ℕ) (h : History) (m : Fields) (x : Fields) (src : Source) → refusal t n h (Enter m) ≡ None → handled t h (Enter m) ≡ Some (record { message = x; source = src }) → is_04xx x.kind ≡ true → is_attached t n (key_of x).acquirer ≡ true
unfolding handled key_of original_key remove_element
entered_reversal t n h m x src ok e r =
    let a : dated (date_of t h) (remove_element m 33) ≡ x = ap (λ (z : Handled). z.message) (same_Some _ _ e) in
    let el90 : el x 90 ≡ el m 90 = ap (λ z. el z 90) (sym a) ∙ (el_dated (date_of t h) (remove_element m 33) 90 refl ∙ el_remove m 33 90 refl) in
    let kind : is_04xx m.kind ≡ true = sym (dated_04xx (date_of t h) (remove_element m 33)) ∙ (ap (λ z. is_04xx (Fields.kind z)) a ∙ r) in
    let acquirer : part 20 11 (el x 90) ≡ (own_key m).acquirer = ap (part 20 11) el90 ∙ not_strange_is m kind (not_strange t n h m ok) in
    rw r (subst (λ z. is_attached t n z ≡ true) (sym acquirer) (Rattle.network_law.proofs.Node.attached t n h m ok))

reversal_source : (t : Network) (n : ℕ) (past : History) (i : ReadInput) (h : History) (m : Fields) (src : Source) → refusal t n past i ≡ None → handled_as t past i m src → is_reversal m.kind ≡ true → Has (In i) h → TakenFrom h m ⊎ (is_attached t n (key_of m).acquirer ≡ true)
unfolding handled
reversal_source t n past (Enter x) h m src ok e r has = inr (entered_reversal t n past x m src ok e (reversal_is_04xx m.kind r))
reversal_source t n past (Take l s x) h m src ok e r has =
    let same : x ≡ m = ap (λ (z : Handled). z.message) (same_Some _ _ e) in
    inl (record { link = l; serial = s; message = m; has = subst (λ z. Has (In (Take l s z)) h) same has; reversal = r; key = refl; same = refl })
reversal_source t n past (LinkUp l) h m src ok e r has = absurd (none_some _ e)
reversal_source t n past (LinkDown l) h m src ok e r has = absurd (none_some _ e)
reversal_source t n past Tick h m src ok e r has = absurd (none_some _ e)
reversal_source t n past (HostAnswer a c) h m src ok e r has = absurd (none_some _ e)
reversal_source t n past (NewDate d) h m src ok e r has = absurd (none_some _ e)
reversal_source t n past (TakePacket lk sr pk) h m src ok e r has = absurd (none_some _ e)
reversal_source t n past (Lend br cd dt am) h m src ok e r has = absurd (none_some _ e)

-- what is said of all reversals among the advices
abbrev pub AllKnown : Network → ℕ → History → Type 0
AllKnown t n h = (a : Advice) → IsIn a (advices t n h) → is_04xx a.message.kind ≡ true → Provenance t n h a.message

-- members of the list of advices

pub in_add : (a b : Advice) (as' : List Advice) → IsIn a (add_advice b as') → (b ≡ a) ⊎ IsIn a as'
in_add a b as' m = cond_both (list_any (has_identity (identity_of b.message)) as') as' (b ∷ as') (λ z. IsIn a z → (b ≡ a) ⊎ IsIn a as') (λ _ m. inr m) (λ _ m. m) m

pub in_made : (a : Advice) (make : Fields → Fields) (count : ℕ) (o : Option Opening) (as' : List Advice) → IsIn a (add_made make count o as') → ((op : Opening) × (o ≡ Some op) × (a.message ≡ make op.message)) ⊎ IsIn a as'
in_made a make count None as' m = inr m
in_made a make count (Some op) as' m = ⊎_elim (λ e. inl (op, refl, ap Advice.message (sym e))) inr (in_add a (record { message = make op.message; count = count; own = true; acked = false }) as' m)

pub in_accepted : (a : Advice) (count : ℕ) (b : Bool) (o : Option Handled) (as' : List Advice) → IsIn a (add_accepted count b o as') → ((x : Handled) × (b ≡ true) × (o ≡ Some x) × (is_advice_group (group x.message.kind) ≡ true) × (a.message ≡ as_kept x.message) × (a.own ≡ false)) ⊎ IsIn a as'
in_accepted a count true (Some x) as' m = cond_both (is_advice_group (group x.message.kind)) (add_advice (record { message = as_kept x.message; count = count; own = false; acked = false }) as') as' (λ z. IsIn a z → ((x' : Handled) × (true ≡ true) × (Some x ≡ Some x') × (is_advice_group (group x'.message.kind) ≡ true) × (a.message ≡ as_kept x'.message) × (a.own ≡ false)) ⊎ IsIn a as')
    (λ g m. ⊎_elim (λ e. inl (x, refl, refl, g, ap Advice.message (sym e), ap Advice.own (sym e))) inr (in_add a (record { message = as_kept x.message; count = count; own = false; acked = false }) as' m))
    (λ _ m. inr m) m
in_accepted a count true None as' m = inr m
in_accepted a count false o as' m = inr m

pub in_acked : (a : Advice) (i : ReadInput) (as' : List Advice) → IsIn a (map (acked_by i) as') → (b : Advice) × IsIn b as' × (b.message ≡ a.message) × (b.own ≡ a.own)
in_acked a i [] m = absurd m
in_acked a i (b ∷ as') m = ⊎_elim (λ e. (b, inl refl, acked_message i b ∙ ap Advice.message e, acked_own i b ∙ ap Advice.own e)) (λ r. (let x = in_acked a i as' r in (x.0, inr x.1, x.2, x.3))) m
  where
    acked_message : (i : ReadInput) (b : Advice) → b.message ≡ (acked_by i b).message
    acked_message (Take l s x) b = refl
    acked_message (Enter x) b = refl
    acked_message (LinkUp l) b = refl
    acked_message (LinkDown l) b = refl
    acked_message Tick b = refl
    acked_message (HostAnswer c d) b = refl
    acked_message (NewDate d) b = refl
    acked_message (TakePacket lk sr pk) b = refl
    acked_message (Lend br cd dt am) b = refl

    acked_own : (i : ReadInput) (b : Advice) → b.own ≡ (acked_by i b).own
    acked_own (Take l s x) b = refl
    acked_own (Enter x) b = refl
    acked_own (LinkUp l) b = refl
    acked_own (LinkDown l) b = refl
    acked_own Tick b = refl
    acked_own (HostAnswer c d) b = refl
    acked_own (NewDate d) b = refl
    acked_own (TakePacket lk sr pk) b = refl
    acked_own (Lend br cd dt am) b = refl

-- a reversal that stands on a link
pub record SentReversal (t : Network) (n : ℕ) (h : History) (l : ℕ) (x : Fields) : Type 0 where
  pub s : Issuer
  pub issued : issuer t (card_of x) ≡ Some s
  pub away : is_home s n ≡ false
  pub on_route : IsIn l (route_links t n (card_of x))
  pub provenance : Provenance t n h x

abbrev pub SentKnown : Network → ℕ → History → Type 0
SentKnown t n h = (i : ReadInput) (l s : ℕ) (x : Fields) → Has (Out i (Put l s x)) h → is_reversal x.kind ≡ true → SentReversal t n h l x

-- more events: what agreed still agrees, unless the key is forwarded only now
pub record Extends (t : Network) (h h' : History) (k : Key) : Type 0 where
  pub has : (l s : ℕ) (m : Fields) → Has (In (Take l s m)) h → Has (In (Take l s m)) h'
  pub reverses : (n : ℕ) → reversed t n h k ≡ true → reversed t n h' k ≡ true
  pub opens : (op : Opening) → opening t h k ≡ Some op → opening t h' k ≡ Some op
  pub back : (op : Opening) (l : ℕ) → opening t h' k ≡ Some op → forwarded h' k ≡ Some l → (l' : ℕ) × (opening t h k ≡ Some op) × (forwarded h k ≡ Some l')

pub extend : (t : Network) (n : ℕ) (h h' : History) (x : Fields) → Extends t h h' (key_of x) → Provenance t n h x → Provenance t n h' x
extend t n h h' x more p = record {
  issued = p.issued;
  from = ⊎_elim
      (λ m. inl (record { op = m.op; opens = Extends.opens more m.op m.opens; same = m.same }))
      (λ a. inr (
        Extends.reverses more n a.0,
        record {
          agrees = λ op l o f. (let b = Extends.back more op l o f in a.1.agrees op b.0 b.1 b.2);
          source = ⊎_elim (λ s. inl (record { link = s.link; serial = s.serial; message = s.message; has = Extends.has more s.link s.serial s.message s.has; reversal = s.reversal; key = s.key; same = s.same })) (λ g. inr g) a.1.source;
        },
      ))
      p.from;
}

-- what is made here needs no such thing
pub extend_made : (t : Network) (n : ℕ) (h h' : History) (x : Fields) → ((op : Opening) → opening t h (key_of x) ≡ Some op → opening t h' (key_of x) ≡ Some op) → Issued t x → MadeHere t h x → Provenance t n h' x
extend_made t n h h' x opens issued m = record { issued = issued; from = inl (record { op = m.op; opens = opens m.op m.opens; same = m.same }) }

pub extends_in : (t : Network) (n : ℕ) (h : History) (i : ReadInput) (k : Key) → NodeFacts t n h → Extends t h (In i ∷ h) k
unfolding forwarded
extends_in t n h i k f = record {
  has = λ l s m has. inr has;
  reverses = λ n r. reversed_more t n (In i) h k r;
  opens = λ op e. stays_open t h i k op e;
  back = λ op l o fw. back op l o fw;
}
  where
    back : (op : Opening) (l : ℕ) → opening t (In i ∷ h) k ≡ Some op → forwarded h k ≡ Some l → (l' : ℕ) × (opening t h k ≡ Some op) × (forwarded h k ≡ Some l')
    back op l o fw =
        let b = forwarded_has h k l fw in
        let s = f.puts b.0 l b.1 b.2 b.3 b.4 in
        let was : opening t h k ≡ Some s.op = ap (opening t h) (sym b.5) ∙ s.is in
        let same : s.op ≡ op = same_Some s.op op (sym (stays_open t h i k s.op was) ∙ o) in
        (l, was ∙ ap Some same, fw)

-- an output that forwards nothing, or a key that is forwarded already
pub extends_out : (t : Network) (h : History) (i : ReadInput) (o : ReadOutput) (k : Key) → ((l : ℕ) → forwarded h k ≡ None → forwards k o ≡ Some l → ⊥) → Extends t h (Out i o ∷ h) k
unfolding opening forwarded
extends_out t h i o k not_now = record {
  has = λ l s m has. inr has;
  reverses = λ n r. reversed_more t n (Out i o) h k r;
  opens = λ op e. e;
  back = λ op l o' fw. (let b = by (forwarded h k) refl l fw in (b.0, o', b.1));
}
  where
    by : (w : Option ℕ) → forwarded h k ≡ w → (l : ℕ) → option_or (forwarded h k) (forwards k o) ≡ Some l → (l' : ℕ) × (forwarded h k ≡ Some l')
    by (Some l') at l fw = (l', at)
    by None at l fw = absurd (not_now l at (rw at at fw))

-- made reversals
pub made_provenance : (t : Network) (n : ℕ) (h : History) (k : Key) (op : Opening) (x : Fields) → NodeFacts t n h → opening t h k ≡ Some op → Issued t op.message → x ≡ made_reversal op.message (node_id t n) → Provenance t n h x
made_provenance t n h k op x f o issued e =
    let w = f.opens k op o in
    let key : key_of x ≡ k = ap key_of e ∙ (made_reversal_key op.message (node_id t n) w.formed.trace w.formed.time w.formed.acquirer w.request ∙ w.key) in
    let same : content x ≡ content op.message = ap content e ∙ content_made_reversal op.message (node_id t n) in
    record { issued = (issued.0, ap (issuer t) (same_card x op.message same) ∙ issued.1); from = inl (record { op = op; opens = ap (opening t h) key ∙ o; same = sym same }) }

-- a late key was forwarded or asked
pub late_ticks : (t : Network) (h : History) (as' : List Advice) (i : ReadInput) (k : Key) → late_key h as' i ≡ Some k → is_some (ticks_by t (forwarded h k) (asked h k)) ≡ true
late_ticks t h as' (Take l s m) k e = go (is_answer m.kind && bytes_eq (code_of m) code_00 && is_link l (forwarded h (key_of m)) && comes_late h as' (key_of m)) refl
  where
    go : (b : Bool) → (is_answer m.kind && bytes_eq (code_of m) code_00 && is_link l (forwarded h (key_of m)) && comes_late h as' (key_of m)) ≡ b → is_some (ticks_by t (forwarded h k) (asked h k)) ≡ true
    go true at =
        let p = and_parts (is_answer m.kind && bytes_eq (code_of m) code_00 && is_link l (forwarded h (key_of m))) (comes_late h as' (key_of m)) at in
        let q = and_parts (is_answer m.kind && bytes_eq (code_of m) code_00) (is_link l (forwarded h (key_of m))) p.0 in
        let same : key_of m ≡ k = same_Some _ _ (rw at at e) in
        let fw : forwarded h k ≡ Some l = ap (forwarded h) (sym same) ∙ is_link_is l (forwarded h (key_of m)) q.1 in
        rw fw refl
    go false at = absurd (none_some k (rw at at e))
late_ticks t h as' (HostAnswer a c) k e = go (ask_key h a) refl e
  where
    test : (j : Key) (b : Bool) → (bytes_eq c code_00 && comes_late h as' j) ≡ b → cond (bytes_eq c code_00 && comes_late h as' j) (Some j) None ≡ Some k → j ≡ k
    test j true at e = same_Some _ _ (rw at at e)
    test j false at e = absurd (none_some k (rw at at e))

    go : (w : Option Key) → ask_key h a ≡ w → option_and_then (λ j. cond (bytes_eq c code_00 && comes_late h as' j) (Some j) None) (ask_key h a) ≡ Some k → is_some (ticks_by t (forwarded h k) (asked h k)) ≡ true
    go None at e = absurd (none_some k (rw at at e))
    go (Some j) at e =
        let same : j ≡ k = test j (bytes_eq c code_00 && comes_late h as' j) refl (rw at at e) in
        via_ticks t h (HostAnswer a c) k (inr (record { ask = a; code = c; input = refl; key_asked = at ∙ ap Some same }))
late_ticks t h as' (Enter m) k e = absurd (none_some k e)
late_ticks t h as' (LinkUp l) k e = absurd (none_some k e)
late_ticks t h as' (LinkDown l) k e = absurd (none_some k e)
late_ticks t h as' Tick k e = absurd (none_some k e)
late_ticks t h as' (NewDate d) k e = absurd (none_some k e)
late_ticks t h as' (TakePacket lk sr pk) k e = absurd (none_some k e)
late_ticks t h as' (Lend br cd dt am) k e = absurd (none_some k e)

pub opened_of_key : {X Y : Type 0} (f : X → Option Y) (o : Option X) (y : Y) → option_and_then f o ≡ Some y → (x : X) × (o ≡ Some x) × (f x ≡ Some y)
opened_of_key f None y e = absurd (none_some y e)
opened_of_key f (Some x) y e = (x, refl, e)

pub known_in : (t : Network) (n : ℕ) (h : History) (i : ReadInput) → IsFormed i → refusal t n h i ≡ None → NodeFacts t n h → AllKnown t n h → AllKnown t n (In i ∷ h)
unfolding advices
known_in t n h i form ok f before a m r = ⊎_elim made old (in_made a (λ x. made_reversal x (node_id t n)) (count_of h) (option_and_then (opening t h) (late_key h (advices t n h) i)) (map (acked_by i) (advices t n h)) m)
  where
    made : (op : Opening) × (option_and_then (opening t h) (late_key h (advices t n h) i) ≡ Some op) × (a.message ≡ made_reversal op.message (node_id t n)) → Provenance t n (In i ∷ h) a.message
    made p =
        let k = opened_of_key (opening t h) (late_key h (advices t n h) i) p.0 p.1 in
        let issued = keeps_issuers t n h f k.0 p.0 k.2 (late_ticks t h (advices t n h) i k.0 k.1) in
        extend t n h (In i ∷ h) a.message (extends_in t n h i (key_of a.message) f) (made_provenance t n h k.0 p.0 a.message f k.2 issued p.2)

    old : IsIn a (map (acked_by i) (advices t n h)) → Provenance t n (In i ∷ h) a.message
    old q =
        let b = in_acked a i (advices t n h) q in
        let p : Provenance t n h a.message = subst (λ z. Provenance t n h z) b.2 (before b.0 b.1 (ap (λ z. is_04xx (Fields.kind z)) b.2 ∙ r)) in
        extend t n h (In i ∷ h) a.message (extends_in t n h i (key_of a.message) f) p

pub sent_in : (t : Network) (n : ℕ) (h : History) (i : ReadInput) → NodeFacts t n h → SentKnown t n h → SentKnown t n (In i ∷ h)
sent_in t n h i f before j l s x has r =
    let b = before j l s x (below has) r in
    record { s = b.s; issued = b.issued; away = b.away; on_route = b.on_route; provenance = extend t n h (In i ∷ h) x (extends_in t n h i (key_of x) f) b.provenance }
  where
    below : Has (Out j (Put l s x)) (In i ∷ h) → Has (Out j (Put l s x)) h
    below (inl e) = absurd (no e)
      where
        no : In i ≡ Out j (Put l s x) → ⊥
        no p = cc
    below (inr m) = m

pub kept_no_answer : (k : Kind) → is_kept_group (group k) ≡ true → is_answer k ≡ false
kept_no_answer K0100 g = refl
kept_no_answer K0101 g = refl
kept_no_answer K0110 g = cc
kept_no_answer K0120 g = refl
kept_no_answer K0121 g = refl
kept_no_answer K0130 g = refl
kept_no_answer K0400 g = refl
kept_no_answer K0401 g = refl
kept_no_answer K0410 g = refl
kept_no_answer K0420 g = refl
kept_no_answer K0421 g = refl
kept_no_answer K0430 g = refl

pub advice_04xx : (k : Kind) → is_advice_group (group k) ≡ true → is_04xx k ≡ true → (group k ≡ groups.Reversal) × (is_reversal k ≡ true)
advice_04xx K0100 g e = cc
advice_04xx K0101 g e = cc
advice_04xx K0110 g e = cc
advice_04xx K0120 g e = cc
advice_04xx K0121 g e = cc
advice_04xx K0130 g e = cc
advice_04xx K0400 g e = (refl, refl)
advice_04xx K0401 g e = (refl, refl)
advice_04xx K0410 g e = cc
advice_04xx K0420 g e = (refl, refl)
advice_04xx K0421 g e = (refl, refl)
advice_04xx K0430 g e = cc

pub request_no_ack : (k : Kind) → is_request k ≡ true → is_ack_kind (group (response_kind k)) ≡ false
request_no_ack K0100 e = refl
request_no_ack K0101 e = refl
request_no_ack K0110 e = cc
request_no_ack K0120 e = cc
request_no_ack K0121 e = cc
request_no_ack K0130 e = cc
request_no_ack K0400 e = cc
request_no_ack K0401 e = cc
request_no_ack K0410 e = cc
request_no_ack K0420 e = cc
request_no_ack K0421 e = cc
request_no_ack K0430 e = cc

pub answer_no_ack : (k : Kind) → is_answer k ≡ true → is_ack_kind (group k) ≡ false
answer_no_ack K0100 e = refl
answer_no_ack K0101 e = refl
answer_no_ack K0110 e = refl
answer_no_ack K0120 e = refl
answer_no_ack K0121 e = refl
answer_no_ack K0130 e = cc
answer_no_ack K0400 e = refl
answer_no_ack K0401 e = refl
answer_no_ack K0410 e = cc
answer_no_ack K0420 e = refl
answer_no_ack K0421 e = refl
answer_no_ack K0430 e = cc

pub advice_no_ack : (a b : Bool) → is_ack_kind (group (sent_kind a b)) ≡ false
advice_no_ack true true = refl
advice_no_ack true false = refl
advice_no_ack false true = refl
advice_no_ack false false = refl

pub ok_ack_parts : (w : Option Fields) → is_ok_ack w ≡ true → (y : Fields) × (w ≡ Some y) × (is_ack_kind (group y.kind) ≡ true) × (bytes_eq (code_of y) code_00 ≡ true)
ok_ack_parts None e = absurd (not_both false e refl)
ok_ack_parts (Some y) e = let p = and_parts (is_ack_kind (group y.kind)) (bytes_eq (code_of y) code_00) e in (y, refl, p.0, p.1)

-- what is acknowledged with 00 was accepted
pub acking_case : (t : Network) (n : ℕ) (past : History) (i : ReadInput) (h : History) (o : ReadOutput) → EntryFacts t n past i h → Allowed t n past i h o → is_ok_ack (sent o) ≡ true → (f : Acking t n past i h o) × (bytes_eq f.code code_00 ≡ true)
acking_case t n past i h o facts allowed e = go allowed
  where
    y : (y : Fields) × (sent o ≡ Some y) × (is_ack_kind (group y.kind) ≡ true) × (bytes_eq (code_of y) code_00 ≡ true)
    y = ok_ack_parts (sent o) e

    ends : {A : Type 0} → is_ack_kind (group y.0.kind) ≡ false → A
    ends f = absurd (not_both (is_ack_kind (group y.0.kind)) y.2 f)

    of_request : {A : Type 0} (m : Fields) (c : Bytes) → response m c ≡ y.0 → is_request m.kind ≡ true → A
    of_request m c same r = ends (ap (λ z. is_ack_kind (group (Fields.kind z))) (sym same) ∙ (ap (λ z. is_ack_kind (group z)) (response_is_of_kind m c) ∙ request_no_ack m.kind r))

    go : Allowed t n past i h o → (f : Acking t n past i h o) × (bytes_eq f.code code_00 ≡ true)
    go (forwarding f) = ends (ap (λ z. is_ack_kind (group (Fields.kind z))) (sym (same_Some (as_kind K0100 f.message) y.0 (ap sent (sym f.is) ∙ y.1))))
    go (asking f) = absurd (none_some y.0 (ap sent (sym f.is) ∙ y.1))
    go (standing_in f) = of_request f.op.message _ (reply_message f.op.source _ h o y.0 f.is y.1) (facts.node.opens f.opens.key f.op (facts.opening_is f.opens.key ∙ f.opens.is)).request
    go (passing f) = of_request f.op.message f.code (reply_message f.op.source _ h o y.0 f.is y.1) (facts.node.opens f.key f.op (facts.opening_is f.key ∙ stays_open t past i f.key f.op f.opens)).request
    go (declining f) = of_request f.op.message f.code (reply_message f.op.source _ h o y.0 f.is y.1) (facts.node.opens f.opens.key f.op (facts.opening_is f.opens.key ∙ f.opens.is)).request
    go (repeating f) = ends (ap (λ z. is_ack_kind (group (Fields.kind z))) (sym (reply_message f.source f.before h o y.0 f.is y.1)) ∙ answer_no_ack f.before.kind ((Rattle.network_law.proofs.Node.answer_is past f.key f.before f.answered).0))
    go (refusing f) = absurd (not_both (bytes_eq code_94 code_00) (ap (λ c. bytes_eq c code_00) (sym (Rattle.network_law.proofs.Used.response_code f.message code_94 y.0 (reply_message f.source _ h o y.0 f.is y.1))) ∙ y.3) refl)
    go (acking f) = (f, ap (λ c. bytes_eq c code_00) (sym (Rattle.network_law.proofs.Used.response_code f.message f.code y.0 (reply_message f.source _ h o y.0 f.is y.1))) ∙ y.3)
    go (sending f) = ends (ap (λ z. is_ack_kind (group (Fields.kind z))) (sym (same_Some (as_kind (sent_kind (is_04xx f.message.kind) f.again) f.message) y.0 (ap sent (sym f.is) ∙ y.1))) ∙ advice_no_ack (is_04xx f.message.kind) f.again)
    go (posting f) = absurd (none_some y.0 (ap sent (sym f.is) ∙ y.1))
    go (putting_packet f) = absurd (none_some y.0 (ap sent (sym f.is) ∙ y.1))

-- and is good
pub ack_case : (t : Network) (n : ℕ) (past : History) (i : ReadInput) (h : History) (o : ReadOutput) → EntryFacts t n past i h → Allowed t n past i h o → is_ok_ack (sent o) ≡ true → (m : Fields) × (src : Source) × handled_as t past i m src × IsGood t past m
ack_case t n past i h o facts allowed e = let r = acking_case t n past i h o facts allowed e in (r.0.message, r.0.source, r.0.is_handled, r.0.good r.1)

-- a good reversal has the content of its key, where that is open
pub good_agrees : (t : Network) (n : ℕ) (past : History) (i : ReadInput) (h : History) (m : Fields) (src : Source) → EntryFacts t n past i h → handled_as t past i m src → is_reversal m.kind ≡ true → IsGood t past m → (op : Opening) → opening t h (key_of m) ≡ Some op → content op.message ≡ content m
good_agrees t n past i h m src entry e r good op o = ⊎_elim was now (opening_in_cases t past i (key_of m) op (sym (entry.opening_is (key_of m)) ∙ o))
  where
    was : opening t past (key_of m) ≡ Some op → content op.message ≡ content m
    was w = content_eq_is (content op.message) (content m) (not-false _ (ap (λ z. other_content z m) (sym w) ∙ good.agrees r))

    now : OpensNow t past i (key_of m) op → content op.message ≡ content m
    now v =
        let q : op.message ≡ m = ap (λ (z : Handled). z.message) (same_Some _ _ (sym v.is_handled ∙ e)) in
        absurd (not_both (is_04xx m.kind) (reversal_is_04xx m.kind r) (Rattle.network_law.proofs.Node.request_no_04xx m.kind (ap (λ z. is_request (Fields.kind z)) (sym q) ∙ v.request)))

-- a reversal that is good, at its node
pub record GoodHere (t : Network) (n : ℕ) (past : History) (i : ReadInput) (h : History) : Type 0 where
  pub entry : EntryFacts t n past i h
  pub input : Has (In i) h

pub good_accepted : (t : Network) (n : ℕ) (past : History) (i : ReadInput) (h : History) (m x : Fields) (src : Source) → refusal t n past i ≡ None → GoodHere t n past i h → handled_as t past i m src → is_reversal m.kind ≡ true → IsGood t past m → key_of x ≡ key_of m → content x ≡ content m → reversed t n h (key_of x) ≡ true → Provenance t n h x
good_accepted t n past i h m x src ok here e r good key same rev = record {
  issued = issued_of (issuer t (card_of m)) refl good.issued;
  from = inr (rev, record { agrees = λ op l o f. agrees op (ap (opening t h) (sym key) ∙ o); source = ⊎_elim (λ s. inl (record { link = s.link; serial = s.serial; message = s.message; has = s.has; reversal = s.reversal; key = s.key ∙ sym key; same = s.same ∙ sym same })) (λ g. inr (ap (λ z. is_attached t n (Key.acquirer z)) key ∙ g)) (reversal_source t n past i h m src ok e r (GoodHere.input here)) });
}
  where
    issued_of : (w : Option Issuer) → issuer t (card_of m) ≡ w → is_none (issuer t (card_of m)) ≡ false → Issued t x
    issued_of None at g = absurd (not_both true refl (rw at at g))
    issued_of (Some s) at g = (s, ap (issuer t) (same_card x m same) ∙ at)

    agrees : (op : Opening) → opening t h (key_of m) ≡ Some op → content op.message ≡ content x
    agrees op o = good_agrees t n past i h m src (GoodHere.entry here) e r good op o ∙ sym same

pub made_stand_in_kind : (m : Fields) (id : Bytes) → (made_stand_in m id).kind ≡ K0120
unfolding made_stand_in Rattle.iso_message.specs.Made.made_from Rattle.iso_message.specs.Fields.set_element
made_stand_in_kind m id = refl

pub any_in : {X : Type 0} (p : X → Bool) (x : X) (xs : List X) → IsIn x xs → p x ≡ true → list_any p xs ≡ true
any_in p x [] m e = absurd m
any_in p x (y ∷ ys) m e = ⊎_elim (λ same. (let z : p y ≡ true = ap p same ∙ e in rw z refl)) (λ r. or_right (p y) (list_any p ys) (any_in p x ys r e)) m

-- an input makes reversals of its own alone
abbrev pub accepted_of : Key → Advice → Bool
accepted_of k a = not a.own && reverses_key k a

pub reversed_back : (t : Network) (n : ℕ) (past : History) (i : ReadInput) (k : Key) → reversed t n (In i ∷ past) k ≡ true → reversed t n past k ≡ true
unfolding reversed advices
reversed_back t n past i k r = acked_back (advices t n past) (made_back (λ m. made_reversal m (node_id t n)) (count_of past) (option_and_then (opening t past) (late_key past (advices t n past) i)) (map (acked_by i) (advices t n past)) r)
  where
    made_back : (make : Fields → Fields) (count : ℕ) (o : Option Opening) (as' : List Advice) → list_any (accepted_of k) (add_made make count o as') ≡ true → list_any (accepted_of k) as' ≡ true
    made_back make count None as' e = e
    made_back make count (Some op) as' e = cond_both (list_any (has_identity (identity_of (make op.message))) as') as' (record { message = make op.message; count = count; own = true; acked = false } ∷ as') (λ z. list_any (accepted_of k) z ≡ true → list_any (accepted_of k) as' ≡ true) (λ _ x. x) (λ _ x. x) e

    acked_one : (i : ReadInput) (a : Advice) → accepted_of k (acked_by i a) ≡ accepted_of k a
    acked_one (Take l s m) a = refl
    acked_one (Enter m) a = refl
    acked_one (LinkUp l) a = refl
    acked_one (LinkDown l) a = refl
    acked_one Tick a = refl
    acked_one (HostAnswer b c) a = refl
    acked_one (NewDate d) a = refl
    acked_one (TakePacket lk sr pk) a = refl
    acked_one (Lend br cd dt am) a = refl

    acked_all : (as' : List Advice) → list_any (accepted_of k) (map (acked_by i) as') ≡ list_any (accepted_of k) as'
    acked_all [] = refl
    acked_all (a ∷ as') = ap (λ b. b || list_any (accepted_of k) (map (acked_by i) as')) (acked_one i a) ∙ ap (λ b. accepted_of k a || b) (acked_all as')

    acked_back : (as' : List Advice) → list_any (accepted_of k) (map (acked_by i) as') ≡ true → list_any (accepted_of k) as' ≡ true
    acked_back as' e = sym (acked_all as') ∙ e

-- within an entry
pub record Through (t : Network) (n : ℕ) (past : History) (i : ReadInput) (h : History) : Type 0 where
  pub entry : EntryFacts t n past i h
  pub input : Has (In i) h
  pub handled_same : handled t h i ≡ handled t past i
  pub past_known : (x : Fields) → Provenance t n past x → Provenance t n h x
  pub all_known : AllKnown t n h
  pub sent_known : SentKnown t n h

-- an entry's advices where nothing is made

pub quiet_out : (t : Network) (n : ℕ) (i : ReadInput) (o : ReadOutput) (h : History) → own_approval h i o ≡ None → failed_key t h i (sent o) ≡ None → advices t n (Out i o ∷ h) ≡ add_accepted (count_of h) (is_ok_ack (sent o)) (handled t h i) (advices t n h)
unfolding advices
quiet_out t n i o h a b = rw (a, b) refl

pub no_failed : (t : Network) (h : History) (i : ReadInput) (w : Option Fields) → is_timer i ≡ false → failed_key t h i w ≡ None
no_failed t h i None e = refl
no_failed t h i (Some y) e = rw e refl

pub no_own : (h : History) (i : ReadInput) (o : ReadOutput) (y : Fields) → sent o ≡ Some y → (is_answer y.kind && bytes_eq (code_of y) code_00) ≡ false → own_approval h i o ≡ None
no_own h i o y e f = rw (e, f) refl

pub late_none : (t : Network) (past : History) (as' : List Advice) (i : ReadInput) (m : Fields) (src : Source) → handled_as t past i m src → is_answer m.kind ≡ false → late_key past as' i ≡ None
unfolding handled
late_none t past as' (Take l s x) m src e f =
    let same : x ≡ m = ap (λ (z : Handled). z.message) (same_Some _ _ e) in
    let g : is_answer x.kind ≡ false = ap (λ z. is_answer (Fields.kind z)) same ∙ f in
    rw g refl
late_none t past as' (Enter x) m src e f = refl
late_none t past as' (LinkUp l) m src e f = refl
late_none t past as' (LinkDown l) m src e f = refl
late_none t past as' Tick m src e f = refl
late_none t past as' (HostAnswer a c) m src e f = absurd (none_some _ e)
late_none t past as' (NewDate d) m src e f = refl
late_none t past as' (TakePacket lk sr pk) m src e f = refl
late_none t past as' (Lend br cd dt am) m src e f = refl

pub identity_acked : (id : AdviceId) (i : ReadInput) (as' : List Advice) → list_any (has_identity id) (map (acked_by i) as') ≡ list_any (has_identity id) as'
identity_acked id i [] = refl
identity_acked id i (a ∷ as') = ap (λ b. b || list_any (has_identity id) (map (acked_by i) as')) (one i a) ∙ ap (λ b. has_identity id a || b) (identity_acked id i as')
  where
    one : (i : ReadInput) (a : Advice) → has_identity id (acked_by i a) ≡ has_identity id a
    one (Take l s m) a = refl
    one (Enter m) a = refl
    one (LinkUp l) a = refl
    one (LinkDown l) a = refl
    one Tick a = refl
    one (HostAnswer b c) a = refl
    one (NewDate d) a = refl
    one (TakePacket lk sr pk) a = refl
    one (Lend br cd dt am) a = refl

pub advices_in : (t : Network) (n : ℕ) (past : History) (i : ReadInput) → late_key past (advices t n past) i ≡ None → advices t n (In i ∷ past) ≡ map (acked_by i) (advices t n past)
unfolding advices
advices_in t n past i e = rw e refl

identity_kept : (m : Fields) → group m.kind ≡ groups.Reversal → identity_of (as_kept m) ≡ identity_of m
unfolding identity_of Rattle.iso_message.specs.Fields.get
identity_kept m g =
    let a = as_kept_04xx m in
    let b = (kept_reversal m g).1 in
    λ j. record { kind = Rattle.message_keys.specs.Keys.advice_kind (a j); key = b j; forwarder = Rattle.message_keys.specs.Keys.padded_or_zeros (Rattle.iso_message.specs.Fields.get m 33) }

-- an accepted reversal is marked when its acknowledgement is put out
pub reversed_now : (t : Network) (n : ℕ) (past : History) (i : ReadInput) (h : History) (x : Fields) → Accepts t n past i h x → is_04xx x.kind ≡ true → reversed t n h (key_of x) ≡ true
unfolding reversed known
reversed_now t n past i h x a r =
    rw a.at (subst (λ z. list_any (accepted_of (key_of x)) z ≡ true) (sym out) added)
  where
    m : Fields
    m = a.message

    ro : ReadOutput
    ro = reply_output a.source (response a.message code_00) a.before

    r0 : is_04xx a.message.kind ≡ true
    r0 = sym (as_kept_04xx a.message) ∙ (ap (λ z. is_04xx (Fields.kind z)) (sym a.is) ∙ r)

    g : group a.message.kind ≡ groups.Reversal
    g = kept_04xx a.message.kind a.kept_group r0

    no_timer : is_timer i ≡ false
    no_timer = handled_no_timer t past i a.message a.source a.is_handled

    no_answer : is_answer (response a.message code_00).kind ≡ false
    no_answer = ap is_answer (response_is_of_kind a.message code_00) ∙ acked_kind a.message.kind a.kept_group

    own_none : own_approval a.before i (reply_output a.source (response a.message code_00) a.before) ≡ None
    own_none = no_own a.before i (reply_output a.source (response a.message code_00) a.before) (response a.message code_00) (sent_reply a.source (response a.message code_00) a.before) (and_left (is_answer (response a.message code_00).kind) (bytes_eq (code_of (response a.message code_00)) code_00) no_answer)

    handled_there : (b : History) → (b ≡ In i ∷ past) ⊎ ((op : Opening) × (b ≡ Out i (reply_output op.source (response op.message code_68) (In i ∷ past)) ∷ In i ∷ past)) → handled t b i ≡ Some (record { message = a.message; source = a.source })
    handled_there b (inl e) = rw e (handled_in t past i ∙ a.is_handled)
    handled_there b (inr e) = rw e.1 (handled_out t (In i ∷ past) i i (reply_output e.0.source (response e.0.message code_68) (In i ∷ past)) ∙ (handled_in t past i ∙ a.is_handled))

    ack : is_ok_ack (sent (reply_output a.source (response a.message code_00) a.before)) ≡ true
    ack = ap is_ok_ack (sent_reply a.source (response a.message code_00) a.before) ∙ and_from (is_ack_kind (group (response a.message code_00).kind)) (bytes_eq (code_of (response a.message code_00)) code_00) (ap (λ z. is_ack_kind (group z)) (response_is_of_kind a.message code_00) ∙ Rattle.network_law.proofs.Late.ack_kind_of a.message.kind g) (ap (λ c. bytes_eq c code_00) (code_response a.message code_00))

    new : Advice
    new = record { message = as_kept a.message; count = count_of a.before; own = false; acked = false }

    accepted_is : (count : ℕ) (b : Bool) (o : Option Handled) (as' : List Advice) → b ≡ true → o ≡ Some (record { message = a.message; source = a.source }) → add_accepted count b o as' ≡ add_advice (record { message = as_kept a.message; count = count; own = false; acked = false }) as'
    accepted_is count b o as' e f = rw (e, f, g) refl

    out : advices t n (Out i (reply_output a.source (response a.message code_00) a.before) ∷ a.before) ≡ add_advice (record { message = as_kept a.message; count = count_of a.before; own = false; acked = false }) (advices t n a.before)
    out = quiet_out t n i (reply_output a.source (response a.message code_00) a.before) a.before own_none (no_failed t a.before i (sent (reply_output a.source (response a.message code_00) a.before)) no_timer)
        ∙ accepted_is (count_of a.before) (is_ok_ack (sent (reply_output a.source (response a.message code_00) a.before))) (handled t a.before i) (advices t n a.before) ack (handled_there a.before a.was)

    id_kept : identity_of (as_kept a.message) ≡ identity_of a.message
    id_kept = identity_kept a.message g

    same_in : list_any (has_identity (identity_of a.message)) (advices t n (In i ∷ past)) ≡ list_any (has_identity (identity_of a.message)) (advices t n past)
    same_in = ap (list_any (has_identity (identity_of a.message))) (advices_in t n past i (late_none t past (advices t n past) i a.message a.source a.is_handled (kept_no_answer a.message.kind a.kept_group))) ∙ identity_acked (identity_of a.message) i (advices t n past)

    unknown_there : (b : History) → (b ≡ In i ∷ past) ⊎ ((op : Opening) × (b ≡ Out i (reply_output op.source (response op.message code_68) (In i ∷ past)) ∷ In i ∷ past)) → list_any (has_identity (identity_of a.message)) (advices t n b) ≡ false
    unknown_there b (inl e) = rw e (same_in ∙ a.unknown)
    unknown_there b (inr e) = rw e.1 (ap (list_any (has_identity (identity_of a.message))) (quiet_68 e.0) ∙ (same_in ∙ a.unknown))
      where
        quiet_68 : (op : Opening) → advices t n (Out i (reply_output op.source (response op.message code_68) (In i ∷ past)) ∷ In i ∷ past) ≡ advices t n (In i ∷ past)
        quiet_68 op =
            let s68 = sent_reply op.source (response op.message code_68) (In i ∷ past) in
            let c68 : bytes_eq (code_of (response op.message code_68)) code_00 ≡ false = ap (λ c. bytes_eq c code_00) (code_response op.message code_68) in
            quiet_out t n i (reply_output op.source (response op.message code_68) (In i ∷ past)) (In i ∷ past) (no_own (In i ∷ past) i (reply_output op.source (response op.message code_68) (In i ∷ past)) (response op.message code_68) s68 (and_right (is_answer (response op.message code_68).kind) (bytes_eq (code_of (response op.message code_68)) code_00) c68)) (no_failed t (In i ∷ past) i (sent (reply_output op.source (response op.message code_68) (In i ∷ past))) no_timer)
            ∙ not_acked (count_of (In i ∷ past)) (is_ok_ack (sent (reply_output op.source (response op.message code_68) (In i ∷ past)))) (handled t (In i ∷ past) i) (advices t n (In i ∷ past)) (ap is_ok_ack s68 ∙ and_right (is_ack_kind (group (response op.message code_68).kind)) (bytes_eq (code_of (response op.message code_68)) code_00) c68)
          where
            not_acked : (count : ℕ) (b : Bool) (o : Option Handled) (as' : List Advice) → b ≡ false → add_accepted count b o as' ≡ as'
            not_acked count b o as' e = rw e refl

    new_reverses : accepted_of (key_of x) (record { message = as_kept a.message; count = count_of a.before; own = false; acked = false }) ≡ true
    new_reverses = and_from (is_04xx (as_kept a.message).kind) (key_eq (key_of (as_kept a.message)) (key_of x)) (as_kept_04xx a.message ∙ r0) (ap (λ z. key_eq (key_of (as_kept a.message)) (key_of z)) a.is ∙ key_eq_refl (key_of (as_kept a.message)))

    added : list_any (accepted_of (key_of x)) (add_advice (record { message = as_kept a.message; count = count_of a.before; own = false; acked = false }) (advices t n a.before)) ≡ true
    added = cond_both (list_any (has_identity (identity_of (as_kept a.message))) (advices t n a.before)) (advices t n a.before) (record { message = as_kept a.message; count = count_of a.before; own = false; acked = false } ∷ advices t n a.before) (λ z. list_any (accepted_of (key_of x)) z ≡ true)
        (λ there. absurd (not_both (list_any (has_identity (identity_of a.message)) (advices t n a.before)) (ap (λ z. list_any (has_identity z) (advices t n a.before)) (sym id_kept) ∙ there) (unknown_there a.before a.was)))
        (λ _. (λ (e : accepted_of (key_of x) (record { message = as_kept a.message; count = count_of a.before; own = false; acked = false }) ≡ true). first_any (record { message = as_kept a.message; count = count_of a.before; own = false; acked = false }) (advices t n a.before) e) new_reverses)
      where
        first_any : (b : Advice) (as' : List Advice) → accepted_of (key_of x) b ≡ true → list_any (accepted_of (key_of x)) (b ∷ as') ≡ true
        first_any b as' e = rw e refl
