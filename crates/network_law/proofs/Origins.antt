-- Where each advice of a node comes from, what acknowledges it, and the links by which it was sent.
use Rattle.std.proofs.Common.{◌≡◌, ℕ, List, [], ◌∷◌, map, replicate, Option, Some, None, is_none, Bool, true, false, cond, ◌&&◌, refl, sym, ap, ◌∙◌, subst, inl, inr, ⊎_elim, ◌⊎◌, bytes_eq}
use Rattle.std.proofs.lemmas.Bool.{and_parts, or_cases, cond_both, not-false}
use Rattle.std.proofs.lemmas.Option.{same_Some}
use Rattle.std.specs.Option.{option_and_then}
use Rattle.std.specs.List.{list_any}
use Rattle.card_digits.specs.Numbers.{pad11}
use Rattle.net_rows.specs.Network.{Network, issuer}
use Rattle.net_rows.specs.declared.row.Issuer.{Issuer}
use Rattle.network_law.specs.Tables.{is_home, node_id, route_links, is_attached}
use Rattle.network_law.specs.Traces.{Source, ReadInput, Enter, Take, LinkUp, LinkDown, Tick, HostAnswer, NewDate, TakePacket, Lend, ReadOutput, Put, In, Out, Event, History, Handled, handled, Opening, opening, sent, own_approval, Advice, advices, add_advice, add_made, add_accepted, acked_by, is_ack, is_ack_of, has_identity, late_key, failed_key, is_ok_ack, is_ack_kind, as_kept, dated, date_of, count_of, forwarded, is_up, IsIn, Has}
use Rattle.network_law.specs.Decision.{decide, reply_output, sent_kind, own_way, standin_code}
use Rattle.network_law.proofs.Refused.{EnteredFacts, entered_facts}
use Rattle.network_law.specs.Refusals.{refusal, entered_kind}
use Rattle.network_law.specs.Entries.{ReadEntry, read_history}
use Rattle.network_law.proofs.ReadRuns.{IsFormed, IsLegalRead}
use Rattle.network_law.proofs.Emits.{Allowed, forwarding, asking, standing_in, passing, declining, repeating, refusing, acking, sending, posting, putting_packet, Acking, Sending, Kept, due, reversing, standing, accepting, handled_as, Issued, decide_keeps, stays_open, is_kept_group, found_is_in, from_link}
use Rattle.network_law.proofs.Node.{NodeFacts, EntryFacts, legal_facts, facts_out, keeps_issuers, response_is_of_kind, put_parts}
use Rattle.network_law.proofs.Elements.{own_key_response, el_response, carried, made_base}
use Rattle.network_law.proofs.Used.{OwnFacts, own_in_entry, own_case, has_00_more, brings_more, reply_message, response_code, add_made_keeps, add_accepted_keeps}
use Rattle.network_law.proofs.Late.{handled_in, handled_out}
use Rattle.network_law.proofs.Codes.{reply_put, same_out}
use Rattle.network_law.proofs.Reversals.{home_is_not}
use Rattle.network_law.proofs.Provenance.{in_add, opened_of_key, identity_acked, ack_case, ok_ack_parts, request_no_ack, answer_no_ack, advice_no_ack, entered_reversal}
use Rattle.network_law.proofs.Chain.{same_card}
use Rattle.network_law.proofs.Accounts.{Alike, alike_sym, alike_card}
use Rattle.message_keys.proofs.Equality.{identity_eq_refl}
use Rattle.network_law.proofs.AdviceMarks.{kept_alike, kept_is_advice, sent_alike, advice_kind_04xx, content_made_stand_in, response_no_advice, answer_no_advice}
use Rattle.network_law.specs.Cards.{Bytes, card_of}
use Rattle.iso_message.proofs.Changes.{get_set, get_set_same, get_remove_same, find_kept}
use Rattle.iso_message.specs.Fields.{Fields, get, set_element, remove_element, as_kind}
use Rattle.message_elements.specs.declared.kind.Kind.{Kind}
use Rattle.message_elements.specs.declared.kind.Group.{Group}
use Rattle.message_elements.specs.Groups.{group, is_request, is_reversal, is_04xx, response_kind, is_advice_group}
use Rattle.message_elements.specs.declared.kind.Kind.TheVariants.{K0100, K0101, K0110, K0120, K0121, K0130, K0400, K0401, K0410, K0420, K0421, K0430}
use Rattle.card_digits.specs.declared.key.Key.{Key}
use Rattle.message_keys.specs.Keys.{advice_kind, key_of, own_key, original_key, identity_of, padded_or_zeros, content, code_of}
use Rattle.message_keys.specs.declared.keys.AdviceId.{AdviceId}
use Rattle.iso_message.specs.Made.{kept, response_numbers, response, made_from, made_reversal, made_stand_in}
use Rattle.message_elements.specs.Codes.{code_94, code_68, code_00}
use Rattle.message_elements.specs.declared.kind.Group.TheVariants as groups

not_both : (b : Bool) → b ≡ true → b ≡ false → ⊥
not_both b p q = cc

none_some : {X : Type 0} (x : X) → None ≡ Some x → ⊥
none_some x p = cc

-- elements

pub made_maker : (k : Kind) (m : Fields) (id code : Bytes) → get (made_from k m id code) 33 ≡ Some id
unfolding made_from
made_maker k m id code = get_set (set_element (made_base k m) 33 id) 39 33 code refl ∙ get_set_same (made_base k m) 33 id

pub reversal_maker : (m : Fields) (id : Bytes) → (identity_of (made_reversal m id)).forwarder ≡ pad11 id
unfolding identity_of made_reversal
reversal_maker m id = ap padded_or_zeros (get_set (made_from K0420 m id code_68) 90 33 _ refl ∙ made_maker K0420 m id code_68)

pub stand_in_maker : (m : Fields) (id : Bytes) → (identity_of (made_stand_in m id)).forwarder ≡ pad11 id
unfolding identity_of made_stand_in
stand_in_maker m id = ap padded_or_zeros (made_maker K0120 m id code_00)

get_response : (m : Fields) (c : Bytes) → get (response m c) 33 ≡ get m 33
unfolding response get
get_response m c = get_set (record { kind = response_kind m.kind; elements = kept response_numbers m.elements }) 39 33 c refl ∙ find_kept carried 33 m.elements refl

response_04xx : (k : Kind) → is_kept_group (group k) ≡ true → is_04xx (response_kind k) ≡ is_04xx k
response_04xx K0100 e = cc
response_04xx K0101 e = cc
response_04xx K0110 e = cc
response_04xx K0120 e = refl
response_04xx K0121 e = refl
response_04xx K0130 e = cc
response_04xx K0400 e = refl
response_04xx K0401 e = refl
response_04xx K0410 e = cc
response_04xx K0420 e = refl
response_04xx K0421 e = refl
response_04xx K0430 e = cc

original_response : (m : Fields) (c : Bytes) → original_key (response m c) ≡ original_key m
unfolding original_key
original_response m c =
    let e = el_response m c 90 refl refl in
    λ j. record { acquirer = Rattle.message_keys.specs.Keys.part 20 11 (e j); trace = Rattle.message_keys.specs.Keys.part 4 6 (e j); time = Rattle.message_keys.specs.Keys.part 10 10 (e j) }

kept_response_key : (m : Fields) (c : Bytes) → is_kept_group (group m.kind) ≡ true → key_of (response m c) ≡ key_of m
unfolding key_of
kept_response_key m c g = go (is_04xx m.kind) refl (ap is_04xx (response_is_of_kind m c) ∙ response_04xx m.kind g)
  where
    go : (b : Bool) → is_04xx m.kind ≡ b → is_04xx (response m c).kind ≡ is_04xx m.kind → cond (is_04xx (response m c).kind) (original_key (response m c)) (own_key (response m c)) ≡ cond (is_04xx m.kind) (original_key m) (own_key m)
    go true at e = rw (e, at) (original_response m c)
    go false at e = rw (e, at) (own_key_response m c)

response_identity : (m : Fields) (c : Bytes) → is_kept_group (group m.kind) ≡ true → identity_of (response m c) ≡ identity_of m
unfolding identity_of
response_identity m c g =
    let a = ap is_04xx (response_is_of_kind m c) ∙ response_04xx m.kind g in
    let b = kept_response_key m c g in
    let d = get_response m c in
    λ j. record { kind = advice_kind (a j); key = b j; forwarder = padded_or_zeros (d j) }

-- where an advice comes from

pub record Made (t : Network) (n : ℕ) (h : History) (x : Fields) : Type 0 where
  pub key : Key
  pub op : Opening
  pub opens : opening t h key ≡ Some op
  pub forwarder : (identity_of x).forwarder ≡ pad11 (node_id t n)

pub record TakenAs (h : History) (x : Fields) : Type 0 where
  pub link : ℕ
  pub serial : ℕ
  pub message : Fields
  pub has : Has (In (Take link serial message)) h
  pub kind : is_advice_group (group message.kind) ≡ true
  pub alike : Alike message x

pub record Entered (t : Network) (n : ℕ) (x : Fields) : Type 0 where
  pub forwarder : (identity_of x).forwarder ≡ replicate 11 48
  pub gate : is_attached t n (key_of x).acquirer ≡ true

abbrev pub From : Network → ℕ → History → Fields → Type 0
From t n h x = Made t n h x ⊎ (TakenAs h x ⊎ Entered t n x)

more_from : (t : Network) (n : ℕ) (e : Event) (h : History) (x : Fields) → From t n h x → From t n (e ∷ h) x
unfolding opening
more_from t n (In i) h x (inl m) = inl (record { key = m.key; op = m.op; opens = stays_open t h i m.key m.op m.opens; forwarder = m.forwarder })
more_from t n (Out i o) h x (inl m) = inl (record { key = m.key; op = m.op; opens = m.opens; forwarder = m.forwarder })
more_from t n e h x (inr (inl s)) = inr (inl (record { link = s.link; serial = s.serial; message = s.message; has = inr s.has; kind = s.kind; alike = s.alike }))
more_from t n e h x (inr (inr g)) = inr (inr g)

pub record AckTaken (h : History) (id : AdviceId) : Type 0 where
  pub link : ℕ
  pub serial : ℕ
  pub message : Fields
  pub has : Has (In (Take link serial message)) h
  pub ack : is_ack (group message.kind) ≡ true
  pub code : bytes_eq (code_of message) code_00 ≡ true
  pub same : identity_of message ≡ id

more_ack : (e : Event) (h : History) (id : AdviceId) → AckTaken h id → AckTaken (e ∷ h) id
more_ack e h id a = record { link = a.link; serial = a.serial; message = a.message; has = inr a.has; ack = a.ack; code = a.code; same = a.same }

-- the parts of an entry's advices

in_made_new : (a : Advice) (make : Fields → Fields) (count : ℕ) (o : Option Opening) (as' : List Advice) → IsIn a (add_made make count o as') → ((op : Opening) × (o ≡ Some op) × (a.message ≡ make op.message) × (a.acked ≡ false)) ⊎ IsIn a as'
in_made_new a make count None as' m = inr m
in_made_new a make count (Some op) as' m = ⊎_elim (λ e. inl (op, refl, ap Advice.message (sym e), ap Advice.acked (sym e))) inr (in_add a (record { message = make op.message; count = count; own = true; acked = false }) as' m)

in_accepted_new : (a : Advice) (count : ℕ) (b : Bool) (o : Option Handled) (as' : List Advice) → IsIn a (add_accepted count b o as') → ((x : Handled) × (b ≡ true) × (o ≡ Some x) × (is_advice_group (group x.message.kind) ≡ true) × (a.message ≡ as_kept x.message) × (a.acked ≡ false)) ⊎ IsIn a as'
in_accepted_new a count true (Some x) as' m = cond_both (is_advice_group (group x.message.kind)) (add_advice (record { message = as_kept x.message; count = count; own = false; acked = false }) as') as' (λ z. IsIn a z → ((x' : Handled) × (true ≡ true) × (Some x ≡ Some x') × (is_advice_group (group x'.message.kind) ≡ true) × (a.message ≡ as_kept x'.message) × (a.acked ≡ false)) ⊎ IsIn a as')
    (λ g m. ⊎_elim (λ e. inl (x, refl, refl, g, ap Advice.message (sym e), ap Advice.acked (sym e))) inr (in_add a (record { message = as_kept x.message; count = count; own = false; acked = false }) as' m))
    (λ _ m. inr m) m
in_accepted_new a count true None as' m = inr m
in_accepted_new a count false o as' m = inr m

in_acked_new : (a : Advice) (i : ReadInput) (as' : List Advice) → IsIn a (map (acked_by i) as') → (b : Advice) × IsIn b as' × (acked_by i b ≡ a)
in_acked_new a i [] m = absurd m
in_acked_new a i (b ∷ as') m = ⊎_elim (λ e. (b, inl refl, e)) (λ r. (let x = in_acked_new a i as' r in (x.0, inr x.1, x.2))) m

acked_message : (i : ReadInput) (b : Advice) → (acked_by i b).message ≡ b.message
acked_message (Take l s m) b = refl
acked_message (Enter m) b = refl
acked_message (LinkUp l) b = refl
acked_message (LinkDown l) b = refl
acked_message Tick b = refl
acked_message (HostAnswer c d) b = refl
acked_message (NewDate d) b = refl
acked_message (TakePacket lk sr pk) b = refl
acked_message (Lend br cd dt am) b = refl

-- what a newly acknowledged advice was acknowledged by
newly_acked : (i : ReadInput) (h : History) (b : Advice) → (acked_by i b).acked ≡ true → (b.acked ≡ true) ⊎ AckTaken (In i ∷ h) (identity_of b.message)
newly_acked (Take l s m) h b e = ⊎_elim inl (λ now. inr (taken now)) (or_cases b.acked (is_ack_of m b) e)
  where
    taken : is_ack_of m b ≡ true → AckTaken (In (Take l s m) ∷ h) (identity_of b.message)
    taken now =
        let p = and_parts (is_ack (group m.kind) && bytes_eq (code_of m) code_00) (has_identity (identity_of m) b) now in
        let q = and_parts (is_ack (group m.kind)) (bytes_eq (code_of m) code_00) p.0 in
        record { link = l; serial = s; message = m; has = inl refl; ack = q.0; code = q.1; same = sym (Rattle.message_keys.proofs.Equality.identity_eq_is (identity_of b.message) (identity_of m) p.1) }
newly_acked (Enter m) h b e = inl e
newly_acked (LinkUp l) h b e = inl e
newly_acked (LinkDown l) h b e = inl e
newly_acked Tick h b e = inl e
newly_acked (HostAnswer c d) h b e = inl e
newly_acked (NewDate d) h b e = inl e
newly_acked (TakePacket lk sr pk) h b e = inl e
newly_acked (Lend br cd dt am) h b e = inl e

-- an advice that is accepted was taken, or entered at its gate

entered_04xx : (k : Kind) → entered_kind k ≡ true → is_advice_group (group k) ≡ true → is_04xx k ≡ true
entered_04xx K0100 e g = cc
entered_04xx K0101 e g = cc
entered_04xx K0110 e g = cc
entered_04xx K0120 e g = cc
entered_04xx K0121 e g = cc
entered_04xx K0130 e g = cc
entered_04xx K0400 e g = refl
entered_04xx K0401 e g = refl
entered_04xx K0410 e g = cc
entered_04xx K0420 e g = refl
entered_04xx K0421 e g = refl
entered_04xx K0430 e g = cc

request_no_advice : (k : Kind) → is_request k ≡ true → is_advice_group (group k) ≡ false
request_no_advice K0100 e = refl
request_no_advice K0101 e = refl
request_no_advice K0110 e = cc
request_no_advice K0120 e = cc
request_no_advice K0121 e = cc
request_no_advice K0130 e = cc
request_no_advice K0400 e = cc
request_no_advice K0401 e = cc
request_no_advice K0410 e = cc
request_no_advice K0420 e = cc
request_no_advice K0421 e = cc
request_no_advice K0430 e = cc

enters : (t : Network) (n : ℕ) (past : History) (m : Fields) → refusal t n past (Enter m) ≡ None → entered_kind m.kind ≡ true
enters t n past m ok = EnteredFacts.kind (entered_facts t n past m ok)

entered_source : (t : Network) (n : ℕ) (past : History) (m x : Fields) (src : Source) → refusal t n past (Enter m) ≡ None → handled t past (Enter m) ≡ Some (record { message = x; source = src }) → is_advice_group (group x.kind) ≡ true → Entered t n x
unfolding handled remove_element identity_of set_element
entered_source t n past m x src ok e g = go (is_request m.kind) refl
  where
    same : dated (date_of t past) (remove_element m 33) ≡ x
    same = ap (λ (z : Handled). z.message) (same_Some _ _ e)

    go : (b : Bool) → is_request m.kind ≡ b → Entered t n x
    go true at = absurd (not_both (is_advice_group (group x.kind)) g (ap (λ z. is_advice_group (group (Fields.kind z))) (sym same) ∙ kind))
      where
        kind : is_advice_group (group (dated (date_of t past) (remove_element m 33)).kind) ≡ false
        kind = rw at (request_no_advice m.kind at)
    go false at =
        let plain : remove_element m 33 ≡ x = sym (not_dated (date_of t past)) ∙ same in
        let r : is_04xx x.kind ≡ true = ap (λ z. is_04xx (Fields.kind z)) (sym plain) ∙ entered_04xx m.kind (enters t n past m ok) (ap (λ z. is_advice_group (group (Fields.kind z))) plain ∙ g) in
        record {
          forwarder = ap (λ z. padded_or_zeros (get z 33)) (sym plain) ∙ ap padded_or_zeros (get_remove_same m 33);
          gate = entered_reversal t n past m x src ok e r;
        }
      where
        not_dated : (date : List ℕ) → dated date (remove_element m 33) ≡ remove_element m 33
        not_dated date = rw at refl

kept_entered : (t : Network) (n : ℕ) (m : Fields) → Entered t n m → Entered t n (as_kept m)
unfolding identity_of
kept_entered t n m e = record { forwarder = ap AdviceId.forwarder (kept_alike m).id ∙ e.forwarder; gate = ap (λ z. is_attached t n (Key.acquirer (AdviceId.key z))) (kept_alike m).id ∙ e.gate }

accepted_from : (t : Network) (n : ℕ) (past : History) (i : ReadInput) (h : History) (m : Fields) (src : Source) → refusal t n past i ≡ None → handled_as t past i m src → is_advice_group (group m.kind) ≡ true → Has (In i) h → From t n h (as_kept m)
unfolding handled
accepted_from t n past (Enter x) h m src ok e g has = inr (inr (kept_entered t n m (entered_source t n past x m src ok e g)))
accepted_from t n past (Take l s x) h m src ok e g has =
    let same : x ≡ m = ap (λ (z : Handled). z.message) (same_Some _ _ e) in
    inr (inl (record { link = l; serial = s; message = m; has = subst (λ z. Has (In (Take l s z)) h) same has; kind = g; alike = alike_sym (as_kept m) m (kept_alike m) }))
accepted_from t n past (LinkUp l) h m src ok e g has = absurd (none_some _ e)
accepted_from t n past (LinkDown l) h m src ok e g has = absurd (none_some _ e)
accepted_from t n past Tick h m src ok e g has = absurd (none_some _ e)
accepted_from t n past (HostAnswer a c) h m src ok e g has = absurd (none_some _ e)
accepted_from t n past (NewDate d) h m src ok e g has = absurd (none_some _ e)
accepted_from t n past (TakePacket lk sr pk) h m src ok e g has = absurd (none_some _ e)
accepted_from t n past (Lend br cd dt am) h m src ok e g has = absurd (none_some _ e)

-- what is said of all advices of a node

pub record Origins (t : Network) (n : ℕ) (h : History) : Type 0 where
  pub from : (a : Advice) → IsIn a (advices t n h) → From t n h a.message
  pub acked : (a : Advice) → IsIn a (advices t n h) → a.acked ≡ true → AckTaken h (identity_of a.message)
  pub issued : (a : Advice) → IsIn a (advices t n h) → is_04xx a.message.kind ≡ false → Issued t a.message

-- an acknowledgement on a link
pub record AckSent (t : Network) (n : ℕ) (h : History) (l : ℕ) (x : Fields) : Type 0 where
  pub serial : ℕ
  pub message : Fields
  pub has : Has (In (Take l serial message)) h
  pub kind : is_advice_group (group message.kind) ≡ true
  pub same : identity_of message ≡ identity_of x
  pub known_now : list_any (has_identity (identity_of x)) (advices t n h) ≡ true

abbrev pub AcksKnown : Network → ℕ → History → Type 0
AcksKnown t n h = (i : ReadInput) (l s : ℕ) (x : Fields) → Has (Out i (Put l s x)) h → is_ack (group x.kind) ≡ true → bytes_eq (code_of x) code_00 ≡ true → AckSent t n h l x

-- the way of a stand-in advice
pub record StandSent (t : Network) (n l : ℕ) (x : Fields) : Type 0 where
  pub s : Issuer
  pub issued : issuer t (card_of x) ≡ Some s
  pub away : is_home s n ≡ false
  pub on_route : IsIn l (route_links t n (card_of x))

abbrev pub StandsKnown : Network → ℕ → History → Type 0
StandsKnown t n h = (i : ReadInput) (l s : ℕ) (x : Fields) → Has (Out i (Put l s x)) h → is_advice_group (group x.kind) ≡ true → is_04xx x.kind ≡ false → StandSent t n l x

pub known_more : (t : Network) (n : ℕ) (e : Event) (h : History) (id : AdviceId) → list_any (has_identity id) (advices t n h) ≡ true → list_any (has_identity id) (advices t n (e ∷ h)) ≡ true
unfolding advices
known_more t n (In i) h id r = add_made_keeps (has_identity id) (λ m. made_reversal m (node_id t n)) (count_of h) (option_and_then (opening t h) (late_key h (advices t n h) i)) (map (acked_by i) (advices t n h)) (identity_acked id i (advices t n h) ∙ r)
known_more t n (Out i o) h id r =
    add_accepted_keeps (has_identity id) (count_of h) (is_ok_ack (sent o)) (handled t h i) (add_made (λ m. made_stand_in m (node_id t n)) (count_of h) (option_and_then (opening t h) (own_approval h i o)) (add_made (λ m. made_reversal m (node_id t n)) (count_of h) (option_and_then (opening t h) (failed_key t h i (sent o))) (advices t n h)))
    (add_made_keeps (has_identity id) (λ m. made_stand_in m (node_id t n)) (count_of h) (option_and_then (opening t h) (own_approval h i o)) (add_made (λ m. made_reversal m (node_id t n)) (count_of h) (option_and_then (opening t h) (failed_key t h i (sent o))) (advices t n h))
    (add_made_keeps (has_identity id) (λ m. made_reversal m (node_id t n)) (count_of h) (option_and_then (opening t h) (failed_key t h i (sent o))) (advices t n h) r))

pub added_known : (a : Advice) (as' : List Advice) → list_any (has_identity (identity_of a.message)) (add_advice a as') ≡ true
added_known a as' = cond_both (list_any (has_identity (identity_of a.message)) as') as' (a ∷ as') (λ z. list_any (has_identity (identity_of a.message)) z ≡ true) (λ e. e) (λ _. rw (identity_eq_refl (identity_of a.message)) refl)

-- an acknowledged message is known then
ack_known : (t : Network) (n : ℕ) (i : ReadInput) (o : ReadOutput) (h : History) (m : Fields) (src : Source) → handled t h i ≡ Some (record { message = m; source = src }) → is_advice_group (group m.kind) ≡ true → is_ok_ack (sent o) ≡ true → list_any (has_identity (identity_of (as_kept m))) (advices t n (Out i o ∷ h)) ≡ true
unfolding advices
ack_known t n i o h m src e g ack = go (is_ok_ack (sent o)) (handled t h i) (add_made (λ m. made_stand_in m (node_id t n)) (count_of h) (option_and_then (opening t h) (own_approval h i o)) (add_made (λ m. made_reversal m (node_id t n)) (count_of h) (option_and_then (opening t h) (failed_key t h i (sent o))) (advices t n h))) ack e
  where
    go : (b : Bool) (w : Option Handled) (as' : List Advice) → b ≡ true → w ≡ Some (record { message = m; source = src }) → list_any (has_identity (identity_of (as_kept m))) (add_accepted (count_of h) b w as') ≡ true
    go b w as' e f = rw (e, f, g) (added_known (record { message = as_kept m; count = count_of h; own = false; acked = false }) as')

-- the output that acknowledges
acking_case : (t : Network) (n : ℕ) (past : History) (i : ReadInput) (h : History) (o : ReadOutput) → EntryFacts t n past i h → Allowed t n past i h o → is_ok_ack (sent o) ≡ true → Acking t n past i h o
acking_case t n past i h o facts allowed e = go allowed
  where
    y : (y : Fields) × (sent o ≡ Some y) × (is_ack_kind (group y.kind) ≡ true) × (bytes_eq (code_of y) code_00 ≡ true)
    y = ok_ack_parts (sent o) e

    ends : {A : Type 0} → is_ack_kind (group y.0.kind) ≡ false → A
    ends f = absurd (not_both (is_ack_kind (group y.0.kind)) y.2 f)

    of_request : {A : Type 0} (m : Fields) (c : Bytes) → response m c ≡ y.0 → is_request m.kind ≡ true → A
    of_request m c same r = ends (ap (λ z. is_ack_kind (group (Fields.kind z))) (sym same) ∙ (ap (λ z. is_ack_kind (group z)) (response_is_of_kind m c) ∙ request_no_ack m.kind r))

    go : Allowed t n past i h o → Acking t n past i h o
    go (forwarding f) = ends (ap (λ z. is_ack_kind (group (Fields.kind z))) (sym (same_Some (as_kind K0100 f.message) y.0 (ap sent (sym f.is) ∙ y.1))))
    go (asking f) = absurd (none_some y.0 (ap sent (sym f.is) ∙ y.1))
    go (standing_in f) = of_request f.op.message _ (reply_message f.op.source _ h o y.0 f.is y.1) (facts.node.opens f.opens.key f.op (facts.opening_is f.opens.key ∙ f.opens.is)).request
    go (passing f) = of_request f.op.message f.code (reply_message f.op.source _ h o y.0 f.is y.1) (facts.node.opens f.key f.op (facts.opening_is f.key ∙ stays_open t past i f.key f.op f.opens)).request
    go (declining f) = of_request f.op.message f.code (reply_message f.op.source _ h o y.0 f.is y.1) (facts.node.opens f.opens.key f.op (facts.opening_is f.opens.key ∙ f.opens.is)).request
    go (repeating f) = ends (ap (λ z. is_ack_kind (group (Fields.kind z))) (sym (reply_message f.source f.before h o y.0 f.is y.1)) ∙ answer_no_ack f.before.kind ((Rattle.network_law.proofs.Node.answer_is past f.key f.before f.answered).0))
    go (refusing f) = absurd (not_both (bytes_eq code_94 code_00) (ap (λ c. bytes_eq c code_00) (sym (response_code f.message code_94 y.0 (reply_message f.source _ h o y.0 f.is y.1))) ∙ y.3) refl)
    go (acking f) = f
    go (sending f) = ends (ap (λ z. is_ack_kind (group (Fields.kind z))) (sym (same_Some (as_kind (sent_kind (is_04xx f.message.kind) f.again) f.message) y.0 (ap sent (sym f.is) ∙ y.1))) ∙ advice_no_ack (is_04xx f.message.kind) f.again)
    go (posting f) = absurd (none_some y.0 (ap sent (sym f.is) ∙ y.1))
    go (putting_packet f) = absurd (none_some y.0 (ap sent (sym f.is) ∙ y.1))

ack_is_kind : (g : Group) → is_ack g ≡ true → is_ack_kind g ≡ true
ack_is_kind groups.AuthorizationRequest e = cc
ack_is_kind groups.AuthorizationResponse e = cc
ack_is_kind groups.Advice e = cc
ack_is_kind groups.Reversal e = cc
ack_is_kind groups.AdviceResponse e = refl
ack_is_kind groups.ReversalResponse e = cc

-- only advices are put as advices
sending_case : (t : Network) (n : ℕ) (past : History) (i : ReadInput) (h : History) (o : ReadOutput) (l s : ℕ) (x : Fields) → Allowed t n past i h o → o ≡ Put l s x → is_advice_group (group x.kind) ≡ true → Sending t n past i h o
sending_case t n past i h o l s x allowed e g = go allowed
  where
    is_sent : sent o ≡ Some x
    is_sent = ap sent e

    ends : {A : Type 0} → is_advice_group (group x.kind) ≡ false → A
    ends f = absurd (not_both (is_advice_group (group x.kind)) g f)

    of_response : {A : Type 0} (src : Source) (m : Fields) (c : Bytes) → o ≡ reply_output src (response m c) h → A
    of_response src m c is = ends (ap (λ z. is_advice_group (group (Fields.kind z))) (sym (reply_message src (response m c) h o x is is_sent)) ∙ (ap (λ z. is_advice_group (group z)) (response_is_of_kind m c) ∙ response_no_advice m.kind))

    go : Allowed t n past i h o → Sending t n past i h o
    go (forwarding f) = ends (ap (λ z. is_advice_group (group (Fields.kind z))) (sym (same_Some (as_kind K0100 f.message) x (ap sent (sym f.is) ∙ is_sent))))
    go (asking f) = absurd (none_some x (ap sent (sym f.is) ∙ is_sent))
    go (standing_in f) = of_response f.op.source f.op.message (standin_code t n h f.op.message) f.is
    go (passing f) = of_response f.op.source f.op.message f.code f.is
    go (declining f) = of_response f.op.source f.op.message f.code f.is
    go (repeating f) = ends (ap (λ z. is_advice_group (group (Fields.kind z))) (sym (reply_message f.source f.before h o x f.is is_sent)) ∙ answer_no_advice f.before.kind ((Rattle.network_law.proofs.Node.answer_is past f.key f.before f.answered).0))
    go (refusing f) = of_response f.source f.message code_94 f.is
    go (acking f) = of_response f.source f.message f.code f.is
    go (sending f) = f
    go (posting f) = absurd (none_some x (ap sent (sym f.is) ∙ is_sent))
    go (putting_packet f) = absurd (none_some x (ap sent (sym f.is) ∙ is_sent))

-- within an entry
record Through (t : Network) (n : ℕ) (past : History) (i : ReadInput) (h : History) : Type 0 where
  own : OwnFacts t n past i h
  input : Has (In i) h
  handled_same : handled t h i ≡ handled t past i
  origins : Origins t n h
  acks : AcksKnown t n h
  stands : StandsKnown t n h

issued_of : (t : Network) (c : Bytes) → is_none (issuer t c) ≡ false → (s : Issuer) × (issuer t c ≡ Some s)
issued_of t c e = go (issuer t c) refl
  where
    go : (w : Option Issuer) → issuer t c ≡ w → (s : Issuer) × (issuer t c ≡ Some s)
    go None at = absurd (not_both true refl (rw at at e))
    go (Some s) at = (s, at)

not_04xx : {A : Type 0} (m : Fields) (id : Bytes) (x : Fields) → x ≡ made_reversal m id → is_04xx x.kind ≡ false → A
not_04xx m id x e f = absurd (not_both (is_04xx x.kind) (ap (λ z. is_04xx (Fields.kind z)) e ∙ ap is_04xx (Rattle.network_law.proofs.Elements.reversal_kind m id)) f)

origins_in : (t : Network) (n : ℕ) (h : History) (i : ReadInput) → Origins t n h → Origins t n (In i ∷ h)
unfolding advices
origins_in t n h i q = record { from = from'; acked = acked'; issued = issued' }
  where
    parts : (a : Advice) → IsIn a (advices t n (In i ∷ h)) → ((op : Opening) × (option_and_then (opening t h) (late_key h (advices t n h) i) ≡ Some op) × (a.message ≡ made_reversal op.message (node_id t n)) × (a.acked ≡ false)) ⊎ ((b : Advice) × IsIn b (advices t n h) × (acked_by i b ≡ a))
    parts a m = ⊎_elim inl (λ old. inr (in_acked_new a i (advices t n h) old)) (in_made_new a (λ x. made_reversal x (node_id t n)) (count_of h) (option_and_then (opening t h) (late_key h (advices t n h) i)) (map (acked_by i) (advices t n h)) m)

    message_of : (a b : Advice) → acked_by i b ≡ a → b.message ≡ a.message
    message_of a b e = sym (acked_message i b) ∙ ap Advice.message e

    from' : (a : Advice) → IsIn a (advices t n (In i ∷ h)) → From t n (In i ∷ h) a.message
    from' a m = ⊎_elim
        (λ p. (let k = opened_of_key (opening t h) (late_key h (advices t n h) i) p.0 p.1 in inl (record { key = k.0; op = p.0; opens = stays_open t h i k.0 p.0 k.2; forwarder = ap (λ z. (identity_of z).forwarder) p.2 ∙ reversal_maker p.0.message (node_id t n) })))
        (λ p. subst (From t n (In i ∷ h)) (message_of a p.0 p.2) (more_from t n (In i) h p.0.message (q.from p.0 p.1)))
        (parts a m)

    acked' : (a : Advice) → IsIn a (advices t n (In i ∷ h)) → a.acked ≡ true → AckTaken (In i ∷ h) (identity_of a.message)
    acked' a m e = ⊎_elim
        (λ p. absurd (not_both a.acked e p.3))
        (λ p. subst (λ z. AckTaken (In i ∷ h) (identity_of z)) (message_of a p.0 p.2) (⊎_elim (λ was. more_ack (In i) h (identity_of p.0.message) (q.acked p.0 p.1 was)) (λ now. now) (newly_acked i h p.0 (ap Advice.acked p.2 ∙ e))))
        (parts a m)

    issued' : (a : Advice) → IsIn a (advices t n (In i ∷ h)) → is_04xx a.message.kind ≡ false → Issued t a.message
    issued' a m e = ⊎_elim
        (λ p. not_04xx p.0.message (node_id t n) a.message p.2 e)
        (λ p. subst (Issued t) (message_of a p.0 p.2) (q.issued p.0 p.1 (ap (λ z. is_04xx (Fields.kind z)) (message_of a p.0 p.2) ∙ e)))
        (parts a m)

module _ (t : Network) (n : ℕ) (past : History) (i : ReadInput) (ok : refusal t n past i ≡ None) (facts : NodeFacts t n past) (before : Origins t n past) (h : History) (o : ReadOutput) (q : Through t n past i h) (allowed : Allowed t n past i h o) where
  PartOf : Advice → Type 0
  PartOf a =
      ((x : Handled) × (is_ok_ack (sent o) ≡ true) × (handled t h i ≡ Some x) × (is_advice_group (group x.message.kind) ≡ true) × (a.message ≡ as_kept x.message) × (a.acked ≡ false))
      ⊎ (((op : Opening) × (option_and_then (opening t h) (own_approval h i o) ≡ Some op) × (a.message ≡ made_stand_in op.message (node_id t n)) × (a.acked ≡ false))
      ⊎ (((op : Opening) × (option_and_then (opening t h) (failed_key t h i (sent o)) ≡ Some op) × (a.message ≡ made_reversal op.message (node_id t n)) × (a.acked ≡ false))
      ⊎ IsIn a (advices t n h)))

  parts_out : (a : Advice) → IsIn a (advices t n (Out i o ∷ h)) → PartOf a
  unfolding advices PartOf
  parts_out a m = ⊎_elim inl (λ m1. ⊎_elim (λ s. inr (inl s)) (λ m2. ⊎_elim (λ f. inr (inr (inl f))) (λ old. inr (inr (inr old))) (in_made_new a (λ x. made_reversal x (node_id t n)) (count_of h) (option_and_then (opening t h) (failed_key t h i (sent o))) (advices t n h) m2)) (in_made_new a (λ x. made_stand_in x (node_id t n)) (count_of h) (option_and_then (opening t h) (own_approval h i o)) (add_made (λ x. made_reversal x (node_id t n)) (count_of h) (option_and_then (opening t h) (failed_key t h i (sent o))) (advices t n h)) m1)) (in_accepted_new a (count_of h) (is_ok_ack (sent o)) (handled t h i) (add_made (λ x. made_stand_in x (node_id t n)) (count_of h) (option_and_then (opening t h) (own_approval h i o)) (add_made (λ x. made_reversal x (node_id t n)) (count_of h) (option_and_then (opening t h) (failed_key t h i (sent o))) (advices t n h))) m)

  from_out : (a : Advice) → PartOf a → From t n (Out i o ∷ h) a.message
  unfolding PartOf opening
  from_out a (inl p) = subst (From t n (Out i o ∷ h)) (sym p.4) (accepted_from t n past i (Out i o ∷ h) p.0.message p.0.source ok (sym (Through.handled_same q) ∙ p.2) p.3 (inr (Through.input q)))
  from_out a (inr (inl p)) = let k = opened_of_key (opening t h) (own_approval h i o) p.0 p.1 in inl (record { key = k.0; op = p.0; opens = k.2; forwarder = ap (λ z. (identity_of z).forwarder) p.2 ∙ stand_in_maker p.0.message (node_id t n) })
  from_out a (inr (inr (inl p))) = let k = opened_of_key (opening t h) (failed_key t h i (sent o)) p.0 p.1 in inl (record { key = k.0; op = p.0; opens = k.2; forwarder = ap (λ z. (identity_of z).forwarder) p.2 ∙ reversal_maker p.0.message (node_id t n) })
  from_out a (inr (inr (inr m))) = more_from t n (Out i o) h a.message (Origins.from (Through.origins q) a m)

  acked_out : (a : Advice) → PartOf a → a.acked ≡ true → AckTaken (Out i o ∷ h) (identity_of a.message)
  unfolding PartOf
  acked_out a (inl p) e = absurd (not_both a.acked e p.5)
  acked_out a (inr (inl p)) e = absurd (not_both a.acked e p.3)
  acked_out a (inr (inr (inl p))) e = absurd (not_both a.acked e p.3)
  acked_out a (inr (inr (inr m))) e = more_ack (Out i o) h (identity_of a.message) (Origins.acked (Through.origins q) a m e)

  issued_out : (a : Advice) → PartOf a → is_04xx a.message.kind ≡ false → Issued t a.message
  unfolding PartOf
  issued_out a (inl p) e =
      let c = ack_case t n past i h o (Through.own q).entry allowed p.1 in
      let same : p.0.message ≡ c.0 = ap (λ (z : Handled). z.message) (same_Some _ _ (sym p.2 ∙ (Through.handled_same q ∙ c.2))) in
      let s = issued_of t (card_of c.0) c.3.issued in
      let card : card_of a.message ≡ card_of c.0 = ap (λ z. card_of z) p.4 ∙ (alike_card (as_kept p.0.message) p.0.message (kept_alike p.0.message) ∙ ap (λ z. card_of z) same) in
      (s.0, ap (issuer t) card ∙ s.1)
  issued_out a (inr (inl p)) e =
      let k = opened_of_key (opening t h) (own_approval h i o) p.0 p.1 in
      let s = own_case t n past i h o k.0 (Through.own q) allowed k.1 in
      let same : s.op ≡ p.0 = same_Some s.op p.0 (sym s.opens ∙ k.2) in
      let card : card_of a.message ≡ card_of s.op.message = ap (λ z. card_of z) p.2 ∙ (same_card (made_stand_in p.0.message (node_id t n)) p.0.message (content_made_stand_in p.0.message (node_id t n)) ∙ ap (λ z. card_of (Opening.message z)) (sym same)) in
      (s.s, ap (issuer t) card ∙ s.issued)
  issued_out a (inr (inr (inl p))) e = not_04xx p.0.message (node_id t n) a.message p.2 e
  issued_out a (inr (inr (inr m))) e = Origins.issued (Through.origins q) a m e

  origins_out : Origins t n (Out i o ∷ h)
  origins_out = record { from = λ a m. from_out a (parts_out a m); acked = λ a m e. acked_out a (parts_out a m) e; issued = λ a m e. issued_out a (parts_out a m) e }

  acks_out : AcksKnown t n (Out i o ∷ h)
  acks_out j l s x has g c = ⊎_elim here there has
    where
      there : Has (Out j (Put l s x)) h → AckSent t n (Out i o ∷ h) l x
      there m = let b = Through.acks q j l s x m g c in record { serial = b.serial; message = b.message; has = inr b.has; kind = b.kind; same = b.same; known_now = known_more t n (Out i o) h (identity_of x) b.known_now }

      here : Out i o ≡ Out j (Put l s x) → AckSent t n (Out i o ∷ h) l x
      here e =
          let is : o ≡ Put l s x = same_out i j o (Put l s x) e in
          let ok_ack : is_ok_ack (sent o) ≡ true = ap (λ z. is_ok_ack (sent z)) is ∙ Rattle.std.proofs.lemmas.Bool.and_from (is_ack_kind (group x.kind)) (bytes_eq (code_of x) code_00) (ack_is_kind (group x.kind) g) c in
          let f = acking_case t n past i h o (Through.own q).entry allowed ok_ack in
          let p = reply_put f.source (response f.message f.code) h l s x (sym f.is ∙ is) in
          let link = from_link t past i f.message l (f.is_handled ∙ ap (λ z. Some (record { message = f.message; source = z })) p.0) in
          let kind : is_advice_group (group f.message.kind) ≡ true = kept_is_advice (group f.message.kind) f.kind in
          let same : identity_of f.message ≡ identity_of x = sym (response_identity f.message f.code f.kind) ∙ ap identity_of p.1 in
          record {
            serial = link.0;
            message = f.message;
            has = inr (subst (λ z. Has (In z) h) link.1 (Through.input q));
            kind = kind;
            same = same;
            known_now = ap (λ z. list_any (has_identity z) (advices t n (Out i o ∷ h))) (sym ((kept_alike f.message).id ∙ same)) ∙ ack_known t n i o h f.message f.source (Through.handled_same q ∙ f.is_handled) kind ok_ack;
          }

  -- the issuer of a stand-in advice that is sent
  kept_issued : (x : Fields) → Kept t n past i h x → is_04xx x.kind ≡ false → Issued t x
  kept_issued x (due a m e) r = subst (Issued t) (sym e) (before.issued a m (ap (λ z. is_04xx (Fields.kind z)) (sym e) ∙ r))
  kept_issued x (reversing key op o1 ticks e) r = not_04xx op.message (node_id t n) x e r
  kept_issued x (standing key op o1 s si e) r = (s, ap (λ z. issuer t (card_of z)) e ∙ (ap (issuer t) (same_card (made_stand_in op.message (node_id t n)) op.message (content_made_stand_in op.message (node_id t n))) ∙ si))
  kept_issued x (accepting a) r = let s = issued_of t (card_of a.message) a.issued in (s.0, ap (λ z. issuer t (card_of z)) a.is ∙ (ap (issuer t) (alike_card (as_kept a.message) a.message (kept_alike a.message)) ∙ s.1))

  stands_out : StandsKnown t n (Out i o ∷ h)
  stands_out j l s x has g r = ⊎_elim here (λ m. Through.stands q j l s x m g r) has
    where
      no_reversal : (k : Kind) → is_04xx k ≡ false → is_reversal k ≡ false
      no_reversal K0100 e = refl
      no_reversal K0101 e = refl
      no_reversal K0110 e = refl
      no_reversal K0120 e = refl
      no_reversal K0121 e = refl
      no_reversal K0130 e = refl
      no_reversal K0400 e = cc
      no_reversal K0401 e = cc
      no_reversal K0410 e = refl
      no_reversal K0420 e = cc
      no_reversal K0421 e = cc
      no_reversal K0430 e = refl

      way : (y : Fields) (w : Option ℕ) (k : ℕ) → is_reversal y.kind ≡ false → own_way t n h y w ≡ Some k → IsIn k (route_links t n (card_of y))
      way y None k e f = found_is_in (is_up h) (route_links t n (card_of y)) k f
      way y (Some b) k e f = found_is_in (is_up h) (route_links t n (card_of y)) k (rw e at f)

      here : Out i o ≡ Out j (Put l s x) → StandSent t n l x
      here e =
          let is : o ≡ Put l s x = same_out i j o (Put l s x) e in
          let f = sending_case t n past i h o l s x allowed is g in
          let p = put_parts (sym f.is ∙ is) in
          let kind : is_04xx f.message.kind ≡ false = sym (advice_kind_04xx (is_04xx f.message.kind) f.again) ∙ (ap (λ z. is_04xx (Fields.kind z)) p.2 ∙ r) in
          let card : card_of f.message ≡ card_of x = alike_card f.message (as_kind (sent_kind (is_04xx f.message.kind) f.again) f.message) (sent_alike f.message f.again) ∙ ap (λ z. card_of z) p.2 in
          let si = kept_issued f.message f.kept kind in
          record {
            s = si.0;
            issued = ap (issuer t) (sym card) ∙ si.1;
            away = home_is_not n (issuer t (card_of f.message)) si.0 si.1 f.away;
            on_route = subst (λ z. IsIn z (route_links t n (card_of x))) p.0 (subst (λ z. IsIn f.link (route_links t n z)) card (way f.message (forwarded h (key_of f.message)) f.link (no_reversal f.message.kind kind) f.way));
          }

  through_out : Through t n past i (Out i o ∷ h)
  through_out = record {
    own = record { entry = facts_out t n past i h o facts (Through.own q).entry allowed; stays_00 = λ k r. has_00_more h (Out i o) k ((Through.own q).stays_00 k r); stays_brought = λ k r. brings_more h i o k i ((Through.own q).stays_brought k r) };
    input = inr (Through.input q);
    handled_same = handled_out t h i i o ∙ Through.handled_same q;
    origins = origins_out;
    acks = acks_out;
    stands = stands_out;
  }

pub record AdviceFacts (t : Network) (n : ℕ) (h : History) : Type 0 where
  pub origins : Origins t n h
  pub acks : AcksKnown t n h
  pub stands : StandsKnown t n h

no_out : (i j : ReadInput) (o : ReadOutput) → In i ≡ Out j o → ⊥
no_out i j o e = cc

advice_decide : (t : Network) (n : ℕ) (past : History) (i : ReadInput) → IsFormed i → refusal t n past i ≡ None → NodeFacts t n past → AdviceFacts t n past → AdviceFacts t n (decide t n past i)
advice_decide t n past i form ok f before =
    let q : Through t n past i (decide t n past i) = (decide_keeps t n past i (Through t n past i)
    (λ h o q allowed. through_out t n past i ok f before.origins h o q allowed)
    (keeps_issuers t n past f)
    (record {
      own = own_in_entry t n past i form ok f;
      input = inl refl;
      handled_same = handled_in t past i;
      origins = origins_in t n past i before.origins;
      acks = λ j l s x has g c. ⊎_elim (λ bad. absurd (no_out i j (Put l s x) bad)) (λ m. (let b = before.acks j l s x m g c in record { serial = b.serial; message = b.message; has = inr b.has; kind = b.kind; same = b.same; known_now = known_more t n (In i) past (identity_of x) b.known_now })) has;
      stands = λ j l s x has g r. ⊎_elim (λ bad. absurd (no_out i j (Put l s x) bad)) (λ m. before.stands j l s x m g r) has;
    })) in
    record { origins = Through.origins q; acks = Through.acks q; stands = Through.stands q }

pub legal_advices : (t : Network) (n : ℕ) (es : List ReadEntry) → IsLegalRead t n es → AdviceFacts t n (read_history es)
unfolding read_history advices
legal_advices t n [] l = record { origins = record { from = λ a m. absurd m; acked = λ a m. absurd m; issued = λ a m. absurd m }; acks = λ i k s x m. absurd m; stands = λ i k s x m. absurd m }
legal_advices t n (e ∷ es) l = subst (AdviceFacts t n) (sym l.1.outputs) (advice_decide t n (read_history es) e.input l.1.formed l.1.accepted (legal_facts t n es l.0) (legal_advices t n es l.0))
