-- Where a reversal on a link comes from, and that it agrees with its key wherever that is open.
use Rattle.std.proofs.Common.{◌≡◌, ℕ, zero, suc, ◌+◌, ◌≤◌, ◌<◌, List, [], ◌∷◌, Option, Some, None, Bool, true, false, cond, not, ◌&&◌, refl, sym, ap, ◌∙◌, subst, inl, inr, ⊎_elim, ◌⊎◌, arith, length}
use Rattle.std.proofs.lemmas.Bool.{and_parts, and_from, cond_both}
use Rattle.std.proofs.lemmas.Option.{same_Some}
use Rattle.std.specs.Option.{option_and_then}
use Rattle.net_rows.specs.Network.{Network, issuer, other_end}
use Rattle.net_rows.specs.declared.row.Issuer.{Issuer}
use Rattle.network_law.specs.Tables.{is_home, node_id, route_links, is_attached}
use Rattle.network_law.specs.Traces.{Source, ByLink, ReadInput, Take, ReadOutput, Put, In, Out, History, Handled, handled, Opening, opening, sent, own_approval, advices, add_made, reverses_key, failed_key, is_ok_ack, as_kept, is_timer, forwarded, forwards, pending, count_of, reversed, home_is, is_up, IsIn, Has}
use Rattle.network_law.specs.Decision.{decide, reply_output, sent_kind, standin_code, own_way, first_up, same_source}
use Rattle.network_law.specs.Refusals.{refusal}
use Rattle.network_law.specs.Entries.{ReadEntry, read_history}
use Rattle.network_law.proofs.ReadRuns.{IsFormed, IsLegalRead, IsReadRun}
use Rattle.network_law.specs.Checked.{Ranks, IsRanked, IsChecked}
use Rattle.network_law.specs.Claims.{NoRepeatReply}
use Rattle.message_keys.proofs.Equality.{key_eq_refl}
use Rattle.network_law.proofs.Emits.{Allowed, forwarding, asking, standing_in, passing, declining, repeating, refusing, acking, sending, posting, putting_packet, Forwarding, Sending, Acking, StandingIn, OpenedFirst, Failed, Reversing, ViaLink, ViaHost, Kept, due, reversing, standing, accepting, handled_as, Issued, decide_keeps, stays_open, ask_key_asked, is_kept_group, is_link_is, found_is_in, via_ticks, IsGood, from_link, handled_no_timer, Accepts}
use Rattle.network_law.proofs.Node.{NodeFacts, EntryFacts, Opened, OpensNow, opening_in_cases, legal_facts, facts_in, facts_out, keeps_issuers, answer_no_request, response_is_of_kind, response_no_request, forwarded_has, asked_has, Sent, el_dated, el_remove, put_parts, put_case}
use Rattle.network_law.proofs.Elements.{response_key}
use Rattle.network_law.proofs.Used.{reversed_more, acked_kind, sent_reply, reply_message}
use Rattle.network_law.proofs.Ends.{legal_at, is_node, not_home, back, histories}
use Rattle.network_law.proofs.Chain.{rank, highest, RankFalls, falls, same_card, legal_own, chain, step_back, Stands, stands, same_everywhere}
use Rattle.network_law.proofs.Codes.{legal_codes, no_request_refused, content_eq_refl}
use Rattle.network_law.proofs.Late.{kept_reversal, handled_in, handled_out}
use Rattle.network_law.specs.Cards.{Bytes, card_of}
use Rattle.iso_message.specs.Fields.{Fields, as_kind}
use Rattle.message_elements.specs.declared.kind.Kind.{Kind}
use Rattle.message_elements.specs.Groups.{group, is_answer, is_reversal, is_04xx, response_kind, is_advice_group}
use Rattle.message_elements.specs.declared.kind.Kind.TheVariants.{K0100, K0101, K0110, K0120, K0121, K0130, K0400, K0401, K0410, K0420, K0421, K0430}
use Rattle.card_digits.specs.declared.key.Key.{Key}
use Rattle.message_keys.specs.Keys.{key_of, key_eq, content, content_eq}
use Rattle.message_elements.specs.Codes.{code_94}
use Rattle.iso_message.specs.Made.{response, made_reversal, made_stand_in}
use Rattle.message_elements.specs.declared.kind.Group.TheVariants as groups
use Rattle.network_law.proofs.Provenance.{none_some, not_both, kept_04xx, as_kept_04xx, as_kept_content, as_kind_content, as_kind_key, MadeHere, TakenFrom, AcceptedHere, Provenance, provenance_of, AllKnown, in_made, in_accepted, SentReversal, SentKnown, extend, extend_made, extends_in, extends_out, made_provenance, opened_of_key, known_in, sent_in, advice_04xx, ack_case, good_accepted, made_stand_in_kind, any_in, accepted_of, reversed_back, Through, reversed_now}

-- what was known stays so, whatever is put out
module _ (t : Network) (n : ℕ) (past : History) (i : ReadInput) (ok : refusal t n past i ≡ None) (facts : NodeFacts t n past) (h : History) (o : ReadOutput) (q : Through t n past i h) (allowed : Allowed t n past i h o) where
  keep_provenance : (x : Fields) → Provenance t n h x → Provenance t n (Out i o ∷ h) x
  unfolding opening
  keep_provenance x p = ⊎_elim made accepted p.from
    where
      made : MadeHere t h x → Provenance t n (Out i o ∷ h) x
      made m = extend_made t n h (Out i o ∷ h) x (λ op e. e) p.issued m

      not_now : reversed t n h (key_of x) ≡ true → (l : ℕ) → forwarded h (key_of x) ≡ None → forwards (key_of x) o ≡ Some l → ⊥
      not_now rev l none fw =
          let r = Rattle.network_law.proofs.Node.forwards_is (key_of x) o l fw in
          let f = put_case t n past i h o l r.0 r.1 allowed r.2 r.3 in
          let pp = put_parts (sym f.is ∙ r.2) in
          let key : key_of f.message ≡ key_of x = sym (Rattle.network_law.proofs.Node.forwarded_key f.message f.request) ∙ (ap key_of pp.2 ∙ r.4) in
          let back : reversed t n past (key_of x) ≡ true = reversed_back t n past i (key_of x) (subst (λ z. reversed t n z (key_of x) ≡ true) f.first rev) in
          not_both (reversed t n past (key_of x)) back (ap (reversed t n past) (sym key) ∙ f.not_reversed)

      accepted : (reversed t n h (key_of x) ≡ true) × AcceptedHere t n h x → Provenance t n (Out i o ∷ h) x
      accepted a = extend t n h (Out i o ∷ h) x (extends_out t h i o (key_of x) (not_now a.0)) p

  -- what fails in this output has an issuer
  failed_issued : (k : Key) (op : Opening) → failed_key t h i (sent o) ≡ Some k → opening t h k ≡ Some op → Issued t op.message
  failed_issued k op e opened' = by_message (sent o) refl e
    where
      ends : {A : Type 0} (b : Bool) → b ≡ true → b ≡ false → A
      ends b p r = absurd (not_both b p r)

      by_case : (y : Fields) → sent o ≡ Some y → is_timer i ≡ true → is_answer y.kind ≡ true → key_of y ≡ k → Allowed t n past i h o → Issued t op.message
      by_case y is timer ans key (forwarding f) = ends (is_answer y.kind) ans (ap (λ z. is_answer (Fields.kind z)) (sym (same_Some (as_kind K0100 f.message) y (ap sent (sym f.is) ∙ is))))
      by_case y is timer ans key (asking f) = absurd (none_some y (ap sent (sym f.is) ∙ is))
      by_case y is timer ans key (standing_in f) =
          let now : opening t h f.opens.key ≡ Some f.op = (Through.entry q).opening_is f.opens.key ∙ f.opens.is in
          let w = (Through.entry q).node.opens f.opens.key f.op now in
          let same = reply_message f.op.source _ h o y f.is is in
          let key' : f.opens.key ≡ k = sym w.key ∙ (sym (response_key f.op.message (standin_code t n h f.op.message) w.request) ∙ (ap key_of same ∙ key)) in
          let op_same : f.op ≡ op = same_Some f.op op (sym now ∙ (ap (opening t h) key' ∙ opened')) in
          (f.s, subst (λ z. issuer t (card_of (Opening.message z)) ≡ Some f.s) op_same f.issued)
      by_case y is timer ans key (passing f) = ⊎_elim (λ v. ends (is_timer i) timer (ap is_timer v.input)) (λ v. ends (is_timer i) timer (ap is_timer v.input)) f.via
      by_case y is timer ans key (declining f) = ⊎_elim (λ v. ends (is_timer i) timer v.no_timer) (λ v. ends (is_timer i) timer (handled_no_timer t past i v.message v.source v.is_handled)) f.how
      by_case y is timer ans key (repeating f) = ends (is_timer i) timer f.no_timer
      by_case y is timer ans key (refusing f) = ends (is_timer i) timer (handled_no_timer t past i f.message f.source f.is_handled)
      by_case y is timer ans key (acking f) = ends (is_timer i) timer (handled_no_timer t past i f.message f.source f.is_handled)
      by_case y is timer ans key (sending f) = ends (is_answer y.kind) ans (ap (λ z. is_answer (Fields.kind z)) (sym (same_Some (as_kind (sent_kind (is_04xx f.message.kind) f.again) f.message) y (ap sent (sym f.is) ∙ is))) ∙ Rattle.network_law.proofs.Used.advice_no_answer (is_04xx f.message.kind) f.again)
      by_case y is timer ans key (posting f) = absurd (none_some y (ap sent (sym f.is) ∙ is))
      by_case y is timer ans key (putting_packet f) = absurd (none_some y (ap sent (sym f.is) ∙ is))

      by_test : (y : Fields) → sent o ≡ Some y → (b : Bool) → (is_timer i && is_answer y.kind && pending t h (key_of y)) ≡ b → cond (is_timer i && is_answer y.kind && pending t h (key_of y)) (Some (key_of y)) None ≡ Some k → Issued t op.message
      by_test y is true at e =
          let p = and_parts (is_timer i && is_answer y.kind) (pending t h (key_of y)) at in
          let r = and_parts (is_timer i) (is_answer y.kind) p.0 in
          by_case y is r.0 r.1 (same_Some _ _ (rw at at e)) allowed
      by_test y is false at e = absurd (none_some k (rw at at e))

      by_message : (w : Option Fields) → sent o ≡ w → failed_key t h i (sent o) ≡ Some k → Issued t op.message
      by_message None is e = absurd (none_some k (rw is at e))
      by_message (Some y) is e = by_test y is (is_timer i && is_answer y.kind && pending t h (key_of y)) refl (rw is at e)

  known_out : AllKnown t n (Out i o ∷ h)
  unfolding advices reversed
  known_out a m r = ⊎_elim accepted (λ m1. ⊎_elim stood (λ m2. ⊎_elim failed old (in_made a (λ x. made_reversal x (node_id t n)) (count_of h) (option_and_then (opening t h) (failed_key t h i (sent o))) (advices t n h) m2)) (in_made a (λ x. made_stand_in x (node_id t n)) (count_of h) (option_and_then (opening t h) (own_approval h i o)) (add_made (λ x. made_reversal x (node_id t n)) (count_of h) (option_and_then (opening t h) (failed_key t h i (sent o))) (advices t n h)) m1)) (in_accepted a (count_of h) (is_ok_ack (sent o)) (handled t h i) (add_made (λ x. made_stand_in x (node_id t n)) (count_of h) (option_and_then (opening t h) (own_approval h i o)) (add_made (λ x. made_reversal x (node_id t n)) (count_of h) (option_and_then (opening t h) (failed_key t h i (sent o))) (advices t n h))) m)
    where
      old : IsIn a (advices t n h) → Provenance t n (Out i o ∷ h) a.message
      old m0 = keep_provenance a.message (Through.all_known q a m0 r)

      failed : (op : Opening) × (option_and_then (opening t h) (failed_key t h i (sent o)) ≡ Some op) × (a.message ≡ made_reversal op.message (node_id t n)) → Provenance t n (Out i o ∷ h) a.message
      failed p =
          let k = opened_of_key (opening t h) (failed_key t h i (sent o)) p.0 p.1 in
          keep_provenance a.message (made_provenance t n h k.0 p.0 a.message (Through.entry q).node k.2 (failed_issued k.0 p.0 k.1 k.2) p.2)

      stood : (op : Opening) × (option_and_then (opening t h) (own_approval h i o) ≡ Some op) × (a.message ≡ made_stand_in op.message (node_id t n)) → Provenance t n (Out i o ∷ h) a.message
      stood p = absurd (not_both (is_04xx a.message.kind) r (ap (λ z. is_04xx (Fields.kind z)) p.2 ∙ ap is_04xx (made_stand_in_kind p.0.message (node_id t n))))

      accepted : (x : Handled) × (is_ok_ack (sent o) ≡ true) × (handled t h i ≡ Some x) × (is_advice_group (group x.message.kind) ≡ true) × (a.message ≡ as_kept x.message) × (a.own ≡ false) → Provenance t n (Out i o ∷ h) a.message
      accepted p =
          let c = ack_case t n past i h o (Through.entry q) allowed p.1 in
          let same : p.0.message ≡ c.0 = ap (λ (z : Handled). z.message) (same_Some _ _ (sym p.2 ∙ (Through.handled_same q ∙ c.2))) in
          let r0 : is_04xx p.0.message.kind ≡ true = sym (as_kept_04xx p.0.message) ∙ (ap (λ z. is_04xx (Fields.kind z)) (sym p.4) ∙ r) in
          let g = advice_04xx p.0.message.kind p.3 r0 in
          let rev : is_reversal c.0.kind ≡ true = ap (λ z. is_reversal (Fields.kind z)) (sym same) ∙ g.1 in
          let key : key_of a.message ≡ key_of c.0 = ap key_of p.4 ∙ ((kept_reversal p.0.message g.0).1 ∙ ap key_of same) in
          let content_same : content a.message ≡ content c.0 = ap content p.4 ∙ (as_kept_content p.0.message ∙ ap content same) in
          let is_rev : accepted_of (key_of a.message) a ≡ true = and_from (not a.own) (reverses_key (key_of a.message) a) (ap not p.5) (and_from (is_04xx a.message.kind) (key_eq (key_of a.message) (key_of a.message)) r (key_eq_refl (key_of a.message))) in
          good_accepted t n past i (Out i o ∷ h) c.0 a.message c.1 ok (record { entry = facts_out t n past i h o facts (Through.entry q) allowed; input = inr (Through.input q) }) c.2 rev c.3 key content_same (any_in (accepted_of (key_of a.message)) a (advices t n (Out i o ∷ h)) m is_rev)

-- only advices are put as reversals

response_no_reversal : (k : Kind) → is_reversal (response_kind k) ≡ false
response_no_reversal K0100 = refl
response_no_reversal K0101 = refl
response_no_reversal K0110 = refl
response_no_reversal K0120 = refl
response_no_reversal K0121 = refl
response_no_reversal K0130 = refl
response_no_reversal K0400 = refl
response_no_reversal K0401 = refl
response_no_reversal K0410 = refl
response_no_reversal K0420 = refl
response_no_reversal K0421 = refl
response_no_reversal K0430 = refl

answer_no_reversal : (k : Kind) → is_answer k ≡ true → is_reversal k ≡ false
answer_no_reversal K0100 e = refl
answer_no_reversal K0101 e = refl
answer_no_reversal K0110 e = refl
answer_no_reversal K0120 e = refl
answer_no_reversal K0121 e = refl
answer_no_reversal K0130 e = refl
answer_no_reversal K0400 e = cc
answer_no_reversal K0401 e = cc
answer_no_reversal K0410 e = cc
answer_no_reversal K0420 e = cc
answer_no_reversal K0421 e = cc
answer_no_reversal K0430 e = cc

advice_reverses : (a b : Bool) → is_reversal (sent_kind a b) ≡ true → (a ≡ true) × (is_04xx (sent_kind a b) ≡ true)
advice_reverses true true e = (refl, refl)
advice_reverses true false e = (refl, refl)
advice_reverses false true e = cc
advice_reverses false false e = cc

reversal_case : (t : Network) (n : ℕ) (past : History) (i : ReadInput) (h : History) (o : ReadOutput) (l s : ℕ) (x : Fields) → Allowed t n past i h o → o ≡ Put l s x → is_reversal x.kind ≡ true → Sending t n past i h o
reversal_case t n past i h o l s x allowed e r = go allowed
  where
    is_sent : sent o ≡ Some x
    is_sent = ap sent e

    ends : {A : Type 0} → is_reversal x.kind ≡ false → A
    ends f = absurd (not_both (is_reversal x.kind) r f)

    of_response : {A : Type 0} (src : Source) (m : Fields) (c : Bytes) → o ≡ reply_output src (response m c) h → A
    of_response src m c is = ends (ap (λ z. is_reversal (Fields.kind z)) (sym (reply_message src (response m c) h o x is is_sent)) ∙ (ap is_reversal (response_is_of_kind m c) ∙ response_no_reversal m.kind))

    go : Allowed t n past i h o → Sending t n past i h o
    go (forwarding f) = ends (ap (λ z. is_reversal (Fields.kind z)) (sym (same_Some (as_kind K0100 f.message) x (ap sent (sym f.is) ∙ is_sent))))
    go (asking f) = absurd (none_some x (ap sent (sym f.is) ∙ is_sent))
    go (standing_in f) = of_response f.op.source f.op.message (standin_code t n h f.op.message) f.is
    go (passing f) = of_response f.op.source f.op.message f.code f.is
    go (declining f) = of_response f.op.source f.op.message f.code f.is
    go (repeating f) = ends (ap (λ z. is_reversal (Fields.kind z)) (sym (reply_message f.source f.before h o x f.is is_sent)) ∙ answer_no_reversal f.before.kind ((Rattle.network_law.proofs.Node.answer_is past f.key f.before f.answered).0))
    go (refusing f) = of_response f.source f.message code_94 f.is
    go (acking f) = of_response f.source f.message f.code f.is
    go (sending f) = f
    go (posting f) = absurd (none_some x (ap sent (sym f.is) ∙ is_sent))
    go (putting_packet f) = absurd (none_some x (ap sent (sym f.is) ∙ is_sent))

pub home_is_not : (n : ℕ) (o : Option Issuer) (s : Issuer) → o ≡ Some s → home_is n o ≡ false → is_home s n ≡ false
home_is_not n o s e f = ap (home_is n) (sym e) ∙ f

module _ (t : Network) (n : ℕ) (past : History) (i : ReadInput) (ok : refusal t n past i ≡ None) (facts : NodeFacts t n past) (before : AllKnown t n past) (h : History) (o : ReadOutput) (q : Through t n past i h) (allowed : Allowed t n past i h o) where
  -- the provenance of what is sent
  sent_provenance : (x : Fields) → Kept t n past i h x → is_04xx x.kind ≡ true → Provenance t n h x
  sent_provenance x (due a m e) r = Through.past_known q x (subst (Provenance t n past) (sym e) (before a m (ap (λ z. is_04xx (Fields.kind z)) (sym e) ∙ r)))
  sent_provenance x (reversing key op o1 ticks e) r = Through.past_known q x (made_provenance t n past key op x facts o1 (keeps_issuers t n past facts key op o1 ticks) e)
  sent_provenance x (standing key op o1 s si e) r = absurd (not_both (is_04xx x.kind) r (ap (λ z. is_04xx (Fields.kind z)) e ∙ ap is_04xx (made_stand_in_kind op.message (node_id t n))))
  sent_provenance x (accepting a) r =
      let r0 : is_04xx a.message.kind ≡ true = sym (as_kept_04xx a.message) ∙ (ap (λ z. is_04xx (Fields.kind z)) (sym a.is) ∙ r) in
      let g : group a.message.kind ≡ groups.Reversal = kept_04xx a.message.kind a.kept_group r0 in
      let rev : is_reversal a.message.kind ≡ true = Rattle.network_law.proofs.Emits.reversal_from_group a.message.kind g in
      good_accepted t n past i h a.message x a.source ok (record { entry = Through.entry q; input = Through.input q }) a.is_handled rev (record { issued = a.issued; agrees = a.agrees }) (ap key_of a.is ∙ (kept_reversal a.message g).1) (ap content a.is ∙ as_kept_content a.message) (reversed_now t n past i h x a r)

  -- the link is one of the route of the reversal's card
  way_on_route : (x : Fields) (l : ℕ) → Provenance t n h x → own_way t n h x (forwarded h (key_of x)) ≡ Some l → IsIn l (route_links t n (card_of x))
  way_on_route x l p e = go (forwarded h (key_of x)) refl e
    where
      first : first_up h (route_links t n (card_of x)) ≡ Some l → IsIn l (route_links t n (card_of x))
      first f = found_is_in (is_up h) (route_links t n (card_of x)) l f

      agree : (k : ℕ) → forwarded h (key_of x) ≡ Some k → IsIn k (route_links t n (card_of x))
      agree k fw =
          let b = forwarded_has h (key_of x) k fw in
          let s = (Through.entry q).node.puts b.0 k b.1 b.2 b.3 b.4 in
          let opened' : opening t h (key_of x) ≡ Some s.op = ap (opening t h) (sym b.5) ∙ s.is in
          let same : content s.op.message ≡ content x = ⊎_elim (λ m. ap (λ (z : Opening). content z.message) (same_Some s.op m.op (sym opened' ∙ m.opens)) ∙ m.same) (λ a. a.1.agrees s.op k opened' fw) p.from in
          subst (λ z. IsIn k (route_links t n z)) (same_card s.op.message x same) s.on_route

      go : (w : Option ℕ) → forwarded h (key_of x) ≡ w → own_way t n h x (forwarded h (key_of x)) ≡ Some l → IsIn l (route_links t n (card_of x))
      go None at e = first (rw at at e)
      go (Some k) at e = cond_both (is_reversal x.kind && is_up h k) (Some k) (first_up h (route_links t n (card_of x))) (λ z. z ≡ Some l → IsIn l (route_links t n (card_of x)))
          (λ _ f. subst (λ z. IsIn z (route_links t n (card_of x))) (same_Some k l f) (agree k at)) (λ _ f. first f) (rw at at e)

  sent_out : SentKnown t n (Out i o ∷ h)
  sent_out j l s x has r = ⊎_elim here there has
    where
      there : Has (Out j (Put l s x)) h → SentReversal t n (Out i o ∷ h) l x
      there m = let b = Through.sent_known q j l s x m r in record { s = b.s; issued = b.issued; away = b.away; on_route = b.on_route; provenance = keep_provenance t n past i ok facts h o q allowed x b.provenance }

      here : Out i o ≡ Out j (Put l s x) → SentReversal t n (Out i o ∷ h) l x
      here e =
          let is : o ≡ Put l s x = Rattle.network_law.proofs.Codes.same_out i j o (Put l s x) e in
          let f = reversal_case t n past i h o l s x allowed is r in
          let p = put_parts (sym f.is ∙ is) in
          let a = advice_reverses (is_04xx f.message.kind) f.again (ap (λ z. is_reversal (Fields.kind z)) p.2 ∙ r) in
          let key : key_of f.message ≡ key_of x = sym (as_kind_key (sent_kind (is_04xx f.message.kind) f.again) f.message (a.1 ∙ sym a.0)) ∙ ap key_of p.2 in
          let same : content f.message ≡ content x = sym (as_kind_content (sent_kind (is_04xx f.message.kind) f.again) f.message) ∙ ap content p.2 in
          let prov0 : Provenance t n h f.message = sent_provenance f.message f.kept a.0 in
          let card : card_of f.message ≡ card_of x = same_card f.message x same in
          let prov : Provenance t n (Out i o ∷ h) x = provenance_of t n (Out i o ∷ h) f.message x key same (keep_provenance t n past i ok facts h o q allowed f.message prov0) in
          let issued : issuer t (card_of f.message) ≡ Some prov0.issued.0 = prov0.issued.1 in
          record {
            s = prov0.issued.0;
            issued = ap (issuer t) (sym card) ∙ issued;
            away = home_is_not n (issuer t (card_of f.message)) prov0.issued.0 issued f.away;
            on_route = subst (λ z. IsIn z (route_links t n (card_of x))) p.0 (subst (λ z. IsIn f.link (route_links t n z)) card (way_on_route f.message f.link prov0 f.way));
            provenance = prov;
          }

record Both (t : Network) (n : ℕ) (h : History) : Type 0 where
  all : AllKnown t n h
  puts : SentKnown t n h

both_decide : (t : Network) (n : ℕ) (past : History) (i : ReadInput) → IsFormed i → refusal t n past i ≡ None → NodeFacts t n past → Both t n past → Both t n (decide t n past i)
both_decide t n past i form ok f before =
    let q : Through t n past i (decide t n past i) = (decide_keeps t n past i (Through t n past i)
    (λ h o q allowed. record {
      entry = facts_out t n past i h o f (Through.entry q) allowed;
      input = inr (Through.input q);
      handled_same = handled_out t h i i o ∙ Through.handled_same q;
      past_known = λ x p. keep_provenance t n past i ok f h o q allowed x (Through.past_known q x p);
      all_known = known_out t n past i ok f h o q allowed;
      sent_known = sent_out t n past i ok f (Both.all before) h o q allowed;
    })
    (keeps_issuers t n past f)
    (record {
      entry = record { node = facts_in t n past i form ok f; opening_is = λ k. refl };
      input = inl refl;
      handled_same = handled_in t past i;
      past_known = λ x p. extend t n past (In i ∷ past) x (extends_in t n past i (key_of x) f) p;
      all_known = known_in t n past i form ok f (Both.all before);
      sent_known = sent_in t n past i f (Both.puts before);
    })) in
    record { all = Through.all_known q; puts = Through.sent_known q }

legal_both : (t : Network) (n : ℕ) (es : List ReadEntry) → IsLegalRead t n es → Both t n (read_history es)
unfolding read_history advices
legal_both t n [] l = record { all = λ a m. absurd m; puts = λ i k s x m. absurd m }
legal_both t n (e ∷ es) l = subst (Both t n) (sym l.1.outputs) (both_decide t n (read_history es) e.input l.1.formed l.1.accepted (legal_facts t n es l.0) (legal_both t n es l.0))

pub legal_sent : (t : Network) (n : ℕ) (es : List ReadEntry) → IsLegalRead t n es → SentKnown t n (read_history es)
legal_sent t n es l = Both.puts (legal_both t n es l)

-- a reversal is traced back to where it was made, or to its gate

pub record Traced (t : Network) (ranks : Ranks) (traces : ℕ → List ReadEntry) (a : ℕ) (x : Fields) : Type 0 where
  pub node : ℕ
  pub above : rank ranks (card_of x) a ≤ rank ranks (card_of x) node
  pub made : ((op : Opening) × (opening t (read_history (traces node)) (key_of x) ≡ Some op) × (content op.message ≡ content x))
      ⊎ ((is_attached t node (key_of x).acquirer ≡ true) × ((op : Opening) (l : ℕ) → opening t (read_history (traces node)) (key_of x) ≡ Some op → forwarded (read_history (traces node)) (key_of x) ≡ Some l → content op.message ≡ content x))

module _ (t : Network) (ranks : Ranks) (traces : ℕ → List ReadEntry) (run : IsReadRun t traces) (ranked : IsRanked t ranks) (sound : IsChecked t) where
  sent_at : (a l s : ℕ) (i : ReadInput) (x : Fields) → Has (Out i (Put l s x)) (read_history (traces a)) → is_reversal x.kind ≡ true → SentReversal t a (read_history (traces a)) l x
  sent_at a l s i x has r = legal_sent t a (traces a) (legal_at run a) i l s x has r

  reversal_falls : (a l : ℕ) (x : Fields) → SentReversal t a (read_history (traces a)) l x → a < length t.nodes → RankFalls ranks (card_of x) (other_end t a l) a
  reversal_falls a l x s less = falls ranks (card_of x) (other_end t a l) a (ranked (card_of x) s.s a l s.issued less (not_home s.s a s.away) s.on_route)

  -- the node that sent what was taken
  record Sender (n : ℕ) (l : ℕ) (x : Fields) : Type 0 where
    sent : SentReversal t (other_end t n l) (read_history (traces (other_end t n l))) l x
    less : rank ranks (card_of x) n < rank ranks (card_of x) (other_end t n l)
    bound : rank ranks (card_of x) (other_end t n l) ≤ highest

  sender : (n l s : ℕ) (x : Fields) → Has (In (Take l s x)) (read_history (traces n)) → is_reversal x.kind ≡ true → Sender n l x
  sender n l s x has r =
      let put = run.linked n l s x has in
      let back' = back t l n (legal_own t n (traces n) (legal_at run n) l s x has) in
      let sent' = sent_at (other_end t n l) l s put.0 x put.1 r in
      let f = reversal_falls (other_end t n l) l x sent' (is_node run (other_end t n l) (Out put.0 (Put l s x)) put.1) in
      record { sent = sent'; less = subst (λ z. rank ranks (card_of x) z < rank ranks (card_of x) (other_end t n l)) back' f.less; bound = f.bound }

  traced : (fuel a : ℕ) (x : Fields) → Provenance t a (read_history (traces a)) x → highest < rank ranks (card_of x) a + fuel → Traced t ranks traces a x
  traced zero a x p far = ⊎_elim (λ m. record { node = a; above = omega arith; made = inl (m.op, m.opens, m.same) }) (λ w. ⊎_elim (λ s. absurd (too_far s)) (λ g. record { node = a; above = omega arith; made = inr (g, w.1.agrees) }) w.1.source) p.from
    where
      too_far : TakenFrom (read_history (traces a)) x → ⊥
      too_far s =
          let b = sender a s.link s.serial s.message s.has s.reversal in
          let less = Sender.less b in
          let bound = Sender.bound b in
          let far' : highest < rank ranks (card_of s.message) a + 0 = subst (λ c. highest < rank ranks c a + 0) (sym (same_card s.message x s.same)) far in
          omega (arith, less, bound, far')
  traced (suc fuel) a x p far = ⊎_elim (λ m. record { node = a; above = omega arith; made = inl (m.op, m.opens, m.same) }) (λ w. ⊎_elim (λ s. go s (λ p' far'. traced fuel (other_end t a s.link) x p' far')) (λ g. record { node = a; above = omega arith; made = inr (g, w.1.agrees) }) w.1.source) p.from
    where
      go : (s : TakenFrom (read_history (traces a)) x) → (Provenance t (other_end t a s.link) (read_history (traces (other_end t a s.link))) x → highest < rank ranks (card_of x) (other_end t a s.link) + fuel → Traced t ranks traces (other_end t a s.link) x) → Traced t ranks traces a x
      go s ih =
          let b = sender a s.link s.serial s.message s.has s.reversal in
          let less : rank ranks (card_of x) a < rank ranks (card_of x) (other_end t a s.link) = subst (λ c. rank ranks c a < rank ranks c (other_end t a s.link)) (same_card s.message x s.same) (Sender.less b) in
          let p' = provenance_of t (other_end t a s.link) (read_history (traces (other_end t a s.link))) s.message x s.key s.same (Sender.sent b).provenance in
          let r = ih p' (omega (arith, less, far)) in
          let above = r.above in
          record { node = r.node; above = omega (arith, less, above); made = r.made }

  -- a chain with a second node begins with a forward
  first_forward : (k : Key) (g j n : ℕ) → chain t traces k g (suc j) ≡ Some n → (l : ℕ) × (forwarded (read_history (traces g)) k ≡ Some l)
  unfolding chain
  first_forward k g zero n e =
      let s = step_back t ranks traces run ranked sound k g 0 n e in
      let same : g ≡ s.0 = same_Some g s.0 s.1 in
      (s.2, ap (λ z. forwarded (read_history (traces z)) k) same ∙ s.3)
  first_forward k g (suc j) n e =
      let s = step_back t ranks traces run ranked sound k g (suc j) n e in
      first_forward k g j s.0 s.1

  -- a reversal that is taken agrees with its key where that is open
  pub no_reversal_refused : (n l s : ℕ) (m : Fields) (op : Opening) → Has (In (Take l s m)) (read_history (traces n)) → is_reversal m.kind ≡ true → opening t (read_history (traces n)) (key_of m) ≡ Some op → content op.message ≡ content m
  unfolding chain
  no_reversal_refused n l s m op has r e =
      let b = sender n l s m has r in
      let w = traced (suc (highest)) (other_end t n l) m (Sender.sent b).provenance (omega arith) in
      go w (Sender.less b)
    where
      place0 : (g n : ℕ) → chain t traces (key_of m) g 0 ≡ Some n → g ≡ n
      place0 g n e = same_Some g n e

      go : (w : Traced t ranks traces (other_end t n l) m) → rank ranks (card_of m) n < rank ranks (card_of m) (other_end t n l) → content op.message ≡ content m
      go w less = ⊎_elim (λ made. same_everywhere t ranks traces run ranked sound (key_of m) n w.node op made.0 e made.1 ∙ made.2) at_gate w.made
        where
          st : Stands t traces (key_of m) n op
          st = stands t ranks traces run ranked sound (key_of m) n op e

          at_gate : (is_attached t w.node (key_of m).acquirer ≡ true) × ((op : Opening) (l : ℕ) → opening t (read_history (traces w.node)) (key_of m) ≡ Some op → forwarded (read_history (traces w.node)) (key_of m) ≡ Some l → content op.message ≡ content m) → content op.message ≡ content m
          at_gate g = by_place st.place refl
            where
              same : st.gate ≡ w.node
              same = sound.single_gates (key_of m).acquirer st.gate w.node st.is_gate g.0

              by_place : (j : ℕ) → st.place ≡ j → content op.message ≡ content m
              by_place zero is =
                  let at : st.gate ≡ n = place0 st.gate n (ap (chain t traces (key_of m) st.gate) (sym is) ∙ st.at) in
                  let node_n : w.node ≡ n = sym same ∙ at in
                  let above : rank ranks (card_of m) (other_end t n l) ≤ rank ranks (card_of m) n = subst (λ z. rank ranks (card_of m) (other_end t n l) ≤ rank ranks (card_of m) z) node_n w.above in
                  absurd (omega (arith, above, less))
              by_place (suc j) is =
                  let f = first_forward (key_of m) st.gate j n (ap (chain t traces (key_of m) st.gate) (sym is) ∙ st.at) in
                  st.same ∙ g.1 st.first f.0 (ap (λ z. opening t (read_history (traces z)) (key_of m)) (sym same) ∙ st.opened_at_gate) (ap (λ z. forwarded (read_history (traces z)) (key_of m)) (sym same) ∙ f.1)

pub NoRepeatReply_holds : (t : Network) (ranks : Ranks) (traces : ℕ → List ReadEntry) → IsReadRun t traces → IsRanked t ranks → IsChecked t → NoRepeatReply (histories traces)
NoRepeatReply_holds t ranks traces run ranked sound n l s i m has r code =
    let b = legal_codes t n (traces n) (legal_at run n) i l s m has r code in
    ⊎_elim (λ d. not_both (same_source b.op.source (ByLink l) && content_eq (content b.op.message) (content b.message)) (no_request_refused t ranks traces run ranked sound n l b.serial b.message b.op b.has d.0 b.opens) d.1)
    (λ d. not_both (content_eq (content b.op.message) (content b.message)) (ap (λ c. content_eq c (content b.message)) (no_reversal_refused t ranks traces run ranked sound n l b.serial b.message b.op b.has d.0 b.opens) ∙ content_eq_refl (content b.message)) d.1)
    b.differs
