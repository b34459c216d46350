-- A 00 that comes for a forwarded key answers it, or a reversal of the key is made or was accepted.
use Rattle.std.proofs.Common.{◌≡◌, ℕ, List, [], ◌∷◌, map, Option, Some, None, is_some, is_none, Bool, true, false, cond, not, ◌&&◌, ◌||◌, refl, sym, ap, ◌∙◌, subst, inl, inr, ⊎_elim, ◌⊎◌, bytes_eq, eqb}
use Rattle.std.proofs.lemmas.Bool.{and_parts, and_from, or_cases, eq-eqb, cond_both}
use Rattle.std.proofs.lemmas.Option.{same_Some}
use Rattle.std.specs.Option.{option_or, option_and_then}
use Rattle.std.specs.List.{list_any}
use Rattle.net_rows.specs.Network.{Network, issuer}
use Rattle.network_law.specs.Tables.{is_home, node_id}
use Rattle.network_law.specs.Traces.{Source, ByLink, ReadInput, Enter, Take, LinkUp, LinkDown, Tick, HostAnswer, NewDate, TakePacket, Lend, ReadOutput, Event, In, Out, History, Handled, handled, Opening, opening, answer, answers, sent, is_00_of, brings_00, own_approval, Advice, advices, add_advice, add_made, add_accepted, acked_by, has_identity, reverses_key, late_key, code_is_not_00, failed_key, is_ok_ack, is_ack_kind, as_kept, is_timer, is_link, forwarded, forwards, pending, count_of, known, date_of}
use Rattle.network_law.specs.Decision.{decide, reply, reply_output, sent_kind, standin_code, on_answer, on_code, on_reversal, on_handled, answer_pending, other_content}
use Rattle.network_law.specs.Refusals.{refusal}
use Rattle.network_law.specs.Entries.{ReadEntry, read_history}
use Rattle.network_law.proofs.ReadRuns.{IsReadRun, IsFormed, IsLegalRead, HasLengths}
use Rattle.network_law.specs.Claims.{answered_by, takes_00, took_00, takes_answer, has_reversal, LateApprovalsUndone}
use Rattle.message_keys.proofs.Equality.{key_eq_refl, bytes_eq_is}
use Rattle.network_law.proofs.Emits.{Allowed, forwarding, asking, standing_in, passing, declining, repeating, refusing, acking, sending, posting, putting_packet, OpenedFirst, Failed, Reversing, ViaLink, ViaHost, Kept, accepting, handled_as, decide_keeps, keep_keeps, stays_open, ask_key_asked, is_kept_group}
use Rattle.network_law.proofs.Node.{NodeFacts, EntryFacts, Opened, legal_facts, facts_in, facts_out, keeps_issuers, answer_no_request, answer_is, answers_is, response_is_of_kind, forwarded_has, asked_has, Sent}
use Rattle.network_law.proofs.Elements.{code_response, response_key, made_reversal_key, reversal_kind}
use Rattle.network_law.proofs.Used.{any_more, add_made_keeps, add_accepted_keeps, sent_reply, reply_message, response_code, acked_kind, advice_no_answer}
use Rattle.network_law.proofs.Codes.{answer_not_94}
use Rattle.network_law.proofs.Approvals.{forwarded_more, is_00_parts}
use Rattle.network_law.proofs.Ends.{legal_at, histories}
use Rattle.network_law.specs.Cards.{Bytes, is_good_card, card_of}
use Rattle.iso_message.specs.Fields.{Fields, el, as_kind}
use Rattle.message_elements.specs.declared.kind.Kind.{Kind}
use Rattle.message_elements.specs.Groups.{group, is_request, is_answer, is_04xx, response_kind}
use Rattle.message_elements.specs.declared.kind.Kind.TheVariants.{K0100, K0101, K0110, K0120, K0121, K0130, K0400, K0401, K0410, K0420, K0421, K0430}
use Rattle.card_digits.specs.declared.key.Key.{Key}
use Rattle.message_keys.specs.Keys.{same_kind, advice_kind, key_of, key_eq, identity_of, code_of}
use Rattle.message_elements.specs.Codes.{code_94, code_96, code_00, code_68}
use Rattle.iso_message.specs.Made.{response, made_reversal, made_stand_in}
use Rattle.message_elements.specs.declared.kind.Group.TheVariants as groups

not_both : (b : Bool) → b ≡ true → b ≡ false → ⊥
not_both b p q = cc

none_some : {X : Type 0} (x : X) → None ≡ Some x → ⊥
none_some x p = cc

-- reversals stay

acked_reverses : (k : Key) (i : ReadInput) (a : Advice) → reverses_key k (acked_by i a) ≡ reverses_key k a
acked_reverses k (Take l s m) a = refl
acked_reverses k (Enter m) a = refl
acked_reverses k (LinkUp l) a = refl
acked_reverses k (LinkDown l) a = refl
acked_reverses k Tick a = refl
acked_reverses k (HostAnswer b c) a = refl
acked_reverses k (NewDate d) a = refl
acked_reverses k (TakePacket lk sr pk) a = refl
acked_reverses k (Lend br cd dt am) a = refl

any_acked : (k : Key) (i : ReadInput) (as' : List Advice) → list_any (reverses_key k) (map (acked_by i) as') ≡ list_any (reverses_key k) as'
any_acked k i [] = refl
any_acked k i (a ∷ as') = ap (λ b. b || list_any (reverses_key k) (map (acked_by i) as')) (acked_reverses k i a) ∙ ap (λ b. reverses_key k a || b) (any_acked k i as')

pub reversal_more : (t : Network) (n : ℕ) (e : Event) (h : History) (k : Key) → has_reversal t n h k ≡ true → has_reversal t n (e ∷ h) k ≡ true
unfolding has_reversal advices
reversal_more t n (In i) h k r = add_made_keeps (reverses_key k) (λ m. made_reversal m (node_id t n)) (count_of h) (option_and_then (opening t h) (late_key h (advices t n h) i)) (map (acked_by i) (advices t n h)) (any_acked k i (advices t n h) ∙ r)
reversal_more t n (Out i o) h k r =
    add_accepted_keeps (reverses_key k) (count_of h) (is_ok_ack (sent o)) (handled t h i) (add_made (λ m. made_stand_in m (node_id t n)) (count_of h) (option_and_then (opening t h) (own_approval h i o)) (add_made (λ m. made_reversal m (node_id t n)) (count_of h) (option_and_then (opening t h) (failed_key t h i (sent o))) (advices t n h)))
    (add_made_keeps (reverses_key k) (λ m. made_stand_in m (node_id t n)) (count_of h) (option_and_then (opening t h) (own_approval h i o)) (add_made (λ m. made_reversal m (node_id t n)) (count_of h) (option_and_then (opening t h) (failed_key t h i (sent o))) (advices t n h))
    (add_made_keeps (reverses_key k) (λ m. made_reversal m (node_id t n)) (count_of h) (option_and_then (opening t h) (failed_key t h i (sent o))) (advices t n h) r))

-- an advice that is added is there, or one of its identity is

same_identity_reverses : (k : Key) (x : Fields) (a : Advice) → is_04xx x.kind ≡ true → key_of x ≡ k → has_identity (identity_of x) a ≡ true → reverses_key k a ≡ true
unfolding identity_of
same_identity_reverses k x a r e same =
    let p = and_parts (same_kind (advice_kind (is_04xx a.message.kind)) (advice_kind (is_04xx x.kind))) (key_eq (key_of a.message) (key_of x) && bytes_eq (identity_of a.message).forwarder (identity_of x).forwarder) same in
    let q = and_parts (key_eq (key_of a.message) (key_of x)) (bytes_eq (identity_of a.message).forwarder (identity_of x).forwarder) p.1 in
    and_from (is_04xx a.message.kind) (key_eq (key_of a.message) k) (kinds (is_04xx a.message.kind) (is_04xx x.kind) r p.0) (ap (key_eq (key_of a.message)) (sym e) ∙ q.0)
  where
    kinds : (b c : Bool) → c ≡ true → same_kind (advice_kind b) (advice_kind c) ≡ true → b ≡ true
    kinds true c r e = refl
    kinds false true r e = e
    kinds false false r e = r

any_identity : (k : Key) (x : Fields) (as' : List Advice) → is_04xx x.kind ≡ true → key_of x ≡ k → list_any (has_identity (identity_of x)) as' ≡ true → list_any (reverses_key k) as' ≡ true
any_identity k x [] r e same = same
any_identity k x (a ∷ as') r e same = ⊎_elim (λ here. rw (same_identity_reverses k x a r e here) refl) (λ there. any_more (reverses_key k) a as' (any_identity k x as' r e there)) (or_cases (has_identity (identity_of x) a) (list_any (has_identity (identity_of x)) as') same)

added_reverses : (k : Key) (a : Advice) (as' : List Advice) → is_04xx a.message.kind ≡ true → key_of a.message ≡ k → list_any (reverses_key k) (add_advice a as') ≡ true
added_reverses k a as' r e = cond_both (list_any (has_identity (identity_of a.message)) as') as' (a ∷ as') (λ z. list_any (reverses_key k) z ≡ true) (λ same. any_identity k a.message as' r e same) (λ _. rw (r, e, key_eq_refl k) refl)

pub made_added : (t : Network) (n : ℕ) (count : ℕ) (k : Key) (o : Option Opening) (op : Opening) (as' : List Advice) → o ≡ Some op → HasLengths op.message → is_request op.message.kind ≡ true → key_of op.message ≡ k → list_any (reverses_key k) (add_made (λ m. made_reversal m (node_id t n)) count o as') ≡ true
made_added t n count k o op as' e len r key = rw e (added_reverses k (record { message = made_reversal op.message (node_id t n); count = count; own = true; acked = false }) as' (ap is_04xx (reversal_kind op.message (node_id t n))) (made_reversal_key op.message (node_id t n) len.trace len.time len.acquirer r ∙ key))

-- answers

pub answered_more : (h : History) (i : ReadInput) (o : ReadOutput) (k : Key) (j : ReadInput) → answered_by h k ≡ Some j → answered_by (Out i o ∷ h) k ≡ Some j
unfolding answered_by
answered_more h i o k j e = rw e refl

-- k is answered where the input of its answer is known
pub answer_when : (h : History) (k : Key) → answered_by h k ≡ None → answer h k ≡ None
unfolding answered_by answer
answer_when [] k e = refl
answer_when (In i ∷ h) k e = answer_when h k e
answer_when (Out i o ∷ h) k e = go (answered_by h k) refl (answer_when h k) e
  where
    go : (w : Option ReadInput) → answered_by h k ≡ w → (answered_by h k ≡ None → answer h k ≡ None) → option_or (answered_by h k) (cond (is_some (answers k (sent o))) (Some i) None) ≡ None → option_or (answer h k) (answers k (sent o)) ≡ None
    go (Some j) at rest e = absurd (none_some j (sym (rw at at e)))
    go None at rest e = rw (rest at) (none (answers k (sent o)) (rw at at e))
      where
        none : (w : Option Fields) → cond (is_some w) (Some i) None ≡ None → w ≡ None
        none None e = refl
        none (Some a) e = absurd (none_some i (sym e))

pub when_answer : (h : History) (k : Key) (j : ReadInput) → answered_by h k ≡ Some j → (a : Fields) × (answer h k ≡ Some a)
unfolding answered_by answer
when_answer [] k j e = absurd (none_some j e)
when_answer (In i ∷ h) k j e = when_answer h k j e
when_answer (Out i o ∷ h) k j e = go (answer h k) refl (answered_by h k) refl (when_answer h k)
  where
    go : (w : Option Fields) → answer h k ≡ w → (v : Option ReadInput) → answered_by h k ≡ v → ((j' : ReadInput) → answered_by h k ≡ Some j' → (a : Fields) × (answer h k ≡ Some a)) → (a : Fields) × (option_or (answer h k) (answers k (sent o)) ≡ Some a)
    go (Some a) at v at' rest = (a, rw at refl)
    go None at (Some j') at' rest = let r = rest j' at' in absurd (none_some r.0 (sym at ∙ r.1))
    go None at None at' rest = rw at (some (answers k (sent o)) (rw at' at e))
      where
        some : (w : Option Fields) → cond (is_some w) (Some i) None ≡ Some j → (a : Fields) × (w ≡ Some a)
        some None e = absurd (none_some j e)
        some (Some a) e = (a, refl)

-- the state of an answered key that was forwarded

-- answered by a 0110 whose code isn't 00
pub record Other (h : History) (k : Key) (j : ReadInput) : Type 0 where
  pub takes : takes_answer k j ≡ true
  pub code : code_is_not_00 (answer h k) ≡ true

abbrev pub Settled : Network → ℕ → History → Key → ReadInput → Type 0
Settled t n h k j = (takes_00 h k j ≡ true) ⊎ (Other h k j ⊎ (has_reversal t n h k ≡ true))

abbrev pub AllSettled : Network → ℕ → History → Type 0
AllSettled t n h = (k : Key) (l : ℕ) (j : ReadInput) → forwarded h k ≡ Some l → answered_by h k ≡ Some j → Settled t n h k j

-- what is accepted in this entry
pub record Accepting (t : Network) (n : ℕ) (past : History) (i : ReadInput) (k : Key) : Type 0 where
  pub message : Fields
  pub source : Source
  pub is_handled : handled_as t past i message source
  pub reversal : group message.kind ≡ groups.Reversal
  pub key_is : key_of message ≡ k
  pub good : not (is_good_card (el message 2)) ≡ false
  pub issued : is_none (issuer t (card_of message)) ≡ false
  pub same : other_content (opening t past (key_of message)) message ≡ false
  pub unknown : known t n past (identity_of message) ≡ false

abbrev OpenAnswers : Network → History → Type 0
OpenAnswers t h = (k : Key) (j : ReadInput) → answered_by h k ≡ Some j → (op : Opening) × (opening t h k ≡ Some op)

record EntryLate (t : Network) (n : ℕ) (past : History) (i : ReadInput) (h : History) : Type 0 where
  entry : EntryFacts t n past i h
  forwarded_stays : (k : Key) (l : ℕ) → forwarded past k ≡ Some l → forwarded h k ≡ Some l
  answer_stays : (k : Key) (a : Fields) → answer past k ≡ Some a → answer h k ≡ Some a
  open_answers : OpenAnswers t h
  settled : (k : Key) (l : ℕ) (j : ReadInput) → forwarded h k ≡ Some l → answered_by h k ≡ Some j → Settled t n h k j ⊎ Accepting t n past i k

record NewAnswer (i : ReadInput) (o : ReadOutput) (k : Key) : Type 0 where
  message : Fields
  is : sent o ≡ Some message
  answer_kind : is_answer message.kind ≡ true
  key : key_of message ≡ k
  not_94 : bytes_eq (code_of message) code_94 ≡ false
  again : answers k (sent o) ≡ Some message

new_answer_is : (i : ReadInput) (o : ReadOutput) (k : Key) (a : Fields) → answers k (sent o) ≡ Some a → NewAnswer i o k
new_answer_is i o k a e =
    let p = answers_is k (sent o) a e in
    record { message = a; is = p.0; answer_kind = p.1; key = p.2; not_94 = Rattle.network_law.proofs.Codes.answers_not_94 k (sent o) a e; again = e }

module _ (t : Network) (n : ℕ) (past : History) (i : ReadInput) (facts : NodeFacts t n past) (h : History) (o : ReadOutput) (q : EntryLate t n past i h) (allowed : Allowed t n past i h o) where
  -- the key of an opening's response
  key_through : (op : Opening) (key k : Key) (c : Bytes) (w : NewAnswer i o k) → opening t (In i ∷ past) key ≡ Some op → response op.message c ≡ w.message → (key ≡ k) × (opening t h key ≡ Some op) × (is_request op.message.kind ≡ true) × HasLengths op.message
  key_through op key k c w is same =
      let now : opening t h key ≡ Some op = q.entry.opening_is key ∙ is in
      let x = q.entry.node.opens key op now in
      (sym x.key ∙ (sym (response_key op.message c x.request) ∙ (ap key_of same ∙ w.key)), now, x.request, x.formed)

  -- a key that is opened in this entry was not forwarded
  not_forwarded : (k key : Key) (l : ℕ) → OpenedFirst t past i h key → key ≡ k → forwarded h k ≡ Some l → ⊥
  unfolding forwarded
  not_forwarded k key l v same f =
      let f' : forwarded past k ≡ Some l = subst (λ z. forwarded z k ≡ Some l) v.first f in
      let b = forwarded_has past k l f' in
      let s = facts.puts b.0 l b.1 b.2 b.3 b.4 in
      none_some s.op (sym v.fresh ∙ (ap (opening t past) (same ∙ sym b.5) ∙ s.is))

  answered_here : (k : Key) (w : NewAnswer i o k) → answer h k ≡ None → answer (Out i o ∷ h) k ≡ Some w.message
  unfolding answer
  answered_here k w none = rw (none, w.again) refl

  ends : {A : Type 0} (b : Bool) → b ≡ true → b ≡ false → A
  ends b p e = absurd (not_both b p e)

  failed_reverses : (k : Key) (op : Opening) (w : NewAnswer i o k) → is_timer i ≡ true → opening t h k ≡ Some op → answer h k ≡ None → HasLengths op.message → is_request op.message.kind ≡ true → key_of op.message ≡ k → has_reversal t n (Out i o ∷ h) k ≡ true
  unfolding has_reversal advices
  failed_reverses k op w timer now none len r key =
      let f : failed_key t h i (sent o) ≡ Some k = rw (w.is, timer, w.answer_kind, w.key, now, none) refl in
      let found : option_and_then (opening t h) (failed_key t h i (sent o)) ≡ Some op = rw f now in
      add_accepted_keeps (reverses_key k) (count_of h) (is_ok_ack (sent o)) (handled t h i) (add_made (λ m. made_stand_in m (node_id t n)) (count_of h) (option_and_then (opening t h) (own_approval h i o)) (add_made (λ m. made_reversal m (node_id t n)) (count_of h) (option_and_then (opening t h) (failed_key t h i (sent o))) (advices t n h)))
      (add_made_keeps (reverses_key k) (λ m. made_stand_in m (node_id t n)) (count_of h) (option_and_then (opening t h) (own_approval h i o)) (add_made (λ m. made_reversal m (node_id t n)) (count_of h) (option_and_then (opening t h) (failed_key t h i (sent o))) (advices t n h))
      (made_added t n (count_of h) k (option_and_then (opening t h) (failed_key t h i (sent o))) op (advices t n h) found len r key))

  new_settled : (k : Key) (l : ℕ) (w : NewAnswer i o k) → answered_by h k ≡ None → forwarded h k ≡ Some l → Settled t n (Out i o ∷ h) k i ⊎ Accepting t n past i k
  new_settled k l w none fw = go allowed
    where
      no_answer : answer h k ≡ None
      no_answer = answer_when h k none

      go : Allowed t n past i h o → Settled t n (Out i o ∷ h) k i ⊎ Accepting t n past i k
      go (forwarding f) =
          let same : as_kind K0100 f.message ≡ w.message = same_Some _ _ (ap sent (sym f.is) ∙ w.is) in
          ends (is_answer w.message.kind) w.answer_kind (ap (λ z. is_answer (Fields.kind z)) (sym same))
      go (asking f) = absurd (none_some w.message (ap sent (sym f.is) ∙ w.is))
      go (standing_in f) = ⊎_elim first failed f.how
        where
          c : Bytes
          c = standin_code t n h f.op.message

          same : response f.op.message (standin_code t n h f.op.message) ≡ w.message
          same = reply_message f.op.source _ h o w.message f.is w.is

          x : (f.opens.key ≡ k) × (opening t h f.opens.key ≡ Some f.op) × (is_request f.op.message.kind ≡ true) × HasLengths f.op.message
          x = key_through f.op f.opens.key k (standin_code t n h f.op.message) w f.opens.is same

          first : OpenedFirst t past i h f.opens.key → Settled t n (Out i o ∷ h) k i ⊎ Accepting t n past i k
          first v = absurd (not_forwarded k f.opens.key l v x.0 fw)

          failed : Failed t past i f.opens.key f.op → Settled t n (Out i o ∷ h) k i ⊎ Accepting t n past i k
          failed v = inl (inr (inr (failed_reverses k f.op w v.timer (ap (opening t h) (sym x.0) ∙ x.1) no_answer x.3 x.2 ((q.entry.node.opens f.opens.key f.op x.1).key ∙ x.0))))
      go (passing f) = ⊎_elim link host f.via
        where
          same : response f.op.message f.code ≡ w.message
          same = reply_message f.op.source _ h o w.message f.is w.is

          x : (f.key ≡ k) × (opening t h f.key ≡ Some f.op) × (is_request f.op.message.kind ≡ true) × HasLengths f.op.message
          x = key_through f.op f.key k f.code w (stays_open t past i f.key f.op f.opens) same

          code_is : code_of w.message ≡ f.code
          code_is = response_code f.op.message f.code w.message same

          link : ViaLink past i f.key → Settled t n (Out i o ∷ h) k i ⊎ Accepting t n past i k
          link v = by_code (bytes_eq f.code code_00) refl
            where
              on : forwarded (Out i o ∷ h) k ≡ Some v.link
              on = forwarded_more h i o k v.link (q.forwarded_stays k v.link (ap (forwarded past) (sym x.0) ∙ v.forwarded_on))

              by_code : (b : Bool) → bytes_eq f.code code_00 ≡ b → Settled t n (Out i o ∷ h) k i ⊎ Accepting t n past i k
              by_code true at =
                  let b : is_00_of f.key (Some v.message) ≡ true = ap (brings_00 past f.key) (sym v.input) ∙ f.brought at in
                  let b' : is_00_of k (Some v.message) ≡ true = ap (λ z. is_00_of z (Some v.message)) (sym x.0) ∙ b in
                  let e : eqb v.link v.link ≡ true = eq-eqb v.link v.link refl in
                  inl (inl (ap (takes_00 (Out i o ∷ h) k) v.input ∙ rw (b', on, e) refl))
              by_code false at =
                  let t1 : takes_answer k i ≡ true = ap (takes_answer k) v.input ∙ (rw (v.answer_kind, v.key_is, x.0, key_eq_refl k) refl) in
                  inl (inr (inl (record { takes = t1; code = rw (answered_here k w no_answer, code_is, at) refl })))

          host : ViaHost past i f.key → Settled t n (Out i o ∷ h) k i ⊎ Accepting t n past i k
          host v =
              let a = asked_has past f.key (ask_key_asked past v.ask f.key v.key_asked) in
              let z = facts.asks a.0 a.1 a.2 a.3 in
              let b = forwarded_has h k l fw in
              let y = q.entry.node.puts b.0 l b.1 b.2 b.3 b.4 in
              let o1 : opening t h k ≡ Some z.op = (ap (opening t h) (sym x.0 ∙ sym a.4) ∙ q.entry.opening_is (key_of a.2)) ∙ stays_open t past i (key_of a.2) z.op z.is in
              let o2 : opening t h k ≡ Some y.op = ap (opening t h) (sym b.5) ∙ y.is in
              let op_same : z.op ≡ y.op = same_Some _ _ (sym o1 ∙ o2) in
              let s_same : z.s ≡ y.s = same_Some z.s y.s (sym z.issued ∙ (ap (λ (u : Opening). issuer t (card_of u.message)) op_same ∙ y.issued)) in
              ends (is_home y.s n) (ap (λ u. is_home u n) (sym s_same) ∙ z.home) y.away
      go (declining f) = ⊎_elim first accepted f.how
        where
          same : response f.op.message f.code ≡ w.message
          same = reply_message f.op.source _ h o w.message f.is w.is

          x : (f.opens.key ≡ k) × (opening t h f.opens.key ≡ Some f.op) × (is_request f.op.message.kind ≡ true) × HasLengths f.op.message
          x = key_through f.op f.opens.key k f.code w f.opens.is same

          first : OpenedFirst t past i h f.opens.key → Settled t n (Out i o ∷ h) k i ⊎ Accepting t n past i k
          first v = absurd (not_forwarded k f.opens.key l v x.0 fw)

          accepted : Reversing t n past i h f.opens.key f.op → Settled t n (Out i o ∷ h) k i ⊎ Accepting t n past i k
          accepted v = inr (record { message = v.message; source = v.source; is_handled = v.is_handled; reversal = v.reversal; key_is = v.key_is ∙ x.0; good = v.good; issued = v.issued; same = v.same; unknown = v.unknown })
      go (repeating f) =
          let same : f.before ≡ w.message = reply_message f.source f.before h o w.message f.is w.is in
          let key : f.key ≡ k = sym ((answer_is past f.key f.before f.answered).1) ∙ (ap key_of same ∙ w.key) in
          absurd (none_some f.before (sym no_answer ∙ q.answer_stays k f.before (ap (answer past) (sym key) ∙ f.answered)))
      go (refusing f) =
          let same : response f.message code_94 ≡ w.message = reply_message f.source _ h o w.message f.is w.is in
          ends (bytes_eq (code_of w.message) code_94) (ap (λ c. bytes_eq c code_94) (response_code f.message code_94 w.message same)) w.not_94
      go (acking f) =
          let same : response f.message f.code ≡ w.message = reply_message f.source _ h o w.message f.is w.is in
          ends (is_answer w.message.kind) w.answer_kind (ap (λ z. is_answer (Fields.kind z)) (sym same) ∙ (ap is_answer (response_is_of_kind f.message f.code) ∙ acked_kind f.message.kind f.kind))
      go (sending f) =
          let same : as_kind (sent_kind (is_04xx f.message.kind) f.again) f.message ≡ w.message = same_Some _ _ (ap sent (sym f.is) ∙ w.is) in
          ends (is_answer w.message.kind) w.answer_kind (ap (λ z. is_answer (Fields.kind z)) (sym same) ∙ advice_no_answer (is_04xx f.message.kind) f.again)
      go (posting f) = absurd (none_some w.message (ap sent (sym f.is) ∙ w.is))
      go (putting_packet f) = absurd (none_some w.message (ap sent (sym f.is) ∙ w.is))

  -- an answered key is open
  new_open : (k : Key) (w : NewAnswer i o k) → answered_by h k ≡ None → (op : Opening) × (opening t h k ≡ Some op)
  new_open k w none = go allowed
    where
      of_reply : (op : Opening) (key : Key) (c : Bytes) → opening t (In i ∷ past) key ≡ Some op → response op.message c ≡ w.message → (op : Opening) × (opening t h k ≡ Some op)
      of_reply op key c is same = let x = key_through op key k c w is same in (op, ap (opening t h) (sym x.0) ∙ x.1)

      go : Allowed t n past i h o → (op : Opening) × (opening t h k ≡ Some op)
      go (forwarding f) =
          let same : as_kind K0100 f.message ≡ w.message = same_Some _ _ (ap sent (sym f.is) ∙ w.is) in
          ends (is_answer w.message.kind) w.answer_kind (ap (λ z. is_answer (Fields.kind z)) (sym same))
      go (asking f) = absurd (none_some w.message (ap sent (sym f.is) ∙ w.is))
      go (standing_in f) = of_reply f.op f.opens.key (standin_code t n h f.op.message) f.opens.is (reply_message f.op.source _ h o w.message f.is w.is)
      go (passing f) = of_reply f.op f.key f.code (stays_open t past i f.key f.op f.opens) (reply_message f.op.source _ h o w.message f.is w.is)
      go (declining f) = of_reply f.op f.opens.key f.code f.opens.is (reply_message f.op.source _ h o w.message f.is w.is)
      go (repeating f) =
          let same : f.before ≡ w.message = reply_message f.source f.before h o w.message f.is w.is in
          let key : f.key ≡ k = sym ((answer_is past f.key f.before f.answered).1) ∙ (ap key_of same ∙ w.key) in
          absurd (none_some f.before (sym (answer_when h k none) ∙ q.answer_stays k f.before (ap (answer past) (sym key) ∙ f.answered)))
      go (refusing f) =
          let same : response f.message code_94 ≡ w.message = reply_message f.source _ h o w.message f.is w.is in
          ends (bytes_eq (code_of w.message) code_94) (ap (λ c. bytes_eq c code_94) (response_code f.message code_94 w.message same)) w.not_94
      go (acking f) =
          let same : response f.message f.code ≡ w.message = reply_message f.source _ h o w.message f.is w.is in
          ends (is_answer w.message.kind) w.answer_kind (ap (λ z. is_answer (Fields.kind z)) (sym same) ∙ (ap is_answer (response_is_of_kind f.message f.code) ∙ acked_kind f.message.kind f.kind))
      go (sending f) =
          let same : as_kind (sent_kind (is_04xx f.message.kind) f.again) f.message ≡ w.message = same_Some _ _ (ap sent (sym f.is) ∙ w.is) in
          ends (is_answer w.message.kind) w.answer_kind (ap (λ z. is_answer (Fields.kind z)) (sym same) ∙ advice_no_answer (is_04xx f.message.kind) f.again)
      go (posting f) = absurd (none_some w.message (ap sent (sym f.is) ∙ w.is))
      go (putting_packet f) = absurd (none_some w.message (ap sent (sym f.is) ∙ w.is))

  -- a new forward is of a key that isn't answered
  new_forward : (k : Key) (l : ℕ) → OpenAnswers t past → forwards k o ≡ Some l → (j : ReadInput) → answered_by h k ≡ Some j → ⊥
  unfolding answered_by
  new_forward k l before e j a =
      let r = Rattle.network_law.proofs.Node.forwards_is k o l e in
      let f = Rattle.network_law.proofs.Node.put_case t n past i h o l r.0 r.1 allowed r.2 r.3 in
      let p = Rattle.network_law.proofs.Node.put_parts (sym f.is ∙ r.2) in
      let key : key_of f.message ≡ k = sym (Rattle.network_law.proofs.Node.forwarded_key f.message f.request) ∙ (ap key_of p.2 ∙ r.4) in
      let was = before k j (subst (λ z. answered_by z k ≡ Some j) f.first a) in
      none_some was.0 (sym f.fresh ∙ (ap (opening t past) key ∙ was.1))

  settled_more : (k : Key) (l : ℕ) (j : ReadInput) → forwarded h k ≡ Some l → answered_by h k ≡ Some j → Settled t n h k j → Settled t n (Out i o ∷ h) k j
  unfolding answer
  settled_more k l j fw an (inl takes) = inl (more j takes)
    where
      more : (j : ReadInput) → takes_00 h k j ≡ true → takes_00 (Out i o ∷ h) k j ≡ true
      more (Take l' s m) e = rw (forwarded_more h i o k l fw) (rw fw at e)
      more (Enter m) e = e
      more (LinkUp k) e = e
      more (LinkDown k) e = e
      more Tick e = e
      more (HostAnswer a c) e = e
      more (NewDate d) e = e
      more (TakePacket lk sr pk) e = e
      more (Lend br cd dt am) e = e
  settled_more k l j fw an (inr (inl other)) =
      let a = when_answer h k j an in
      let now : answer (Out i o ∷ h) k ≡ Some a.0 = answer_kept a.0 a.1 in
      inr (inl (record { takes = other.takes; code = rw now (rw a.1 at other.code) }))
    where
      answer_kept : (a : Fields) → answer h k ≡ Some a → answer (Out i o ∷ h) k ≡ Some a
      answer_kept a e = rw e refl
  settled_more k l j fw an (inr (inr r)) = inr (inr (reversal_more t n (Out i o) h k r))

  late_out : OpenAnswers t past → EntryLate t n past i (Out i o ∷ h)
  unfolding answered_by forwarded answer opening
  late_out before = record {
    entry = facts_out t n past i h o facts q.entry allowed;
    forwarded_stays = λ k l e. forwarded_more h i o k l (q.forwarded_stays k l e);
    answer_stays = λ k a e. answer_kept k a (q.answer_stays k a e);
    open_answers = λ k j e. opened_then k j (answered_by h k) refl e;
    settled = λ k l j fw an. settled_then k l j (forwarded h k) refl (answered_by h k) refl fw an;
  }
    where
      answer_kept : (k : Key) (a : Fields) → answer h k ≡ Some a → option_or (answer h k) (answers k (sent o)) ≡ Some a
      answer_kept k a e = rw e refl

      is_new : (k : Key) (j : ReadInput) → cond (is_some (answers k (sent o))) (Some i) None ≡ Some j → (a : Fields) × (answers k (sent o) ≡ Some a) × (i ≡ j)
      is_new k j e = go (answers k (sent o)) refl e
        where
          go : (w : Option Fields) → answers k (sent o) ≡ w → cond (is_some (answers k (sent o))) (Some i) None ≡ Some j → (a : Fields) × (answers k (sent o) ≡ Some a) × (i ≡ j)
          go None at e = absurd (none_some j (rw at at e))
          go (Some a) at e = (a, at, same_Some i j (rw at at e))

      opened_then : (k : Key) (j : ReadInput) (w : Option ReadInput) → answered_by h k ≡ w → option_or (answered_by h k) (cond (is_some (answers k (sent o))) (Some i) None) ≡ Some j → (op : Opening) × (opening t h k ≡ Some op)
      opened_then k j (Some j') at e = q.open_answers k j' at
      opened_then k j None at e = let x = is_new k j (rw at at e) in new_open k (new_answer_is i o k x.0 x.1) at

      settled_then : (k : Key) (l : ℕ) (j : ReadInput) (f : Option ℕ) → forwarded h k ≡ f → (w : Option ReadInput) → answered_by h k ≡ w → option_or (forwarded h k) (forwards k o) ≡ Some l → option_or (answered_by h k) (cond (is_some (answers k (sent o))) (Some i) None) ≡ Some j → Settled t n (Out i o ∷ h) k j ⊎ Accepting t n past i k
      settled_then k l j (Some l') at (Some j') at' fw an =
          let same : j' ≡ j = same_Some _ _ (rw at' at an) in
          ⊎_elim (λ s. inl (settled_more k l' j at (at' ∙ ap Some same) s)) inr (q.settled k l' j at (at' ∙ ap Some same))
      settled_then k l j (Some l') at None at' fw an =
          let x = is_new k j (rw at' at an) in
          subst (λ z. Settled t n (Out i o ∷ h) k z ⊎ Accepting t n past i k) x.2 (new_settled k l' (new_answer_is i o k x.0 x.1) at' at)
      settled_then k l j None at (Some j') at' fw an = absurd (new_forward k l before (rw at at fw) j' at')
      settled_then k l j None at None at' fw an =
          let x = is_new k j (rw at' at an) in
          let w = new_answer_is i o k x.0 x.1 in
          let r = Rattle.network_law.proofs.Node.forwards_is k o l (rw at at fw) in
          let same : r.1 ≡ NewAnswer.message w = same_Some _ _ (ap sent (sym r.2) ∙ NewAnswer.is w) in
          absurd (not_both (is_request r.1.kind) r.3 (answer_no_request r.1.kind (ap (λ z. is_answer (Fields.kind z)) same ∙ NewAnswer.answer_kind w)))

-- an accepted reversal is among the advices

pub ack_kind_of : (k : Kind) → group k ≡ groups.Reversal → is_ack_kind (group (response_kind k)) ≡ true
ack_kind_of K0100 e = cc
ack_kind_of K0101 e = cc
ack_kind_of K0110 e = cc
ack_kind_of K0120 e = cc
ack_kind_of K0121 e = cc
ack_kind_of K0130 e = cc
ack_kind_of K0400 e = refl
ack_kind_of K0401 e = refl
ack_kind_of K0410 e = cc
ack_kind_of K0420 e = refl
ack_kind_of K0421 e = refl
ack_kind_of K0430 e = cc

reversal_04xx : (k : Kind) → group k ≡ groups.Reversal → is_04xx k ≡ true
reversal_04xx K0100 e = cc
reversal_04xx K0101 e = cc
reversal_04xx K0110 e = cc
reversal_04xx K0120 e = cc
reversal_04xx K0121 e = cc
reversal_04xx K0130 e = cc
reversal_04xx K0400 e = refl
reversal_04xx K0401 e = refl
reversal_04xx K0410 e = refl
reversal_04xx K0420 e = refl
reversal_04xx K0421 e = refl
reversal_04xx K0430 e = refl

pub kept_reversal : (m : Fields) → group m.kind ≡ groups.Reversal → (is_04xx (as_kept m).kind ≡ true) × (key_of (as_kept m) ≡ key_of m)
unfolding key_of
kept_reversal m g = let r = reversal_04xx m.kind g in (rw r refl, rw r refl)

pub handled_in : (t : Network) (past : History) (i : ReadInput) → handled t (In i ∷ past) i ≡ handled t past i
unfolding handled date_of
handled_in t past (Enter m) = refl
handled_in t past (Take l s m) = refl
handled_in t past (LinkUp l) = refl
handled_in t past (LinkDown l) = refl
handled_in t past Tick = refl
handled_in t past (HostAnswer a c) = refl
handled_in t past (NewDate d) = refl
handled_in t past (TakePacket lk sr pk) = refl
handled_in t past (Lend br cd dt am) = refl

pub handled_out : (t : Network) (h : History) (i j : ReadInput) (o : ReadOutput) → handled t (Out j o ∷ h) i ≡ handled t h i
unfolding handled date_of
handled_out t h (Enter m) j o = refl
handled_out t h (Take l s m) j o = refl
handled_out t h (LinkUp l) j o = refl
handled_out t h (LinkDown l) j o = refl
handled_out t h Tick j o = refl
handled_out t h (HostAnswer a c) j o = refl
handled_out t h (NewDate d) j o = refl
handled_out t h (TakePacket lk sr pk) j o = refl
handled_out t h (Lend br cd dt am) j o = refl

accept_adds : (count : ℕ) (b : Bool) (o : Option Handled) (m : Fields) (src : Source) (as' : List Advice) → b ≡ true → o ≡ Some (record { message = m; source = src }) → group m.kind ≡ groups.Reversal → list_any (reverses_key (key_of m)) (add_accepted count b o as') ≡ true
accept_adds count b o m src as' yes' e g = rw (yes', e, g) (added_reverses (key_of m) (record { message = as_kept m; count = count; own = false; acked = false }) as' (kept_reversal m g).0 (kept_reversal m g).1)

accepted_now : (t : Network) (n : ℕ) (past : History) (i : ReadInput) (h : History) (m : Fields) (src : Source) → handled t h i ≡ Some (record { message = m; source = src }) → group m.kind ≡ groups.Reversal → has_reversal t n (reply i src (response m code_00) h) (key_of m) ≡ true
unfolding has_reversal advices
accepted_now t n past i h m src e g =
    let kind : is_ack_kind (group (response m code_00).kind) ≡ true = ap (λ z. is_ack_kind (group z)) (response_is_of_kind m code_00) ∙ ack_kind_of m.kind g in
    let code : bytes_eq (code_of (response m code_00)) code_00 ≡ true = ap (λ c. bytes_eq c code_00) (code_response m code_00) in
    let ack : is_ok_ack (sent (reply_output src (response m code_00) h)) ≡ true = ap is_ok_ack (sent_reply src (response m code_00) h) ∙ (rw (kind, code) refl) in
    accept_adds (count_of h) (is_ok_ack (sent (reply_output src (response m code_00) h))) (handled t h i) m src _ ack e g

accepted_by_reversal : (t : Network) (n : ℕ) (past : History) (i : ReadInput) (k : Key) (a : Accepting t n past i k) → has_reversal t n (on_reversal t n past i a.message a.source) k ≡ true
unfolding on_reversal
accepted_by_reversal t n past i k a =
    rw (a.good, a.issued, a.same, a.unknown)
    (keep_keeps t n past i (λ h. has_reversal t n h k ≡ true) (λ h o r _. reversal_more t n (Out i o) h k r) (as_kept a.message) (reply i a.source (response a.message code_00) before)
    (accepting (record { message = a.message; source = a.source; is_handled = a.is_handled; kept_group = rw a.reversal refl; issued = a.issued; agrees = λ _. a.same; unknown = a.unknown; is = refl; before = before; at = refl; was = Rattle.network_law.proofs.Emits.pending_was t n past i (λ h. has_reversal t n h k ≡ true) (λ h o r _. reversal_more t n (Out i o) h k r) (pending t past (key_of a.message)) (opening t past (key_of a.message)) }))
    (ap (has_reversal t n (reply i a.source (response a.message code_00) before)) (sym a.key_is) ∙ accepted_now t n past i before a.message a.source (handled_before (pending t past (key_of a.message)) (opening t past (key_of a.message))) a.reversal))
  where
    before : History
    before = answer_pending t i (pending t past (key_of a.message)) (opening t past (key_of a.message)) code_68 (In i ∷ past)

    handled_before : (b : Bool) (o : Option Opening) → handled t (answer_pending t i b o code_68 (In i ∷ past)) i ≡ Some (record { message = a.message; source = a.source })
    handled_before true (Some op) = handled_out t (In i ∷ past) i i (reply_output op.source (response op.message code_68) (In i ∷ past)) ∙ (handled_in t past i ∙ a.is_handled)
    handled_before true None = handled_in t past i ∙ a.is_handled
    handled_before false o = handled_in t past i ∙ a.is_handled

on_handled_reversal : (t : Network) (n : ℕ) (past : History) (i : ReadInput) (o : Option Handled) (m : Fields) (src : Source) → o ≡ Some (record { message = m; source = src }) → group m.kind ≡ groups.Reversal → on_handled t n past i o ≡ on_reversal t n past i m src
on_handled_reversal t n past i o m src e g = rw (e, g) refl

accepted_then : (t : Network) (n : ℕ) (past : History) (i : ReadInput) (k : Key) → Accepting t n past i k → has_reversal t n (decide t n past i) k ≡ true
unfolding decide handled
accepted_then t n past (Enter m) k a = subst (λ h. has_reversal t n h k ≡ true) (sym (on_handled_reversal t n past (Enter m) (handled t past (Enter m)) a.message a.source a.is_handled a.reversal)) (accepted_by_reversal t n past (Enter m) k a)
accepted_then t n past (Take l s m) k a = subst (λ h. has_reversal t n h k ≡ true) (sym (on_handled_reversal t n past (Take l s m) (handled t past (Take l s m)) a.message a.source a.is_handled a.reversal)) (accepted_by_reversal t n past (Take l s m) k a)
accepted_then t n past (LinkUp l) k a = absurd (none_some _ a.is_handled)
accepted_then t n past (LinkDown l) k a = absurd (none_some _ a.is_handled)
accepted_then t n past Tick k a = absurd (none_some _ a.is_handled)
accepted_then t n past (HostAnswer b c) k a = absurd (none_some _ a.is_handled)
accepted_then t n past (NewDate d) k a = absurd (none_some _ a.is_handled)
accepted_then t n past (TakePacket lk sr pk) k a = absurd (none_some _ a.is_handled)
accepted_then t n past (Lend br cd dt am) k a = absurd (none_some _ a.is_handled)

-- the invariant through an entry

pub record LateFacts (t : Network) (n : ℕ) (h : History) : Type 0 where
  pub open_answers : (k : Key) (j : ReadInput) → answered_by h k ≡ Some j → (op : Opening) × (opening t h k ≡ Some op)
  pub settled : (k : Key) (l : ℕ) (j : ReadInput) → forwarded h k ≡ Some l → answered_by h k ≡ Some j → Settled t n h k j
  pub took : (k : Key) → took_00 h k ≡ true → ((j : ReadInput) × (answered_by h k ≡ Some j) × (takes_00 h k j ≡ true)) ⊎ (has_reversal t n h k ≡ true)

abbrev Good : Network → ℕ → History → Key → Type 0
Good t n h k = ((j : ReadInput) × (answered_by h k ≡ Some j) × (takes_00 h k j ≡ true)) ⊎ (has_reversal t n h k ≡ true)

takes_forwarded : (h h' : History) (k : Key) (j : ReadInput) → ((l : ℕ) → forwarded h k ≡ Some l → forwarded h' k ≡ Some l) → takes_00 h k j ≡ true → takes_00 h' k j ≡ true
takes_forwarded h h' k (Take l s m) stays e =
    let p = and_parts (is_00_of k (Some m)) (is_link l (forwarded h k)) e in
    let f : forwarded h k ≡ Some l = Rattle.network_law.proofs.Emits.is_link_is l (forwarded h k) p.1 in
    rw (p.0, stays l f, eq-eqb l l refl) refl
takes_forwarded h h' k (Enter m) stays e = e
takes_forwarded h h' k (LinkUp l) stays e = e
takes_forwarded h h' k (LinkDown l) stays e = e
takes_forwarded h h' k Tick stays e = e
takes_forwarded h h' k (HostAnswer a c) stays e = e
takes_forwarded h h' k (NewDate d) stays e = e
takes_forwarded h h' k (TakePacket lk sr pk) stays e = e
takes_forwarded h h' k (Lend br cd dt am) stays e = e

good_out : (t : Network) (n : ℕ) (i : ReadInput) (o : ReadOutput) (h : History) (k : Key) → Good t n h k → Good t n (Out i o ∷ h) k
good_out t n i o h k (inl g) = inl (g.0, answered_more h i o k g.0 g.1, takes_forwarded h (Out i o ∷ h) k g.0 (λ l e. forwarded_more h i o k l e) g.2)
good_out t n i o h k (inr r) = inr (reversal_more t n (Out i o) h k r)

good_in : (t : Network) (n : ℕ) (i : ReadInput) (h : History) (k : Key) → Good t n h k → Good t n (In i ∷ h) k
unfolding answered_by forwarded
good_in t n i h k (inl g) = inl (g.0, g.1, takes_forwarded h (In i ∷ h) k g.0 (λ l e. e) g.2)
good_in t n i h k (inr r) = inr (reversal_more t n (In i) h k r)

record Late (t : Network) (n : ℕ) (past : History) (i : ReadInput) (h : History) : Type 0 where
  late : EntryLate t n past i h
  good : (k : Key) → Good t n (In i ∷ past) k → Good t n h k
  took_same : (k : Key) → took_00 h k ≡ took_00 (In i ∷ past) k

late_in : (t : Network) (n : ℕ) (past : History) (i : ReadInput) → IsFormed i → refusal t n past i ≡ None → NodeFacts t n past → LateFacts t n past → EntryLate t n past i (In i ∷ past)
unfolding forwarded answer answered_by
late_in t n past i form ok f before = record {
  entry = record { node = facts_in t n past i form ok f; opening_is = λ k. refl };
  forwarded_stays = λ k l e. e;
  answer_stays = λ k a e. e;
  open_answers = λ k j e. (let w = before.open_answers k j e in (w.0, stays_open t past i k w.0 w.1));
  settled = λ k l j fw an. inl (settled_in k l j fw (before.settled k l j fw an));
}
  where
    settled_in : (k : Key) (l : ℕ) (j : ReadInput) → forwarded past k ≡ Some l → Settled t n past k j → Settled t n (In i ∷ past) k j
    settled_in k l j fw (inl takes) = inl (takes_forwarded past (In i ∷ past) k j (λ l e. e) takes)
    settled_in k l j fw (inr (inl other)) = inr (inl (record { takes = other.takes; code = other.code }))
    settled_in k l j fw (inr (inr r)) = inr (inr (reversal_more t n (In i) past k r))

-- a 00 that comes for a key that was answered otherwise
came_late : (t : Network) (n : ℕ) (past : History) (k : Key) (l s : ℕ) (m : Fields) → NodeFacts t n past → is_00_of k (Some m) ≡ true → forwarded past k ≡ Some l → code_is_not_00 (answer past k) ≡ true → has_reversal t n (In (Take l s m) ∷ past) k ≡ true
unfolding has_reversal advices
came_late t n past k l s m f m00 fw other = go (list_any (reverses_key k) (advices t n past)) refl
  where
    w : Rattle.network_law.proofs.Approvals.Is00 k m
    w = is_00_parts k m m00

    go : (b : Bool) → list_any (reverses_key k) (advices t n past) ≡ b → list_any (reverses_key k) (add_made (λ x. made_reversal x (node_id t n)) (count_of past) (option_and_then (opening t past) (late_key past (advices t n past) (Take l s m))) (map (acked_by (Take l s m)) (advices t n past))) ≡ true
    go true at = add_made_keeps (reverses_key k) (λ x. made_reversal x (node_id t n)) (count_of past) (option_and_then (opening t past) (late_key past (advices t n past) (Take l s m))) (map (acked_by (Take l s m)) (advices t n past)) (any_acked k (Take l s m) (advices t n past) ∙ at)
    go false at =
        let b = forwarded_has past k l fw in
        let z = f.puts b.0 l b.1 b.2 b.3 b.4 in
        let opened' : opening t past k ≡ Some z.op = ap (opening t past) (sym b.5) ∙ z.is in
        let x = f.opens k z.op opened' in
        let late : late_key past (advices t n past) (Take l s m) ≡ Some k = rw (w.answer_kind, w.code, w.key, fw, eq-eqb l l refl, other, at) refl in
        made_added t n (count_of past) k (option_and_then (opening t past) (late_key past (advices t n past) (Take l s m))) z.op (map (acked_by (Take l s m)) (advices t n past)) (rw late opened') x.formed x.request x.key

-- a 00 that comes for a pending key answers it

group_of_answer : (k : Kind) → is_answer k ≡ true → group k ≡ groups.AuthorizationResponse
group_of_answer K0100 e = cc
group_of_answer K0101 e = cc
group_of_answer K0110 e = refl
group_of_answer K0120 e = cc
group_of_answer K0121 e = cc
group_of_answer K0130 e = cc
group_of_answer K0400 e = cc
group_of_answer K0401 e = cc
group_of_answer K0410 e = cc
group_of_answer K0420 e = cc
group_of_answer K0421 e = cc
group_of_answer K0430 e = cc

pub response_answers : (k : Kind) → is_request k ≡ true → is_answer (response_kind k) ≡ true
response_answers K0100 e = refl
response_answers K0101 e = refl
response_answers K0110 e = refl
response_answers K0120 e = cc
response_answers K0121 e = cc
response_answers K0130 e = cc
response_answers K0400 e = cc
response_answers K0401 e = cc
response_answers K0410 e = cc
response_answers K0420 e = cc
response_answers K0421 e = cc
response_answers K0430 e = cc

on_answer_is : (t : Network) (n : ℕ) (past : History) (i : ReadInput) (l : ℕ) (m : Fields) (op : Opening) → forwarded past (key_of m) ≡ Some l → opening t past (key_of m) ≡ Some op → answer past (key_of m) ≡ None → bytes_eq (code_of m) code_00 ≡ true → on_answer t n past i m (ByLink l) ≡ reply i op.source (response op.message code_00) (In i ∷ past)
unfolding on_answer
on_answer_is t n past i l m op fw opened' none c =
    on_link (is_link l (forwarded past (key_of m))) link (on_code t n past i (key_of m) (code_of m) code_96 (opening t past (key_of m)))
    ∙ (ap (on_code t n past i (key_of m) (code_of m) code_96) opened' ∙ on_code_is (key_of m) (code_of m) pend (bytes_eq_is (code_of m) code_00 c))
  where
    link : is_link l (forwarded past (key_of m)) ≡ true
    link = ap (is_link l) fw ∙ eq-eqb l l refl

    pend : pending t past (key_of m) ≡ true
    pend = ap (λ z. is_some z && is_none (answer past (key_of m))) opened' ∙ ap (λ z. is_none z) none

    on_link : (b : Bool) → b ≡ true → (x : History) → cond b x (In i ∷ past) ≡ x
    on_link b e x = rw e refl

    on_code_is : (k : Key) (c : Bytes) → pending t past k ≡ true → c ≡ code_00 → on_code t n past i k c code_96 (Some op) ≡ reply i op.source (response op.message code_00) (In i ∷ past)
    on_code_is k c p e = rw (p, e) refl

taken_pending : (t : Network) (n : ℕ) (past : History) (k : Key) (l s : ℕ) (m : Fields) → NodeFacts t n past → is_00_of k (Some m) ≡ true → forwarded past k ≡ Some l → answered_by past k ≡ None → answered_by (decide t n past (Take l s m)) k ≡ Some (Take l s m)
unfolding decide answered_by
taken_pending t n past k l s m f m00 fw none =
    let b = forwarded_has past k l fw in
    let z = f.puts b.0 l b.1 b.2 b.3 b.4 in
    let opened' : opening t past k ≡ Some z.op = ap (opening t past) (sym b.5) ∙ z.is in
    let x = f.opens k z.op opened' in
    let key : key_of m ≡ k = (is_00_parts k m m00).key in
    let e : on_answer t n past (Take l s m) m (ByLink l) ≡ reply (Take l s m) z.op.source (response z.op.message code_00) (In (Take l s m) ∷ past) = on_answer_is t n past (Take l s m) l m z.op (ap (forwarded past) key ∙ fw) (ap (opening t past) key ∙ opened') (ap (answer past) key ∙ answer_when past k none) (is_00_parts k m m00).code in
    let said : answers k (sent (reply_output z.op.source (response z.op.message code_00) (In (Take l s m) ∷ past))) ≡ Some (response z.op.message code_00) = answers_reply k z.op (In (Take l s m) ∷ past) x.request x.key in
    rw (group_of_answer m.kind (is_00_parts k m m00).answer_kind, e, none, said) refl
  where
    answers_reply : (k : Key) (op : Opening) (h : History) → is_request op.message.kind ≡ true → key_of op.message ≡ k → answers k (sent (reply_output op.source (response op.message code_00) h)) ≡ Some (response op.message code_00)
    answers_reply k op h r e =
        let kind : is_answer (response op.message code_00).kind ≡ true = ap is_answer (response_is_of_kind op.message code_00) ∙ response_answers op.message.kind r in
        let key : key_of (response op.message code_00) ≡ k = response_key op.message code_00 r ∙ e in
        let code : bytes_eq (code_of (response op.message code_00)) code_94 ≡ false = ap (λ c. bytes_eq c code_94) (code_response op.message code_00) in
        ap (answers k) (sent_reply op.source (response op.message code_00) h) ∙ rw (kind, key, key_eq_refl k, code) refl

-- through an entry

late_decide : (t : Network) (n : ℕ) (past : History) (i : ReadInput) → IsFormed i → refusal t n past i ≡ None → NodeFacts t n past → LateFacts t n past → LateFacts t n (decide t n past i)
unfolding took_00
late_decide t n past i form ok f before = record {
  open_answers = λ k j e. EntryLate.open_answers (Late.late done) k j e;
  settled = λ k l j fw an. ⊎_elim (λ s. s) (λ a. inr (inr (accepted_then t n past i k a))) (EntryLate.settled (Late.late done) k l j fw an);
  took = λ k e. took_then k (sym (Late.took_same done k) ∙ e);
}
  where
    done : Late t n past i (decide t n past i)
    done = decide_keeps t n past i (Late t n past i)
        (λ h o q allowed. record { late = late_out t n past i f h o (Late.late q) allowed before.open_answers; good = λ k g. good_out t n i o h k (Late.good q k g); took_same = λ k. Late.took_same q k })
        (keeps_issuers t n past f)
        (record { late = late_in t n past i form ok f before; good = λ k g. g; took_same = λ k. refl })

    now : (j : ReadInput) → i ≡ j → (k : Key) → takes_00 past k j ≡ true → Good t n (decide t n past i) k
    now (Take l s m) is k e = by_answer (answered_by past k) refl
      where
        p : (is_00_of k (Some m) ≡ true) × (is_link l (forwarded past k) ≡ true)
        p = and_parts (is_00_of k (Some m)) (is_link l (forwarded past k)) e

        fw : forwarded past k ≡ Some l
        fw = Rattle.network_law.proofs.Emits.is_link_is l (forwarded past k) p.1

        by_answer : (w : Option ReadInput) → answered_by past k ≡ w → Good t n (decide t n past i) k
        by_answer None at =
            let a : answered_by (decide t n past i) k ≡ Some (Take l s m) = ap (λ z. answered_by (decide t n past z) k) is ∙ taken_pending t n past k l s m f p.0 fw at in
            inl (Take l s m, a, takes_forwarded past (decide t n past i) k (Take l s m) (λ l' e'. EntryLate.forwarded_stays (Late.late done) k l' e') e)
        by_answer (Some j) at = ⊎_elim (λ takes. Late.good done k (good_in t n i past k (inl (j, at, takes)))) (λ rest. ⊎_elim (λ other. Late.good done k (inr (ap (λ z. has_reversal t n (In z ∷ past) k) is ∙ came_late t n past k l s m f p.0 fw other.code))) (λ r. Late.good done k (good_in t n i past k (inr r))) rest) (before.settled k l j fw at)
    now (Enter m) is k e = absurd (not_both false e refl)
    now (LinkUp l) is k e = absurd (not_both false e refl)
    now (LinkDown l) is k e = absurd (not_both false e refl)
    now Tick is k e = absurd (not_both false e refl)
    now (HostAnswer a c) is k e = absurd (not_both false e refl)
    now (NewDate d) is k e = absurd (not_both false e refl)
    now (TakePacket lk sr pk) is k e = absurd (not_both false e refl)
    now (Lend br cd dt am) is k e = absurd (not_both false e refl)

    took_then : (k : Key) → (took_00 past k || takes_00 past k i) ≡ true → Good t n (decide t n past i) k
    took_then k e = ⊎_elim (λ was. Late.good done k (good_in t n i past k (before.took k was))) (now i refl k) (or_cases (took_00 past k) (takes_00 past k i) e)

pub legal_late : (t : Network) (n : ℕ) (es : List ReadEntry) → IsLegalRead t n es → LateFacts t n (read_history es)
unfolding read_history answered_by took_00
legal_late t n [] l = record { open_answers = λ k j e. absurd (none_some j e); settled = λ k l j fw e. absurd (none_some j e); took = λ k e. absurd (not_both false e refl) }
legal_late t n (e ∷ es) l = subst (LateFacts t n) (sym l.1.outputs) (late_decide t n (read_history es) e.input l.1.formed l.1.accepted (legal_facts t n es l.0) (legal_late t n es l.0))

pub LateApprovalsUndone_holds : (t : Network) (traces : ℕ → List ReadEntry) → IsReadRun t traces → LateApprovalsUndone t (histories traces)
LateApprovalsUndone_holds t traces run = record {
  taken = λ n k e. (legal_late t n (traces n) (legal_at run n)).took k e;
  answered = λ n l k i fw an no_answer. ⊎_elim (λ takes. absurd (other n k i takes no_answer)) (λ rest. ⊎_elim (λ o. absurd (not_both (takes_answer k i) o.takes no_answer)) (λ r. r) rest) ((legal_late t n (traces n) (legal_at run n)).settled k l i fw an);
}
  where
    other : (n : ℕ) (k : Key) (i : ReadInput) → takes_00 (read_history (traces n)) k i ≡ true → takes_answer k i ≡ false → ⊥
    other n k (Take l s m) e f =
        let p = and_parts (is_00_of k (Some m)) (is_link l (forwarded (read_history (traces n)) k)) e in
        let q = and_parts (is_answer m.kind && key_eq (key_of m) k) (bytes_eq (code_of m) code_00) p.0 in
        not_both (is_answer m.kind && key_eq (key_of m) k) q.0 f
    other n k (Enter m) e f = not_both false e refl
    other n k (LinkUp l) e f = not_both false e refl
    other n k (LinkDown l) e f = not_both false e refl
    other n k Tick e f = not_both false e refl
    other n k (HostAnswer a c) e f = not_both false e refl
    other n k (NewDate d) e f = not_both false e refl
    other n k (TakePacket lk sr pk) e f = not_both false e refl
    other n k (Lend br cd dt am) e f = not_both false e refl
