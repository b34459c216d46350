-- Both counts of own approvals agree after an entry in which no time is over and no link goes down.
use Rattle.std.proofs.Common.{◌≡◌, ℕ, ◌∷◌, Option, Some, None, is_some, Bool, true, false, refl, sym, ap, ◌∙◌, subst, inl, inr, ⊎_elim, ◌⊎◌, bytes_eq}
use Rattle.std.proofs.lemmas.Bool.{or_left, or_right}
use Rattle.std.proofs.lemmas.Option.{same_Some}
use Rattle.card_digits.specs.declared.key.Key.{Key}
use Rattle.message_elements.specs.Codes.{code_00, code_94}
use Rattle.message_elements.specs.Groups.{is_request, is_answer, is_04xx}
use Rattle.message_elements.specs.declared.kind.Kind.TheVariants.{K0100}
use Rattle.message_keys.specs.Keys.{key_of, code_of}
use Rattle.iso_message.specs.Fields.{Fields, as_kind}
use Rattle.iso_message.specs.Made.{response}
use Rattle.net_rows.specs.Network.{Network}
use Rattle.network_law.specs.Decision.{decide, sent_kind, standin_code}
use Rattle.network_law.specs.Refusals.{refusal}
use Rattle.network_law.specs.Traces.{Source, ReadInput, Enter, Take, LinkUp, LinkDown, Tick, HostAnswer, NewDate, TakePacket, Lend, ReadOutput, In, Out, History, Handled, handled, Opening, opening, sent, answer, has_00, brings_00, is_timer}
use Rattle.network_law.proofs.ReadRuns.{IsFormed}
use Rattle.network_law.proofs.AdviceMarks.{answer_in, request_no_answer, unopened}
use Rattle.network_law.proofs.Codes.{standin_not_94}
use Rattle.network_law.proofs.Elements.{code_response, response_key}
use Rattle.network_law.proofs.Emits.{Allowed, forwarding, asking, standing_in, passing, declining, repeating, refusing, acking, sending, posting, putting_packet, StandingIn, Passing, Declining, Repeating, OpenedFirst, Failed, Via, handled_as, decide_keeps, stays_open}
use Rattle.network_law.proofs.Late.{LateFacts}
use Rattle.network_law.proofs.Node.{NodeFacts, OpensNow, opening_in_cases, facts_out, keeps_issuers, answer_is, response_is_of_kind}
use Rattle.network_law.proofs.Used.{OwnFacts, own_in_entry, has_00_more, brings_more, answer_has_00, sent_reply, acked_kind, advice_no_answer}
use Rattle.run_report.proofs.AnswersRead.{brings}
use Rattle.run_report.proofs.Keyed.{response_has_code, response_is_answer}
use Rattle.run_report.proofs.OwnAgrees.{Agrees, input_agrees, Quiet, quiet_none, quiet_kind, quiet_94, quiet_agrees, Said, said_agrees, unowned, not_own, stands}

none_some : {X : Type 0} (x : X) → None ≡ Some x → ⊥
none_some x p = cc

not_both : (b : Bool) → b ≡ true → b ≡ false → ⊥
not_both b p q = cc

-- a request brings no answer
request_brings_none : (t : Network) (past : History) (i : ReadInput) (m : Fields) (src : Source) → handled_as t past i m src → is_request m.kind ≡ true → brings i ≡ false
unfolding handled
request_brings_none t past (Take l s x) m src e r =
    let same : x ≡ m = ap (λ (z : Handled). z.message) (same_Some _ _ e) in
    ap (λ z. is_answer (Fields.kind z)) same ∙ request_no_answer m.kind r
request_brings_none t past (Enter x) m src e r = refl
request_brings_none t past (LinkUp l) m src e r = refl
request_brings_none t past (LinkDown l) m src e r = refl
request_brings_none t past Tick m src e r = refl
request_brings_none t past (HostAnswer a c) m src e r = absurd (none_some _ e)
request_brings_none t past (NewDate d) m src e r = refl
request_brings_none t past (TakePacket l s p) m src e r = refl
request_brings_none t past (Lend b c d a) m src e r = refl

-- what an answer came by brings it
via_brings : (t : Network) (past : History) (i : ReadInput) (k : Key) → Via t past i k → brings i ≡ true
via_brings t past i k (inl v) = ap brings v.input ∙ v.answer_kind
via_brings t past i k (inr v) = ap brings v.input

-- within an entry
record Within (t : Network) (n : ℕ) (past : History) (i : ReadInput) (h : History) : Type 0 where
  own : OwnFacts t n past i h
  agrees : Agrees t h
  stays : (k : Key) (m : Fields) → answer past k ≡ Some m → answer h k ≡ Some m

answer_more : (h : History) (i : ReadInput) (o : ReadOutput) (k : Key) (m : Fields) → answer h k ≡ Some m → answer (Out i o ∷ h) k ≡ Some m
unfolding answer
answer_more h i o k m e = rw e refl

module _ (t : Network) (n : ℕ) (past : History) (i : ReadInput) (late : LateFacts t n past) (calm : is_timer i ≡ false) (h : History) (o : ReadOutput) (q : Within t n past i h) where
  -- what is open in this entry
  abbrev IsOpen : Opening → Key → Type 0
  IsOpen op k = (opening t h k ≡ Some op) × (key_of op.message ≡ k) × (is_request op.message.kind ≡ true)

  open_now : (op : Opening) (k : Key) → opening t (In i ∷ past) k ≡ Some op → IsOpen op k
  open_now op k is =
      let now : opening t h k ≡ Some op = (Within.own q).entry.opening_is k ∙ is in
      let w = (Within.own q).entry.node.opens k op now in
      (now, w.key, w.request)

  stood : StandingIn t n past i h o → Said t h i o
  stood f = ⊎_elim first failed f.how
    where
      k : Key
      k = f.opens.key

      w : IsOpen f.op k
      w = open_now f.op k f.opens.is

      failed : Failed t past i k f.op → Said t h i o
      failed z = absurd (not_both (is_timer i) z.timer calm)

      first : OpenedFirst t past i h k → Said t h i o
      first z =
          let none : answer h k ≡ None = ap (λ g. answer g k) z.first ∙ (answer_in past i k ∙ unopened late k z.fresh) in
          let alone : brings i ≡ false = ⊎_elim (λ was. absurd (none_some f.op (sym z.fresh ∙ was))) (λ (now : OpensNow t past i k f.op). request_brings_none t past i f.op.message f.op.source now.is_handled now.request) (opening_in_cases t past i k f.op f.opens.is) in
          stands t h i o f.op k (standin_code t n h f.op.message) w.0 w.1 w.2 ((Within.agrees q).requests k f.op w.0) none alone (standin_not_94 t n h f.op.message) f.is

  passed : Passing t n past i h o → Said t h i o
  passed f =
      unowned t h i o m is (response_is_answer f.op.message f.code w.2 ((Within.agrees q).requests f.key f.op w.0) f.not_94)
      (not_own h i o m f.key is (response_key f.op.message f.code w.2 ∙ w.1) (λ e. or_right (has_00 h f.key) (brings_00 h f.key i) ((Within.own q).stays_brought f.key (f.brought (ap (λ z. bytes_eq z code_00) (sym (code_response f.op.message f.code)) ∙ e)))))
      (λ _. inr (via_brings t past i f.key f.via))
    where
      w : IsOpen f.op f.key
      w = open_now f.op f.key (stays_open t past i f.key f.op f.opens)

      m : Fields
      m = response f.op.message f.code

      is : sent o ≡ Some m
      is = ap sent f.is ∙ sent_reply f.op.source m h

  declined : Declining t n past i h o → Said t h i o
  declined f = unowned t h i o m is (response_is_answer f.op.message f.code w.2 ((Within.agrees q).requests f.opens.key f.op w.0) f.not_94) (not_own h i o m (key_of m) is refl (λ e. absurd (other e))) (λ e. absurd (other e))
    where
      w : IsOpen f.op f.opens.key
      w = open_now f.op f.opens.key f.opens.is

      m : Fields
      m = response f.op.message f.code

      is : sent o ≡ Some m
      is = ap sent f.is ∙ sent_reply f.op.source m h

      other : bytes_eq (code_of m) code_00 ≡ true → ⊥
      other e = not_both (bytes_eq f.code code_00) (ap (λ z. bytes_eq z code_00) (sym (code_response f.op.message f.code)) ∙ e) f.not_00

  repeated : Repeating t n past i h o → Said t h i o
  repeated f =
      unowned t h i o f.before is ((Within.agrees q).whole f.key f.before now)
      (not_own h i o f.before f.key is key (λ e. or_left (has_00 h f.key) (brings_00 h f.key i) ((Within.own q).stays_00 f.key (answer_has_00 past f.key f.before f.answered e))))
      (λ _. inl (ap (λ z. is_some (answer h z)) key ∙ ap is_some now))
    where
      is : sent o ≡ Some f.before
      is = ap sent f.is ∙ sent_reply f.source f.before h

      key : key_of f.before ≡ f.key
      key = (answer_is past f.key f.before f.answered).1

      now : answer h f.key ≡ Some f.before
      now = Within.stays q f.key f.before f.answered

  of_sent : (w : Option Fields) → sent o ≡ w → Quiet w → Quiet (sent o)
  of_sent w e quiet = subst Quiet (sym e) quiet

  quiet_or_said : Allowed t n past i h o → Quiet (sent o) ⊎ Said t h i o
  quiet_or_said (forwarding f) = inl (of_sent (Some (as_kind K0100 f.message)) (ap sent f.is) (quiet_kind (as_kind K0100 f.message) refl))
  quiet_or_said (asking f) = inl (of_sent None (ap sent f.is) quiet_none)
  quiet_or_said (standing_in f) = inr (stood f)
  quiet_or_said (passing f) = inr (passed f)
  quiet_or_said (declining f) = inr (declined f)
  quiet_or_said (repeating f) = inr (repeated f)
  quiet_or_said (refusing f) = inl (of_sent (Some (response f.message code_94)) (ap sent f.is ∙ sent_reply f.source (response f.message code_94) h) (quiet_94 (response f.message code_94) (response_has_code f.message code_94)))
  quiet_or_said (acking f) = inl (of_sent (Some (response f.message f.code)) (ap sent f.is ∙ sent_reply f.source (response f.message f.code) h) (quiet_kind (response f.message f.code) (ap is_answer (response_is_of_kind f.message f.code) ∙ acked_kind f.message.kind f.kind)))
  quiet_or_said (sending f) = inl (of_sent (Some (as_kind (sent_kind (is_04xx f.message.kind) f.again) f.message)) (ap sent f.is) (quiet_kind (as_kind (sent_kind (is_04xx f.message.kind) f.again) f.message) (advice_no_answer (is_04xx f.message.kind) f.again)))
  quiet_or_said (posting f) = inl (of_sent None (ap sent f.is) quiet_none)
  quiet_or_said (putting_packet f) = inl (of_sent None (ap sent f.is) quiet_none)

  within_out : NodeFacts t n past → Allowed t n past i h o → Within t n past i (Out i o ∷ h)
  within_out f allowed = record {
    own = record { entry = facts_out t n past i h o f (Within.own q).entry allowed; stays_00 = λ k r. has_00_more h (Out i o) k ((Within.own q).stays_00 k r); stays_brought = λ k r. brings_more h i o k i ((Within.own q).stays_brought k r) };
    agrees = ⊎_elim (λ quiet. quiet_agrees t i o h quiet (Within.agrees q)) (λ said. said_agrees t i o h said (Within.agrees q)) (quiet_or_said allowed);
    stays = λ k m e. answer_more h i o k m (Within.stays q k m e);
  }

pub calm_agrees : (t : Network) (n : ℕ) (past : History) (i : ReadInput) → IsFormed i → refusal t n past i ≡ None → NodeFacts t n past → LateFacts t n past → is_timer i ≡ false → Agrees t past → Agrees t (decide t n past i)
calm_agrees t n past i form ok f late calm a =
    Within.agrees (decide_keeps t n past i (Within t n past i) (λ h o q allowed. within_out t n past i late calm h o q f allowed) (keeps_issuers t n past f)
    (record { own = own_in_entry t n past i form ok f; agrees = input_agrees t n i past ok a; stays = λ k m e. answer_in past i k ∙ e }))
