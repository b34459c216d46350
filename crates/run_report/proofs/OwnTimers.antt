-- Both counts of own approvals agree after a tick, and after a link went down.
use Rattle.std.proofs.Common.{◌≡◌, ℕ, suc, List, [], ◌∷◌, Option, Some, None, is_some, is_none, true, false, cond, refl, sym, ◌∙◌, subst, inl, inr, bytes_eq}
use Rattle.std.proofs.lemmas.Bool.{cond_both, and_parts}
use Rattle.card_digits.specs.declared.key.Key.{Key}
use Rattle.message_elements.specs.Codes.{code_00}
use Rattle.message_elements.specs.Groups.{is_04xx}
use Rattle.message_keys.specs.Keys.{key_of, identity_of}
use Rattle.iso_message.specs.Fields.{Fields, as_kind}
use Rattle.iso_message.specs.Made.{response, made_reversal, made_stand_in}
use Rattle.net_rows.specs.Network.{Network}
use Rattle.network_law.specs.Tables.{node_id, links_between}
use Rattle.network_law.specs.Decision.{decide, reply, reply_output, next_put, emit, keep, send, send_by, own_way, sent_kind, standin, standin_code, fail, fail_all, failing, Due, DueAdvice, DueGrant, due, send_all, send_grant, send_grant_by, first_up}
use Rattle.network_law.specs.Refusals.{refusal}
use Rattle.network_law.specs.declared.grant.GrantPacket.TheVariants as packets
use Rattle.network_law.specs.Traces.{ReadInput, Enter, Take, LinkUp, LinkDown, Tick, HostAnswer, NewDate, TakePacket, Lend, ReadOutput, Post, PutPacket, In, Out, History, Opening, opening, sent, answer, forwarded, fails, is_timer, is_link, is_due, pending, put_count, was_put, count_of, known, is_at_home, Lent, IsIn}
use Rattle.network_law.proofs.AdviceMarks.{NoRepeat, answer_in, opening_out, other_answers}
use Rattle.network_law.proofs.Codes.{standin_not_94}
use Rattle.network_law.proofs.Elements.{response_key}
use Rattle.network_law.proofs.Emits.{stays_open, failing_ticks}
use Rattle.network_law.proofs.FailOnce.{failing_once}
use Rattle.network_law.proofs.Node.{NodeFacts, Opened}
use Rattle.network_law.proofs.Used.{sent_reply, advice_no_answer}
use Rattle.run_report.proofs.AnswersRead.{brings}
use Rattle.run_report.proofs.OwnAgrees.{Agrees, input_agrees, Quiet, quiet_none, quiet_kind, quiet_answer, quiet_agrees, Said, said_agrees, stands}

-- what sends advices and grants keeps what outputs keep that answer no request

module _ (t : Network) (n : ℕ) (i : ReadInput) (Q : History → Type 0) (close : (h : History) (o : ReadOutput) → Quiet (sent o) → Q h → Q (Out i o ∷ h)) where
  send_quiet : (x : Fields) (h : History) → Q h → Q (send t n i x h)
  unfolding send
  send_quiet x h q = go (own_way t n h x (forwarded h (key_of x)))
    where
      go : (w : Option ℕ) → Q (send_by i x w h)
      go None = q
      go (Some l) =
          let again = was_put h (identity_of x) in
          close h (next_put l (as_kind (sent_kind (is_04xx x.kind) again) x) h) (quiet_kind (as_kind (sent_kind (is_04xx x.kind) again) x) (advice_no_answer (is_04xx x.kind) again)) q

  keep_quiet : (past : History) (x : Fields) (h : History) → Q h → Q (keep t n past i x h)
  unfolding keep
  keep_quiet past x h q =
      cond_both (known t n past (identity_of x)) h (cond (is_at_home t n x) (emit i (Post x) h) (send t n i x h)) Q (λ _. q)
      (λ _. cond_both (is_at_home t n x) (emit i (Post x) h) (send t n i x h) Q (λ _. close h (Post x) quiet_none q) (λ _. send_quiet x h q))

  grant_quiet : (g : Lent) (h : History) → Q h → Q (send_grant t n i g h)
  unfolding send_grant
  grant_quiet g h q = go (first_up h (links_between t n g.borrower))
    where
      go : (w : Option ℕ) → Q (send_grant_by i g w h)
      go None = q
      go (Some l) = close h (PutPacket l (suc (put_count h l)) (packets.Grant g.grant)) quiet_none q

  due_quiet : (xs : List Due) (h : History) → Q h → Q (send_all t n i xs h)
  unfolding send_all
  due_quiet [] h q = q
  due_quiet (DueAdvice a ∷ xs) h q = due_quiet xs (send t n i a.message h) (send_quiet a.message h q)
  due_quiet (DueGrant g ∷ xs) h q = due_quiet xs (send_grant t n i g h) (grant_quiet g h q)

-- within an entry in which these keys are still to fail
record Waits (t : Network) (past : History) (i : ReadInput) (ks : List Key) (h : History) : Type 0 where
  agrees : Agrees t h
  opens : (k : Key) → opening t h k ≡ opening t (In i ∷ past) k
  waiting : (k : Key) → IsIn k ks → answer h k ≡ None

quiet_waits : (t : Network) (past : History) (i : ReadInput) (ks : List Key) (h : History) (o : ReadOutput) → Quiet (sent o) → Waits t past i ks h → Waits t past i ks (Out i o ∷ h)
quiet_waits t past i ks h o quiet q = record {
  agrees = quiet_agrees t i o h quiet (Waits.agrees q);
  opens = λ k. opening_out t i o h k ∙ Waits.opens q k;
  waiting = λ k m. quiet_answer i o h k quiet ∙ Waits.waiting q k m;
}

module _ (t : Network) (n : ℕ) (past : History) (i : ReadInput) (facts : NodeFacts t n past) (alone : brings i ≡ false) where
  keep_waits : (ks : List Key) (x : Fields) (h : History) → Waits t past i ks h → Waits t past i ks (keep t n past i x h)
  keep_waits ks x h q = keep_quiet t n i (Waits t past i ks) (λ g o quiet r. quiet_waits t past i ks g o quiet r) past x h q

  -- the node stands in for a key that fails
  reply_waits : (k : Key) (ks : List Key) (op : Opening) (h : History) → opening t past k ≡ Some op → (IsIn k ks → ⊥) → Waits t past i (k ∷ ks) h → Waits t past i ks (reply i op.source (response op.message (standin_code t n h op.message)) h)
  reply_waits k ks op h was once q = record {
    agrees = said_agrees t i o h said (Waits.agrees q);
    opens = λ j. opening_out t i o h j ∙ Waits.opens q j;
    waiting = λ j has. other_answers h i j o m (sent_reply op.source m h) (other j has) ∙ Waits.waiting q j (inr has);
  }
    where
      m : Fields
      m = response op.message (standin_code t n h op.message)

      o : ReadOutput
      o = reply_output op.source m h

      w : Opened t n past k op
      w = facts.opens k op was

      now : opening t h k ≡ Some op
      now = Waits.opens q k ∙ stays_open t past i k op was

      said : Said t h i o
      said = stands t h i o op k (standin_code t n h op.message) now w.key w.request ((Waits.agrees q).requests k op now) (Waits.waiting q k (inl refl)) alone (standin_not_94 t n h op.message) refl

      other : (j : Key) → IsIn j ks → key_of m ≡ j → ⊥
      other j has e = once (subst (λ z. IsIn z ks) (sym e ∙ (response_key op.message (standin_code t n h op.message) w.request ∙ w.key)) has)

  fail_waits : (k : Key) (ks : List Key) (op : Opening) (h : History) → opening t past k ≡ Some op → (IsIn k ks → ⊥) → Waits t past i (k ∷ ks) h → Waits t past i ks (fail t n past i (Some op) h)
  unfolding fail standin
  fail_waits k ks op h was once q =
      let h1 = keep t n past i (made_reversal op.message (node_id t n)) h in
      let c = standin_code t n h1 op.message in
      let replied = reply i op.source (response op.message c) h1 in
      let after = reply_waits k ks op h1 was once (keep_waits (k ∷ ks) (made_reversal op.message (node_id t n)) h q) in
      cond_both (bytes_eq c code_00) (keep t n past i (made_stand_in op.message (node_id t n)) replied) replied (Waits t past i ks) (λ _. keep_waits ks (made_stand_in op.message (node_id t n)) replied after) (λ _. after)

  next_waits : (k : Key) (ks : List Key) (h : History) (w : Option Opening) → opening t past k ≡ w → (IsIn k ks → ⊥) → Waits t past i (k ∷ ks) h → Waits t past i ks (fail t n past i w h)
  unfolding fail
  next_waits k ks h None e once q = record { agrees = Waits.agrees q; opens = Waits.opens q; waiting = λ j has. Waits.waiting q j (inr has) }
  next_waits k ks h (Some op) e once q = fail_waits k ks op h e once q

  fail_all_waits : (ks : List Key) (h : History) → NoRepeat ks → Waits t past i ks h → Waits t past i [] (fail_all t n past i ks h)
  unfolding fail_all
  fail_all_waits [] h once q = q
  fail_all_waits (k ∷ ks) h once q = fail_all_waits ks (fail t n past i (opening t past k) h) once.1 (next_waits k ks h (opening t past k) refl once.0 q)

-- what fails wasn't answered

pending_unanswered : (t : Network) (h : History) (k : Key) → pending t h k ≡ true → answer h k ≡ None
pending_unanswered t h k e = none (answer h k) (and_parts (is_some (opening t h k)) (is_none (answer h k)) e).1
  where
    none : (w : Option Fields) → is_none w ≡ true → w ≡ None
    none None e = refl
    none (Some m) e = cc

fails_unanswered : (t : Network) (h : History) (i : ReadInput) (k : Key) → fails t h i k ≡ true → answer h k ≡ None
fails_unanswered t h (LinkDown l) k e = pending_unanswered t h k (and_parts (pending t h k) (is_link l (forwarded h k)) e).0
fails_unanswered t h Tick k e = pending_unanswered t h k (and_parts (pending t h k) (is_due t h (suc (count_of h)) k) e).0
fails_unanswered t h (Enter m) k e = cc
fails_unanswered t h (Take l s m) k e = cc
fails_unanswered t h (LinkUp l) k e = cc
fails_unanswered t h (HostAnswer a c) k e = cc
fails_unanswered t h (NewDate d) k e = cc
fails_unanswered t h (TakePacket l s p) k e = cc
fails_unanswered t h (Lend b c d a) k e = cc

first_waits : (t : Network) (n : ℕ) (past : History) (i : ReadInput) → refusal t n past i ≡ None → Agrees t past → Waits t past i (failing t past i) (In i ∷ past)
first_waits t n past i ok a = record {
  agrees = input_agrees t n i past ok a;
  opens = λ k. refl;
  waiting = λ k has. answer_in past i k ∙ fails_unanswered t past i k (failing_ticks t past i k has).1;
}

pub timer_agrees : (t : Network) (n : ℕ) (past : History) (i : ReadInput) → refusal t n past i ≡ None → NodeFacts t n past → is_timer i ≡ true → Agrees t past → Agrees t (decide t n past i)
unfolding decide
timer_agrees t n past (LinkDown l) ok f timer a =
    let i = LinkDown l in
    Waits.agrees (fail_all_waits t n past i f refl (failing t past i) (In i ∷ past) (failing_once t past i) (first_waits t n past i ok a))
timer_agrees t n past Tick ok f timer a =
    let ks = failing t past Tick in
    let sends = due_quiet t n Tick (Waits t past Tick ks) (λ g o quiet r. quiet_waits t past Tick ks g o quiet r) (due t n past) (In Tick ∷ past) (first_waits t n past Tick ok a) in
    Waits.agrees (fail_all_waits t n past Tick f refl ks (send_all t n Tick (due t n past) (In Tick ∷ past)) (failing_once t past Tick) sends)
timer_agrees t n past (Enter m) ok f timer a = cc
timer_agrees t n past (Take l s m) ok f timer a = cc
timer_agrees t n past (LinkUp l) ok f timer a = cc
timer_agrees t n past (HostAnswer x c) ok f timer a = cc
timer_agrees t n past (NewDate d) ok f timer a = cc
timer_agrees t n past (TakePacket l s p) ok f timer a = cc
timer_agrees t n past (Lend b c d x) ok f timer a = cc
