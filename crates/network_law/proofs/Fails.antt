-- Each key that fails at an input is answered in its entry, and its reversal is made there: the mark that the
-- definitions put at the answer stands where the key fails.
use Rattle.std.proofs.Common.{◌≡◌, ℕ, List, [], ◌∷◌, Option, Some, None, is_some, true, false, refl, sym, ap, ◌∙◌, subst, inl, inr, ⊎_elim, ◌⊎◌, bytes_eq}
use Rattle.std.proofs.lemmas.Bool.{cond_both}
use Rattle.std.specs.Option.{option_or, option_and_then}
use Rattle.net_rows.specs.Network.{Network}
use Rattle.network_law.specs.Tables.{node_id}
use Rattle.network_law.specs.Traces.{ReadInput, Tick, LinkDown, ReadOutput, Event, In, Out, History, Opening, opening, answer, answers, sent, forwarded, asked, ticks_by, is_timer, failed_key, pending, advices, is_ok_ack, handled, own_approval, count_of, add_made, reverses_key, IsIn}
use Rattle.network_law.specs.Decision.{decide, fail, fail_all, failing, send_all, due, standin, standin_code, keep, reply, reply_output}
use Rattle.network_law.proofs.ReadRuns.{HasLengths}
use Rattle.network_law.specs.Claims.{has_reversal}
use Rattle.message_keys.proofs.Equality.{key_eq_refl}
use Rattle.network_law.proofs.Emits.{standing, keep_keeps, fail_all_keeps, stays_open, decide_keeps, failing_ticks, FailsNow}
use Rattle.network_law.proofs.Node.{NodeFacts, keeps_issuers, answers_is, response_is_of_kind}
use Rattle.network_law.proofs.Elements.{code_response, response_key}
use Rattle.network_law.proofs.Codes.{standin_not_94}
use Rattle.network_law.proofs.Used.{add_made_keeps, add_accepted_keeps, sent_reply}
use Rattle.network_law.proofs.Late.{reversal_more, made_added, response_answers}
use Rattle.network_law.specs.Cards.{Bytes}
use Rattle.iso_message.specs.Fields.{Fields}
use Rattle.card_digits.specs.declared.key.Key.{Key}
use Rattle.message_keys.specs.Keys.{key_of, code_of}
use Rattle.message_elements.specs.Groups.{is_answer, is_request}
use Rattle.iso_message.specs.Made.{response, made_reversal, made_stand_in}
use Rattle.message_elements.specs.Codes.{code_94, code_00}

none_some : {X : Type 0} (x : X) → None ≡ Some x → ⊥
none_some x p = cc

-- k is open, and not answered, or its reversal was made
record Marked (t : Network) (n : ℕ) (k : Key) (op : Opening) (h : History) : Type 0 where
  opens : opening t h k ≡ Some op
  mark : (answer h k ≡ None) ⊎ (has_reversal t n h k ≡ true)

marked_out : (t : Network) (n : ℕ) (k : Key) (op : Opening) (i : ReadInput) (o : ReadOutput) (h : History) → is_timer i ≡ true → HasLengths op.message → is_request op.message.kind ≡ true → key_of op.message ≡ k → Marked t n k op h → Marked t n k op (Out i o ∷ h)
unfolding opening answer has_reversal advices
marked_out t n k op i o h timer len r key q = record { opens = Marked.opens q; mark = ⊎_elim fresh (λ rev. inr (reversal_more t n (Out i o) h k rev)) (Marked.mark q) }
  where
    fresh : answer h k ≡ None → (option_or (answer h k) (answers k (sent o)) ≡ None) ⊎ (has_reversal t n (Out i o ∷ h) k ≡ true)
    fresh none = go (answers k (sent o)) refl
      where
        go : (w : Option Fields) → answers k (sent o) ≡ w → (option_or (answer h k) (answers k (sent o)) ≡ None) ⊎ (has_reversal t n (Out i o ∷ h) k ≡ true)
        go None at = inl (rw (none, at) refl)
        go (Some a) at =
            let w = answers_is k (sent o) a at in
            let now = Marked.opens q in
            let f : failed_key t h i (sent o) ≡ Some k = rw (w.0, timer, w.1, w.2, now, none) refl in
            let found : option_and_then (opening t h) (failed_key t h i (sent o)) ≡ Some op = rw f now in
            inr (add_accepted_keeps (reverses_key k) (count_of h) (is_ok_ack (sent o)) (handled t h i) (add_made (λ m. made_stand_in m (node_id t n)) (count_of h) (option_and_then (opening t h) (own_approval h i o)) (add_made (λ m. made_reversal m (node_id t n)) (count_of h) (option_and_then (opening t h) (failed_key t h i (sent o))) (advices t n h)))
            (add_made_keeps (reverses_key k) (λ m. made_stand_in m (node_id t n)) (count_of h) (option_and_then (opening t h) (own_approval h i o)) (add_made (λ m. made_reversal m (node_id t n)) (count_of h) (option_and_then (opening t h) (failed_key t h i (sent o))) (advices t n h))
            (made_added t n (count_of h) k (option_and_then (opening t h) (failed_key t h i (sent o))) op (advices t n h) found len r key)))

-- answered
pub answered_out : (k : Key) (i : ReadInput) (o : ReadOutput) (h : History) → is_some (answer h k) ≡ true → is_some (answer (Out i o ∷ h) k) ≡ true
unfolding answer
answered_out k i o h e = go (answer h k) e
  where
    go : (w : Option Fields) → is_some w ≡ true → is_some (option_or w (answers k (sent o))) ≡ true
    go None e = cc
    go (Some a) e = refl

module _ (t : Network) (n : ℕ) (past : History) (i : ReadInput) (facts : NodeFacts t n past) (timer : is_timer i ≡ true) (k : Key) (op : Opening) (was : opening t past k ≡ Some op) (ticks : is_some (ticks_by t (forwarded past k) (asked past k)) ≡ true) where
  answered : History → Type 0
  answered h = is_some (answer h k) ≡ true

  replied : (c : Bytes) (h : History) → bytes_eq c code_94 ≡ false → is_some (answer (reply i op.source (response op.message c) h) k) ≡ true
  unfolding answer
  replied c h n94 =
      let w = facts.opens k op was in
      let kind : is_answer (response op.message c).kind ≡ true = ap is_answer (response_is_of_kind op.message c) ∙ response_answers op.message.kind w.request in
      let key : key_of (response op.message c) ≡ k = response_key op.message c w.request ∙ w.key in
      let code : bytes_eq (code_of (response op.message c)) code_94 ≡ false = ap (λ z. bytes_eq z code_94) (code_response op.message c) ∙ n94 in
      let said : answers k (sent (reply_output op.source (response op.message c) h)) ≡ Some (response op.message c) = ap (answers k) (sent_reply op.source (response op.message c) h) ∙ rw (kind, key, key_eq_refl k, code) refl in
      some (answer h k) (answers k (sent (reply_output op.source (response op.message c) h))) (ap is_some said)
    where
      some : (a b : Option Fields) → is_some b ≡ true → is_some (option_or a b) ≡ true
      some None b e = e
      some (Some a) b e = refl

  failed_answers : (h : History) → is_some (answer (fail t n past i (Some op) h) k) ≡ true
  unfolding fail standin answered
  failed_answers h =
      let h1 : History = keep t n past i (made_reversal op.message (node_id t n)) h in
      let c : Bytes = standin_code t n h1 op.message in
      let said : answered (reply i op.source (response op.message c) h1) = replied c h1 (standin_not_94 t n h1 op.message) in
      let s = keeps_issuers t n past facts k op was ticks in
      cond_both (bytes_eq c code_00) (keep t n past i (made_stand_in op.message (node_id t n)) (reply i op.source (response op.message c) h1)) (reply i op.source (response op.message c) h1) answered
      (λ _. keep_keeps t n past i answered (λ h o q _. answered_out k i o h q) (made_stand_in op.message (node_id t n)) (reply i op.source (response op.message c) h1) (standing k op (stays_open t past i k op was) s.0 s.1 refl) said)
      (λ _. said)

  pub all_answered : (ks : List Key) (h : History) → IsIn k ks → ((j : Key) → IsIn j ks → FailsNow t past i j) → is_some (answer (fail_all t n past i ks h) k) ≡ true
  unfolding fail_all answered
  all_answered [] h m each = absurd m
  all_answered (j ∷ ks) h (inl e) each =
      let here : is_some (answer (fail t n past i (opening t past j) h) k) ≡ true = subst (λ z. is_some (answer (fail t n past i z h) k) ≡ true) (sym (ap (opening t past) e ∙ was)) (failed_answers h) in
      fail_all_keeps t n past i answered (λ h o q _. answered_out k i o h q) ks (fail t n past i (opening t past j) h) timer (λ x m. each x (inr m)) (keeps_issuers t n past facts) here
  all_answered (j ∷ ks) h (inr m) each = all_answered ks (fail t n past i (opening t past j) h) m (λ x m. each x (inr m))

marked_reverses : (t : Network) (n : ℕ) (k : Key) (op : Opening) (h : History) → Marked t n k op h → is_some (answer h k) ≡ true → has_reversal t n h k ≡ true
marked_reverses t n k op h q e = ⊎_elim (λ none. absurd (no (ap is_some (sym none)) e)) (λ r. r) (Marked.mark q)
  where
    no : false ≡ is_some (answer h k) → is_some (answer h k) ≡ true → ⊥
    no p q = (λ (z : false ≡ true). bad z) (p ∙ q)
      where
        bad : false ≡ true → ⊥
        bad z = cc

-- where k fails, its reversal is made
pub fails_made : (t : Network) (n : ℕ) (past : History) (i : ReadInput) (k : Key) (op : Opening) → NodeFacts t n past → opening t past k ≡ Some op → answer past k ≡ None → IsIn k (failing t past i) → is_timer i ≡ true → has_reversal t n (decide t n past i) k ≡ true
unfolding decide answer
fails_made t n past i k op facts was none m timer = go i m timer
  where
    w : Rattle.network_law.proofs.Node.Opened t n past k op
    w = facts.opens k op was

    marked : (j : ReadInput) → is_timer j ≡ true → Marked t n k op (decide t n past j)
    marked j tm = decide_keeps t n past j (Marked t n k op) (λ h o q _. marked_out t n k op j o h tm w.formed w.request w.key q) (keeps_issuers t n past facts) (record { opens = stays_open t past j k op was; mark = inl none })

    go : (j : ReadInput) → IsIn k (failing t past j) → is_timer j ≡ true → has_reversal t n (decide t n past j) k ≡ true
    go (LinkDown l) m tm = marked_reverses t n k op (decide t n past (LinkDown l)) (marked (LinkDown l) tm) (all_answered t n past (LinkDown l) facts tm k op was (failing_ticks t past (LinkDown l) k m).0 (failing t past (LinkDown l)) (In (LinkDown l) ∷ past) m (failing_ticks t past (LinkDown l)))
    go Tick m tm = marked_reverses t n k op (decide t n past Tick) (marked Tick tm) (all_answered t n past Tick facts tm k op was (failing_ticks t past Tick k m).0 (failing t past Tick) (send_all t n Tick (due t n past) (In Tick ∷ past)) m (failing_ticks t past Tick))
    go (Rattle.network_law.specs.Traces.Enter x) m tm = cc
    go (Rattle.network_law.specs.Traces.Take l s x) m tm = cc
    go (Rattle.network_law.specs.Traces.LinkUp l) m tm = cc
    go (Rattle.network_law.specs.Traces.HostAnswer a c) m tm = cc
    go (Rattle.network_law.specs.Traces.NewDate d) m tm = cc
    go (Rattle.network_law.specs.Traces.TakePacket lk sr pk) m tm = cc
    go (Rattle.network_law.specs.Traces.Lend br cd dt am) m tm = cc
