-- What an entry does to the advices, posts and puts of advices of its node.
use Rattle.std.proofs.Common.{◌≡◌, ℕ, suc, ◌+◌, ◌≤◌, List, [], ◌∷◌, ◌++◌, map, reverse, Option, Some, None, is_some, is_none, Bool, true, false, cond, not, ◌&&◌, ◌||◌, refl, sym, ap, ◌∙◌, subst, inl, inr, ⊎_elim, ◌⊎◌, arith, bytes_eq, nat_lt}
use Rattle.std.proofs.lemmas.Bool.{and_parts, and_from, cond_both, and_left, and_right}
use Rattle.std.specs.Option.{option_or, option_and_then}
use Rattle.std.specs.List.{list_any}
use Rattle.net_rows.specs.Network.{Network, issuer}
use Rattle.net_rows.specs.declared.row.Issuer.{Issuer}
use Rattle.network_law.specs.Tables.{is_home, node_id, route_links, single, links_between}
use Rattle.network_law.specs.declared.grant.GrantPacket.{GrantPacket}
use Rattle.network_law.specs.declared.grant.GrantPacket.TheVariants as packets
use Rattle.network_law.specs.Traces.{Source, Gate, ByLink, ReadInput, Enter, Take, LinkUp, LinkDown, Tick, HostAnswer, NewDate, TakePacket, Lend, ReadOutput, Put, Answer, Ask, Post, PutPacket, In, Out, History, Handled, handled, Opening, opening, opened, with_new, key_handled, answer, answers, sent, has_00, is_00_of, brings_00, own_approval, Advice, advices, add_advice, add_made, add_accepted, acked_by, has_identity, late_key, comes_late, code_is_not_00, failed_key, is_ok_ack, is_ack_kind, as_kept, is_timer, is_link, forwarded, forwards, pending, fails, count_of, known, reversed, is_at_home, ask_key, ask_count, put_count, Lent, grants, load, was_put, is_up, IsIn, Has}
use Rattle.network_law.specs.Decision.{decide, reply, reply_output, next_put, emit, sent_kind, keep, send, send_by, own_way, standin, standin_code, fail, fail_all, failing, send_all, Due, DueAdvice, DueGrant, due, send_grant, send_grant_by, send_newest, on_request, on_issuer, on_forward, on_repeat, on_reversal, on_advice, on_answer, on_host, on_code, as_code, on_group, answer_pending, other_content, first_up, same_source}
use Rattle.network_law.specs.Entries.{ReadEntry, read_history}
use Rattle.network_law.proofs.ReadRuns.{IsFormed, HasLengths, IsLegalRead}
use Rattle.message_keys.proofs.Equality.{key_eq_refl}
use Rattle.network_law.proofs.Emits.{handled_as, is_kept_group, stays_open, opening_now, opens_now, handled_no_timer, in_filter, due_from, IsDueFrom, from_link, request_from_group, answer_from_group}
use Rattle.network_law.proofs.Node.{NodeFacts, answer_is, answers_is, response_is_of_kind, answer_no_request, OpensNow, opening_in_cases}
use Rattle.network_law.proofs.Elements.{code_response, response_key, made_reversal_key}
use Rattle.network_law.proofs.Used.{sent_reply, answer_has_00, acked_kind, advice_no_answer}
use Rattle.network_law.proofs.Late.{LateFacts, answer_when, when_answer, response_answers, handled_in, handled_out}
use Rattle.network_law.proofs.Provenance.{late_none, no_own, no_failed, quiet_out, identity_acked, advices_in, advice_no_ack, answer_no_ack, request_no_ack, kept_no_answer}
use Rattle.network_law.proofs.Accounts.{Alike, alike_more, alike_is, Accounts, accounts_acked, accounts_sent, accounts_kept, kept_posts, KeptSends, in_acked_back, in_add_known, posted_of}
use Rattle.network_law.specs.Cards.{Bytes, is_good_card, card_of}
use Rattle.message_keys.specs.declared.keys.AdviceKind.TheVariants.{StandIn, Reversal}
use Rattle.iso_message.specs.Fields.{Fields, get, el, as_kind, set_element, remove_element}
use Rattle.message_elements.specs.declared.kind.Group.{Group}
use Rattle.message_elements.specs.Groups.{group, is_request, is_answer, is_04xx, is_advice_group}
use Rattle.message_elements.specs.declared.kind.Kind.TheVariants.{K0100}
use Rattle.card_digits.specs.declared.key.Key.{Key}
use Rattle.message_keys.specs.Keys.{key_of, identity_of, identity_eq, content, content_eq, code_of}
use Rattle.message_keys.specs.declared.keys.AdviceId.{AdviceId}
use Rattle.message_elements.specs.Codes.{code_94, code_96, code_92, code_68, code_14, code_05, code_00}
use Rattle.iso_message.specs.Made.{response, made_reversal, made_stand_in}
use Rattle.network_law.specs.Claims.{answered_by, post_count}
use Rattle.message_elements.specs.declared.kind.Group.TheVariants as groups
use Rattle.network_law.proofs.AdviceMarks.{not_both, post_in, sends_in, posts, sends, Acc, response_no_advice, answer_no_advice, ack_of_kept, kept_is_advice, advice_kind_group, kept_alike, sent_alike, made_stand_in_key, answered_00, add_other, reversal_reverses, stand_in_stands, identity_key, marks_out, opening_out, other_answers, marks_in, marks_none, has_in, answer_in, request_no_answer, request_brings_none, unopened, in_later, no_in, out_is, ack_no_answer, reply_no_answer, gate_brings_none, NoRepeat}
use Rattle.network_law.proofs.FailOnce.{failing_once}

module _ (t : Network) (n : ℕ) (past : History) (i : ReadInput) where
  -- quiet outputs

  acc_quiet : (h : History) (o : ReadOutput) → own_approval h i o ≡ None → failed_key t h i (sent o) ≡ None → is_ok_ack (sent o) ≡ false → post_in o ≡ [] → sends_in o ≡ [] → Acc t n h → Acc t n (Out i o ∷ h)
  unfolding posts sends
  acc_quiet h o a b c p s q =
      let e : advices t n (Out i o ∷ h) ≡ advices t n h = quiet_out t n i o h a b ∙ not_acked (is_ok_ack (sent o)) c in
      rw (e, p, s) q
    where
      not_acked : (b : Bool) → b ≡ false → add_accepted (count_of h) b (handled t h i) (advices t n h) ≡ advices t n h
      not_acked b e = rw e refl

  reply_posts : (src : Source) (m : Fields) (h : History) → post_in (reply_output src m h) ≡ []
  reply_posts Gate m h = refl
  reply_posts (ByLink l) m h = refl

  reply_sends : (src : Source) (m : Fields) (h : History) → is_advice_group (group m.kind) ≡ false → sends_in (reply_output src m h) ≡ []
  reply_sends Gate m h e = refl
  reply_sends (ByLink l) m h e = rw e refl

  acc_reply : (src : Source) (m : Fields) (h : History) → is_timer i ≡ false → is_advice_group (group m.kind) ≡ false → own_approval h i (reply_output src m h) ≡ None → is_ok_ack (Some m) ≡ false → Acc t n h → Acc t n (reply i src m h)
  acc_reply src m h timer kind own ack q = acc_quiet h (reply_output src m h) own (no_failed t h i (sent (reply_output src m h)) timer) (ap is_ok_ack (sent_reply src m h) ∙ ack) (reply_posts src m h) (reply_sends src m h kind) q

  acc_code : (src : Source) (m : Fields) (c : Bytes) (h : History) → is_timer i ≡ false → bytes_eq c code_00 ≡ false → Acc t n h → Acc t n (reply i src (response m c) h)
  acc_code src m c h timer n00 q =
      let code : bytes_eq (code_of (response m c)) code_00 ≡ false = ap (λ z. bytes_eq z code_00) (code_response m c) ∙ n00 in
      acc_reply src (response m c) h timer (ap (λ z. is_advice_group (group z)) (response_is_of_kind m c) ∙ response_no_advice m.kind)
      (no_own h i (reply_output src (response m c) h) (response m c) (sent_reply src (response m c) h) (and_right (is_answer (response m c).kind) (bytes_eq (code_of (response m c)) code_00) code))
      (and_right (is_ack_kind (group (response m c).kind)) (bytes_eq (code_of (response m c)) code_00) code) q

  -- what is kept

  data KeptOut (x : Fields) (h : History) (o : ReadOutput) : Type 0 where
    post_out : is_at_home t n x ≡ true → o ≡ Post x → KeptOut x h o
    send_out : (l : ℕ) (again : Bool) → o ≡ next_put l (as_kind (sent_kind (is_04xx x.kind) again) x) h → KeptOut x h o

  send_any : (x : Fields) (h : History) (Q : History → Type 0) → ((o : ReadOutput) → KeptOut x h o → Q (Out i o ∷ h)) → Q h → Q (send t n i x h)
  unfolding send
  send_any x h Q close q = go (own_way t n h x (forwarded h (key_of x))) refl
    where
      go : (w : Option ℕ) → own_way t n h x (forwarded h (key_of x)) ≡ w → Q (send_by i x w h)
      go None e = q
      go (Some l) e = close (next_put l (as_kind (sent_kind (is_04xx x.kind) (was_put h (identity_of x))) x) h) (send_out l (was_put h (identity_of x)) refl)

  keep_any : (x : Fields) (h : History) (Q : History → Type 0) → ((o : ReadOutput) → KeptOut x h o → Q (Out i o ∷ h)) → Q h → Q (keep t n past i x h)
  unfolding keep
  keep_any x h Q close q =
      cond_both (known t n past (identity_of x)) h (cond (is_at_home t n x) (emit i (Post x) h) (send t n i x h)) Q (λ _. q)
      (λ unknown. cond_both (is_at_home t n x) (emit i (Post x) h) (send t n i x h) Q
      (λ home. close (Post x) (post_out home refl))
      (λ away. send_any x h Q close q))

  kept_out_quiet : (x : Fields) (h : History) (o : ReadOutput) → KeptOut x h o → advices t n (Out i o ∷ h) ≡ advices t n h
  kept_out_quiet x h o (post_out home e) = quiet_out t n i o h (rw e refl) (rw e refl) ∙ rw e refl
  kept_out_quiet x h o (send_out l again e) =
      let y : Fields = as_kind (sent_kind (is_04xx x.kind) again) x in
      let a : is_answer (sent_kind (is_04xx x.kind) again) ≡ false = advice_no_answer (is_04xx x.kind) again in
      let b : is_ack_kind (group (sent_kind (is_04xx x.kind) again)) ≡ false = advice_no_ack (is_04xx x.kind) again in
      quiet_out t n i o h (rw (e, a) refl) (rw e (failed (is_timer i) refl (as_kind (sent_kind (is_04xx x.kind) again) x) a)) ∙ rw (e, b) refl
    where
      failed : (b : Bool) → is_timer i ≡ b → (y : Fields) → is_answer y.kind ≡ false → failed_key t h i (Some y) ≡ None
      failed true at y e = rw (at, e) refl
      failed false at y e = rw at refl

  kept_out_answer : (x : Fields) (h : History) (o : ReadOutput) (k : Key) → KeptOut x h o → answer (Out i o ∷ h) k ≡ answer h k
  unfolding answer
  kept_out_answer x h o k (post_out home e) = rw e (same (answer h k))
    where
      same : (w : Option Fields) → option_or w None ≡ w
      same None = refl
      same (Some a) = refl
  kept_out_answer x h o k (send_out l again e) =
      let a : is_answer (sent_kind (is_04xx x.kind) again) ≡ false = advice_no_answer (is_04xx x.kind) again in
      rw (e, a) (same (answer h k))
    where
      same : (w : Option Fields) → option_or w None ≡ w
      same None = refl
      same (Some a) = refl

  keep_advices : (x : Fields) (h : History) → advices t n (keep t n past i x h) ≡ advices t n h
  keep_advices x h = keep_any x h (λ z. advices t n z ≡ advices t n h) (λ o k. kept_out_quiet x h o k) refl

  send_advices : (x : Fields) (h : History) → advices t n (send t n i x h) ≡ advices t n h
  send_advices x h = send_any x h (λ z. advices t n z ≡ advices t n h) (λ o k. kept_out_quiet x h o k) refl

  keep_answer : (x : Fields) (h : History) (k : Key) → answer (keep t n past i x h) k ≡ answer h k
  keep_answer x h k = keep_any x h (λ z. answer z k ≡ answer h k) (λ o w. kept_out_answer x h o k w) refl

  send_answer : (x : Fields) (h : History) (k : Key) → answer (send t n i x h) k ≡ answer h k
  send_answer x h k = send_any x h (λ z. answer z k ≡ answer h k) (λ o w. kept_out_answer x h o k w) refl

  keep_opening : (x : Fields) (h : History) (k : Key) → opening t (keep t n past i x h) k ≡ opening t h k
  unfolding opening
  keep_opening x h k = keep_any x h (λ z. opening t z k ≡ opening t h k) (λ o w. refl) refl

  send_opening : (x : Fields) (h : History) (k : Key) → opening t (send t n i x h) k ≡ opening t h k
  unfolding opening
  send_opening x h k = send_any x h (λ z. opening t z k ≡ opening t h k) (λ o w. refl) refl

  send_posts : (x : Fields) (h : History) → posts (send t n i x h) ≡ posts h
  unfolding send posts
  send_posts x h = go (own_way t n h x (forwarded h (key_of x)))
    where
      go : (w : Option ℕ) → posts (send_by i x w h) ≡ posts h
      go None = refl
      go (Some l) = refl

  keep_posts : (x : Fields) (h : History) → posts (keep t n past i x h) ≡ kept_posts t n (known t n past (identity_of x)) x (posts h)
  unfolding keep posts kept_posts
  keep_posts x h = go (known t n past (identity_of x)) (is_at_home t n x) refl
    where
      go : (k b : Bool) → is_at_home t n x ≡ b → posts (cond k h (cond (is_at_home t n x) (emit i (Post x) h) (send t n i x h))) ≡ kept_posts t n k x (posts h)
      go true b at = refl
      go false true at = rw at refl
      go false false at = rw at (send_posts x h)

  send_sends : (x : Fields) (h : History) (u : ℕ × Fields) → IsIn u (sends (send t n i x h)) → IsIn u (sends h) ⊎ Alike x u.1
  unfolding sends
  send_sends x h u m = send_any x h (λ z. IsIn u (sends z) → IsIn u (sends h) ⊎ Alike x u.1) out inl m
    where
      out : (o : ReadOutput) → KeptOut x h o → IsIn u (sends_in o ++ sends h) → IsIn u (sends h) ⊎ Alike x u.1
      out o (post_out home e) m = inl (rw e at m)
      out o (send_out l again e) m =
          let g : is_advice_group (group (sent_kind (is_04xx x.kind) again)) ≡ true = advice_kind_group (is_04xx x.kind) again in
          ⊎_elim (λ here. inr (alike_more x (as_kind (sent_kind (is_04xx x.kind) again) x) u.1 (sent_alike x again) (alike_is (as_kind (sent_kind (is_04xx x.kind) again) x) u.1 (ap (λ (z : ℕ × Fields). z.1) here)))) inl (rw (e, g) at m)

  keep_sends : (x : Fields) (h : History) → KeptSends (known t n past (identity_of x)) x (sends h) (sends (keep t n past i x h))
  unfolding keep sends
  keep_sends x h u m = go (known t n past (identity_of x)) refl (is_at_home t n x) refl m
    where
      go : (k : Bool) → known t n past (identity_of x) ≡ k → (b : Bool) → is_at_home t n x ≡ b → IsIn u (sends (cond k h (cond (is_at_home t n x) (emit i (Post x) h) (send t n i x h)))) → IsIn u (sends h) ⊎ ((known t n past (identity_of x) ≡ false) × Alike x u.1)
      go true e b at m = inl m
      go false e true at m = inl (rw at at m)
      go false e false at m = ⊎_elim inl (λ a. inr (e, a)) (send_sends x h u (rw at at m))

  -- stand-in, where adv is what is known once its answer is put out, itself aside

  record Stood (k : Key) (adv : List Advice) (h h' : History) : Type 0 where
    acc : Acc t n h'
    others : (id : AdviceId) → (id.key ≡ k → ⊥) → list_any (has_identity id) (advices t n h') ≡ list_any (has_identity id) adv
    answers_same : (j : Key) → (j ≡ k → ⊥) → answer h' j ≡ answer h j
    opens_same : (j : Key) → opening t h' j ≡ opening t h j

  standin_acc : (k : Key) (op : Opening) (h : History) (adv : List Advice) → Accounts t n adv (posts h) (sends h) → opening t h k ≡ Some op → is_request op.message.kind ≡ true → key_of op.message ≡ k → has_00 h k ≡ false → brings_00 h k i ≡ false → ((c : Bytes) → add_made (λ m. made_reversal m (node_id t n)) (count_of h) (option_and_then (opening t h) (failed_key t h i (sent (reply_output op.source (response op.message c) h)))) (advices t n h) ≡ adv) → list_any (has_identity (identity_of (made_stand_in op.message (node_id t n)))) adv ≡ known t n past (identity_of (made_stand_in op.message (node_id t n))) → Stood k adv h (standin t n past i op h)
  unfolding standin posts sends
  standin_acc k op h adv q opens req key none brings mark fresh =
      cond_both (bytes_eq c code_00) (keep t n past i st h2) h2 (Stood k adv h) stands refuses
    where
      c : Bytes
      c = standin_code t n h op.message

      r : Fields
      r = response op.message c

      o : ReadOutput
      o = reply_output op.source r h

      h2 : History
      h2 = reply i op.source (response op.message (standin_code t n h op.message)) h

      st : Fields
      st = made_stand_in op.message (node_id t n)

      ST : Advice
      ST = record { message = made_stand_in op.message (node_id t n); count = count_of h; own = true; acked = false }

      kind : is_answer (response op.message (standin_code t n h op.message)).kind ≡ true
      kind = ap is_answer (response_is_of_kind op.message (standin_code t n h op.message)) ∙ response_answers op.message.kind req

      r_key : key_of (response op.message (standin_code t n h op.message)) ≡ k
      r_key = response_key op.message (standin_code t n h op.message) req ∙ key

      r_code : code_of (response op.message (standin_code t n h op.message)) ≡ standin_code t n h op.message
      r_code = code_response op.message (standin_code t n h op.message)

      said : sent (reply_output op.source (response op.message (standin_code t n h op.message)) h) ≡ Some (response op.message (standin_code t n h op.message))
      said = sent_reply op.source (response op.message (standin_code t n h op.message)) h

      no_ack : is_ok_ack (sent (reply_output op.source (response op.message (standin_code t n h op.message)) h)) ≡ false
      no_ack = ap is_ok_ack said ∙ and_left (is_ack_kind (group (response op.message (standin_code t n h op.message)).kind)) (bytes_eq (code_of (response op.message (standin_code t n h op.message))) code_00) (ap (λ z. is_ack_kind (group z)) (response_is_of_kind op.message (standin_code t n h op.message)) ∙ request_no_ack op.message.kind req)

      own_is : bytes_eq (standin_code t n h op.message) code_00 ≡ true → own_approval h i (reply_output op.source (response op.message (standin_code t n h op.message)) h) ≡ Some k
      own_is z =
          let z' : bytes_eq (code_of (response op.message (standin_code t n h op.message))) code_00 ≡ true = ap (λ y. bytes_eq y code_00) r_code ∙ z in
          rw (said, kind, z', r_key, none, brings) refl

      own_not : bytes_eq (standin_code t n h op.message) code_00 ≡ false → own_approval h i (reply_output op.source (response op.message (standin_code t n h op.message)) h) ≡ None
      own_not z = no_own h i (reply_output op.source (response op.message (standin_code t n h op.message)) h) (response op.message (standin_code t n h op.message)) said (and_right (is_answer (response op.message (standin_code t n h op.message)).kind) (bytes_eq (code_of (response op.message (standin_code t n h op.message))) code_00) (ap (λ y. bytes_eq y code_00) r_code ∙ z))

      marked : (own : Option Key) → own_approval h i (reply_output op.source (response op.message (standin_code t n h op.message)) h) ≡ own → advices t n h2 ≡ add_made (λ m. made_stand_in m (node_id t n)) (count_of h) (option_and_then (opening t h) own) adv
      marked own e = marks_out t n i (reply_output op.source (response op.message (standin_code t n h op.message)) h) h own adv e no_ack (mark (standin_code t n h op.message))

      posts2 : posts h2 ≡ posts h
      posts2 = ap (λ z. z ++ posts h) (reply_posts op.source (response op.message (standin_code t n h op.message)) h)

      sends2 : sends h2 ≡ sends h
      sends2 = ap (λ z. z ++ sends h) (reply_sends op.source (response op.message (standin_code t n h op.message)) h (ap (λ z. is_advice_group (group z)) (response_is_of_kind op.message (standin_code t n h op.message)) ∙ response_no_advice op.message.kind))

      other_answer : (j : Key) → (j ≡ k → ⊥) → answer h2 j ≡ answer h j
      other_answer j no_k = other_answers h i j (reply_output op.source (response op.message (standin_code t n h op.message)) h) (response op.message (standin_code t n h op.message)) said (λ e. no_k (sym e ∙ r_key))

      stands : bytes_eq (standin_code t n h op.message) code_00 ≡ true → Stood k adv h (keep t n past i st h2)
      stands z =
          let adv2 : advices t n h2 ≡ add_advice ST adv = marked (Some k) (own_is z) ∙ ap (λ w. add_made (λ m. made_stand_in m (node_id t n)) (count_of h) w adv) opens in
          let adv3 : advices t n (keep t n past i st h2) ≡ add_advice ST adv = keep_advices st h2 ∙ adv2 in
          let posts3 : posts (keep t n past i st h2) ≡ kept_posts t n (known t n past (identity_of st)) st (posts h) = keep_posts st h2 ∙ ap (kept_posts t n (known t n past (identity_of st)) st) posts2 in
          let sends3 : KeptSends (known t n past (identity_of st)) st (sends h) (sends (keep t n past i st h2)) = subst (λ z. KeptSends (known t n past (identity_of st)) st z (sends (keep t n past i st h2))) sends2 (keep_sends st h2) in
          let done = accounts_kept t n ST st (known t n past (identity_of st)) adv (posts h) (sends h) (sends (keep t n past i st h2)) q refl fresh sends3 in
          record {
            acc = subst (λ a. Accounts t n a (posts (keep t n past i st h2)) (sends (keep t n past i st h2))) (sym adv3) (subst (λ p. Accounts t n (add_advice ST adv) p (sends (keep t n past i st h2))) (sym posts3) done);
            others = λ id no_k. ap (list_any (has_identity id)) adv3 ∙ add_other id ST adv (λ e. no_k (ap AdviceId.key (sym e) ∙ (identity_key st ∙ (made_stand_in_key op.message (node_id t n) req ∙ key))));
            answers_same = λ j no_k. keep_answer st h2 j ∙ other_answer j no_k;
            opens_same = λ j. keep_opening st h2 j ∙ opening_out t i (reply_output op.source (response op.message (standin_code t n h op.message)) h) h j;
          }

      refuses : bytes_eq (standin_code t n h op.message) code_00 ≡ false → Stood k adv h h2
      refuses z =
          let adv2 : advices t n h2 ≡ adv = marked None (own_not z) in
          record {
            acc = subst (λ a. Accounts t n a (posts h2) (sends h2)) (sym adv2) (subst (λ p. Accounts t n adv p (sends h2)) (sym posts2) (subst (λ u. Accounts t n adv (posts h) u) (sym sends2) q));
            others = λ id no_k. ap (list_any (has_identity id)) adv2;
            answers_same = other_answer;
            opens_same = λ j. opening_out t i (reply_output op.source (response op.message (standin_code t n h op.message)) h) h j;
          }

  -- a key that is about to fail

  record Ready (h : History) (k : Key) : Type 0 where
    op : Opening
    was : opening t past k ≡ Some op
    opens : opening t h k ≡ Some op
    unanswered : answer h k ≡ None
    same : (id : AdviceId) → id.key ≡ k → list_any (has_identity id) (advices t n h) ≡ known t n past id

  record Failed (k : Key) (h h' : History) : Type 0 where
    acc : Acc t n h'
    others : (id : AdviceId) → (id.key ≡ k → ⊥) → list_any (has_identity id) (advices t n h') ≡ list_any (has_identity id) (advices t n h)
    answers_same : (j : Key) → (j ≡ k → ⊥) → answer h' j ≡ answer h j
    opens_same : (j : Key) → opening t h' j ≡ opening t h j

  fail_acc : (facts : NodeFacts t n past) (k : Key) (h : History) (ready : Ready h k) → is_timer i ≡ true → Acc t n h → Failed k h (fail t n past i (opening t past k) h)
  unfolding fail
  fail_acc facts k h ready timer q = subst (λ z. Failed k h (fail t n past i z h)) (sym (Ready.was ready)) (record {
    acc = Stood.acc stood;
    others = λ id no_k. Stood.others stood id no_k ∙ add_other id REV (advices t n h) (λ e. no_k (ap AdviceId.key (sym e) ∙ (identity_key rev ∙ rev_key)));
    answers_same = λ j no_k. Stood.answers_same stood j no_k ∙ keep_answer rev h j;
    opens_same = λ j. Stood.opens_same stood j ∙ keep_opening rev h j;
  })
    where
      op : Opening
      op = Ready.op ready

      w : Rattle.network_law.proofs.Node.Opened t n past k (Ready.op ready)
      w = facts.opens k (Ready.op ready) (Ready.was ready)

      rev : Fields
      rev = made_reversal (Opening.message (Ready.op ready)) (node_id t n)

      st : Fields
      st = made_stand_in (Opening.message (Ready.op ready)) (node_id t n)

      h1 : History
      h1 = keep t n past i rev h

      REV : Advice
      REV = record { message = rev; count = count_of h1; own = true; acked = false }

      rev_key : key_of rev ≡ k
      rev_key = made_reversal_key (Opening.message (Ready.op ready)) (node_id t n) w.formed.trace w.formed.time w.formed.acquirer w.request ∙ w.key

      st_key : key_of st ≡ k
      st_key = made_stand_in_key (Opening.message (Ready.op ready)) (node_id t n) w.request ∙ w.key

      opens1 : opening t h1 k ≡ Some op
      opens1 = keep_opening rev h k ∙ Ready.opens ready

      none1 : answer h1 k ≡ None
      none1 = keep_answer rev h k ∙ Ready.unanswered ready

      no_timer_00 : (j : ReadInput) → is_timer j ≡ true → brings_00 h1 k j ≡ false
      no_timer_00 (LinkDown l) e = refl
      no_timer_00 Tick e = refl
      no_timer_00 (Enter m) e = refl
      no_timer_00 (Take l s m) e = absurd (not_both false e refl)
      no_timer_00 (HostAnswer a c) e = absurd (not_both false e refl)
      no_timer_00 (LinkUp l) e = refl
      no_timer_00 (NewDate d) e = refl
      no_timer_00 (TakePacket lk sr pk) e = refl
      no_timer_00 (Lend br cd dt am) e = refl

      mark : (c : Bytes) → add_made (λ m. made_reversal m (node_id t n)) (count_of h1) (option_and_then (opening t h1) (failed_key t h1 i (sent (reply_output op.source (response op.message c) h1)))) (advices t n h1) ≡ add_advice REV (advices t n h)
      mark c =
          let said = sent_reply op.source (response op.message c) h1 in
          let kind : is_answer (response op.message c).kind ≡ true = ap is_answer (response_is_of_kind op.message c) ∙ response_answers op.message.kind w.request in
          let key : key_of (response op.message c) ≡ k = response_key op.message c w.request ∙ w.key in
          let f : failed_key t h1 i (sent (reply_output op.source (response op.message c) h1)) ≡ Some k = rw (said, timer, kind, key, opens1, none1) refl in
          let a : advices t n h1 ≡ advices t n h = keep_advices rev h in
          rw (f, opens1, a) refl

      q1 : Accounts t n (add_advice REV (advices t n h)) (posts h1) (sends h1)
      q1 = subst (λ p. Accounts t n (add_advice REV (advices t n h)) p (sends h1)) (sym (keep_posts rev h)) (accounts_kept t n REV rev (known t n past (identity_of rev)) (advices t n h) (posts h) (sends h) (sends h1) q refl (Ready.same ready (identity_of rev) (identity_key rev ∙ rev_key)) (keep_sends rev h))

      two : identity_of rev ≡ identity_of st → ⊥
      two e = apart (sym (reversal_reverses (Opening.message (Ready.op ready)) (node_id t n)) ∙ (ap AdviceId.kind e ∙ stand_in_stands (Opening.message (Ready.op ready)) (node_id t n)))
        where
          apart : Reversal ≡ StandIn → ⊥
          apart p = cc

      stood : Stood k (add_advice REV (advices t n h)) h1 (standin t n past i op h1)
      stood = standin_acc k op h1 (add_advice REV (advices t n h)) q1 opens1 w.request w.key (answered_00 h1 k none1) (no_timer_00 i timer) mark (add_other (identity_of st) REV (advices t n h) two ∙ Ready.same ready (identity_of st) (identity_key st ∙ st_key))

  fail_all_acc : (facts : NodeFacts t n past) (ks : List Key) (h : History) → NoRepeat ks → ((k : Key) → IsIn k ks → Ready h k) → is_timer i ≡ true → Acc t n h → Acc t n (fail_all t n past i ks h)
  unfolding fail_all
  fail_all_acc facts [] h single ready timer q = q
  fail_all_acc facts (k ∷ ks) h single ready timer q = fail_all_acc facts ks (fail t n past i (opening t past k) h) single.1 (λ j m. again j m (ready j (inr m))) timer (Failed.acc done)
    where
      done : Failed k h (fail t n past i (opening t past k) h)
      done = fail_acc facts k h (ready k (inl refl)) timer q

      again : (j : Key) → IsIn j ks → Ready h j → Ready (fail t n past i (opening t past k) h) j
      again j m r = record {
        op = Ready.op r;
        was = Ready.was r;
        opens = Failed.opens_same done j ∙ Ready.opens r;
        unanswered = Failed.answers_same done j other ∙ Ready.unanswered r;
        same = λ id e. Failed.others done id (λ e'. other (sym e ∙ e')) ∙ Ready.same r id e;
      }
        where
          other : j ≡ k → ⊥
          other e = single.0 (subst (λ z. IsIn z ks) e m)

  -- what is ready when the entry begins, and after advices are sent

  in_acc : late_key past (advices t n past) i ≡ None → Acc t n past → Acc t n (In i ∷ past)
  unfolding posts sends
  in_acc none q = subst (λ a. Accounts t n a (posts past) (sends past)) (sym (advices_in t n past i none)) (accounts_acked t n i (advices t n past) (posts past) (sends past) q)

  known_same : late_key past (advices t n past) i ≡ None → (id : AdviceId) → list_any (has_identity id) (advices t n (In i ∷ past)) ≡ known t n past id
  unfolding known
  known_same none id = ap (list_any (has_identity id)) (advices_in t n past i none) ∙ identity_acked id i (advices t n past)

  failing_ready : is_timer i ≡ true → late_key past (advices t n past) i ≡ None → (k : Key) → IsIn k (failing t past i) → Ready (In i ∷ past) k
  unfolding failing answer
  failing_ready timer none k m = go (opening t past k) refl (answer past k) refl (pend i (in_filter (fails t past i) (reverse (opened t past)) k m))
    where
      pend : (j : ReadInput) → fails t past j k ≡ true → pending t past k ≡ true
      pend (LinkDown l) f = (and_parts (pending t past k) _ f).0
      pend Tick f = (and_parts (pending t past k) _ f).0
      pend (Enter x) f = cc
      pend (Take l s x) f = cc
      pend (LinkUp l) f = cc
      pend (HostAnswer a c) f = cc
      pend (NewDate d) f = cc
      pend (TakePacket lk sr pk) f = cc
      pend (Lend br cd dt am) f = cc

      go : (w : Option Opening) → opening t past k ≡ w → (v : Option Fields) → answer past k ≡ v → (is_some (opening t past k) && is_none (answer past k)) ≡ true → Ready (In i ∷ past) k
      go None at v at' p = absurd (not_both false (rw at at p) refl)
      go (Some op) at (Some a) at' p = absurd (not_both (is_some (opening t past k) && is_none (answer past k)) p (and_right (is_some (opening t past k)) (is_none (answer past k)) (ap is_none at')))
      go (Some op) at None at' p = record { op = op; was = at; opens = stays_open t past i k op at; unanswered = at'; same = λ id e. known_same none id }

  due_alike : (h : History) (as' : List Advice) → Type 0
  due_alike h as' = (a : Advice) → IsIn a as' → (b : Advice) × IsIn b (advices t n h) × Alike b.message a.message

  send_acc : (a : Advice) (h : History) → (b : Advice) × IsIn b (advices t n h) × Alike b.message a.message → Acc t n h → Acc t n (send t n i a.message h)
  send_acc a h b q =
      let moved = accounts_sent t n (advices t n h) (posts h) (sends h) (sends (send t n i a.message h)) q (λ u m. ⊎_elim inl (λ new. inr (b.0, b.1, alike_more b.0.message a.message u.1 b.2 new)) (send_sends a.message h u m)) in
      subst (λ z. Accounts t n z (posts (send t n i a.message h)) (sends (send t n i a.message h))) (sym (send_advices a.message h)) (subst (λ p. Accounts t n (advices t n h) p (sends (send t n i a.message h))) (sym (send_posts a.message h)) moved)

  record AllSent (h h' : History) : Type 0 where
    acc : Acc t n h'
    advices_same : advices t n h' ≡ advices t n h
    answers_same : (k : Key) → answer h' k ≡ answer h k
    opens_same : (k : Key) → opening t h' k ≡ opening t h k

  -- a packet leaves all of it
  packet_sent : (l s : ℕ) (p : GrantPacket) (h : History) → Acc t n h → AllSent h (Out i (PutPacket l s p) ∷ h)
  unfolding answer opening
  packet_sent l s p h q = record {
    acc = acc_quiet h (PutPacket l s p) refl refl refl refl refl q;
    advices_same = quiet_out t n i (PutPacket l s p) h refl refl;
    answers_same = λ k. same (answer h k);
    opens_same = λ k. refl;
  }
    where
      same : (w : Option Fields) → option_or w None ≡ w
      same None = refl
      same (Some a) = refl

  grant_sent : (g : Lent) (h : History) → Acc t n h → AllSent h (send_grant t n i g h)
  unfolding send_grant
  grant_sent g h q = go (first_up h (links_between t n g.borrower))
    where
      go : (w : Option ℕ) → AllSent h (send_grant_by i g w h)
      go None = record { acc = q; advices_same = refl; answers_same = λ k. refl; opens_same = λ k. refl }
      go (Some l) = packet_sent l (suc (put_count h l)) (packets.Grant g.grant) h q

  abbrev DueFromAcc : History → Due → Type 0
  DueFromAcc h (DueAdvice a) = (b : Advice) × IsIn b (advices t n h) × Alike b.message a.message
  DueFromAcc h (DueGrant g) = 0 ≤ 0

  due_stays : (h h' : History) → advices t n h' ≡ advices t n h → (x : Due) → DueFromAcc h x → DueFromAcc h' x
  due_stays h h' same (DueAdvice a) r = (r.0, subst (IsIn r.0) (sym same) r.1, r.2)
  due_stays h h' same (DueGrant g) r = r

  send_all_acc : (xs : List Due) (h : History) → ((x : Due) → IsIn x xs → DueFromAcc h x) → Acc t n h → AllSent h (send_all t n i xs h)
  unfolding send_all
  send_all_acc [] h from q = record { acc = q; advices_same = refl; answers_same = λ k. refl; opens_same = λ k. refl }
  send_all_acc (DueGrant g ∷ xs) h from q =
      let first = grant_sent g h q in
      let rest = send_all_acc xs (send_grant t n i g h) (λ x m. due_stays h (send_grant t n i g h) (AllSent.advices_same first) x (from x (inr m))) (AllSent.acc first) in
      record {
        acc = AllSent.acc rest;
        advices_same = AllSent.advices_same rest ∙ AllSent.advices_same first;
        answers_same = λ k. AllSent.answers_same rest k ∙ AllSent.answers_same first k;
        opens_same = λ k. AllSent.opens_same rest k ∙ AllSent.opens_same first k;
      }
  send_all_acc (DueAdvice a ∷ xs) h from q =
      let same = send_advices a.message h in
      let rest = send_all_acc xs (send t n i a.message h) (λ x m. due_stays h (send t n i a.message h) same x (from x (inr m))) (send_acc a h (from (DueAdvice a) (inl refl)) q) in
      record {
        acc = AllSent.acc rest;
        advices_same = AllSent.advices_same rest ∙ same;
        answers_same = λ k. AllSent.answers_same rest k ∙ send_answer a.message h k;
        opens_same = λ k. AllSent.opens_same rest k ∙ send_opening a.message h k;
      }

  ready_sent : (h h' : History) → AllSent h h' → (k : Key) → Ready h k → Ready h' k
  ready_sent h h' sent' k r = record {
    op = Ready.op r;
    was = Ready.was r;
    opens = AllSent.opens_same sent' k ∙ Ready.opens r;
    unanswered = AllSent.answers_same sent' k ∙ Ready.unanswered r;
    same = λ id e. ap (list_any (has_identity id)) (AllSent.advices_same sent') ∙ Ready.same r id e;
  }

  -- requests

  request_acc : (late : LateFacts t n past) (m : Fields) (src : Source) (o : Option Opening) → handled_as t past i m src → is_request m.kind ≡ true → opening t past (key_of m) ≡ o → Acc t n (In i ∷ past) → Acc t n (on_request t n past i m src o)
  unfolding on_request
  request_acc late m src (Some op) e r f q =
      cond_both (same_source op.source src && content_eq (content op.message) (content m)) (on_repeat i src (answer past (key_of m)) (In i ∷ past)) (reply i src (response m code_94) (In i ∷ past)) (Acc t n)
      (λ _. again (answer past (key_of m)) refl)
      (λ _. acc_code src m code_94 (In i ∷ past) (handled_no_timer t past i m src e) refl q)
    where
      again : (w : Option Fields) → answer past (key_of m) ≡ w → Acc t n (on_repeat i src w (In i ∷ past))
      again None at = q
      again (Some a) at =
          let p = answer_is past (key_of m) a at in
          acc_reply src a (In i ∷ past) (handled_no_timer t past i m src e) (answer_no_advice a.kind p.0) (own (bytes_eq (code_of a) code_00) refl p.0 p.1) (and_left (is_ack_kind (group a.kind)) (bytes_eq (code_of a) code_00) (answer_no_ack a.kind p.0)) q
        where
          own : (b : Bool) → bytes_eq (code_of a) code_00 ≡ b → is_answer a.kind ≡ true → key_of a ≡ key_of m → own_approval (In i ∷ past) i (reply_output src a (In i ∷ past)) ≡ None
          own false z kind key = no_own (In i ∷ past) i (reply_output src a (In i ∷ past)) a (sent_reply src a (In i ∷ past)) (and_right (is_answer a.kind) (bytes_eq (code_of a) code_00) z)
          own true z kind key =
              let has : has_00 (In i ∷ past) (key_of m) ≡ true = has_in past i (key_of m) (answer_has_00 past (key_of m) a at z) in
              let said = sent_reply src a (In i ∷ past) in
              rw (said, kind, z, key, has) refl
  request_acc late m src None e r f q =
      cond_both (reversed t n past (key_of m)) (reply i src (response m code_68) (In i ∷ past)) (cond (not (is_good_card (el m 2))) (reply i src (response m code_14) (In i ∷ past)) (on_issuer t n past i m src (issuer t (card_of m)))) (Acc t n)
      (λ _. acc_code src m code_68 (In i ∷ past) timer refl q)
      (λ _. cond_both (not (is_good_card (el m 2))) (reply i src (response m code_14) (In i ∷ past)) (on_issuer t n past i m src (issuer t (card_of m))) (Acc t n)
      (λ _. acc_code src m code_14 (In i ∷ past) timer refl q)
      (λ _. by_issuer (issuer t (card_of m))))
    where
      timer : is_timer i ≡ false
      timer = handled_no_timer t past i m src e

      no_brought : (j : ReadInput) → handled t past j ≡ Some (record { message = m; source = src }) → brings_00 (In i ∷ past) (key_of m) j ≡ false
      no_brought j e = request_brings_none t past (In i ∷ past) j m src e r

      none_before : answer past (key_of m) ≡ None
      none_before = unopened late (key_of m) f

      stands : Acc t n (standin t n past i (opening_now past i m src) (In i ∷ past))
      stands = Stood.acc (standin_acc (key_of m) (opening_now past i m src) (In i ∷ past) (advices t n (In i ∷ past)) q (opens_now t past i m src e r f) r refl (answered_00 (In i ∷ past) (key_of m) (answer_in past i (key_of m) ∙ none_before)) (no_brought i e)
          (λ c. ap (λ w. add_made (λ m. made_reversal m (node_id t n)) (count_of (In i ∷ past)) (option_and_then (opening t (In i ∷ past)) w) (advices t n (In i ∷ past))) (no_failed t (In i ∷ past) i (sent (reply_output src (response m c) (In i ∷ past))) timer))
          (known_same (late_none t past (advices t n past) i m src e (request_no_answer m.kind r)) (identity_of (made_stand_in m (node_id t n)))))

      by_way : (w : Option ℕ) → Acc t n (on_forward t n past i m src w)
      by_way None = stands
      by_way (Some l) = acc_quiet (In i ∷ past) (next_put l (as_kind K0100 m) (In i ∷ past)) refl (no_failed t (In i ∷ past) i (Some (as_kind K0100 m)) timer) refl refl refl q

      by_issuer : (w : Option Issuer) → Acc t n (on_issuer t n past i m src w)
      by_issuer None = acc_code src m code_92 (In i ∷ past) timer refl q
      by_issuer (Some s) = cond_both (nat_lt 65536 (load t n past + 2)) (reply i src (response m code_96) (In i ∷ past)) (cond (is_home s n) (emit i (Ask (suc (ask_count past)) (as_kind K0100 m)) (In i ∷ past)) (on_forward t n past i m src (first_up past (route_links t n (card_of m))))) (Acc t n)
          (λ _. acc_code src m code_96 (In i ∷ past) timer refl q)
          (λ _. cond_both (is_home s n) (emit i (Ask (suc (ask_count past)) (as_kind K0100 m)) (In i ∷ past)) (on_forward t n past i m src (first_up past (route_links t n (card_of m)))) (Acc t n)
          (λ _. acc_quiet (In i ∷ past) (Ask (suc (ask_count past)) (as_kind K0100 m)) refl refl refl refl refl q)
          (λ _. by_way (first_up past (route_links t n (card_of m)))))

  -- reversals and advices

  accept_mid : (m : Fields) (src : Source) (h : History) → handled t h i ≡ Some (record { message = m; source = src }) → is_kept_group (group m.kind) ≡ true → is_timer i ≡ false → advices t n (reply i src (response m code_00) h) ≡ add_advice (record { message = as_kept m; count = count_of h; own = false; acked = false }) (advices t n h)
  accept_mid m src h e g timer = quiet_out t n i (reply_output src (response m code_00) h) h own (no_failed t h i (sent (reply_output src (response m code_00) h)) timer) ∙ added (is_ok_ack (sent (reply_output src (response m code_00) h))) (handled t h i) ack e
    where
      own : own_approval h i (reply_output src (response m code_00) h) ≡ None
      own = no_own h i (reply_output src (response m code_00) h) (response m code_00) (sent_reply src (response m code_00) h) (and_left (is_answer (response m code_00).kind) (bytes_eq (code_of (response m code_00)) code_00) (ap is_answer (response_is_of_kind m code_00) ∙ acked_kind m.kind g))

      ack : is_ok_ack (sent (reply_output src (response m code_00) h)) ≡ true
      ack = ap is_ok_ack (sent_reply src (response m code_00) h) ∙ and_from (is_ack_kind (group (response m code_00).kind)) (bytes_eq (code_of (response m code_00)) code_00) (ap (λ z. is_ack_kind (group z)) (response_is_of_kind m code_00) ∙ ack_of_kept m.kind g) (ap (λ c. bytes_eq c code_00) (code_response m code_00))

      added : (b : Bool) (o : Option Handled) → b ≡ true → o ≡ Some (record { message = m; source = src }) → add_accepted (count_of h) b o (advices t n h) ≡ add_advice (record { message = as_kept m; count = count_of h; own = false; acked = false }) (advices t n h)
      added b o e f = let g' = kept_is_advice (group m.kind) g in rw (e, f, g') refl

  accept_posts : (m : Fields) (src : Source) (h : History) → posts (reply i src (response m code_00) h) ≡ posts h
  unfolding posts
  accept_posts m src h = ap (λ z. z ++ posts h) (reply_posts src (response m code_00) h)

  accept_sends : (m : Fields) (src : Source) (h : History) → sends (reply i src (response m code_00) h) ≡ sends h
  unfolding sends
  accept_sends m src h = ap (λ z. z ++ sends h) (reply_sends src (response m code_00) h (ap (λ z. is_advice_group (group z)) (response_is_of_kind m code_00) ∙ response_no_advice m.kind))

  again_acc : (m : Fields) (src : Source) (h : History) → handled t h i ≡ Some (record { message = m; source = src }) → is_kept_group (group m.kind) ≡ true → is_timer i ≡ false → list_any (has_identity (identity_of m)) (advices t n h) ≡ true → Acc t n h → Acc t n (reply i src (response m code_00) h)
  again_acc m src h e g timer known' q =
      let a : advices t n (reply i src (response m code_00) h) ≡ advices t n h = accept_mid m src h e g timer ∙ in_add_known (record { message = as_kept m; count = count_of h; own = false; acked = false }) (advices t n h) (ap (λ z. list_any (has_identity z) (advices t n h)) (kept_alike m).id ∙ known') in
      subst (λ x. Accounts t n x (posts (reply i src (response m code_00) h)) (sends (reply i src (response m code_00) h))) (sym a) (subst (λ p. Accounts t n (advices t n h) p (sends (reply i src (response m code_00) h))) (sym (accept_posts m src h)) (subst (λ u. Accounts t n (advices t n h) (posts h) u) (sym (accept_sends m src h)) q))

  accept_acc : (m : Fields) (src : Source) (h : History) → handled t h i ≡ Some (record { message = m; source = src }) → is_kept_group (group m.kind) ≡ true → is_timer i ≡ false → ((id : AdviceId) → list_any (has_identity id) (advices t n h) ≡ known t n past id) → Acc t n h → Acc t n (keep t n past i (as_kept m) (reply i src (response m code_00) h))
  accept_acc m src h e g timer same q =
      subst (λ a. Accounts t n a (posts (keep t n past i x h2)) (sends (keep t n past i x h2))) (sym adv3) (subst (λ p. Accounts t n (add_advice A (advices t n h)) p (sends (keep t n past i x h2))) (sym posts3) (accounts_kept t n A x (known t n past (identity_of x)) (advices t n h) (posts h) (sends h) (sends (keep t n past i x h2)) q refl (same (identity_of x)) sends3))
    where
      x : Fields
      x = as_kept m

      h2 : History
      h2 = reply i src (response m code_00) h

      A : Advice
      A = record { message = as_kept m; count = count_of h; own = false; acked = false }

      adv3 : advices t n (keep t n past i x h2) ≡ add_advice A (advices t n h)
      adv3 = keep_advices x h2 ∙ accept_mid m src h e g timer

      posts3 : posts (keep t n past i x h2) ≡ kept_posts t n (known t n past (identity_of x)) x (posts h)
      posts3 = keep_posts x h2 ∙ ap (kept_posts t n (known t n past (identity_of x)) x) (accept_posts m src h)

      sends3 : KeptSends (known t n past (identity_of x)) x (sends h) (sends (keep t n past i x h2))
      sends3 = subst (λ z. KeptSends (known t n past (identity_of x)) x z (sends (keep t n past i x h2))) (accept_sends m src h) (keep_sends x h2)

  -- what a 68 to a pending request leaves
  pending_acc : (m : Fields) (src : Source) (b : Bool) (o : Option Opening) → handled_as t past i m src → is_kept_group (group m.kind) ≡ true → Acc t n (In i ∷ past) → (Acc t n (answer_pending t i b o code_68 (In i ∷ past))) × (handled t (answer_pending t i b o code_68 (In i ∷ past)) i ≡ Some (record { message = m; source = src })) × ((id : AdviceId) → list_any (has_identity id) (advices t n (answer_pending t i b o code_68 (In i ∷ past))) ≡ known t n past id)
  pending_acc m src true (Some op) e g q =
      let timer = handled_no_timer t past i m src e in
      let code : bytes_eq (code_of (response op.message code_68)) code_00 ≡ false = ap (λ z. bytes_eq z code_00) (code_response op.message code_68) in
      let o = reply_output op.source (response op.message code_68) (In i ∷ past) in
      let a : advices t n (Out i (reply_output op.source (response op.message code_68) (In i ∷ past)) ∷ In i ∷ past) ≡ advices t n (In i ∷ past) = marks_none t n i (reply_output op.source (response op.message code_68) (In i ∷ past)) (In i ∷ past) (no_own (In i ∷ past) i (reply_output op.source (response op.message code_68) (In i ∷ past)) (response op.message code_68) (sent_reply op.source (response op.message code_68) (In i ∷ past)) (and_right (is_answer (response op.message code_68).kind) (bytes_eq (code_of (response op.message code_68)) code_00) code)) (no_failed t (In i ∷ past) i (sent (reply_output op.source (response op.message code_68) (In i ∷ past))) timer) (ap is_ok_ack (sent_reply op.source (response op.message code_68) (In i ∷ past)) ∙ and_right (is_ack_kind (group (response op.message code_68).kind)) (bytes_eq (code_of (response op.message code_68)) code_00) code) in
      (acc_code op.source op.message code_68 (In i ∷ past) timer refl q, handled_out t (In i ∷ past) i i (reply_output op.source (response op.message code_68) (In i ∷ past)) ∙ (handled_in t past i ∙ e), λ id. ap (list_any (has_identity id)) a ∙ known_same (late_none t past (advices t n past) i m src e (kept_no_answer m.kind g)) id)
  pending_acc m src true None e g q = (q, handled_in t past i ∙ e, known_same (late_none t past (advices t n past) i m src e (kept_no_answer m.kind g)))
  pending_acc m src false o e g q = (q, handled_in t past i ∙ e, known_same (late_none t past (advices t n past) i m src e (kept_no_answer m.kind g)))

  reversal_acc : (m : Fields) (src : Source) → handled_as t past i m src → group m.kind ≡ groups.Reversal → Acc t n (In i ∷ past) → Acc t n (on_reversal t n past i m src)
  unfolding on_reversal
  reversal_acc m src e g q =
      let timer = handled_no_timer t past i m src e in
      let ok : is_kept_group (group m.kind) ≡ true = rw g refl in
      cond_both (not (is_good_card (el m 2))) (reply i src (response m code_14) (In i ∷ past)) _ (Acc t n)
      (λ _. acc_code src m code_14 (In i ∷ past) timer refl q)
      (λ _. cond_both (is_none (issuer t (card_of m))) (reply i src (response m code_92) (In i ∷ past)) _ (Acc t n)
      (λ _. acc_code src m code_92 (In i ∷ past) timer refl q)
      (λ _. cond_both (other_content (opening t past (key_of m)) m) (reply i src (response m code_94) (In i ∷ past)) _ (Acc t n)
      (λ _. acc_code src m code_94 (In i ∷ past) timer refl q)
      (λ _. cond_both (known t n past (identity_of m)) (reply i src (response m code_00) (In i ∷ past)) _ (Acc t n)
      (λ is. again_acc m src (In i ∷ past) (handled_in t past i ∙ e) ok timer (known_same (late_none t past (advices t n past) i m src e (kept_no_answer m.kind ok)) (identity_of m) ∙ is) q)
      (λ _. (let p = pending_acc m src (pending t past (key_of m)) (opening t past (key_of m)) e ok q in accept_acc m src (answer_pending t i (pending t past (key_of m)) (opening t past (key_of m)) code_68 (In i ∷ past)) p.1 ok timer p.2 p.0)))))

  advice_acc : (m : Fields) (src : Source) → handled_as t past i m src → group m.kind ≡ groups.Advice → Acc t n (In i ∷ past) → Acc t n (on_advice t n past i m src)
  unfolding on_advice
  advice_acc m src e g q =
      let timer = handled_no_timer t past i m src e in
      let ok : is_kept_group (group m.kind) ≡ true = rw g refl in
      let same = known_same (late_none t past (advices t n past) i m src e (kept_no_answer m.kind ok)) in
      cond_both (not (is_good_card (el m 2))) (reply i src (response m code_14) (In i ∷ past)) _ (Acc t n)
      (λ _. acc_code src m code_14 (In i ∷ past) timer refl q)
      (λ _. cond_both (is_none (issuer t (card_of m))) (reply i src (response m code_92) (In i ∷ past)) _ (Acc t n)
      (λ _. acc_code src m code_92 (In i ∷ past) timer refl q)
      (λ _. cond_both (known t n past (identity_of m)) (reply i src (response m code_00) (In i ∷ past)) _ (Acc t n)
      (λ is. again_acc m src (In i ∷ past) (handled_in t past i ∙ e) ok timer (same (identity_of m) ∙ is) q)
      (λ _. accept_acc m src (In i ∷ past) (handled_in t past i ∙ e) ok timer same q)))

  late_acc : (k : Key) (op : Opening) → late_key past (advices t n past) i ≡ Some k → opening t past k ≡ Some op → Acc t n past → Acc t n (keep t n past i (made_reversal op.message (node_id t n)) (In i ∷ past))
  unfolding posts sends known
  late_acc k op is opens q =
      let x : Fields = made_reversal op.message (node_id t n) in
      let A : Advice = record { message = made_reversal op.message (node_id t n); count = count_of past; own = true; acked = false } in
      let a1 : advices t n (In i ∷ past) ≡ add_advice A (map (acked_by i) (advices t n past)) = marks_in t n i past k op is opens in
      let fresh : list_any (has_identity (identity_of x)) (map (acked_by i) (advices t n past)) ≡ known t n past (identity_of x) = identity_acked (identity_of x) i (advices t n past) in
      let done = accounts_kept t n A x (known t n past (identity_of x)) (map (acked_by i) (advices t n past)) (posts past) (sends past) (sends (keep t n past i x (In i ∷ past))) (accounts_acked t n i (advices t n past) (posts past) (sends past) q) refl fresh (keep_sends x (In i ∷ past)) in
      subst (λ a. Accounts t n a (posts (keep t n past i x (In i ∷ past))) (sends (keep t n past i x (In i ∷ past)))) (sym (keep_advices x (In i ∷ past) ∙ a1)) (subst (λ p. Accounts t n (add_advice A (map (acked_by i) (advices t n past))) p (sends (keep t n past i x (In i ∷ past)))) (sym (keep_posts x (In i ∷ past))) done)

  -- answers

  late_none_by : (k : Key) (b : Bool) → late_key past (advices t n past) i ≡ cond b (Some k) None → b ≡ false → late_key past (advices t n past) i ≡ None
  late_none_by k b e f = e ∙ ap (λ z. cond z (Some k) None) f

  code_acc : (late : LateFacts t n past) (facts : NodeFacts t n past) (k : Key) (c other : Bytes) (o : Option Opening) → opening t past k ≡ o → is_timer i ≡ false → late_key past (advices t n past) i ≡ cond (bytes_eq c code_00 && comes_late past (advices t n past) k) (Some k) None → (bytes_eq c code_00 ≡ true → brings_00 (In i ∷ past) k i ≡ true) → bytes_eq other code_00 ≡ false → Acc t n past → Acc t n (on_code t n past i k c other o)
  code_acc late facts k c other None e timer lk brought n00 q = in_acc (late_none_by k (bytes_eq c code_00 && comes_late past (advices t n past) k) lk (not_late (answer past k) refl)) q
    where
      not_late : (w : Option Fields) → answer past k ≡ w → (bytes_eq c code_00 && comes_late past (advices t n past) k) ≡ false
      not_late w at =
          let none : answer past k ≡ None = unopened late k e in
          and_right (bytes_eq c code_00) (comes_late past (advices t n past) k) (and_left (code_is_not_00 (answer past k)) (not (list_any (Rattle.network_law.specs.Traces.reverses_key k) (advices t n past))) (ap code_is_not_00 none))
  code_acc late facts k c other (Some op) e timer lk brought n00 q =
      cond_both (pending t past k) (reply i op.source (response op.message (as_code other c)) (In i ∷ past)) _ (Acc t n)
      (λ pend. passes (in_acc (late_none_by k (bytes_eq c code_00 && comes_late past (advices t n past) k) lk (not_late pend)) q))
      (λ _. cond_both (bytes_eq c code_00 && comes_late past (advices t n past) k) (keep t n past i (made_reversal op.message (node_id t n)) (In i ∷ past)) (In i ∷ past) (Acc t n)
      (λ is. undone (lk ∙ ap (λ z. cond z (Some k) None) is))
      (λ is. in_acc (late_none_by k (bytes_eq c code_00 && comes_late past (advices t n past) k) lk is) q))
    where
      w : Rattle.network_law.proofs.Node.Opened t n past k op
      w = facts.opens k op e

      not_late : pending t past k ≡ true → (bytes_eq c code_00 && comes_late past (advices t n past) k) ≡ false
      not_late pend =
          let p = and_parts (is_some (opening t past k)) (is_none (answer past k)) pend in
          let none : answer past k ≡ None = is_none_is (answer past k) p.1 in
          and_right (bytes_eq c code_00) (comes_late past (advices t n past) k) (and_left (code_is_not_00 (answer past k)) (not (list_any (Rattle.network_law.specs.Traces.reverses_key k) (advices t n past))) (ap code_is_not_00 none))
        where
          is_none_is : (v : Option Fields) → is_none v ≡ true → v ≡ None
          is_none_is None e = refl
          is_none_is (Some a) e = absurd (not_both false e refl)

      passes : Acc t n (In i ∷ past) → Acc t n (reply i op.source (response op.message (as_code other c)) (In i ∷ past))
      passes q' = go (bytes_eq c code_94) refl (bytes_eq c code_00) refl
        where
          go : (b : Bool) → bytes_eq c code_94 ≡ b → (d : Bool) → bytes_eq c code_00 ≡ d → Acc t n (reply i op.source (response op.message (as_code other c)) (In i ∷ past))
          go true at d at' = rw at (acc_code op.source op.message other (In i ∷ past) timer n00 q')
          go false at false at' = rw at (acc_code op.source op.message c (In i ∷ past) timer at' q')
          go false at true at' =
              let said = sent_reply op.source (response op.message c) (In i ∷ past) in
              let kind : is_answer (response op.message c).kind ≡ true = ap is_answer (response_is_of_kind op.message c) ∙ response_answers op.message.kind w.request in
              let key : key_of (response op.message c) ≡ k = response_key op.message c w.request ∙ w.key in
              let code : bytes_eq (code_of (response op.message c)) code_00 ≡ true = ap (λ z. bytes_eq z code_00) (code_response op.message c) ∙ at' in
              let b : brings_00 (In i ∷ past) k i ≡ true = brought at' in
              let own : own_approval (In i ∷ past) i (reply_output op.source (response op.message c) (In i ∷ past)) ≡ None = rw (said, kind, code, key) (drop (has_00 (In i ∷ past) k) (brings_00 (In i ∷ past) k i) b) in
              rw at (acc_reply op.source (response op.message c) (In i ∷ past) timer (answer_no_advice (response op.message c).kind kind) own (and_left (is_ack_kind (group (response op.message c).kind)) (bytes_eq (code_of (response op.message c)) code_00) (answer_no_ack (response op.message c).kind kind)) q')
            where
              drop : (x y : Bool) → y ≡ true → ◌≡◌ {A = Option Key} (cond (x || y) None (Some k)) None
              drop true y e = refl
              drop false y e = rw e refl

      undone : late_key past (advices t n past) i ≡ Some k → Acc t n (keep t n past i (made_reversal op.message (node_id t n)) (In i ∷ past))
      undone is = late_acc k op is e q

  -- by what is handled

  gate_late : (m : Fields) → handled_as t past i m Gate → late_key past (advices t n past) i ≡ None
  gate_late m e = gate_brings_none t past i (advices t n past) m e

  group_acc : (late : LateFacts t n past) (facts : NodeFacts t n past) (m : Fields) (src : Source) (g : Group) → handled_as t past i m src → group m.kind ≡ g → Acc t n past → Acc t n (on_group t n past i m src g)
  unfolding on_answer
  group_acc late facts m src groups.AuthorizationRequest e g q = request_acc late m src (opening t past (key_of m)) e (request_from_group m.kind g) refl (in_acc (late_none t past (advices t n past) i m src e (request_no_answer m.kind (request_from_group m.kind g))) q)
  group_acc late facts m src groups.Advice e g q = advice_acc m src e g (in_acc (late_none t past (advices t n past) i m src e (kept_no_answer m.kind (rw g refl))) q)
  group_acc late facts m src groups.Reversal e g q = reversal_acc m src e g (in_acc (late_none t past (advices t n past) i m src e (kept_no_answer m.kind (rw g refl))) q)
  group_acc late facts m src groups.AdviceResponse e g q = in_acc (late_none t past (advices t n past) i m src e (ack_no_answer m.kind g)) q
  group_acc late facts m src groups.ReversalResponse e g q = in_acc (late_none t past (advices t n past) i m src e (reply_no_answer m.kind g)) q
  group_acc late facts m Gate groups.AuthorizationResponse e g q = in_acc (gate_late m e) q
  group_acc late facts m (ByLink l) groups.AuthorizationResponse e g q =
      cond_both (is_link l (forwarded past (key_of m))) (on_code t n past i (key_of m) (code_of m) code_96 (opening t past (key_of m))) (In i ∷ past) (Acc t n)
      (λ on. code_acc late facts (key_of m) (code_of m) code_96 (opening t past (key_of m)) refl (handled_no_timer t past i m (ByLink l) e) (lk (is_link l (forwarded past (key_of m))) refl on) brought refl q)
      (λ off. in_acc (ap (late_key past (advices t n past)) f.1 ∙ not_here (bytes_eq (code_of m) code_00) refl off) q)
    where
      f : (s : ℕ) × (i ≡ Take l s m)
      f = from_link t past i m l e

      ans : is_answer m.kind ≡ true
      ans = answer_from_group m.kind g

      lk : (b : Bool) → is_link l (forwarded past (key_of m)) ≡ b → b ≡ true → late_key past (advices t n past) i ≡ cond (bytes_eq (code_of m) code_00 && comes_late past (advices t n past) (key_of m)) (Some (key_of m)) None
      lk b at on = ap (late_key past (advices t n past)) f.1 ∙ here (bytes_eq (code_of m) code_00) refl (at ∙ on)
        where
          here : (z : Bool) → bytes_eq (code_of m) code_00 ≡ z → is_link l (forwarded past (key_of m)) ≡ true → late_key past (advices t n past) (Take l f.0 m) ≡ cond (bytes_eq (code_of m) code_00 && comes_late past (advices t n past) (key_of m)) (Some (key_of m)) None
          here true z on = rw (ans, z, on) refl
          here false z on = rw (ans, z) refl

      not_here : (z : Bool) → bytes_eq (code_of m) code_00 ≡ z → is_link l (forwarded past (key_of m)) ≡ false → late_key past (advices t n past) (Take l f.0 m) ≡ None
      not_here true z off = rw (ans, z, off) refl
      not_here false z off = rw (ans, z) refl

      brought : bytes_eq (code_of m) code_00 ≡ true → brings_00 (In i ∷ past) (key_of m) i ≡ true
      brought z = rw (f.1, ans, key_eq_refl (key_of m), z) refl

-- through an entry and a trace

acc_decide : (t : Network) (n : ℕ) (past : History) (i : ReadInput) → LateFacts t n past → NodeFacts t n past → Acc t n past → Acc t n (decide t n past i)
unfolding decide handled on_host ask_key
acc_decide t n past (Enter m) late facts q = group_acc t n past (Enter m) late facts (Rattle.network_law.specs.Traces.dated (Rattle.network_law.specs.Traces.date_of t past) (Rattle.iso_message.specs.Fields.remove_element m 33)) Gate (group (Rattle.network_law.specs.Traces.dated (Rattle.network_law.specs.Traces.date_of t past) (Rattle.iso_message.specs.Fields.remove_element m 33)).kind) refl refl q
acc_decide t n past (Take l s m) late facts q = group_acc t n past (Take l s m) late facts m (ByLink l) (group m.kind) refl refl q
acc_decide t n past (LinkUp l) late facts q = in_acc t n past (LinkUp l) refl q
acc_decide t n past (NewDate d) late facts q = in_acc t n past (NewDate d) refl q
acc_decide t n past (LinkDown l) late facts q = fail_all_acc t n past (LinkDown l) facts (failing t past (LinkDown l)) (In (LinkDown l) ∷ past) (failing_once t past (LinkDown l)) (λ k m. failing_ready t n past (LinkDown l) refl refl k m) refl (in_acc t n past (LinkDown l) refl q)
acc_decide t n past Tick late facts q = fail_all_acc t n past Tick facts (failing t past Tick) (send_all t n Tick (due t n past) (In Tick ∷ past)) (failing_once t past Tick) (λ k m. ready_sent t n past Tick (In Tick ∷ past) (send_all t n Tick (due t n past) (In Tick ∷ past)) all k (failing_ready t n past Tick refl refl k m)) refl (AllSent.acc all)
  where
    from : (x : Due) → IsDueFrom t n past Tick x → DueFromAcc t n past Tick (In Tick ∷ past) x
    from (DueAdvice a) d = (let b = in_acked_back Tick a (advices t n past) d.0 in (b.0, subst (IsIn b.0) (sym (advices_in t n past Tick refl)) b.1, alike_is b.0.message a.message b.2))
    from (DueGrant g) d = omega arith

    all : AllSent t n past Tick (In Tick ∷ past) (send_all t n Tick (due t n past) (In Tick ∷ past))
    all = send_all_acc t n past Tick (due t n past) (In Tick ∷ past) (λ x m. from x (due_from t n past x m)) (in_acc t n past Tick refl q)
acc_decide t n past (TakePacket l s (packets.Grant g)) late facts q = AllSent.acc (packet_sent t n past (TakePacket l s (packets.Grant g)) l (suc (put_count (In (TakePacket l s (packets.Grant g)) ∷ past) l)) (packets.Ack g.lender g.number) (In (TakePacket l s (packets.Grant g)) ∷ past) (in_acc t n past (TakePacket l s (packets.Grant g)) refl q))
acc_decide t n past (TakePacket l s (packets.Ack lender number)) late facts q = in_acc t n past (TakePacket l s (packets.Ack lender number)) refl q
acc_decide t n past (Lend m c d a) late facts q = newest (grants t n (In (Lend m c d a) ∷ past))
  where
    start : Acc t n (In (Lend m c d a) ∷ past)
    start = in_acc t n past (Lend m c d a) refl q

    newest : (gs : List Lent) → Acc t n (send_newest t n (Lend m c d a) gs (In (Lend m c d a) ∷ past))
    newest [] = start
    newest (g ∷ gs) = AllSent.acc (grant_sent t n past (Lend m c d a) g (In (Lend m c d a) ∷ past) start)
acc_decide t n past (HostAnswer a c) late facts q = go (ask_key past a) refl
  where
    go : (w : Option Key) → ask_key past a ≡ w → Acc t n (on_host t n past (HostAnswer a c) c w)
    go None e = in_acc t n past (HostAnswer a c) (rw e refl) q
    go (Some k) e = code_acc t n past (HostAnswer a c) late facts k c code_05 (opening t past k) refl refl (rw e refl) (λ z. rw (e, key_eq_refl k, z) refl) refl q

pub legal_acc : (t : Network) (n : ℕ) (es : List Rattle.network_law.specs.Entries.ReadEntry) → Rattle.network_law.proofs.ReadRuns.IsLegalRead t n es → Acc t n (Rattle.network_law.specs.Entries.read_history es)
unfolding Rattle.network_law.specs.Entries.read_history advices posts sends posted_of
legal_acc t n [] l = record { home = λ a m. absurd m; posted = λ x m. absurd m; put = λ u m. absurd m; one = λ id. omega arith; single = λ a b m. absurd m }
legal_acc t n (e ∷ es) l = subst (Acc t n) (sym l.1.outputs) (acc_decide t n (Rattle.network_law.specs.Entries.read_history es) e.input (Rattle.network_law.proofs.Late.legal_late t n es l.0) (Rattle.network_law.proofs.Node.legal_facts t n es l.0) (legal_acc t n es l.0))

-- posts and puts as events

pub post_has : (h : History) (x : Fields) → IsIn x (posts h) → (i : ReadInput) × Has (Out i (Post x)) h
unfolding posts
post_has [] x m = absurd m
post_has (In i ∷ h) x m = let r = post_has h x m in (r.0, inr r.1)
post_has (Out i (Post y) ∷ h) x m = ⊎_elim (λ e. (i, inl (ap (λ z. Out i (Post z)) e))) (λ old. (let r = post_has h x old in (r.0, inr r.1))) m
post_has (Out i (Put l s y) ∷ h) x m = let r = post_has h x m in (r.0, inr r.1)
post_has (Out i (Answer y) ∷ h) x m = let r = post_has h x m in (r.0, inr r.1)
post_has (Out i (Ask a y) ∷ h) x m = let r = post_has h x m in (r.0, inr r.1)
post_has (Out i (PutPacket l s p) ∷ h) x m = let r = post_has h x m in (r.0, inr r.1)

pub post_counted : (h : History) (id : AdviceId) → Rattle.network_law.specs.Claims.post_count h id ≡ posted_of id (posts h)
unfolding Rattle.network_law.specs.Claims.post_count posts posted_of
post_counted [] id = refl
post_counted (In i ∷ h) id = post_counted h id
post_counted (Out i (Post y) ∷ h) id = ap (λ z. (cond (identity_eq (identity_of y) id) 1 0) + z) (post_counted h id)
post_counted (Out i (Put l s y) ∷ h) id = let e = post_counted h id in omega (arith, e)
post_counted (Out i (Answer y) ∷ h) id = let e = post_counted h id in omega (arith, e)
post_counted (Out i (Ask a y) ∷ h) id = let e = post_counted h id in omega (arith, e)
post_counted (Out i (PutPacket l s p) ∷ h) id = let e = post_counted h id in omega (arith, e)

pub put_is_sent : (h : History) (i : ReadInput) (l s : ℕ) (x : Fields) → Has (Out i (Put l s x)) h → is_advice_group (group x.kind) ≡ true → IsIn (l, x) (sends h)
unfolding sends
put_is_sent [] i l s x m g = absurd m
put_is_sent (In j ∷ h) i l s x m g = ⊎_elim (λ bad. absurd (no_in j i (Put l s x) bad)) (λ old. put_is_sent h i l s x old g) m
put_is_sent (Out j o ∷ h) i l s x m g = ⊎_elim (λ here. (let e = out_is j i o (Put l s x) here in rw (e, g) (inl refl))) (λ old. later (sends_in o) (sends h) (put_is_sent h i l s x old g)) m
  where
    later : (us vs : List (ℕ × Fields)) → IsIn (l, x) vs → IsIn (l, x) (us ++ vs)
    later us vs m = in_later us vs (l, x) m
