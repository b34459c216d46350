-- The mark of a failing key stands exactly where the key fails.
use Rattle.std.proofs.Common.{◌≡◌, ℕ, List, [], ◌∷◌, reverse, Option, Some, None, is_some, is_none, Bool, true, false, cond, ◌&&◌, ◌||◌, refl, sym, ap, ◌∙◌, subst, inl, inr, ⊎_elim, ◌⊎◌}
use Rattle.std.proofs.lemmas.Bool.{and_parts, or_right, or_cases}
use Rattle.std.proofs.lemmas.Option.{same_Some}
use Rattle.std.specs.Option.{option_or, option_and_then}
use Rattle.std.specs.List.{list_any}
use Rattle.net_rows.specs.Network.{Network}
use Rattle.network_law.specs.Tables.{node_id}
use Rattle.network_law.specs.Traces.{ReadInput, Enter, Take, LinkUp, LinkDown, Tick, HostAnswer, NewDate, TakePacket, Lend, ReadOutput, In, Out, History, handled, Opening, opening, opened, with_new, key_handled, answer, answers, sent, own_approval, Advice, advices, add_made, has_identity, failed_key, is_key, is_ok_ack, is_timer, pending, fails, count_of, known, IsIn}
use Rattle.network_law.specs.Decision.{decide, failing, send_all, due, sent_kind, standin_code}
use Rattle.network_law.specs.Refusals.{refusal}
use Rattle.network_law.specs.Entries.{ReadEntry, read_history}
use Rattle.network_law.proofs.ReadRuns.{IsLegalRead, IsFormed}
use Rattle.network_law.specs.Legal.{marked_failed}
use Rattle.message_keys.proofs.Equality.{key_eq_refl, key_eq_is}
use Rattle.network_law.proofs.Emits.{Allowed, forwarding, asking, standing_in, passing, declining, repeating, refusing, acking, sending, posting, putting_packet, decide_keeps, stays_open, handled_no_timer, failing_ticks}
use Rattle.network_law.proofs.Node.{NodeFacts, EntryFacts, OpensNow, opening_in_cases, legal_facts, facts_in, facts_out, keeps_issuers, answers_is}
use Rattle.network_law.proofs.Elements.{response_key}
use Rattle.network_law.proofs.Used.{reply_message, add_made_keeps, add_accepted_keeps, advice_no_answer}
use Rattle.network_law.proofs.Fails.{all_answered}
use Rattle.network_law.proofs.Origins.{known_more, added_known}
use Rattle.network_law.proofs.Covered.{filter_in, reverse_in}
use Rattle.iso_message.specs.Fields.{Fields, as_kind}
use Rattle.message_elements.specs.declared.kind.Kind.TheVariants.{K0100}
use Rattle.card_digits.specs.declared.key.Key.{Key}
use Rattle.message_keys.specs.Keys.{key_of, identity_of}
use Rattle.message_elements.specs.Groups.{is_answer, is_04xx}
use Rattle.iso_message.specs.Made.{made_reversal, made_stand_in}

not_both : (b : Bool) → b ≡ true → b ≡ false → ⊥
not_both b p q = cc

none_some : {X : Type 0} (x : X) → None ≡ Some x → ⊥
none_some x p = cc

-- an open key is one of the open keys
opened_in : (t : Network) (h : History) (k : Key) (op : Opening) → opening t h k ≡ Some op → IsIn k (opened t h)
unfolding opened opening
opened_in t [] k op e = absurd (none_some op e)
opened_in t (Out i o ∷ h) k op e = opened_in t h k op e
opened_in t (In i ∷ h) k op e = by (opening t h k) refl (opened_in t h k)
  where
    later : (b : Bool) (w : Option Key) → IsIn k (opened t h) → IsIn k (with_new b w (opened t h))
    later true (Some j) m = inr m
    later true None m = m
    later false w m = m

    now : opening t h k ≡ None → OpensNow t h i k op → IsIn k (with_new (is_none (option_and_then (opening t h) (key_handled (handled t h i)))) (key_handled (handled t h i)) (opened t h))
    now none v =
        let r = v.request in
        let x : handled t h i ≡ Some (record { message = op.message; source = op.source }) = v.is_handled in
        let j = v.key in
        let key : key_handled (handled t h i) ≡ Some k = rw (x, r, j) refl in
        rw (key, none) (inl refl)

    by : (w : Option Opening) → opening t h k ≡ w → ((op' : Opening) → opening t h k ≡ Some op' → IsIn k (opened t h)) → IsIn k (with_new (is_none (option_and_then (opening t h) (key_handled (handled t h i)))) (key_handled (handled t h i)) (opened t h))
    by (Some old) at ih = later (is_none (option_and_then (opening t h) (key_handled (handled t h i)))) (key_handled (handled t h i)) (ih old at)
    by None at ih = ⊎_elim (λ was. absurd (none_some op (sym at ∙ was))) (now at) (opening_in_cases t h i k op e)

-- no mark where k doesn't fail

record Unmarked (t : Network) (n : ℕ) (past : History) (i : ReadInput) (k : Key) (h : History) : Type 0 where
  entry : EntryFacts t n past i h
  only : marked_failed t h k ≡ true → fails t past i k ≡ true

-- what the mark of a key says
record MarkNow (t : Network) (h : History) (i : ReadInput) (o : ReadOutput) (k : Key) : Type 0 where
  message : Fields
  is : sent o ≡ Some message
  timer : is_timer i ≡ true
  answer_kind : is_answer message.kind ≡ true
  key : key_of message ≡ k

mark_now : (t : Network) (h : History) (i : ReadInput) (o : ReadOutput) (k : Key) → is_key k (failed_key t h i (sent o)) ≡ true → MarkNow t h i o k
mark_now t h i o k e = by_message (sent o) refl e
  where
    by_test : (y : Fields) → sent o ≡ Some y → (b : Bool) → (is_timer i && is_answer y.kind && pending t h (key_of y)) ≡ b → is_key k (cond (is_timer i && is_answer y.kind && pending t h (key_of y)) (Some (key_of y)) None) ≡ true → MarkNow t h i o k
    by_test y is true at e =
        let p = and_parts (is_timer i && is_answer y.kind) (pending t h (key_of y)) at in
        let r = and_parts (is_timer i) (is_answer y.kind) p.0 in
        record { message = y; is = is; timer = r.0; answer_kind = r.1; key = key_eq_is (key_of y) k (rw at at e) }
    by_test y is false at e = absurd (not_both false (rw at at e) refl)

    by_message : (w : Option Fields) → sent o ≡ w → is_key k (failed_key t h i (sent o)) ≡ true → MarkNow t h i o k
    by_message None is e = absurd (not_both false (rw is at e) refl)
    by_message (Some y) is e = by_test y is (is_timer i && is_answer y.kind && pending t h (key_of y)) refl (rw is at e)

unmarked_out : (t : Network) (n : ℕ) (past : History) (i : ReadInput) (facts : NodeFacts t n past) (k : Key) (h : History) (o : ReadOutput) → Unmarked t n past i k h → Allowed t n past i h o → Unmarked t n past i k (Out i o ∷ h)
unfolding marked_failed
unmarked_out t n past i facts k h o q allowed = record {
  entry = facts_out t n past i h o facts (Unmarked.entry q) allowed;
  only = λ e. ⊎_elim (Unmarked.only q) (λ now. by_case (mark_now t h i o k now) allowed) (or_cases (marked_failed t h k) (is_key k (failed_key t h i (sent o))) e);
}
  where
    ends : {A : Type 0} (b : Bool) → b ≡ true → b ≡ false → A
    ends b p r = absurd (not_both b p r)

    by_case : MarkNow t h i o k → Allowed t n past i h o → fails t past i k ≡ true
    by_case w (forwarding f) = ends (is_answer (MarkNow.message w).kind) (MarkNow.answer_kind w) (ap (λ z. is_answer (Fields.kind z)) (sym (same_Some (as_kind K0100 f.message) (MarkNow.message w) (ap sent (sym f.is) ∙ MarkNow.is w))))
    by_case w (asking f) = absurd (none_some (MarkNow.message w) (ap sent (sym f.is) ∙ MarkNow.is w))
    by_case w (standing_in f) =
        let now : opening t h f.opens.key ≡ Some f.op = (Unmarked.entry q).opening_is f.opens.key ∙ f.opens.is in
        let x = (Unmarked.entry q).node.opens f.opens.key f.op now in
        let same = reply_message f.op.source _ h o (MarkNow.message w) f.is (MarkNow.is w) in
        let key : f.opens.key ≡ k = sym x.key ∙ (sym (response_key f.op.message (standin_code t n h f.op.message) x.request) ∙ (ap key_of same ∙ MarkNow.key w)) in
        ⊎_elim (λ v. ends (is_timer i) (MarkNow.timer w) v.no_timer) (λ v. subst (λ z. fails t past i z ≡ true) key v.fails_now) f.how
    by_case w (passing f) = ⊎_elim (λ v. ends (is_timer i) (MarkNow.timer w) (ap is_timer v.input)) (λ v. ends (is_timer i) (MarkNow.timer w) (ap is_timer v.input)) f.via
    by_case w (declining f) = ⊎_elim (λ v. ends (is_timer i) (MarkNow.timer w) v.no_timer) (λ v. ends (is_timer i) (MarkNow.timer w) (handled_no_timer t past i v.message v.source v.is_handled)) f.how
    by_case w (repeating f) = ends (is_timer i) (MarkNow.timer w) f.no_timer
    by_case w (refusing f) = ends (is_timer i) (MarkNow.timer w) (handled_no_timer t past i f.message f.source f.is_handled)
    by_case w (acking f) = ends (is_timer i) (MarkNow.timer w) (handled_no_timer t past i f.message f.source f.is_handled)
    by_case w (sending f) = ends (is_answer (MarkNow.message w).kind) (MarkNow.answer_kind w) (ap (λ z. is_answer (Fields.kind z)) (sym (same_Some (as_kind (sent_kind (is_04xx f.message.kind) f.again) f.message) (MarkNow.message w) (ap sent (sym f.is) ∙ MarkNow.is w))) ∙ advice_no_answer (is_04xx f.message.kind) f.again)
    by_case w (posting f) = absurd (none_some (MarkNow.message w) (ap sent (sym f.is) ∙ MarkNow.is w))
    by_case w (putting_packet f) = absurd (none_some (MarkNow.message w) (ap sent (sym f.is) ∙ MarkNow.is w))

unmarked_decide : (t : Network) (n : ℕ) (past : History) (i : ReadInput) (k : Key) → IsFormed i → refusal t n past i ≡ None → NodeFacts t n past → marked_failed t (decide t n past i) k ≡ true → fails t past i k ≡ true
unfolding marked_failed
unmarked_decide t n past i k form ok f e = Unmarked.only q e
  where
    q : Unmarked t n past i k (decide t n past i)
    q = decide_keeps t n past i (Unmarked t n past i k) (λ h o q allowed. unmarked_out t n past i f k h o q allowed) (keeps_issuers t n past f) (record { entry = record { node = facts_in t n past i form ok f; opening_is = λ j. refl }; only = λ bad. absurd (not_both false bad refl) })

-- the mark where k fails, and its reversal

record Marked (t : Network) (n : ℕ) (k : Key) (op : Opening) (h : History) : Type 0 where
  opens : opening t h k ≡ Some op
  mark : (answer h k ≡ None) ⊎ ((marked_failed t h k ≡ true) × (list_any (has_identity (identity_of (made_reversal op.message (node_id t n)))) (advices t n h) ≡ true))

made_known : (t : Network) (n : ℕ) (count : ℕ) (o : Option Opening) (op : Opening) (as' : List Advice) → o ≡ Some op → list_any (has_identity (identity_of (made_reversal op.message (node_id t n)))) (add_made (λ m. made_reversal m (node_id t n)) count o as') ≡ true
made_known t n count o op as' e = rw e (added_known (record { message = made_reversal op.message (node_id t n); count = count; own = true; acked = false }) as')

marked_out : (t : Network) (n : ℕ) (k : Key) (op : Opening) (i : ReadInput) (o : ReadOutput) (h : History) → is_timer i ≡ true → Marked t n k op h → Marked t n k op (Out i o ∷ h)
unfolding opening answer marked_failed advices
marked_out t n k op i o h timer q = record { opens = Marked.opens q; mark = ⊎_elim fresh (λ m. inr (rw (m.0) refl, known_more t n (Out i o) h (identity_of (made_reversal op.message (node_id t n))) m.1)) (Marked.mark q) }
  where
    fresh : answer h k ≡ None → (option_or (answer h k) (answers k (sent o)) ≡ None) ⊎ (((marked_failed t h k || is_key k (failed_key t h i (sent o))) ≡ true) × (list_any (has_identity (identity_of (made_reversal op.message (node_id t n)))) (advices t n (Out i o ∷ h)) ≡ true))
    fresh none = go (answers k (sent o)) refl
      where
        go : (w : Option Fields) → answers k (sent o) ≡ w → (option_or (answer h k) (answers k (sent o)) ≡ None) ⊎ (((marked_failed t h k || is_key k (failed_key t h i (sent o))) ≡ true) × (list_any (has_identity (identity_of (made_reversal op.message (node_id t n)))) (advices t n (Out i o ∷ h)) ≡ true))
        go None at = inl (rw (none, at) refl)
        go (Some a) at =
            let w = answers_is k (sent o) a at in
            let now = Marked.opens q in
            let f : failed_key t h i (sent o) ≡ Some k = rw (w.0, timer, w.1, w.2, now, none) refl in
            let found : option_and_then (opening t h) (failed_key t h i (sent o)) ≡ Some op = rw f now in
            inr (
              or_right (marked_failed t h k) (is_key k (failed_key t h i (sent o))) (ap (is_key k) f ∙ key_eq_refl k),
              add_accepted_keeps (has_identity (identity_of (made_reversal op.message (node_id t n)))) (count_of h) (is_ok_ack (sent o)) (handled t h i) (add_made (λ m. made_stand_in m (node_id t n)) (count_of h) (option_and_then (opening t h) (own_approval h i o)) (add_made (λ m. made_reversal m (node_id t n)) (count_of h) (option_and_then (opening t h) (failed_key t h i (sent o))) (advices t n h)))
                  (add_made_keeps (has_identity (identity_of (made_reversal op.message (node_id t n)))) (λ m. made_stand_in m (node_id t n)) (count_of h) (option_and_then (opening t h) (own_approval h i o)) (add_made (λ m. made_reversal m (node_id t n)) (count_of h) (option_and_then (opening t h) (failed_key t h i (sent o))) (advices t n h))
                  (made_known t n (count_of h) (option_and_then (opening t h) (failed_key t h i (sent o))) op (advices t n h) found)),
            )

-- a key that fails
record FailsAt (t : Network) (past : History) (i : ReadInput) (k : Key) : Type 0 where
  op : Opening
  opens : opening t past k ≡ Some op
  unanswered : answer past k ≡ None
  timer : is_timer i ≡ true
  member : IsIn k (failing t past i)

fails_at : (t : Network) (past : History) (i : ReadInput) (k : Key) → fails t past i k ≡ true → FailsAt t past i k
unfolding failing
fails_at t past i k e = go (opening t past k) refl (answer past k) refl (parts i e).0
  where
    parts : (j : ReadInput) → fails t past j k ≡ true → (pending t past k ≡ true) × (is_timer j ≡ true)
    parts (LinkDown l) f = ((and_parts (pending t past k) _ f).0, refl)
    parts Tick f = ((and_parts (pending t past k) _ f).0, refl)
    parts (Enter x) f = cc
    parts (Take l s x) f = cc
    parts (LinkUp l) f = cc
    parts (HostAnswer a c) f = cc
    parts (NewDate d) f = cc
    parts (TakePacket lk sr pk) f = cc
    parts (Lend br cd dt am) f = cc

    go : (w : Option Opening) → opening t past k ≡ w → (v : Option Fields) → answer past k ≡ v → pending t past k ≡ true → FailsAt t past i k
    go None at v at' p = absurd (not_both false (rw at at p) refl)
    go (Some op) at (Some a) at' p = absurd (not_both (is_none (answer past k)) ((and_parts (is_some (opening t past k)) (is_none (answer past k)) p).1) (ap is_none at'))
    go (Some op) at None at' p = record { op = op; opens = at; unanswered = at'; timer = (parts i e).1; member = filter_in (fails t past i) (reverse (opened t past)) k (reverse_in (opened t past) k (opened_in t past k op at)) e }

marks_end : (t : Network) (n : ℕ) (k : Key) (op : Opening) (h : History) → Marked t n k op h → is_some (answer h k) ≡ true → (marked_failed t h k ≡ true) × (list_any (has_identity (identity_of (made_reversal op.message (node_id t n)))) (advices t n h) ≡ true)
marks_end t n k op h q e = ⊎_elim (λ none. absurd (not_both (is_some (answer h k)) e (ap is_some none))) (λ m. m) (Marked.mark q)

fails_decide : (t : Network) (n : ℕ) (past : History) (i : ReadInput) (k : Key) (w : FailsAt t past i k) → NodeFacts t n past → (marked_failed t (decide t n past i) k ≡ true) × (list_any (has_identity (identity_of (made_reversal (Opening.message (FailsAt.op w)) (node_id t n)))) (advices t n (decide t n past i)) ≡ true)
unfolding decide answer
fails_decide t n past i k w facts = marks_end t n k (FailsAt.op w) (decide t n past i) marked (ends i (FailsAt.timer w) (FailsAt.member w))
  where
    marked : Marked t n k (FailsAt.op w) (decide t n past i)
    marked = decide_keeps t n past i (Marked t n k (FailsAt.op w)) (λ h o q _. marked_out t n k (FailsAt.op w) i o h (FailsAt.timer w) q) (keeps_issuers t n past facts) (record { opens = stays_open t past i k (FailsAt.op w) (FailsAt.opens w); mark = inl (FailsAt.unanswered w) })

    ends : (j : ReadInput) → is_timer j ≡ true → IsIn k (failing t past j) → is_some (answer (decide t n past j) k) ≡ true
    ends (LinkDown l) tm m = all_answered t n past (LinkDown l) facts tm k (FailsAt.op w) (FailsAt.opens w) (failing_ticks t past (LinkDown l) k m).0 (failing t past (LinkDown l)) (In (LinkDown l) ∷ past) m (failing_ticks t past (LinkDown l))
    ends Tick tm m = all_answered t n past Tick facts tm k (FailsAt.op w) (FailsAt.opens w) (failing_ticks t past Tick k m).0 (failing t past Tick) (send_all t n Tick (due t n past) (In Tick ∷ past)) m (failing_ticks t past Tick)
    ends (Enter x) tm m = cc
    ends (Take l s x) tm m = cc
    ends (LinkUp l) tm m = cc
    ends (HostAnswer a c) tm m = cc
    ends (NewDate d) tm m = cc
    ends (TakePacket lk sr pk) tm m = cc
    ends (Lend br cd dt am) tm m = cc

-- the laws

pub fails_are_marked : (t : Network) (n : ℕ) (e : ReadEntry) (es : List ReadEntry) (k : Key) → IsLegalRead t n (e ∷ es) → marked_failed t (read_history (e ∷ es)) k ≡ fails t (read_history es) e.input k
unfolding read_history
fails_are_marked t n e es k l = ap (λ h. marked_failed t h k) l.1.outputs ∙ both (marked_failed t (decide t n (read_history es) e.input) k) (fails t (read_history es) e.input k) (λ m. unmarked_decide t n (read_history es) e.input k l.1.formed l.1.accepted (legal_facts t n es l.0) m) (λ f. (fails_decide t n (read_history es) e.input k (fails_at t (read_history es) e.input k f) (legal_facts t n es l.0)).0)
  where
    both : (a b : Bool) → (a ≡ true → b ≡ true) → (b ≡ true → a ≡ true) → a ≡ b
    both true b f g = sym (f refl)
    both false true f g = g refl
    both false false f g = refl

pub fails_are_reversed : (t : Network) (n : ℕ) (e : ReadEntry) (es : List ReadEntry) (k : Key) → IsLegalRead t n (e ∷ es) → fails t (read_history es) e.input k ≡ true → (op : Opening) × (opening t (read_history es) k ≡ Some op) × (known t n (read_history (e ∷ es)) (identity_of (made_reversal op.message (node_id t n))) ≡ true)
unfolding read_history known
fails_are_reversed t n e es k l f =
    let w = fails_at t (read_history es) e.input k f in
    (FailsAt.op w, FailsAt.opens w, ap (λ h. list_any (has_identity (identity_of (made_reversal (Opening.message (FailsAt.op w)) (node_id t n)))) (advices t n h)) l.1.outputs ∙ (fails_decide t n (read_history es) e.input k w (legal_facts t n es l.0)).1)
