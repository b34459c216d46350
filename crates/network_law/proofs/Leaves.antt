-- What reversals leave of own approvals: they come after the approval, agree with its request, and take no more than its amount.
use Rattle.std.proofs.Common.{◌≡◌, ℕ, ◌≤◌, List, [], ◌∷◌, map, Option, Some, None, is_some, is_none, Bool, true, false, not, ◌&&◌, refl, sym, ap, ◌∙◌, subst, inl, inr, ⊎_elim, ◌⊎◌, bytes_eq, unwrap_or, arith}
use Rattle.std.proofs.lemmas.Bool.{and_parts, cond_both, not-true, ltb-false}
use Rattle.std.proofs.lemmas.Option.{same_Some}
use Rattle.std.specs.Option.{option_or, option_and_then, option_map}
use Rattle.std.specs.List.{list_any}
use Rattle.card_digits.specs.Numbers.{decimal}
use Rattle.card_digits.specs.declared.key.Key.{Key}
use Rattle.message_elements.specs.declared.kind.Kind.{Kind}
use Rattle.message_elements.specs.declared.kind.Group.TheVariants as groups
use Rattle.message_keys.specs.declared.keys.AdviceId.{AdviceId}
use Rattle.message_keys.specs.Amounts.{number_in, actual_amount}
use Rattle.iso_message.specs.Fields.{Fields, el, get, has, remove_element, set_element}
use Rattle.message_elements.specs.Groups.{group, is_request, is_answer, is_reversal, is_04xx, is_advice_group}
use Rattle.message_keys.specs.Keys.{key_of, key_eq, own_key, part, content, identity_of, code_of}
use Rattle.message_elements.specs.Codes.{code_00, code_68, code_94}
use Rattle.iso_message.specs.Made.{response, made_reversal, made_stand_in}
use Rattle.iso_message.proofs.Changes.{get_remove}
use Rattle.message_keys.proofs.AmountLemmas.{actual_none}
use Rattle.net_rows.specs.Network.{Network}
use Rattle.network_law.specs.declared.fault.StepFault.TheVariants.{TypeNotForGate, Missing, ForeignAcquirer, Replacement}
use Rattle.network_law.specs.Cards.{Bytes}
use Rattle.network_law.specs.Tables.{node_id, is_attached}
use Rattle.network_law.specs.Traces.{Source, ReadInput, Enter, Take, LinkUp, LinkDown, Tick, HostAnswer, NewDate, TakePacket, Lend, ReadOutput, Event, In, Out, History, Handled, handled, Opening, opening, answer, answers, sent, pending, fails, Approval, approval_by, approval_of, approvals, own_approval, Advice, advices, add_advice, add_made, add_accepted, acked_by, has_identity, reverses_key, reversed, left, known, late_key, failed_key, is_ok_ack, as_kept, is_timer, count_of, date_of, dated, IsIn}
use Rattle.network_law.specs.Decision.{decide, reply, reply_output, answer_pending, on_handled, on_request}
use Rattle.network_law.specs.Refusals.{refusal, when, entered_kind, taken_kind, required_entered, required_taken, missing, strange_actual, is_above}
use Rattle.network_law.specs.Entries.{ReadEntry, read_history}
use Rattle.network_law.proofs.ReadRuns.{IsFormed, IsLegalRead}
use Rattle.network_law.proofs.Refused.{or_none, when_none}
use Rattle.message_keys.proofs.Equality.{key_eq_is, key_eq_refl}
use Rattle.network_law.proofs.Emits.{Allowed, StandingIn, Acking, OpenedFirst, Failed, decide_keeps, handled_as, handled_no_timer, stays_open, in_append}
use Rattle.network_law.proofs.Node.{NodeFacts, OpensNow, opening_in_cases, legal_facts, facts_out, keeps_issuers, response_is_of_kind, request_no_04xx, el_remove}
use Rattle.network_law.proofs.Elements.{code_response, response_key}
use Rattle.network_law.proofs.Used.{OwnFacts, own_now, own_stands, own_in_entry, has_00_more, brings_more, sent_reply, add_made_keeps}
use Rattle.network_law.proofs.Late.{handled_in, handled_out, response_answers, kept_reversal}
use Rattle.network_law.proofs.Provenance.{in_add, in_acked, any_in, accepted_of, reversed_back, reversal_is_04xx, as_kept_04xx, as_kept_content, advice_04xx, answer_no_ack, good_agrees, acking_case}
use Rattle.network_law.proofs.Origins.{known_more}
use Rattle.network_law.proofs.Plain.{leaves_one, leaves_least}
use Rattle.network_law.proofs.Accounts.{Alike}
use Rattle.network_law.proofs.AdviceMarks.{kept_alike}

none_some : {X : Type 0} (x : X) → None ≡ Some x → ⊥
none_some x p = cc

not_both : (b : Bool) → b ≡ true → b ≡ false → ⊥
not_both b p q = cc

-- members

pub any_member : {X : Type 0} (p : X → Bool) (xs : List X) → list_any p xs ≡ true → (x : X) × IsIn x xs × (p x ≡ true)
any_member p [] e = absurd (not_both false e refl)
any_member p (x ∷ xs) e = go (p x) refl (any_member p xs)
  where
    go : (b : Bool) → p x ≡ b → (list_any p xs ≡ true → (y : _) × IsIn y xs × (p y ≡ true)) → (y : _) × IsIn y (x ∷ xs) × (p y ≡ true)
    go true at rest = (x, inl refl, at)
    go false at rest = let r = rest (rw at at e) in (r.0, inr r.1, r.2)

-- of a list to which a made advice is added, one that isn't made stood there before
in_made_other : (a : Advice) (make : Fields → Fields) (count : ℕ) (o : Option Opening) (as' : List Advice) → a.own ≡ false → IsIn a (add_made make count o as') → IsIn a as'
in_made_other a make count None as' e m = m
in_made_other a make count (Some op) as' e m = ⊎_elim (λ same. absurd (not_both (Advice.own a) (sym (ap Advice.own same)) e)) (λ r. r) (in_add a (record { message = make op.message; count = count; own = true; acked = false }) as' m)

-- an accepted one is new, or stood there before
record NewIn (count : ℕ) (b : Bool) (o : Option Handled) (as' : List Advice) (a : Advice) : Type 0 where
  brought : Handled
  acked : b ≡ true
  is_handled : o ≡ Some brought
  advice : is_advice_group (group brought.message.kind) ≡ true
  is : a.message ≡ as_kept brought.message
  unknown : list_any (has_identity (identity_of (as_kept brought.message))) as' ≡ false

in_add_new : (a b : Advice) (as' : List Advice) → IsIn a (add_advice b as') → ((b ≡ a) × (list_any (has_identity (identity_of b.message)) as' ≡ false)) ⊎ IsIn a as'
in_add_new a b as' m = cond_both (list_any (has_identity (identity_of b.message)) as') as' (b ∷ as') (λ z. IsIn a z → ((b ≡ a) × (list_any (has_identity (identity_of b.message)) as' ≡ false)) ⊎ IsIn a as') (λ _ m. inr m) (λ new m. ⊎_elim (λ e. inl (e, new)) inr m) m

in_accepted_new : (a : Advice) (count : ℕ) (b : Bool) (o : Option Handled) (as' : List Advice) → IsIn a (add_accepted count b o as') → NewIn count b o as' a ⊎ IsIn a as'
in_accepted_new a count true (Some x) as' m = cond_both (is_advice_group (group x.message.kind)) (add_advice (record { message = as_kept x.message; count = count; own = false; acked = false }) as') as' (λ z. IsIn a z → NewIn count true (Some x) as' a ⊎ IsIn a as')
    (λ g m. ⊎_elim (λ e. inl (record { brought = x; acked = refl; is_handled = refl; advice = g; is = ap Advice.message (sym e.0); unknown = e.1 })) inr (in_add_new a (record { message = as_kept x.message; count = count; own = false; acked = false }) as' m))
    (λ _ m. inr m) m
in_accepted_new a count true None as' m = inr m
in_accepted_new a count false o as' m = inr m

-- an input accepts nothing
accepted_in : (t : Network) (n : ℕ) (h : History) (i : ReadInput) (a : Advice) → IsIn a (advices t n (In i ∷ h)) → a.own ≡ false → (b : Advice) × IsIn b (advices t n h) × (b.message ≡ a.message) × (b.own ≡ false)
unfolding advices
accepted_in t n h i a m e =
    let r = in_acked a i (advices t n h) (in_made_other a (λ m. made_reversal m (node_id t n)) (count_of h) (option_and_then (opening t h) (late_key h (advices t n h) i)) (map (acked_by i) (advices t n h)) e m) in
    (r.0, r.1, r.2, r.3 ∙ e)

-- an output accepts what was brought, where it acknowledges it and it wasn't known
record NewlyAccepted (t : Network) (n : ℕ) (h : History) (i : ReadInput) (o : ReadOutput) (a : Advice) : Type 0 where
  brought : Handled
  acked : is_ok_ack (sent o) ≡ true
  is_handled : handled t h i ≡ Some brought
  advice : is_advice_group (group brought.message.kind) ≡ true
  is : a.message ≡ as_kept brought.message
  unknown : (known t n h (identity_of (as_kept brought.message)) ≡ true) → ⊥

abbrev WithFailed : Network → ℕ → History → ReadInput → ReadOutput → List Advice
WithFailed t n h i o = add_made (λ m. made_reversal m (node_id t n)) (count_of h) (option_and_then (opening t h) (failed_key t h i (sent o))) (advices t n h)

abbrev WithStood : Network → ℕ → History → ReadInput → ReadOutput → List Advice
WithStood t n h i o = add_made (λ m. made_stand_in m (node_id t n)) (count_of h) (option_and_then (opening t h) (own_approval h i o)) (WithFailed t n h i o)

accepted_out : (t : Network) (n : ℕ) (h : History) (i : ReadInput) (o : ReadOutput) (a : Advice) → IsIn a (advices t n (Out i o ∷ h)) → a.own ≡ false → NewlyAccepted t n h i o a ⊎ IsIn a (advices t n h)
unfolding advices known
accepted_out t n h i o a m e = ⊎_elim new old (in_accepted_new a (count_of h) (is_ok_ack (sent o)) (handled t h i) (WithStood t n h i o) m)
  where
    old : IsIn a (WithStood t n h i o) → NewlyAccepted t n h i o a ⊎ IsIn a (advices t n h)
    old r = inr (in_made_other a (λ m. made_reversal m (node_id t n)) (count_of h) (option_and_then (opening t h) (failed_key t h i (sent o))) (advices t n h) e (in_made_other a (λ m. made_stand_in m (node_id t n)) (count_of h) (option_and_then (opening t h) (own_approval h i o)) (WithFailed t n h i o) e r))

    keeps : (x : Handled) → list_any (has_identity (identity_of (as_kept x.message))) (advices t n h) ≡ true → list_any (has_identity (identity_of (as_kept x.message))) (WithStood t n h i o) ≡ true
    keeps x was = add_made_keeps (has_identity (identity_of (as_kept x.message))) (λ m. made_stand_in m (node_id t n)) (count_of h) (option_and_then (opening t h) (own_approval h i o)) (WithFailed t n h i o)
        (add_made_keeps (has_identity (identity_of (as_kept x.message))) (λ m. made_reversal m (node_id t n)) (count_of h) (option_and_then (opening t h) (failed_key t h i (sent o))) (advices t n h) was)

    new : NewIn (count_of h) (is_ok_ack (sent o)) (handled t h i) (WithStood t n h i o) a → NewlyAccepted t n h i o a ⊎ IsIn a (advices t n h)
    new w = inl (record { brought = NewIn.brought w; acked = NewIn.acked w; is_handled = NewIn.is_handled w; advice = NewIn.advice w; is = NewIn.is w; unknown = λ was. not_both _ (keeps (NewIn.brought w) was) (NewIn.unknown w) })

-- reversed, as a member

pub reversed_by : (t : Network) (n : ℕ) (h : History) (k : Key) (a : Advice) → IsIn a (advices t n h) → a.own ≡ false → reverses_key k a ≡ true → reversed t n h k ≡ true
unfolding reversed
reversed_by t n h k a m own r = any_in (accepted_of k) a (advices t n h) m (rw (own, r) refl)

pub record Reverses (t : Network) (n : ℕ) (h : History) (k : Key) : Type 0 where
  pub advice : Advice
  pub stands : IsIn advice (advices t n h)
  pub own : advice.own ≡ false
  pub reverses : reverses_key k advice ≡ true

pub by_reversed : (t : Network) (n : ℕ) (h : History) (k : Key) → reversed t n h k ≡ true → Reverses t n h k
unfolding reversed
by_reversed t n h k e =
    let r = any_member (accepted_of k) (advices t n h) e in
    let p = and_parts (not (Advice.own r.0)) (reverses_key k r.0) r.2 in
    record { advice = r.0; stands = r.1; own = not-true _ p.0; reverses = p.1 }

pub reverses_parts : (k : Key) (a : Advice) → reverses_key k a ≡ true → (is_04xx a.message.kind ≡ true) × (key_of a.message ≡ k)
reverses_parts k a e = let p = and_parts (is_04xx a.message.kind) (key_eq (key_of a.message) k) e in (p.0, key_eq_is (key_of a.message) k p.1)

-- pending

answered_no : (t : Network) (h : History) (k : Key) → is_some (answer h k) ≡ true → pending t h k ≡ false
answered_no t h k e = go (answer h k) e (is_some (opening t h k))
  where
    go : (w : Option Fields) → is_some w ≡ true → (b : Bool) → (b && is_none w) ≡ false
    go None e b = absurd (not_both false e refl)
    go (Some a) e true = refl
    go (Some a) e false = refl

unopened_no : (t : Network) (h : History) (k : Key) → opening t h k ≡ None → pending t h k ≡ false
unopened_no t h k e = rw e refl

pending_out : (t : Network) (h : History) (i : ReadInput) (o : ReadOutput) (k : Key) → pending t h k ≡ false → pending t (Out i o ∷ h) k ≡ false
unfolding opening answer
pending_out t h i o k e = go (is_some (opening t h k)) (answer h k) e
  where
    go : (b : Bool) (w : Option Fields) → (b && is_none w) ≡ false → (b && is_none (option_or w (answers k (sent o)))) ≡ false
    go false w e = refl
    go true None e = absurd (not_both true refl e)
    go true (Some a) e = refl

pending_in : (t : Network) (h : History) (i : ReadInput) (k : Key) → opening t (In i ∷ h) k ≡ opening t h k → pending t h k ≡ false → pending t (In i ∷ h) k ≡ false
unfolding answer
pending_in t h i k same e = rw same e

-- a reply to a request answers it
replied : (i : ReadInput) (src : Source) (m : Fields) (c : Bytes) (h : History) (k : Key) → is_request m.kind ≡ true → key_of m ≡ k → bytes_eq c code_94 ≡ false → is_some (answer (reply i src (response m c) h) k) ≡ true
unfolding answer
replied i src m c h k r key n94 =
    let kind : is_answer (response m c).kind ≡ true = ap is_answer (response_is_of_kind m c) ∙ response_answers m.kind r in
    let same : key_of (response m c) ≡ k = response_key m c r ∙ key in
    let code : bytes_eq (code_of (response m c)) code_94 ≡ false = ap (λ z. bytes_eq z code_94) (code_response m c) ∙ n94 in
    let said : answers k (sent (reply_output src (response m c) h)) ≡ Some (response m c) = ap (answers k) (sent_reply src (response m c) h) ∙ rw (kind, same, key_eq_refl k, code) refl in
    some (answer h k) (answers k (sent (reply_output src (response m c) h))) (ap is_some said)
  where
    some : (a b : Option Fields) → is_some b ≡ true → is_some (option_or a b) ≡ true
    some None b e = e
    some (Some a) b e = refl

-- a request of a key that was reversed before is answered in its entry

group_of_request : (k : Kind) → is_request k ≡ true → group k ≡ groups.AuthorizationRequest
group_of_request Rattle.message_elements.specs.declared.kind.Kind.TheVariants.K0100 e = refl
group_of_request Rattle.message_elements.specs.declared.kind.Kind.TheVariants.K0101 e = refl
group_of_request Rattle.message_elements.specs.declared.kind.Kind.TheVariants.K0110 e = cc
group_of_request Rattle.message_elements.specs.declared.kind.Kind.TheVariants.K0120 e = cc
group_of_request Rattle.message_elements.specs.declared.kind.Kind.TheVariants.K0121 e = cc
group_of_request Rattle.message_elements.specs.declared.kind.Kind.TheVariants.K0130 e = cc
group_of_request Rattle.message_elements.specs.declared.kind.Kind.TheVariants.K0400 e = cc
group_of_request Rattle.message_elements.specs.declared.kind.Kind.TheVariants.K0401 e = cc
group_of_request Rattle.message_elements.specs.declared.kind.Kind.TheVariants.K0410 e = cc
group_of_request Rattle.message_elements.specs.declared.kind.Kind.TheVariants.K0420 e = cc
group_of_request Rattle.message_elements.specs.declared.kind.Kind.TheVariants.K0421 e = cc
group_of_request Rattle.message_elements.specs.declared.kind.Kind.TheVariants.K0430 e = cc

on_reversed_request : (t : Network) (n : ℕ) (past : History) (i : ReadInput) (o : Option Handled) (m : Fields) (src : Source) → o ≡ Some (record { message = m; source = src }) → is_request m.kind ≡ true → opening t past (key_of m) ≡ None → reversed t n past (key_of m) ≡ true → on_handled t n past i o ≡ reply i src (response m code_68) (In i ∷ past)
unfolding on_request
on_reversed_request t n past i o m src e r fresh rev = rw (e, group_of_request m.kind r, fresh, rev) refl

declined : (t : Network) (n : ℕ) (past : History) (i : ReadInput) (m : Fields) (src : Source) → handled_as t past i m src → is_request m.kind ≡ true → opening t past (key_of m) ≡ None → reversed t n past (key_of m) ≡ true → is_some (answer (decide t n past i) (key_of m)) ≡ true
unfolding decide handled
declined t n past (Enter x) m src e r fresh rev = subst (λ h. is_some (answer h (key_of m)) ≡ true) (sym (on_reversed_request t n past (Enter x) (handled t past (Enter x)) m src e r fresh rev)) (replied (Enter x) src m code_68 (In (Enter x) ∷ past) (key_of m) r refl refl)
declined t n past (Take l s x) m src e r fresh rev = subst (λ h. is_some (answer h (key_of m)) ≡ true) (sym (on_reversed_request t n past (Take l s x) (handled t past (Take l s x)) m src e r fresh rev)) (replied (Take l s x) src m code_68 (In (Take l s x) ∷ past) (key_of m) r refl refl)
declined t n past (LinkUp l) m src e r fresh rev = absurd (none_some _ e)
declined t n past (LinkDown l) m src e r fresh rev = absurd (none_some _ e)
declined t n past Tick m src e r fresh rev = absurd (none_some _ e)
declined t n past (HostAnswer a c) m src e r fresh rev = absurd (none_some _ e)
declined t n past (NewDate d) m src e r fresh rev = absurd (none_some _ e)
declined t n past (TakePacket lk sr pk) m src e r fresh rev = absurd (none_some _ e)
declined t n past (Lend br cd dt am) m src e r fresh rev = absurd (none_some _ e)

-- what fails was pending
fails_pending : (t : Network) (h : History) (i : ReadInput) (k : Key) → fails t h i k ≡ true → pending t h k ≡ true
fails_pending t h (LinkDown l) k e = (and_parts (pending t h k) _ e).0
fails_pending t h Tick k e = (and_parts (pending t h k) _ e).0
fails_pending t h (Enter x) k e = absurd (not_both false e refl)
fails_pending t h (Take l s x) k e = absurd (not_both false e refl)
fails_pending t h (LinkUp l) k e = absurd (not_both false e refl)
fails_pending t h (HostAnswer a c) k e = absurd (not_both false e refl)
fails_pending t h (NewDate d) k e = absurd (not_both false e refl)
fails_pending t h (TakePacket lk sr pk) k e = absurd (not_both false e refl)
fails_pending t h (Lend br cd dt am) k e = absurd (not_both false e refl)

-- actual amounts

abbrev pub ActualIsLess : Fields → Type 0
ActualIsLess m = unwrap_or (actual_amount m) 0 ≤ decimal (el m 4)

absent : (m : Fields) (n : ℕ) → has m n ≡ false → get m n ≡ None
unfolding has
absent m n e = go (get m n) e
  where
    go : (w : Option Bytes) → is_some w ≡ false → w ≡ None
    go None e = refl
    go (Some v) e = absurd (not_both true refl e)

not_strange : (m : Fields) → strange_actual m ≡ false → ActualIsLess m
not_strange m e = go (has m 95) refl
  where
    above : (w : Option ℕ) (amount : ℕ) → is_above w amount ≡ false → unwrap_or w 0 ≤ amount
    above None amount e = omega arith
    above (Some v) amount e = ltb-false amount v e

    go : (b : Bool) → has m 95 ≡ b → ActualIsLess m
    go false at = let none : actual_amount m ≡ None = sym (actual_none m (absent m 95 at)) in rw none (omega arith)
    go true at = above (actual_amount m) (decimal (el m 4)) (rw at at e)

actual_by : (a b : Fields) → get a 95 ≡ get b 95 → actual_amount a ≡ actual_amount b
unfolding actual_amount get
actual_by a b e = ap (option_and_then (λ amounts. number_in (part 0 12 amounts))) e

kept_actual : (m : Fields) → ActualIsLess m → ActualIsLess (as_kept m)
unfolding actual_amount get el
kept_actual m e = e

-- the actual amount of what is handled

dated_reversal : (date : List ℕ) (m : Fields) → is_reversal (dated date m).kind ≡ true → dated date m ≡ m
unfolding set_element
dated_reversal date m r = go (is_request m.kind) refl
  where
    go : (b : Bool) → is_request m.kind ≡ b → dated date m ≡ m
    go true at = absurd (not_both (is_04xx m.kind) (reversal_is_04xx m.kind (rw at at r)) (request_no_04xx m.kind at))
    go false at = rw at refl

entered_actual : (t : Network) (n : ℕ) (past : History) (x : Fields) → refusal t n past (Enter x) ≡ None → is_reversal x.kind ≡ true → ActualIsLess x
unfolding refusal
entered_actual t n past x ok r =
    let a = or_none (when (not (entered_kind x.kind)) TypeNotForGate) _ ok in
    let b = or_none (option_map Missing (missing x (required_entered (group x.kind)))) _ a.1 in
    let c = or_none (when (not (is_attached t n (own_key x).acquirer)) ForeignAcquirer) _ b.1 in
    let d = or_none (when (is_reversal x.kind && strange_actual x) Replacement) _ c.1 in
    let e = when_none (is_reversal x.kind && strange_actual x) Replacement d.0 in
    not_strange x (rw r at e)

taken_actual : (t : Network) (n : ℕ) (past : History) (l s : ℕ) (x : Fields) → refusal t n past (Take l s x) ≡ None → is_reversal x.kind ≡ true → ActualIsLess x
unfolding refusal
taken_actual t n past l s x ok r =
    let a = or_none (when (not (taken_kind x.kind)) TypeNotForGate) _ ok in
    let b = or_none (option_map Missing (missing x (required_taken (group x.kind) x.kind))) _ a.1 in
    let d = or_none (when (is_reversal x.kind && strange_actual x) Replacement) _ b.1 in
    let e = when_none (is_reversal x.kind && strange_actual x) Replacement d.0 in
    not_strange x (rw r at e)

handled_actual : (t : Network) (n : ℕ) (past : History) (i : ReadInput) (m : Fields) (src : Source) → refusal t n past i ≡ None → handled_as t past i m src → is_reversal m.kind ≡ true → ActualIsLess m
unfolding handled remove_element
handled_actual t n past (Enter x) m src ok e r =
    let is : dated (date_of t past) (remove_element x 33) ≡ m = ap (λ (z : Handled). z.message) (same_Some _ _ e) in
    let plain : remove_element x 33 ≡ m = sym (dated_reversal (date_of t past) (remove_element x 33) (ap (λ z. is_reversal (Fields.kind z)) is ∙ r)) ∙ is in
    let kind : is_reversal x.kind ≡ true = ap (λ z. is_reversal (Fields.kind z)) plain ∙ r in
    let amount : el (remove_element x 33) 4 ≡ el x 4 = el_remove x 33 4 refl in
    let actual : actual_amount (remove_element x 33) ≡ actual_amount x = actual_by (remove_element x 33) x (get_remove x 33 95 refl) in
    subst ActualIsLess plain (less (remove_element x 33) x amount actual (entered_actual t n past x ok kind))
  where
    less : (a b : Fields) → el a 4 ≡ el b 4 → actual_amount a ≡ actual_amount b → ActualIsLess b → ActualIsLess a
    less a b p q le = rw (p, q) le
handled_actual t n past (Take l s x) m src ok e r =
    let is : x ≡ m = ap (λ (z : Handled). z.message) (same_Some _ _ e) in
    subst ActualIsLess is (taken_actual t n past l s x ok (ap (λ z. is_reversal (Fields.kind z)) is ∙ r))
handled_actual t n past (LinkUp l) m src ok e r = absurd (none_some _ e)
handled_actual t n past (LinkDown l) m src ok e r = absurd (none_some _ e)
handled_actual t n past Tick m src ok e r = absurd (none_some _ e)
handled_actual t n past (HostAnswer a c) m src ok e r = absurd (none_some _ e)
handled_actual t n past (NewDate d) m src ok e r = absurd (none_some _ e)
handled_actual t n past (TakePacket lk sr pk) m src ok e r = absurd (none_some _ e)
handled_actual t n past (Lend br cd dt am) m src ok e r = absurd (none_some _ e)

-- approvals

pub record ApprovedAs (t : Network) (h : History) (a : Approval) : Type 0 where
  pub op : Opening
  pub opens : opening t h a.key ≡ Some op
  pub is : a.request ≡ op.message

approved_by : (t : Network) (h : History) (k : Key) (a : Approval) (o : Option Opening) → opening t h k ≡ o → IsIn a (approval_by k o) → (a.key ≡ k) × ApprovedAs t h a
approved_by t h k a None e m = absurd m
approved_by t h k a (Some op) e m = ⊎_elim (λ same. (sym (ap Approval.key same), record { op = op; opens = ap (opening t h) (sym (ap Approval.key same)) ∙ e; is = sym (ap Approval.request same) })) (λ bad. absurd bad) m

-- an approval is this output's, or stood there before
pub approval_cases : (t : Network) (h : History) (i : ReadInput) (o : ReadOutput) (a : Approval) → IsIn a (approvals t (Out i o ∷ h)) → ((own_approval h i o ≡ Some a.key) × ApprovedAs t h a) ⊎ IsIn a (approvals t h)
unfolding approvals
approval_cases t h i o a m = ⊎_elim (λ here. inl (new (own_approval h i o) refl here)) inr (in_append (approval_of t h (own_approval h i o)) (approvals t h) a m)
  where
    new : (w : Option Key) → own_approval h i o ≡ w → IsIn a (approval_of t h w) → (own_approval h i o ≡ Some a.key) × ApprovedAs t h a
    new None at here = absurd here
    new (Some k) at here = let r = approved_by t h k a (opening t h k) refl here in (at ∙ ap Some (sym r.0), r.1)

known_still : (t : Network) (n : ℕ) (e : Event) (h : History) (id : AdviceId) → known t n h id ≡ true → known t n (e ∷ h) id ≡ true
unfolding known
known_still t n e h id k = known_more t n e h id k

-- the invariant

pub record LeaveFacts (t : Network) (n : ℕ) (h : History) : Type 0 where
  pub approved : (a : Approval) → IsIn a (approvals t h) → ApprovedAs t h a
  pub agrees : (a : Approval) (x : Advice) → IsIn a (approvals t h) → IsIn x (advices t n h) → x.own ≡ false → reverses_key a.key x ≡ true → content a.request ≡ content x.message
  pub actual : (x : Advice) → IsIn x (advices t n h) → x.own ≡ false → is_04xx x.message.kind ≡ true → ActualIsLess x.message

-- after an entry a reversed key isn't pending
abbrev AreSettled : Network → ℕ → History → Type 0
AreSettled t n h = (k : Key) → reversed t n h k ≡ true → pending t h k ≡ false

-- within an entry
record InEntry (t : Network) (n : ℕ) (past : History) (i : ReadInput) (h : History) : Type 0 where
  own : OwnFacts t n past i h
  handled_same : handled t h i ≡ handled t past i
  known_stays : (id : AdviceId) → known t n past id ≡ true → known t n h id ≡ true
  leaves : LeaveFacts t n h
  settled : (k : Key) → reversed t n h k ≡ true → (pending t h k ≡ false) ⊎ ((opening t past k ≡ None) × (reversed t n past k ≡ true))
  quiet : is_timer i ≡ true → (k : Key) → reversed t n h k ≡ true → reversed t n past k ≡ true

leaves_in : (t : Network) (n : ℕ) (past : History) (i : ReadInput) → LeaveFacts t n past → LeaveFacts t n (In i ∷ past)
unfolding approvals
leaves_in t n past i f = record {
  approved = λ a m. (let r = f.approved a m in record { op = r.op; opens = stays_open t past i a.key r.op r.opens; is = r.is });
  agrees = λ a x m mx own r. (let b = accepted_in t n past i x mx own in f.agrees a b.0 m b.1 b.3 (rw b.2 r) ∙ ap content b.2);
  actual = λ x mx own r. (let b = accepted_in t n past i x mx own in subst ActualIsLess b.2 (f.actual b.0 b.1 b.3 (ap (λ z. is_04xx (Fields.kind z)) b.2 ∙ r)));
}

settled_in : (t : Network) (n : ℕ) (past : History) (i : ReadInput) → AreSettled t n past → (k : Key) → reversed t n (In i ∷ past) k ≡ true → (pending t (In i ∷ past) k ≡ false) ⊎ ((opening t past k ≡ None) × (reversed t n past k ≡ true))
settled_in t n past i before k e = go (opening t past k) refl
  where
    was : reversed t n past k ≡ true
    was = reversed_back t n past i k e

    go : (w : Option Opening) → opening t past k ≡ w → (pending t (In i ∷ past) k ≡ false) ⊎ ((opening t past k ≡ None) × (reversed t n past k ≡ true))
    go None at = inr (at, was)
    go (Some op) at = inl (pending_in t past i k (stays_open t past i k op at ∙ sym at) (before k was))

module _ (t : Network) (n : ℕ) (past : History) (i : ReadInput) (ok : refusal t n past i ≡ None) (before : AreSettled t n past) (h : History) (o : ReadOutput) (q : InEntry t n past i h) (allowed : Allowed t n past i h o) where
  -- a key that the node approves by itself isn't reversed
  not_reversed : (k : Key) → own_approval h i o ≡ Some k → reversed t n h k ≡ false
  not_reversed k own = by (reversed t n h k) refl
    where
      s : (f : StandingIn t n past i h o) × (f.opens.key ≡ k)
      s = own_stands t n past i h o k (InEntry.own q) allowed own

      first : OpenedFirst t past i h s.0.opens.key → reversed t n h k ≡ true → ⊥
      first w e =
          let now : reversed t n (In i ∷ past) k ≡ true = ap (λ z. reversed t n z k) (sym w.first) ∙ e in
          not_both (reversed t n past k) (reversed_back t n past i k now) (ap (reversed t n past) (sym s.1) ∙ s.0.not_reversed w.fresh)

      failed : Failed t past i s.0.opens.key s.0.op → reversed t n h k ≡ true → ⊥
      failed w e = not_both (pending t past k) (ap (pending t past) (sym s.1) ∙ fails_pending t past i s.0.opens.key w.fails_now) (before k (InEntry.quiet q w.timer k e))

      by : (b : Bool) → reversed t n h k ≡ b → reversed t n h k ≡ false
      by false at = at
      by true at = absurd (⊎_elim (λ w. first w at) (λ w. failed w at) s.0.how)

  -- what is accepted in this output
  record AcceptedNow (x : Advice) : Type 0 where
    acking : Acking t n past i h o
    code : bytes_eq acking.code code_00 ≡ true
    is : x.message ≡ as_kept acking.message
    unknown : (known t n past (identity_of acking.message) ≡ true) → ⊥
    advice : is_advice_group (group acking.message.kind) ≡ true

  accepted_now : (x : Advice) → NewlyAccepted t n h i o x → AcceptedNow x
  accepted_now x w = record {
    acking = f.0;
    code = f.1;
    is = NewlyAccepted.is w ∙ ap as_kept message;
    unknown = λ was. NewlyAccepted.unknown w (ap (known t n h) (Alike.id (kept_alike (Handled.message (NewlyAccepted.brought w))) ∙ ap identity_of message) ∙ InEntry.known_stays q (identity_of f.0.message) was);
    advice = ap (λ z. is_advice_group (group (Fields.kind z))) (sym message) ∙ NewlyAccepted.advice w;
  }
    where
      f : (f : Acking t n past i h o) × (bytes_eq f.code code_00 ≡ true)
      f = acking_case t n past i h o (InEntry.own q).entry allowed (NewlyAccepted.acked w)

      message : Handled.message (NewlyAccepted.brought w) ≡ f.0.message
      message = ap (λ (z : Handled). z.message) (same_Some _ _ (sym (NewlyAccepted.is_handled w) ∙ (InEntry.handled_same q ∙ f.0.is_handled)))

  -- it is a reversal of its key
  record Reversal (k : Key) (x : Advice) (f : Acking t n past i h o) : Type 0 where
    reversal : is_reversal f.message.kind ≡ true
    key : key_of f.message ≡ k

  accepted_reversal : (k : Key) (x : Advice) (w : AcceptedNow x) → reverses_key k x ≡ true → Reversal k x (AcceptedNow.acking w)
  accepted_reversal k x w r =
      let p = reverses_parts k x r in
      let m = Acking.message (AcceptedNow.acking w) in
      let is04 : is_04xx m.kind ≡ true = sym (as_kept_04xx m) ∙ (ap (λ z. is_04xx (Fields.kind z)) (sym (AcceptedNow.is w)) ∙ p.0) in
      let g = advice_04xx m.kind (AcceptedNow.advice w) is04 in
      record { reversal = g.1; key = sym (kept_reversal m g.0).1 ∙ (ap key_of (sym (AcceptedNow.is w)) ∙ p.1) }

  -- where a reversal was accepted its key isn't pending
  settled_now : (k : Key) (x : Advice) (w : AcceptedNow x) → Reversal k x (AcceptedNow.acking w) → pending t h k ≡ false
  settled_now k x w r = ⊎_elim (λ was. absurd (AcceptedNow.unknown w was)) answered ((AcceptedNow.acking w).settled (AcceptedNow.code w) (Reversal.reversal r))
    where
      m : Fields
      m = (AcceptedNow.acking w).message

      key : key_of (AcceptedNow.acking w).message ≡ k
      key = Reversal.key r

      -- a reversal opens nothing
      unopened : opening t (In i ∷ past) k ≡ opening t past k
      unopened = go (opening t past k) refl
        where
          go : (w' : Option Opening) → opening t past k ≡ w' → opening t (In i ∷ past) k ≡ opening t past k
          go (Some op) at = stays_open t past i k op at ∙ sym at
          go None at = now (opening t (In i ∷ past) k) refl ∙ sym at
            where
              now : (v : Option Opening) → opening t (In i ∷ past) k ≡ v → opening t (In i ∷ past) k ≡ None
              now None is = is
              now (Some op) is = ⊎_elim (λ was. absurd (none_some op (sym at ∙ was))) (λ opens. absurd (bad opens)) (opening_in_cases t past i k op is)
                where
                  bad : OpensNow t past i k op → ⊥
                  bad v =
                      let same : op.message ≡ (AcceptedNow.acking w).message = ap (λ (z : Handled). z.message) (same_Some _ _ (sym v.is_handled ∙ (AcceptedNow.acking w).is_handled)) in
                      not_both (is_04xx op.message.kind) (ap (λ z. is_04xx (Fields.kind z)) same ∙ reversal_is_04xx (AcceptedNow.acking w).message.kind (Reversal.reversal r)) (request_no_04xx op.message.kind v.request)

      answered : h ≡ answer_pending t i (pending t past (key_of (AcceptedNow.acking w).message)) (opening t past (key_of (AcceptedNow.acking w).message)) code_68 (In i ∷ past) → pending t h k ≡ false
      answered at = by (pending t past k) refl (opening t past k) refl (at ∙ ap (λ z. answer_pending t i (pending t past z) (opening t past z) code_68 (In i ∷ past)) key)
        where
          by : (b : Bool) → pending t past k ≡ b → (w' : Option Opening) → opening t past k ≡ w' → h ≡ answer_pending t i (pending t past k) (opening t past k) code_68 (In i ∷ past) → pending t h k ≡ false
          by false p w' o' e =
              let first : h ≡ In i ∷ past = e ∙ ap (λ z. answer_pending t i z (opening t past k) code_68 (In i ∷ past)) p in
              ap (λ z. pending t z k) first ∙ pending_in t past i k unopened p
          by true p None o' e = absurd (not_both (pending t past k) p (unopened_no t past k o'))
          by true p (Some op) o' e =
              let first : h ≡ reply i op.source (response op.message code_68) (In i ∷ past) = e ∙ (ap (λ z. answer_pending t i z (opening t past k) code_68 (In i ∷ past)) p ∙ ap (λ z. answer_pending t i true z code_68 (In i ∷ past)) o') in
              let opened' = (InEntry.own q).entry.node.opens k op ((InEntry.own q).entry.opening_is k ∙ stays_open t past i k op o') in
              answered_no t h k (ap (λ z. is_some (answer z k)) first ∙ replied i op.source op.message code_68 (In i ∷ past) k opened'.request opened'.key refl)

  settled_out : (k : Key) → reversed t n (Out i o ∷ h) k ≡ true → (pending t (Out i o ∷ h) k ≡ false) ⊎ ((opening t past k ≡ None) × (reversed t n past k ≡ true))
  settled_out k e = ⊎_elim new old (accepted_out t n h i o (Reverses.advice r) (Reverses.stands r) (Reverses.own r))
    where
      r : Reverses t n (Out i o ∷ h) k
      r = by_reversed t n (Out i o ∷ h) k e

      old : IsIn (Reverses.advice r) (advices t n h) → (pending t (Out i o ∷ h) k ≡ false) ⊎ ((opening t past k ≡ None) × (reversed t n past k ≡ true))
      old m = ⊎_elim (λ p. inl (pending_out t h i o k p)) inr (InEntry.settled q k (reversed_by t n h k (Reverses.advice r) m (Reverses.own r) (Reverses.reverses r)))

      new : NewlyAccepted t n h i o (Reverses.advice r) → (pending t (Out i o ∷ h) k ≡ false) ⊎ ((opening t past k ≡ None) × (reversed t n past k ≡ true))
      new w = let a = accepted_now (Reverses.advice r) w in inl (pending_out t h i o k (settled_now k (Reverses.advice r) a (accepted_reversal k (Reverses.advice r) a (Reverses.reverses r))))

  quiet_then : is_timer i ≡ true → (k : Key) → reversed t n (Out i o ∷ h) k ≡ true → reversed t n past k ≡ true
  quiet_then timer k e = ⊎_elim new old (accepted_out t n h i o (Reverses.advice r) (Reverses.stands r) (Reverses.own r))
    where
      r : Reverses t n (Out i o ∷ h) k
      r = by_reversed t n (Out i o ∷ h) k e

      old : IsIn (Reverses.advice r) (advices t n h) → reversed t n past k ≡ true
      old m = InEntry.quiet q timer k (reversed_by t n h k (Reverses.advice r) m (Reverses.own r) (Reverses.reverses r))

      new : NewlyAccepted t n h i o (Reverses.advice r) → reversed t n past k ≡ true
      new w = let x = NewlyAccepted.brought w in absurd (not_both (is_timer i) timer (handled_no_timer t past i (Handled.message x) (Handled.source x) (sym (InEntry.handled_same q) ∙ NewlyAccepted.is_handled w)))

  leaves_out : LeaveFacts t n (Out i o ∷ h)
  unfolding opening
  leaves_out = record {
    approved = λ a m. ⊎_elim (λ new. record { op = new.1.op; opens = new.1.opens; is = new.1.is }) (λ old. (let r = f.approved a old in record { op = r.op; opens = r.opens; is = r.is })) (approval_cases t h i o a m);
    agrees = λ a x m mx own r. ⊎_elim (λ new. absurd (never a x new.0 mx own r)) (λ old. then a x old mx own r) (approval_cases t h i o a m);
    actual = λ x mx own r. ⊎_elim (λ new. actual_now x new r) (λ old. f.actual x old own r) (accepted_out t n h i o x mx own);
  }
    where
      f : LeaveFacts t n h
      f = InEntry.leaves q

      actual_now : (x : Advice) → NewlyAccepted t n h i o x → is_04xx x.message.kind ≡ true → ActualIsLess x.message
      actual_now x w r =
          let a = accepted_now x w in
          let m = (AcceptedNow.acking a).message in
          let is04 : is_04xx m.kind ≡ true = sym (as_kept_04xx m) ∙ (ap (λ z. is_04xx (Fields.kind z)) (sym (AcceptedNow.is a)) ∙ r) in
          let g = advice_04xx m.kind (AcceptedNow.advice a) is04 in
          subst ActualIsLess (sym (AcceptedNow.is a)) (kept_actual m (handled_actual t n past i m (AcceptedNow.acking a).source ok (AcceptedNow.acking a).is_handled g.1))

      -- a key that is approved now has no reversal
      never : (a : Approval) (x : Advice) → own_approval h i o ≡ Some a.key → IsIn x (advices t n (Out i o ∷ h)) → x.own ≡ false → reverses_key a.key x ≡ true → ⊥
      never a x own mx no_own r = ⊎_elim new old (accepted_out t n h i o x mx no_own)
        where
          old : IsIn x (advices t n h) → ⊥
          old m = not_both (reversed t n h a.key) (reversed_by t n h a.key x m no_own r) (not_reversed a.key own)

          new : NewlyAccepted t n h i o x → ⊥
          new w =
              let y = own_now h i o a.key own in
              not_both (is_ok_ack (sent o)) (NewlyAccepted.acked w) (ap is_ok_ack y.is ∙ no_ack y.message y.answer_kind)
            where
              no_ack : (m : Fields) → is_answer m.kind ≡ true → is_ok_ack (Some m) ≡ false
              no_ack m e = rw (answer_no_ack m.kind e) refl

      then : (a : Approval) (x : Advice) → IsIn a (approvals t h) → IsIn x (advices t n (Out i o ∷ h)) → x.own ≡ false → reverses_key a.key x ≡ true → content a.request ≡ content x.message
      then a x m mx own r = ⊎_elim new (λ old. f.agrees a x m old own r) (accepted_out t n h i o x mx own)
        where
          new : NewlyAccepted t n h i o x → content a.request ≡ content x.message
          new w =
              let n' = accepted_now x w in
              let g = AcceptedNow.acking n' in
              let rev = accepted_reversal a.key x n' r in
              let was = f.approved a m in
              let agreed = good_agrees t n past i h g.message g.source (InEntry.own q).entry g.is_handled (Reversal.reversal rev) (g.good (AcceptedNow.code n')) was.op (ap (opening t h) (Reversal.key rev) ∙ was.opens) in
              ap content was.is ∙ (agreed ∙ (sym (as_kept_content g.message) ∙ ap content (sym (AcceptedNow.is n'))))

  entry_out : NodeFacts t n past → InEntry t n past i (Out i o ∷ h)
  entry_out facts = record {
    own = record { entry = facts_out t n past i h o facts (InEntry.own q).entry allowed; stays_00 = λ k r. has_00_more h (Out i o) k ((InEntry.own q).stays_00 k r); stays_brought = λ k r. brings_more h i o k i ((InEntry.own q).stays_brought k r) };
    handled_same = handled_out t h i i o ∙ InEntry.handled_same q;
    known_stays = λ id e. known_still t n (Out i o) h id (InEntry.known_stays q id e);
    leaves = leaves_out;
    settled = settled_out;
    quiet = quiet_then;
  }

record Both (t : Network) (n : ℕ) (h : History) : Type 0 where
  leaves : LeaveFacts t n h
  settled : AreSettled t n h

leaves_decide : (t : Network) (n : ℕ) (past : History) (i : ReadInput) → IsFormed i → refusal t n past i ≡ None → NodeFacts t n past → Both t n past → Both t n (decide t n past i)
leaves_decide t n past i form ok facts before = record { leaves = InEntry.leaves q; settled = settled }
  where
    q : InEntry t n past i (decide t n past i)
    q = decide_keeps t n past i (InEntry t n past i) (λ h o r allowed. entry_out t n past i ok (Both.settled before) h o r allowed facts) (keeps_issuers t n past facts)
        (record {
          own = own_in_entry t n past i form ok facts;
          handled_same = handled_in t past i;
          known_stays = λ id e. known_still t n (In i) past id e;
          leaves = leaves_in t n past i (Both.leaves before);
          settled = settled_in t n past i (Both.settled before);
          quiet = λ timer k e. reversed_back t n past i k e;
        })

    settled : AreSettled t n (decide t n past i)
    settled k e = ⊎_elim (λ p. p) (λ w. late w.0 w.1 (opening t (In i ∷ past) k) refl) (InEntry.settled q k e)
      where
        late : opening t past k ≡ None → reversed t n past k ≡ true → (w : Option Opening) → opening t (In i ∷ past) k ≡ w → pending t (decide t n past i) k ≡ false
        late fresh rev None at = unopened_no t (decide t n past i) k ((InEntry.own q).entry.opening_is k ∙ at)
        late fresh rev (Some op) at = ⊎_elim (λ was. absurd (none_some op (sym fresh ∙ was))) now (opening_in_cases t past i k op at)
          where
            now : OpensNow t past i k op → pending t (decide t n past i) k ≡ false
            now v = answered_no t (decide t n past i) k (ap (λ z. is_some (answer (decide t n past i) z)) (sym v.key) ∙ declined t n past i op.message op.source v.is_handled v.request (ap (opening t past) v.key ∙ fresh) (ap (reversed t n past) v.key ∙ rev))

legal_both : (t : Network) (n : ℕ) (es : List ReadEntry) → IsLegalRead t n es → Both t n (read_history es)
unfolding read_history advices approvals reversed
legal_both t n [] l = record { leaves = record { approved = λ a m. absurd m; agrees = λ a x m. absurd m; actual = λ x m. absurd m }; settled = λ k e. absurd (not_both false e refl) }
legal_both t n (e ∷ es) l = subst (Both t n) (sym l.1.outputs) (leaves_decide t n (read_history es) e.input l.1.formed l.1.accepted (legal_facts t n es l.0) (legal_both t n es l.0))

same_amount : (a b : Fields) → content a ≡ content b → el a 4 ≡ el b 4
unfolding content
same_amount a b e = ap (λ z. Rattle.message_keys.specs.Keys.Content.amount z) e

-- an accepted reversal of an own approval takes no more than its amount
pub legal_leaves : (t : Network) (n : ℕ) (es : List ReadEntry) → IsLegalRead t n es → (a : Approval) (x : Advice) → IsIn a (approvals t (read_history es)) → IsIn x (advices t n (read_history es)) → x.own ≡ false → reverses_key a.key x ≡ true → unwrap_or (actual_amount x.message) 0 ≤ decimal (el a.request 4)
legal_leaves t n es l a x m mx own r =
    let f = Both.leaves (legal_both t n es l) in
    let less = f.actual x mx own (reverses_parts a.key x r).0 in
    subst (λ z. unwrap_or (actual_amount x.message) 0 ≤ decimal z) (sym (same_amount a.request x.message (f.agrees a x m mx own r))) less

-- so where its key is reversed one of them says what is left
pub legal_left : (t : Network) (n : ℕ) (es : List ReadEntry) → IsLegalRead t n es → (a : Approval) → IsIn a (approvals t (read_history es)) → reversed t n (read_history es) a.key ≡ true → (x : Advice) × IsIn x (advices t n (read_history es)) × (x.own ≡ false) × (reverses_key a.key x ≡ true) × (left t n (read_history es) a ≡ unwrap_or (actual_amount x.message) 0)
legal_left t n es l a m rev = ⊎_elim whole (λ r. r) (leaves_one t n (read_history es) a)
  where
    whole : left t n (read_history es) a ≡ decimal (el a.request 4) → (x : Advice) × IsIn x (advices t n (read_history es)) × (x.own ≡ false) × (reverses_key a.key x ≡ true) × (left t n (read_history es) a ≡ unwrap_or (actual_amount x.message) 0)
    whole e =
        let r = by_reversed t n (read_history es) a.key rev in
        let x = Reverses.advice r in
        let least = leaves_least t n (read_history es) a x (Reverses.stands r) (Reverses.own r) (Reverses.reverses r) in
        let most = legal_leaves t n es l a x m (Reverses.stands r) (Reverses.own r) (Reverses.reverses r) in
        (x, Reverses.stands r, Reverses.own r, Reverses.reverses r, omega (arith, e, least, most))
