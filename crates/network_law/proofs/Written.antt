-- Every message of a legal history can be written, and is read as itself.
use Rattle.std.proofs.Common.{◌≡◌, ℕ, suc, arith, ◌+◌, ◌≤◌, ◌<◌, length, [], ◌∷◌, map, Option, Some, None, Bool, true, false, cond, not, ◌&&◌, refl, sym, ap, ◌∙◌, subst, inl, inr, ⊎_elim, eqb, nat_lt, bytes_eq, List}
use Rattle.std.proofs.lemmas.Bool.{cond_both, and_parts}
use Rattle.std.proofs.lemmas.Option.{same_Some}
use Rattle.std.specs.Prelude.{⊤}
use Rattle.std.specs.Option.{option_and_then}
use Rattle.card_digits.specs.Numbers.{decimal}
use Rattle.card_digits.specs.declared.key.Key.{Key}
use Rattle.message_elements.specs.declared.kind.Kind.{Kind}
use Rattle.message_elements.specs.declared.kind.Kind.TheVariants.{K0100, K0101, K0110, K0120, K0121, K0130, K0400, K0401, K0410, K0420, K0421, K0430}
use Rattle.message_elements.specs.Groups.{group, is_request, is_answer}
use Rattle.iso_message.specs.Fields.{Fields, el, has, set_element, remove_element}
use Rattle.message_keys.specs.Keys.{key_of, key_eq, code_of}
use Rattle.message_elements.specs.Codes.{code_00, code_57, code_61, code_91, code_94}
use Rattle.iso_message.specs.Made.{response, made_stand_in, made_reversal}
use Rattle.iso_message.specs.Spelling.{IsMessage}
use Rattle.net_rows.specs.Network.{Network}
use Rattle.network_law.specs.Cards.{text_of, label_of, Bytes, card_of}
use Rattle.network_law.specs.Tables.{node_id, single}
use Rattle.network_law.specs.declared.grant.Grant.{Grant}
use Rattle.network_law.specs.declared.grant.GrantPacket.TheVariants as packets
use Rattle.network_law.proofs.Packets.{IsNumbered, pad_good}
use Rattle.network_law.specs.Grants.{IsPacket, IsGrant}
use Rattle.network_law.specs.Traces.{Source, Gate, ByLink, ReadInput, Enter, Take, LinkUp, LinkDown, Tick, HostAnswer, NewDate, TakePacket, Lend, Lent, lent_acked, grants, ReadOutput, Put, Answer, Ask, Post, PutPacket, Event, In, Out, History, IsIn, date_of, count_of, Handled, handled, dated, Opening, opening, opened_by, answer, answers, sent, own_approval, Advice, advices, acked_by, add_made, add_accepted, late_key, failed_key, is_ok_ack, as_kept, used}
use Rattle.network_law.specs.Decision.{decide, reply_output, standin_code, limit, code_by_limits}
use Rattle.network_law.specs.Refusals.{refusal, required_taken}
use Rattle.network_law.specs.Entries.{IsCode, ReadEntry, read_history, put_out}
use Rattle.card_digits.specs.Digits.{IsDateLabel, IsCard}
use Rattle.std.proofs.lemmas.List.{length-map}
use Rattle.network_law.proofs.Ids.{IsIdText, FitsId}
use Rattle.network_law.proofs.Whole.{kind_is, remove_is, date_is, response_is, stand_in_is, reversal_is, code_good}
use Rattle.network_law.proofs.ReadRuns.{HasLengths}
use Rattle.network_law.proofs.Refused.{TakenFacts, taken_facts, IsWhole, is_there}
use Rattle.network_law.proofs.Emits.{Allowed, forwarding, asking, standing_in, passing, declining, repeating, refusing, acking, sending, posting, putting_packet, Brought, by_link, by_host, Kept, due, reversing, standing, accepting, decide_keeps, KeepsIssuers}
use Rattle.network_law.proofs.Node.{el_dated, el_remove, dated_kind}
use Rattle.network_law.proofs.Provenance.{in_made, in_accepted, in_acked, opened_of_key}

-- what an input and an output have of messages

abbrev pub InputIs : ReadInput → Type 0
InputIs (Enter m) = IsMessage m × (is_request m.kind ≡ true → HasLengths m)
InputIs (Take l s m) = IsMessage m × (is_request m.kind ≡ true → HasLengths m)
InputIs (HostAnswer a c) = IsCode c
InputIs (NewDate d) = IsDateLabel d
InputIs (TakePacket l s p) = IsNumbered p
InputIs (Lend m c d a) = IsCard c × IsDateLabel d × (a < 1000000000000)
InputIs _ = ⊤

abbrev pub OutputIs : ReadOutput → Type 0
OutputIs (Put l s m) = IsMessage m
OutputIs (Answer m) = IsMessage m
OutputIs (Ask a m) = IsMessage m
OutputIs (Post m) = IsMessage m
OutputIs (PutPacket l s p) = IsPacket p

abbrev pub EventIs : Event → Type 0
EventIs (In i) = InputIs i
EventIs (Out i o) = InputIs i × OutputIs o

abbrev pub AreWritten : History → Type 0
AreWritten [] = ⊤
AreWritten (e ∷ h) = EventIs e × AreWritten h

answer_needs : (k : Kind) → is_answer k ≡ true → required_taken (group k) k ≡ 7 ∷ 11 ∷ 32 ∷ 39 ∷ []
answer_needs K0100 e = cc
answer_needs K0101 e = cc
answer_needs K0110 e = refl
answer_needs K0120 e = cc
answer_needs K0121 e = cc
answer_needs K0130 e = cc
answer_needs K0400 e = cc
answer_needs K0401 e = cc
answer_needs K0410 e = cc
answer_needs K0420 e = cc
answer_needs K0421 e = cc
answer_needs K0430 e = cc

-- an opened request
abbrev pub IsOpened : Fields → Type 0
IsOpened m = IsMessage m × HasLengths m

in_acked_grants : (lender : Bytes) (number : ℕ) (gs : List Lent) (g : Lent) → IsIn g (map (lent_acked lender number) gs) → (x : Lent) × IsIn x gs × (x.grant ≡ g.grant)
in_acked_grants lender number [] g m = absurd m
in_acked_grants lender number (x ∷ gs) g m = ⊎_elim (λ e. (x, inl refl, ap (λ (z : Lent). z.grant) e)) (λ old. (let r = in_acked_grants lender number gs g old in (r.0, inr r.1, r.2))) m

-- an entry makes at most one grant
grants_step : (t : Network) (n : ℕ) (i : ReadInput) (h : History) → length (grants t n (In i ∷ h)) ≤ suc (length (grants t n h))
unfolding grants
grants_step t n (Enter m) h = omega arith
grants_step t n (Take l s m) h = omega arith
grants_step t n (LinkUp l) h = omega arith
grants_step t n (LinkDown l) h = omega arith
grants_step t n Tick h = omega arith
grants_step t n (HostAnswer a c) h = omega arith
grants_step t n (NewDate d) h = omega arith
grants_step t n (TakePacket l s (packets.Grant g)) h = omega arith
grants_step t n (TakePacket l s (packets.Ack lender number)) h = let e = length-map (grants t n h) (lent_acked lender number) in omega (arith, e)
grants_step t n (Lend m c d a) h = omega arith

pub grants_few : (t : Network) (n : ℕ) (es : List ReadEntry) → length (grants t n (read_history es)) ≤ length es
unfolding grants read_history
grants_few t n [] = omega arith
grants_few t n (e ∷ es) =
    let a = grants_few t n es in
    let b = grants_step t n e.input (read_history es) in
    let c = ap length (below e.outputs (In e.input ∷ read_history es)) in
    omega (arith, a, b, c)
  where
    below : (os : List ReadOutput) (h : History) → grants t n (put_out e.input os h) ≡ grants t n h
    below [] h = refl
    below (o ∷ os) h = below os (Out e.input o ∷ h)

module _ (t : Network) (n : ℕ) (date : IsDateLabel t.settings.date) (id : IsIdText (node_id t n)) (ids : (m : ℕ) → FitsId (node_id t m)) where
  date_written : (h : History) → AreWritten h → IsDateLabel (date_of t h)
  unfolding date_of
  date_written [] w = date
  date_written (In (NewDate d) ∷ h) w = w.0
  date_written (In (Enter m) ∷ h) w = date_written h w.1
  date_written (In (Take l s m) ∷ h) w = date_written h w.1
  date_written (In (LinkUp l) ∷ h) w = date_written h w.1
  date_written (In (LinkDown l) ∷ h) w = date_written h w.1
  date_written (In Tick ∷ h) w = date_written h w.1
  date_written (In (HostAnswer a c) ∷ h) w = date_written h w.1
  date_written (In (TakePacket l s p) ∷ h) w = date_written h w.1
  date_written (In (Lend m c d a) ∷ h) w = date_written h w.1
  date_written (Out i o ∷ h) w = date_written h w.1

  abbrev IsHandled : Fields → Type 0
  IsHandled m = IsMessage m × (is_request m.kind ≡ true → HasLengths m)

  dated_written : (d : List ℕ) (m : Fields) → IsDateLabel d → IsMessage m → IsMessage (dated d m)
  dated_written d m is g = cond_both (is_request m.kind) (set_element m 15 (text_of d)) m IsMessage (λ _. date_is m d g is) (λ _. g)

  entered_written : (d : List ℕ) (m : Fields) → IsDateLabel d → IsHandled m → IsHandled (dated d (remove_element m 33))
  unfolding remove_element
  entered_written d m is g = (dated_written d (remove_element m 33) is (remove_is m 33 g.0), lengths)
    where
      same : (k : ℕ) → eqb k 15 ≡ false → eqb k 33 ≡ false → el (dated d (remove_element m 33)) k ≡ el m k
      same k a b = el_dated d (remove_element m 33) k a ∙ el_remove m 33 k b

      kind_same : is_request (dated d (remove_element m 33)).kind ≡ is_request m.kind
      kind_same = dated_kind d (remove_element m 33)

      lengths : is_request (dated d (remove_element m 33)).kind ≡ true → HasLengths (dated d (remove_element m 33))
      lengths r =
          let f = g.1 (sym kind_same ∙ r) in
          record { trace = ap length (same 11 refl refl) ∙ f.trace; time = ap length (same 7 refl refl) ∙ f.time; acquirer = subst (λ z. length z ≤ 11) (sym (same 32 refl refl)) f.acquirer }

  handled_written : (past : History) (i : ReadInput) (x : Handled) → AreWritten past → InputIs i → handled t past i ≡ Some x → IsHandled x.message
  unfolding handled
  handled_written past (Enter m) x w g e = subst (λ (z : Handled). IsHandled z.message) (same_Some _ _ e) (entered_written (date_of t past) m (date_written past w) g)
  handled_written past (Take l s m) x w g e = subst (λ (z : Handled). IsHandled z.message) (same_Some _ _ e) g
  handled_written past (LinkUp l) x w g e = cc
  handled_written past (LinkDown l) x w g e = cc
  handled_written past Tick x w g e = cc
  handled_written past (HostAnswer a c) x w g e = cc
  handled_written past (NewDate d) x w g e = cc
  handled_written past (TakePacket l s p) x w g e = cc
  handled_written past (Lend m c d a) x w g e = cc

  opened_written : (k : Key) (count : ℕ) (i : ReadInput) (o : Option Handled) (op : Opening) → ((x : Handled) → o ≡ Some x → IsHandled x.message) → opened_by k count i o ≡ Some op → IsOpened op.message
  opened_written k count i None op g e = cc
  opened_written k count i (Some x) op g e = go (is_request x.message.kind && key_eq (key_of x.message) k) refl
    where
      go : (b : Bool) → (is_request x.message.kind && key_eq (key_of x.message) k) ≡ b → IsOpened op.message
      go true at =
          let same : record { message = x.message; source = x.source; count = count; input = i } ≡ op = same_Some _ _ (rw at at e) in
          let h = g x refl in
          subst (λ (z : Opening). IsOpened z.message) same (h.0, h.1 (and_parts (is_request x.message.kind) (key_eq (key_of x.message) k) at).0)
      go false at = absurd (no (rw at at e))
        where
          no : None ≡ Some op → ⊥
          no p = cc

  opening_written : (h : History) (k : Key) (op : Opening) → AreWritten h → opening t h k ≡ Some op → IsOpened op.message
  unfolding opening
  opening_written [] k op w e = cc
  opening_written (In i ∷ h) k op w e = go (opening t h k) refl (opening_written h k op w.1)
    where
      go : (o : Option Opening) → opening t h k ≡ o → (opening t h k ≡ Some op → IsOpened op.message) → IsOpened op.message
      go None at rest = opened_written k (count_of h) i (handled t h i) op (λ x f. handled_written h i x w.1 w.0 f) (rw at at e)
      go (Some x) at rest = rest (at ∙ (rw at at e))
  opening_written (Out i o ∷ h) k op w e = opening_written h k op w.1 e

  sent_written : (o : ReadOutput) (m : Fields) → OutputIs o → sent o ≡ Some m → IsMessage m
  sent_written (Put l s x) m g e = subst IsMessage (same_Some x m e) g
  sent_written (Answer x) m g e = subst IsMessage (same_Some x m e) g
  sent_written (Ask a x) m g e = cc
  sent_written (Post x) m g e = cc
  sent_written (PutPacket l s p) m g e = cc

  answers_written : (k : Key) (o : Option Fields) (m : Fields) → ((x : Fields) → o ≡ Some x → IsMessage x) → answers k o ≡ Some m → IsMessage m
  answers_written k None m g e = cc
  answers_written k (Some x) m g e = go (is_answer x.kind && key_eq (key_of x) k && not (bytes_eq (code_of x) code_94)) refl
    where
      go : (b : Bool) → (is_answer x.kind && key_eq (key_of x) k && not (bytes_eq (code_of x) code_94)) ≡ b → IsMessage m
      go true at = subst IsMessage (same_Some x m (rw at at e)) (g x refl)
      go false at = absurd (no (rw at at e))
        where
          no : None ≡ Some m → ⊥
          no p = cc

  answer_written : (h : History) (k : Key) (m : Fields) → AreWritten h → answer h k ≡ Some m → IsMessage m
  unfolding answer
  answer_written [] k m w e = cc
  answer_written (In i ∷ h) k m w e = answer_written h k m w.1 e
  answer_written (Out i o ∷ h) k m w e = go (answer h k) refl (answer_written h k m w.1)
    where
      go : (a : Option Fields) → answer h k ≡ a → (answer h k ≡ Some m → IsMessage m) → IsMessage m
      go None at rest = answers_written k (sent o) m (λ x f. sent_written o x w.0.1 f) (rw at at e)
      go (Some x) at rest = rest (at ∙ (rw at at e))

  advices_written : (h : History) (a : Advice) → AreWritten h → IsIn a (advices t n h) → IsMessage a.message
  unfolding advices
  advices_written [] a w m = absurd m
  advices_written (In i ∷ h) a w m = ⊎_elim made (λ old. (let b = in_acked a i (advices t n h) old in subst IsMessage b.2 (advices_written h b.0 w.1 b.1)))
      (in_made a (λ x. made_reversal x (node_id t n)) (count_of h) (option_and_then (opening t h) (late_key h (advices t n h) i)) (map (acked_by i) (advices t n h)) m)
    where
      made : (op : Opening) × (option_and_then (opening t h) (late_key h (advices t n h) i) ≡ Some op) × (a.message ≡ made_reversal op.message (node_id t n)) → IsMessage a.message
      made p =
          let k = opened_of_key (opening t h) (late_key h (advices t n h) i) p.0 p.1 in
          let g = opening_written h k.0 p.0 w.1 k.2 in
          subst IsMessage (sym p.2) (reversal_is p.0.message (node_id t n) g.0 g.1 id)
  advices_written (Out i o ∷ h) a w m = ⊎_elim accepted (λ m1. ⊎_elim stood (λ m2. ⊎_elim failed (λ old. advices_written h a w.1 old) (in_made a (λ x. made_reversal x (node_id t n)) (count_of h) (option_and_then (opening t h) (failed_key t h i (sent o))) (advices t n h) m2)) (in_made a (λ x. made_stand_in x (node_id t n)) (count_of h) (option_and_then (opening t h) (own_approval h i o)) (add_made (λ x. made_reversal x (node_id t n)) (count_of h) (option_and_then (opening t h) (failed_key t h i (sent o))) (advices t n h)) m1))
      (in_accepted a (count_of h) (is_ok_ack (sent o)) (handled t h i) (add_made (λ x. made_stand_in x (node_id t n)) (count_of h) (option_and_then (opening t h) (own_approval h i o)) (add_made (λ x. made_reversal x (node_id t n)) (count_of h) (option_and_then (opening t h) (failed_key t h i (sent o))) (advices t n h))) m)
    where
      accepted : (x : Handled) × (is_ok_ack (sent o) ≡ true) × (handled t h i ≡ Some x) × (Rattle.message_elements.specs.Groups.is_advice_group (group x.message.kind) ≡ true) × (a.message ≡ as_kept x.message) × (a.own ≡ false) → IsMessage a.message
      accepted p = subst IsMessage (sym p.4) (kind_is _ p.0.message (handled_written h i p.0 w.1 w.0.0 p.2).0)

      stood : (op : Opening) × (option_and_then (opening t h) (own_approval h i o) ≡ Some op) × (a.message ≡ made_stand_in op.message (node_id t n)) → IsMessage a.message
      stood p =
          let k = opened_of_key (opening t h) (own_approval h i o) p.0 p.1 in
          subst IsMessage (sym p.2) (stand_in_is p.0.message (node_id t n) (opening_written h k.0 p.0 w.1 k.2).0 id)

      failed : (op : Opening) × (option_and_then (opening t h) (failed_key t h i (sent o)) ≡ Some op) × (a.message ≡ made_reversal op.message (node_id t n)) → IsMessage a.message
      failed p =
          let k = opened_of_key (opening t h) (failed_key t h i (sent o)) p.0 p.1 in
          let g = opening_written h k.0 p.0 w.1 k.2 in
          subst IsMessage (sym p.2) (reversal_is p.0.message (node_id t n) g.0 g.1 id)

  -- outputs

  limits_code : (day single : ℕ) (currency : Bytes) (u : ℕ) (m : Fields) (amount : ℕ) → IsCode (code_by_limits day single currency u m amount)
  limits_code day single currency u m amount =
      cond_both (eqb day 0) code_91 (cond (not (bytes_eq (el m 49) currency)) code_57 (cond (nat_lt single amount) code_61 (cond (nat_lt day (u + amount)) code_61 code_00))) IsCode (λ _. (refl, refl))
      (λ _. cond_both (not (bytes_eq (el m 49) currency)) code_57 (cond (nat_lt single amount) code_61 (cond (nat_lt day (u + amount)) code_61 code_00)) IsCode (λ _. (refl, refl))
      (λ _. cond_both (nat_lt single amount) code_61 (cond (nat_lt day (u + amount)) code_61 code_00) IsCode (λ _. (refl, refl))
      (λ _. cond_both (nat_lt day (u + amount)) code_61 code_00 IsCode (λ _. (refl, refl)) (λ _. (refl, refl)))))

  stood_code : (h : History) (m : Fields) → IsCode (standin_code t n h m)
  unfolding standin_code
  stood_code h m = limits_code (limit t n h (card_of m) (label_of m)) (single t n (card_of m)) t.settings.currency _ m (decimal (el m 4))

  reply_written : (src : Source) (m : Fields) (h : History) → IsMessage m → OutputIs (reply_output src m h)
  reply_written Gate m h g = g
  reply_written (ByLink l) m h g = g

  brought_code : (past : History) (i : ReadInput) (c : Bytes) → InputIs i → refusal t n past i ≡ None → Brought i c → IsCode c
  unfolding code_of
  brought_code past i c g ok (by_link l s m is kind same) =
      let ok' : refusal t n past (Take l s m) ≡ None = ap (refusal t n past) (sym is) ∙ ok in
      let g' : InputIs (Take l s m) = subst InputIs is g in
      subst IsCode (sym same) (code_good m g'.0 (there m kind (TakenFacts.is_whole (taken_facts t n past l s m ok'))))
    where
      there : (m : Fields) → is_answer m.kind ≡ true → IsWhole (required_taken (group m.kind) m.kind) m → has m 39 ≡ true
      there m kind f = is_there m (7 ∷ 11 ∷ 32 ∷ 39 ∷ []) 39 (IsWhole.none_missing (subst (λ ns. IsWhole ns m) (answer_needs m.kind kind) f)) (inr (inr (inr (inl refl))))
  brought_code past i c g ok (by_host a is) = subst InputIs is g

  kept_written : (past : History) (i : ReadInput) (h : History) (x : Fields) → AreWritten past → InputIs i → Kept t n past i h x → IsMessage x
  kept_written past i h x w g (due a m e) = subst IsMessage (sym e) (advices_written past a w m)
  kept_written past i h x w g (reversing key op o1 ticks e) = let f = opening_written past key op w o1 in subst IsMessage (sym e) (reversal_is op.message (node_id t n) f.0 f.1 id)
  kept_written past i h x w g (standing key op o1 s si e) = let f = opening_written (In i ∷ past) key op (g, w) o1 in subst IsMessage (sym e) (stand_in_is op.message (node_id t n) f.0 id)
  kept_written past i h x w g (accepting a) = subst IsMessage (sym a.is) (kind_is _ a.message (handled_written past i (record { message = a.message; source = a.source }) w g a.is_handled).0)

  -- the grants that were made can be written
  grants_written : (h : History) (g : Lent) → AreWritten h → length (grants t n h) < 10000000000 → IsIn g (grants t n h) → IsGrant g.grant
  unfolding grants
  grants_written [] g w few m = absurd m
  grants_written (Out i o ∷ h) g w few m = grants_written h g w.1 few m
  grants_written (In (Enter x) ∷ h) g w few m = grants_written h g w.1 few m
  grants_written (In (Take l s x) ∷ h) g w few m = grants_written h g w.1 few m
  grants_written (In (LinkUp l) ∷ h) g w few m = grants_written h g w.1 few m
  grants_written (In (LinkDown l) ∷ h) g w few m = grants_written h g w.1 few m
  grants_written (In Tick ∷ h) g w few m = grants_written h g w.1 few m
  grants_written (In (HostAnswer a c) ∷ h) g w few m = grants_written h g w.1 few m
  grants_written (In (NewDate d) ∷ h) g w few m = grants_written h g w.1 few m
  grants_written (In (TakePacket l s (packets.Grant x)) ∷ h) g w few m = grants_written h g w.1 few m
  grants_written (In (TakePacket l s (packets.Ack lender number)) ∷ h) g w few m =
      let e = length-map (grants t n h) (lent_acked lender number) in
      let r = in_acked_grants lender number (grants t n h) g m in
      subst IsGrant r.2 (grants_written h r.0 w.1 (omega (arith, few, e)) r.1)
  grants_written (In (Lend k c d a) ∷ h) g w few m = ⊎_elim
      (λ e. subst (λ (z : Lent). IsGrant z.grant) e (record { lender = pad_good (node_id t n) (ids n); number = omega (arith, few); borrower = pad_good (node_id t k) (ids k); card = w.0.0; date = w.0.1; amount = w.0.2 }))
      (λ old. grants_written h g w.1 (omega (arith, few)) old) m

  output_written : (past : History) (i : ReadInput) (h : History) (o : ReadOutput) → AreWritten past → InputIs i → refusal t n past i ≡ None → length (grants t n past) < 1000000 → Allowed t n past i h o → OutputIs o
  output_written past i h o w g ok few (forwarding f) = subst OutputIs (sym f.is) (kind_is K0100 f.message (handled_written past i (record { message = f.message; source = f.source }) w g f.is_handled).0)
  output_written past i h o w g ok few (asking f) = subst OutputIs (sym f.is) (kind_is K0100 f.message (handled_written past i (record { message = f.message; source = f.source }) w g f.is_handled).0)
  output_written past i h o w g ok few (standing_in f) = subst OutputIs (sym f.is) (reply_written f.op.source (response f.op.message (standin_code t n h f.op.message)) h (response_is f.op.message (standin_code t n h f.op.message) (opening_written (In i ∷ past) f.opens.key f.op (g, w) f.opens.is).0 (stood_code h f.op.message)))
  output_written past i h o w g ok few (passing f) = subst OutputIs (sym f.is) (reply_written f.op.source (response f.op.message f.code) h (response_is f.op.message f.code (opening_written past f.key f.op w f.opens).0 (⊎_elim (λ c. c) (λ b. brought_code past i f.code g ok b) f.code_from)))
  output_written past i h o w g ok few (declining f) = subst OutputIs (sym f.is) (reply_written f.op.source (response f.op.message f.code) h (response_is f.op.message f.code (opening_written (In i ∷ past) f.opens.key f.op (g, w) f.opens.is).0 f.is_code))
  output_written past i h o w g ok few (repeating f) = subst OutputIs (sym f.is) (reply_written f.source f.before h (answer_written past f.key f.before w f.answered))
  output_written past i h o w g ok few (refusing f) = subst OutputIs (sym f.is) (reply_written f.source (response f.message code_94) h (response_is f.message code_94 (handled_written past i (record { message = f.message; source = f.source }) w g f.is_handled).0 (refl, refl)))
  output_written past i h o w g ok few (acking f) = subst OutputIs (sym f.is) (reply_written f.source (response f.message f.code) h (response_is f.message f.code (handled_written past i (record { message = f.message; source = f.source }) w g f.is_handled).0 f.is_code))
  output_written past i h o w g ok few (sending f) = subst OutputIs (sym f.is) (kind_is _ f.message (kept_written past i h f.message w g f.kept))
  output_written past i h o w g ok few (posting f) = subst OutputIs (sym f.is) (kept_written past i h f.message w g f.kept)
  output_written past i h o w g ok few (putting_packet f) = subst OutputIs (sym f.is) (⊎_elim own acked f.from)
    where
      own : (x : Lent) × IsIn x (grants t n (In i ∷ past)) × (f.packet ≡ packets.Grant x.grant) → IsPacket f.packet
      own r = let e = grants_step t n i past in subst IsPacket (sym r.2) (grants_written (In i ∷ past) r.0 (g, w) (omega (arith, few, e)) r.1)

      acked : (l : ℕ) × (s : ℕ) × (x : Grant) × (i ≡ TakePacket l s (packets.Grant x)) × (f.packet ≡ packets.Ack x.lender x.number) → IsPacket f.packet
      acked r = subst IsPacket (sym r.4) (subst InputIs r.3 g)

  -- the decision writes only messages that can be written
  pub decide_written : (past : History) (i : ReadInput) → AreWritten past → InputIs i → refusal t n past i ≡ None → length (grants t n past) < 1000000 → KeepsIssuers t past → AreWritten (decide t n past i)
  decide_written past i w g ok few keeps = decide_keeps t n past i AreWritten (λ h o q allowed. ((g, output_written past i h o w g ok few allowed), q)) keeps (g, w)
