-- Where a response with code 94 on a link comes from.
use Rattle.std.proofs.Common.{◌≡◌, ℕ, ◌+◌, List, [], ◌∷◌, Option, Some, None, Bool, true, false, cond, not, ◌&&◌, refl, sym, ap, ◌∙◌, subst, inl, inr, ⊎_elim, ◌⊎◌, bytes_eq, eqb, nat_lt}
use Rattle.std.proofs.lemmas.Bool.{and_parts, eq-eqb, cond_both, not-true}
use Rattle.std.proofs.lemmas.Option.{same_Some}
use Rattle.card_digits.specs.Numbers.{decimal}
use Rattle.net_rows.specs.Network.{Network, other_end, day}
use Rattle.network_law.specs.Tables.{is_attached, single}
use Rattle.network_law.specs.declared.grant.GrantPacket.{GrantPacket}
use Rattle.network_law.specs.Traces.{Source, Gate, ByLink, ReadInput, Enter, Take, ReadOutput, Put, Ask, Post, PutPacket, Event, In, Out, History, Opening, opening, answer, answers, sent, Has}
use Rattle.network_law.specs.Decision.{limit, decide, reply_output, sent_kind, standin_code, code_by_limits, same_source}
use Rattle.network_law.specs.Refusals.{refusal}
use Rattle.network_law.specs.Entries.{ReadEntry, read_history}
use Rattle.network_law.proofs.ReadRuns.{IsFormed, IsLegalRead, IsReadRun}
use Rattle.network_law.specs.Claims.{is_response, IsForward}
use Rattle.network_law.specs.Checked.{Ranks, IsRanked, IsChecked}
use Rattle.message_keys.proofs.Equality.{bytes_eq_refl}
use Rattle.network_law.proofs.Emits.{Allowed, forwarding, asking, standing_in, passing, declining, repeating, refusing, acking, sending, posting, putting_packet, handled_as, decide_keeps, from_link, stays_open}
use Rattle.network_law.proofs.Node.{NodeFacts, EntryFacts, legal_facts, facts_in, facts_out, keeps_issuers}
use Rattle.network_law.proofs.Elements.{code_response}
use Rattle.network_law.proofs.Chain.{OpenedByThatPut_holds}
use Rattle.network_law.proofs.Ends.{legal_at, back, histories}
use Rattle.network_law.specs.Cards.{label_of, Bytes, card_of}
use Rattle.iso_message.specs.Fields.{Fields, el}
use Rattle.message_elements.specs.Groups.{is_request, is_answer, is_reversal, is_04xx}
use Rattle.card_digits.specs.declared.key.Key.{Key}
use Rattle.message_keys.specs.Keys.{key_of, key_eq, content, Content, content_eq, code_of}
use Rattle.message_elements.specs.Codes.{code_94, code_00, code_61, code_57, code_91}
use Rattle.iso_message.specs.Made.{response}

not_both : (b : Bool) → b ≡ true → b ≡ false → ⊥
not_both b p q = cc

-- the answer's code isn't 94
pub answers_not_94 : (k : Key) (o : Option Fields) (a : Fields) → answers k o ≡ Some a → bytes_eq (code_of a) code_94 ≡ false
answers_not_94 k None a e = cc
answers_not_94 k (Some m) a e = go (is_answer m.kind && key_eq (key_of m) k && not (bytes_eq (code_of m) code_94)) refl
  where
    go : (b : Bool) → (is_answer m.kind && key_eq (key_of m) k && not (bytes_eq (code_of m) code_94)) ≡ b → bytes_eq (code_of a) code_94 ≡ false
    go true at =
        let same : m ≡ a = same_Some m a (rw at at e) in
        let p = and_parts (is_answer m.kind && key_eq (key_of m) k) (not (bytes_eq (code_of m) code_94)) at in
        subst (λ z. bytes_eq (code_of z) code_94 ≡ false) same (not-true _ p.1)
    go false at = absurd (bad (rw at at e))
      where
        bad : None ≡ Some a → ⊥
        bad x = cc

pub answer_not_94 : (h : History) (k : Key) (a : Fields) → answer h k ≡ Some a → bytes_eq (code_of a) code_94 ≡ false
unfolding answer
answer_not_94 [] k a e = cc
answer_not_94 (In i ∷ h) k a e = answer_not_94 h k a e
answer_not_94 (Out i o ∷ h) k a e = go (answer h k) refl (answer_not_94 h k a)
  where
    go : (x : Option Fields) → answer h k ≡ x → (answer h k ≡ Some a → bytes_eq (code_of a) code_94 ≡ false) → bytes_eq (code_of a) code_94 ≡ false
    go None at rest = answers_not_94 k (sent o) a (rw at at e)
    go (Some x) at rest = rest (at ∙ (rw at at e))

code_limits_not_94 : (day single : ℕ) (currency : Bytes) (u : ℕ) (m : Fields) (amount : ℕ) → bytes_eq (code_by_limits day single currency u m amount) code_94 ≡ false
code_limits_not_94 day single currency u m amount =
    cond_both (eqb day 0) code_91 (cond (not (bytes_eq (el m 49) currency)) code_57 (cond (nat_lt single amount) code_61 (cond (nat_lt day (u + amount)) code_61 code_00))) (λ z. bytes_eq z code_94 ≡ false) (λ _. refl)
    (λ _. cond_both (not (bytes_eq (el m 49) currency)) code_57 (cond (nat_lt single amount) code_61 (cond (nat_lt day (u + amount)) code_61 code_00)) (λ z. bytes_eq z code_94 ≡ false) (λ _. refl)
    (λ _. cond_both (nat_lt single amount) code_61 (cond (nat_lt day (u + amount)) code_61 code_00) (λ z. bytes_eq z code_94 ≡ false) (λ _. refl)
    (λ _. cond_both (nat_lt day (u + amount)) code_61 code_00 (λ z. bytes_eq z code_94 ≡ false) (λ _. refl) (λ _. refl))))

pub standin_not_94 : (t : Network) (n : ℕ) (h : History) (m : Fields) → bytes_eq (standin_code t n h m) code_94 ≡ false
unfolding standin_code
standin_not_94 t n h m = code_limits_not_94 (limit t n h (card_of m) (label_of m)) (single t n (card_of m)) t.settings.currency _ m (decimal (el m 4))

pub reply_put : (src : Source) (m : Fields) (h : History) (l s : ℕ) (x : Fields) → reply_output src m h ≡ Put l s x → (src ≡ ByLink l) × (m ≡ x)
reply_put Gate m h l s x e = cc
reply_put (ByLink k) m h l s x e = let a : k ≡ l = cc in (ap ByLink a, cc)

advice_no_response : (a b : Bool) → is_response (sent_kind a b) ≡ false
advice_no_response true true = refl
advice_no_response true false = refl
advice_no_response false true = refl
advice_no_response false false = refl

abbrev Differs : Opening → Source → Fields → Type 0
Differs op source message = ((is_request message.kind ≡ true) × ((same_source op.source source && content_eq (content op.message) (content message)) ≡ false)) ⊎ ((is_reversal message.kind ≡ true) × (content_eq (content op.message) (content message) ≡ false))

-- a taken message was answered 94
pub record Refused (t : Network) (n : ℕ) (h : History) (l : ℕ) : Type 0 where
  pub serial : ℕ
  pub message : Fields
  pub op : Opening
  pub has : Has (In (Take l serial message)) h
  pub opens : opening t h (key_of message) ≡ Some op
  pub differs : ((is_request message.kind ≡ true) × ((same_source op.source (ByLink l) && content_eq (content op.message) (content message)) ≡ false)) ⊎ ((is_reversal message.kind ≡ true) × (content_eq (content op.message) (content message) ≡ false))

abbrev RefusesOnly : Network → ℕ → History → Type 0
RefusesOnly t n h = (i : ReadInput) (l s : ℕ) (m : Fields) → Has (Out i (Put l s m)) h → is_response m.kind ≡ true → code_of m ≡ code_94 → Refused t n h l

more_refused : (t : Network) (n : ℕ) (e : Event) (h : History) (l : ℕ) → ((k : Key) (op : Opening) → opening t h k ≡ Some op → opening t (e ∷ h) k ≡ Some op) → Refused t n h l → Refused t n (e ∷ h) l
more_refused t n e h l more r = record { serial = r.serial; message = r.message; op = r.op; has = inr r.has; opens = more _ _ r.opens; differs = r.differs }

record EntryCodes (t : Network) (n : ℕ) (past : History) (i : ReadInput) (h : History) : Type 0 where
  entry : EntryFacts t n past i h
  input : Has (In i) h
  codes : RefusesOnly t n h

pub same_out : (i j : ReadInput) (o p : ReadOutput) → Out i o ≡ Out j p → o ≡ p
same_out i j o p e = cc

has_below : (i j : ReadInput) (o : ReadOutput) (h : History) → Has (Out j o) (In i ∷ h) → Has (Out j o) h
has_below i j o h (inl e) = absurd (no e)
  where
    no : In i ≡ Out j o → ⊥
    no p = cc
has_below i j o h (inr m) = m

refused_now : (t : Network) (n : ℕ) (past : History) (i : ReadInput) (h : History) (o : ReadOutput) (l s : ℕ) (m : Fields) → EntryFacts t n past i h → Has (In i) h → Allowed t n past i h o → o ≡ Put l s m → is_response m.kind ≡ true → code_of m ≡ code_94 → Refused t n h l
refused_now t n past i h o l s m facts input allowed e r c = go allowed
  where
    of_code : (x : Fields) (code : Bytes) → response x code ≡ m → bytes_eq code code_94 ≡ false → ⊥
    of_code x code same other = not_both (bytes_eq code code_94) (ap (λ z. bytes_eq z code_94) (sym (code_response x code) ∙ (ap code_of same ∙ c))) other

    put_message : {a b : ℕ} {x : Fields} → Put a b x ≡ Put l s m → x ≡ m
    put_message p = cc

    no_ask : {a : ℕ} {x : Fields} → Ask a x ≡ Put l s m → ⊥
    no_ask p = cc

    no_post : {x : Fields} → Post x ≡ Put l s m → ⊥
    no_post p = cc

    no_packet : {a b : ℕ} {p : GrantPacket} → PutPacket a b p ≡ Put l s m → ⊥
    no_packet p = cc

    go : Allowed t n past i h o → Refused t n h l
    go (forwarding f) = absurd (not_both (is_response m.kind) r (ap (λ z. is_response (Fields.kind z)) (sym (put_message (sym f.is ∙ e)))))
    go (asking f) = absurd (no_ask (sym f.is ∙ e))
    go (standing_in f) = absurd (of_code f.op.message (standin_code t n h f.op.message) (reply_put f.op.source _ h l s m (sym f.is ∙ e)).1 (standin_not_94 t n h f.op.message))
    go (passing f) = absurd (of_code f.op.message f.code (reply_put f.op.source _ h l s m (sym f.is ∙ e)).1 f.not_94)
    go (declining f) = absurd (of_code f.op.message f.code (reply_put f.op.source _ h l s m (sym f.is ∙ e)).1 f.not_94)
    go (repeating f) =
        let same : f.before ≡ m = (reply_put f.source f.before h l s m (sym f.is ∙ e)).1 in
        absurd (not_both (bytes_eq (code_of f.before) code_94) (ap (λ z. bytes_eq z code_94) (ap code_of same ∙ c)) (answer_not_94 past f.key f.before f.answered))
    go (refusing f) =
        let src : f.source ≡ ByLink l = (reply_put f.source _ h l s m (sym f.is ∙ e)).0 in
        let taken = from_link t past i f.message l (subst (λ z. handled_as t past i f.message z) src f.is_handled) in
        let now : opening t h (key_of f.message) ≡ Some f.op = facts.opening_is (key_of f.message) ∙ stays_open t past i (key_of f.message) f.op f.opens in
        record { serial = taken.0; message = f.message; op = f.op; has = subst (λ z. Has (In z) h) taken.1 input; opens = now; differs = subst (λ z. ((is_request f.message.kind ≡ true) × ((same_source f.op.source z && content_eq (content f.op.message) (content f.message)) ≡ false)) ⊎ ((is_reversal f.message.kind ≡ true) × (content_eq (content f.op.message) (content f.message) ≡ false))) src f.differs }
    go (acking f) = absurd (of_code f.message f.code (reply_put f.source _ h l s m (sym f.is ∙ e)).1 f.not_94)
    go (sending f) = absurd (not_both (is_response m.kind) r (ap (λ z. is_response (Fields.kind z)) (sym (put_message (sym f.is ∙ e))) ∙ advice_no_response (is_04xx f.message.kind) f.again))
    go (posting f) = absurd (no_post (sym f.is ∙ e))
    go (putting_packet f) = absurd (no_packet (sym f.is ∙ e))

codes_decide : (t : Network) (n : ℕ) (past : History) (i : ReadInput) → IsFormed i → refusal t n past i ≡ None → NodeFacts t n past → RefusesOnly t n past → RefusesOnly t n (decide t n past i)
unfolding opening
codes_decide t n past i form ok f before =
    (decide_keeps t n past i (EntryCodes t n past i)
    (λ h o q allowed. record {
      entry = facts_out t n past i h o f q.entry allowed;
      input = inr q.input;
      codes = λ j l s m has r c. ⊎_elim (λ here. more_refused t n (Out i o) h l (λ k op w. w) (refused_now t n past i h o l s m q.entry q.input allowed (same_out i j o (Put l s m) here) r c)) (λ below. more_refused t n (Out i o) h l (λ k op w. w) (q.codes j l s m below r c)) has;
    })
    (keeps_issuers t n past f)
    (record {
      entry = record { node = facts_in t n past i form ok f; opening_is = λ k. refl };
      input = inl refl;
      codes = λ j l s m has r c. more_refused t n (In i) past l (stays_open t past i) (before j l s m (has_below i j (Put l s m) past has) r c);
    })).codes

pub legal_codes : (t : Network) (n : ℕ) (es : List ReadEntry) → IsLegalRead t n es → RefusesOnly t n (read_history es)
unfolding read_history
legal_codes t n [] l = λ i k s m has. absurd has
legal_codes t n (e ∷ es) l = subst (RefusesOnly t n) (sym l.1.outputs) (codes_decide t n (read_history es) e.input l.1.formed l.1.accepted (legal_facts t n es l.0) (legal_codes t n es l.0))

-- content and source of a key that was opened by a take

pub content_eq_refl : (c : Content) → content_eq c c ≡ true
content_eq_refl c = rw (bytes_eq_refl c.card, bytes_eq_refl c.processing, bytes_eq_refl c.amount, bytes_eq_refl c.currency) refl

-- no request that was taken is answered 94
pub no_request_refused : (t : Network) (ranks : Ranks) (traces : ℕ → List ReadEntry) → IsReadRun t traces → IsRanked t ranks → IsChecked t → (n l s : ℕ) (m : Fields) (op : Opening) → Has (In (Take l s m)) (read_history (traces n)) → is_request m.kind ≡ true → opening t (read_history (traces n)) (key_of m) ≡ Some op → (same_source op.source (ByLink l) && content_eq (content op.message) (content m)) ≡ true
no_request_refused t ranks traces run ranked sound n l s m op has r e =
    let put = run.linked n l s m has in
    let back = Rattle.network_law.proofs.Ends.back t l n (Rattle.network_law.proofs.Chain.legal_own t n (traces n) (legal_at run n) l s m has) in
    let f : IsForward (histories traces) (key_of m) (other_end t n l) l s m = record { input = put.0; put = put.1; request = r; key = refl } in
    let input : op.input ≡ Take l s m = OpenedByThatPut_holds t ranks traces run ranked sound (key_of m) (other_end t n l) l s m op f (ap (λ z. opening t (read_history (traces z)) (key_of m)) back ∙ e) in
    let o = (legal_facts t n (traces n) (legal_at run n)).opens (key_of m) op e in
    go input o.from
  where
    take_parts : {a b c d : ℕ} {x y : Fields} → Take a b x ≡ Take c d y → (a ≡ c) × (x ≡ y)
    take_parts p = (cc, cc)

    same_link : (l : ℕ) → same_source (ByLink l) (ByLink l) ≡ true
    same_link l = eq-eqb l l refl

    go : op.input ≡ Take l s m → ((l' : ℕ) × (s' : ℕ) × (op.input ≡ Take l' s' op.message) × (op.source ≡ ByLink l')) ⊎ ((m' : Fields) × (op.input ≡ Enter m') × (is_attached t n (key_of m).acquirer ≡ true)) → (same_source op.source (ByLink l) && content_eq (content op.message) (content m)) ≡ true
    go input (inl from) =
        let p = take_parts (sym from.2 ∙ input) in
        let src : op.source ≡ ByLink l = from.3 ∙ ap ByLink p.0 in
        rw (src, p.1, same_link l, content_eq_refl (content m)) refl
    go input (inr entered) = absurd (no entered.0 (sym entered.1 ∙ input))
      where
        no : (x : Fields) → Enter x ≡ Take l s m → ⊥
        no x p = cc
