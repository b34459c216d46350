-- Where a 00 for a key comes from.
use Rattle.std.proofs.Common.{◌≡◌, ℕ, zero, suc, ◌<◌, List, [], ◌∷◌, ◌++◌, Option, Some, None, Bool, true, false, ◌&&◌, refl, sym, ap, ◌∙◌, subst, inl, inr, ⊎_elim, ◌⊎◌, arith, bytes_eq}
use Rattle.std.proofs.lemmas.Bool.{and_parts, or_cases, or_right}
use Rattle.std.proofs.lemmas.Option.{same_Some}
use Rattle.net_rows.specs.Network.{Network, other_end}
use Rattle.network_law.specs.Traces.{ReadInput, Enter, Take, LinkUp, LinkDown, Tick, HostAnswer, NewDate, TakePacket, Lend, ReadOutput, Put, Event, In, Out, History, Handled, handled, Opening, opening, sent, has_00, is_00_of, brings_00, key_of_00, own_approval, Approval, approval_by, approval_of, approvals, ask_key, is_key, forwarded, IsIn, Has}
use Rattle.network_law.specs.Decision.{decide, sent_kind}
use Rattle.network_law.specs.Refusals.{refusal}
use Rattle.network_law.specs.Entries.{ReadEntry, read_history}
use Rattle.network_law.proofs.ReadRuns.{IsFormed, IsLegalRead, IsReadRun}
use Rattle.network_law.specs.Checked.{Ranks, IsRanked, IsChecked}
use Rattle.network_law.specs.Claims.{LeadsToApproval, ApprovalsLead}
use Rattle.message_keys.proofs.Equality.{key_eq_is, bytes_eq_is}
use Rattle.network_law.proofs.Emits.{Allowed, forwarding, asking, standing_in, passing, declining, repeating, refusing, acking, sending, posting, putting_packet, OpenedFirst, Failed, ViaLink, ViaHost, decide_keeps, stays_open}
use Rattle.network_law.proofs.Node.{NodeFacts, OpensNow, opening_in_cases, legal_facts, facts_out, keeps_issuers, answer_no_request, answer_is, response_is_of_kind, forwarded_has}
use Rattle.network_law.proofs.Elements.{response_key}
use Rattle.network_law.proofs.Used.{OwnFacts, Stood, own_case, own_in_entry, has_00_more, brings_more, ask_key_more, answer_has_00, reply_message, response_code, acked_kind, advice_no_answer}
use Rattle.network_law.proofs.Chain.{rank, forward_falls}
use Rattle.network_law.proofs.Ends.{legal_at, histories}
use Rattle.network_law.specs.Cards.{Bytes, card_of}
use Rattle.iso_message.specs.Fields.{Fields, as_kind}
use Rattle.message_elements.specs.declared.kind.Kind.TheVariants.{K0100}
use Rattle.message_elements.specs.Groups.{is_request, is_answer, is_04xx}
use Rattle.card_digits.specs.declared.key.Key.{Key}
use Rattle.message_keys.specs.Keys.{key_of, key_eq, code_of}
use Rattle.message_elements.specs.Codes.{code_94, code_00}
use Rattle.iso_message.specs.Made.{response}

not_both : (b : Bool) → b ≡ true → b ≡ false → ⊥
not_both b p q = cc

pub forwarded_more : (h : History) (i : ReadInput) (o : ReadOutput) (k : Key) (l : ℕ) → forwarded h k ≡ Some l → forwarded (Out i o ∷ h) k ≡ Some l
unfolding forwarded
forwarded_more h i o k l e = rw e refl

-- a 00 that came by the link on which k was forwarded
pub record Came00 (h : History) (k : Key) : Type 0 where
  pub link : ℕ
  pub serial : ℕ
  pub message : Fields
  pub has : Has (In (Take link serial message)) h
  pub is_00 : is_00_of k (Some message) ≡ true
  pub forwarded_on : forwarded h k ≡ Some link

abbrev pub OwnIn : Network → History → Key → Type 0
OwnIn t h k = (a : Approval) × IsIn a (approvals t h) × (a.key ≡ k)

abbrev pub HostIn : History → Key → Type 0
HostIn h k = (ask : ℕ) × Has (In (HostAnswer ask code_00)) h × (ask_key h ask ≡ Some k)

abbrev pub Origin : Network → History → Key → Type 0
Origin t h k = Came00 h k ⊎ (OwnIn t h k ⊎ HostIn h k)

in_front : {X : Type 0} (xs ys : List X) (x : X) → IsIn x ys → IsIn x (xs ++ ys)
in_front [] ys x m = m
in_front (z ∷ zs) ys x m = inr (in_front zs ys x m)

more_origin : (t : Network) (e : Event) (h : History) (k : Key) → Origin t h k → Origin t (e ∷ h) k
unfolding approvals forwarded ask_key
more_origin t (In i) h k (inl c) = inl (record { link = c.link; serial = c.serial; message = c.message; has = inr c.has; is_00 = c.is_00; forwarded_on = c.forwarded_on })
more_origin t (In i) h k (inr (inl a)) = inr (inl a)
more_origin t (In i) h k (inr (inr a)) = inr (inr (a.0, inr a.1, a.2))
more_origin t (Out i o) h k (inl c) = inl (record { link = c.link; serial = c.serial; message = c.message; has = inr c.has; is_00 = c.is_00; forwarded_on = forwarded_more h i o k c.link c.forwarded_on })
more_origin t (Out i o) h k (inr (inl a)) = inr (inl (a.0, in_front (approval_of t h (own_approval h i o)) (approvals t h) a.0 a.1, a.2))
more_origin t (Out i o) h k (inr (inr a)) = inr (inr (a.0, inr a.1, ask_key_more h i o a.0 k a.2))

-- a 0110 of k with 00 in the output
pub record Is00 (k : Key) (m : Fields) : Type 0 where
  pub answer_kind : is_answer m.kind ≡ true
  pub key : key_of m ≡ k
  pub code : bytes_eq (code_of m) code_00 ≡ true

pub is_00_parts : (k : Key) (m : Fields) → is_00_of k (Some m) ≡ true → Is00 k m
is_00_parts k m e =
    let p = and_parts (is_answer m.kind && key_eq (key_of m) k) (bytes_eq (code_of m) code_00) e in
    let q = and_parts (is_answer m.kind) (key_eq (key_of m) k) p.0 in
    record { answer_kind = q.0; key = key_eq_is (key_of m) k q.1; code = p.1 }

sent_00 : (k : Key) (w : Option Fields) → is_00_of k w ≡ true → (m : Fields) × (w ≡ Some m) × Is00 k m
sent_00 k None e = absurd (not_both false e refl)
sent_00 k (Some m) e = (m, refl, is_00_parts k m e)

-- within an entry
record InEntry (t : Network) (n : ℕ) (past : History) (i : ReadInput) (h : History) : Type 0 where
  own : OwnFacts t n past i h
  input : Has (In i) h
  forwarded_stays : (k : Key) (l : ℕ) → forwarded past k ≡ Some l → forwarded h k ≡ Some l
  origin : (k : Key) → has_00 h k ≡ true → Origin t h k

-- a 00 in the entry of a 0110 with 00 of the same key goes on by the link on which k was forwarded
came_case : (t : Network) (n : ℕ) (past : History) (h : History) (o : ReadOutput) (k : Key) (l s : ℕ) (m x : Fields) → OwnFacts t n past (Take l s m) h → Allowed t n past (Take l s m) h o → is_answer m.kind ≡ true → sent o ≡ Some x → Is00 k x → has_00 h k ≡ false → forwarded past k ≡ Some l
unfolding handled
came_case t n past h o k l s m x facts allowed ans is x00 none = go allowed
  where
    ends : {A : Type 0} (b : Bool) → b ≡ true → b ≡ false → A
    ends b p q = absurd (not_both b p q)

    of_code : {A : Type 0} (y : Fields) (c : Bytes) → response y c ≡ x → bytes_eq c code_00 ≡ false → A
    of_code y c same other = ends (bytes_eq c code_00) (ap (λ c. bytes_eq c code_00) (sym (response_code y c x same)) ∙ x00.code) other

    go : Allowed t n past (Take l s m) h o → forwarded past k ≡ Some l
    go (forwarding f) =
        let same : as_kind K0100 f.message ≡ x = same_Some _ _ (ap sent (sym f.is) ∙ is) in
        ends (is_answer x.kind) x00.answer_kind (ap (λ z. is_answer (Fields.kind z)) (sym same))
    go (asking f) = absurd (bad (ap sent (sym f.is) ∙ is))
      where
        bad : None ≡ Some x → ⊥
        bad p = cc
    go (standing_in f) = ⊎_elim first failed f.how
      where
        first : OpenedFirst t past (Take l s m) h f.opens.key → forwarded past k ≡ Some l
        first w = ⊎_elim (λ was. absurd (bad (sym w.fresh ∙ was))) now (opening_in_cases t past (Take l s m) f.opens.key f.op f.opens.is)
          where
            bad : None ≡ Some f.op → ⊥
            bad p = cc

            now : OpensNow t past (Take l s m) f.opens.key f.op → forwarded past k ≡ Some l
            now v =
                let same : m ≡ f.op.message = ap (λ (z : Handled). z.message) (same_Some _ _ v.is_handled) in
                ends (is_request m.kind) (ap (λ z. is_request (Fields.kind z)) same ∙ v.request) (answer_no_request m.kind ans)

        failed : Failed t past (Take l s m) f.opens.key f.op → forwarded past k ≡ Some l
        failed w = ends false w.timer refl
    go (passing f) = ⊎_elim link host f.via
      where
        take_link : {a b c d : ℕ} {y z : Fields} → Take a b y ≡ Take c d z → a ≡ c
        take_link p = cc

        same : response f.op.message f.code ≡ x
        same = reply_message f.op.source _ h o x f.is is

        opened_key : (key_of f.op.message ≡ f.key) × (is_request f.op.message.kind ≡ true)
        opened_key = let w = facts.entry.node.opens f.key f.op (facts.entry.opening_is f.key ∙ stays_open t past (Take l s m) f.key f.op f.opens) in (w.key, w.request)

        key : f.key ≡ k
        key = sym opened_key.0 ∙ (sym (response_key f.op.message f.code opened_key.1) ∙ (ap key_of same ∙ x00.key))

        link : ViaLink past (Take l s m) f.key → forwarded past k ≡ Some l
        link v = ap (forwarded past) (sym key) ∙ (v.forwarded_on ∙ ap Some (sym (take_link v.input)))

        host : ViaHost past (Take l s m) f.key → forwarded past k ≡ Some l
        host v = absurd (bad v.input)
          where
            bad : Take l s m ≡ HostAnswer v.ask v.code → ⊥
            bad p = cc
    go (declining f) = of_code f.op.message f.code (reply_message f.op.source _ h o x f.is is) f.not_00
    go (repeating f) =
        let same : f.before ≡ x = reply_message f.source f.before h o x f.is is in
        let key : f.key ≡ k = sym ((answer_is past f.key f.before f.answered).1) ∙ (ap key_of same ∙ x00.key) in
        let code : bytes_eq (code_of f.before) code_00 ≡ true = ap (λ z. bytes_eq (code_of z) code_00) same ∙ x00.code in
        ends (has_00 h k) (ap (has_00 h) (sym key) ∙ facts.stays_00 f.key (answer_has_00 past f.key f.before f.answered code)) none
    go (refusing f) = of_code f.message code_94 (reply_message f.source _ h o x f.is is) refl
    go (acking f) =
        let same : response f.message f.code ≡ x = reply_message f.source _ h o x f.is is in
        ends (is_answer x.kind) x00.answer_kind (ap (λ z. is_answer (Fields.kind z)) (sym same) ∙ (ap is_answer (response_is_of_kind f.message f.code) ∙ acked_kind f.message.kind f.kind))
    go (sending f) =
        let same : as_kind (sent_kind (is_04xx f.message.kind) f.again) f.message ≡ x = same_Some _ _ (ap sent (sym f.is) ∙ is) in
        ends (is_answer x.kind) x00.answer_kind (ap (λ z. is_answer (Fields.kind z)) (sym same) ∙ advice_no_answer (is_04xx f.message.kind) f.again)
    go (putting_packet f) = absurd (bad (ap sent (sym f.is) ∙ is))
      where
        bad : None ≡ Some x → ⊥
        bad p = cc
    go (posting f) = absurd (bad (ap sent (sym f.is) ∙ is))
      where
        bad : None ≡ Some x → ⊥
        bad p = cc

is_key_is : (k : Key) (o : Option Key) → is_key k o ≡ true → o ≡ Some k
is_key_is k None e = absurd (not_both false e refl)
is_key_is k (Some j) e = ap Some (key_eq_is j k e)

-- the first 00 for k
first_00 : (t : Network) (n : ℕ) (past : History) (i : ReadInput) (h : History) (o : ReadOutput) (k : Key) → InEntry t n past i h → Allowed t n past i h o → has_00 h k ≡ false → is_00_of k (sent o) ≡ true → Origin t (Out i o ∷ h) k
unfolding approvals forwarded
first_00 t n past i h o k q allowed none e = go (brings_00 h k i) refl
  where
    x : (m : Fields) × (sent o ≡ Some m) × Is00 k m
    x = sent_00 k (sent o) e

    own : brings_00 h k i ≡ false → own_approval h i o ≡ Some k
    own at =
        let a : key_of_00 (sent o) ≡ Some k = rw (x.1, x.2.answer_kind, x.2.code, x.2.key) refl in
        rw (a, none, at) refl

    brought : (j : ReadInput) → i ≡ j → brings_00 h k j ≡ true → Origin t (Out i o ∷ h) k
    brought (Take l s m) is b =
        let m00 = is_00_parts k m b in
        let f : forwarded past k ≡ Some l = came_case t n past h o k l s m x.0 (subst (λ z. OwnFacts t n past z h) is q.own) (subst (λ z. Allowed t n past z h o) is allowed) m00.answer_kind x.1 x.2 none in
        more_origin t (Out i o) h k (inl (record { link = l; serial = s; message = m; has = subst (λ z. Has (In z) h) is q.input; is_00 = b; forwarded_on = q.forwarded_stays k l f }))
    brought (HostAnswer a c) is b =
        let p = and_parts (is_key k (ask_key h a)) (bytes_eq c code_00) b in
        let c00 : c ≡ code_00 = bytes_eq_is c code_00 p.1 in
        more_origin t (Out i o) h k (inr (inr (a, subst (λ z. Has (In z) h) (is ∙ ap (HostAnswer a) c00) q.input, is_key_is k (ask_key h a) p.0)))
    brought (Enter m) is b = absurd (not_both false b refl)
    brought (LinkUp l) is b = absurd (not_both false b refl)
    brought (LinkDown l) is b = absurd (not_both false b refl)
    brought Tick is b = absurd (not_both false b refl)
    brought (NewDate d) is b = absurd (not_both false b refl)
    brought (TakePacket lk sr pk) is b = absurd (not_both false b refl)
    brought (Lend br cd dt am) is b = absurd (not_both false b refl)

    go : (b : Bool) → brings_00 h k i ≡ b → Origin t (Out i o ∷ h) k
    go true at = brought i refl at
    go false at =
        let s : Stood t n h k = own_case t n past i h o k q.own allowed (own at) in
        let one : approval_of t h (own_approval h i o) ≡ record { key = k; request = s.op.message } ∷ [] = ap (approval_of t h) (own at) ∙ ap (approval_by k) s.opens in
        inr (inl (record { key = k; request = s.op.message }, rw one (inl refl), refl))

origin_out : (t : Network) (n : ℕ) (past : History) (i : ReadInput) (h : History) (o : ReadOutput) (k : Key) → InEntry t n past i h → Allowed t n past i h o → has_00 (Out i o ∷ h) k ≡ true → Origin t (Out i o ∷ h) k
unfolding has_00
origin_out t n past i h o k q allowed e = go (has_00 h k) refl (or_cases (has_00 h k) (is_00_of k (sent o)) e)
  where
    go : (b : Bool) → has_00 h k ≡ b → (has_00 h k ≡ true) ⊎ (is_00_of k (sent o) ≡ true) → Origin t (Out i o ∷ h) k
    go true at c = more_origin t (Out i o) h k (q.origin k at)
    go false at (inl was) = absurd (not_both (has_00 h k) was at)
    go false at (inr now) = first_00 t n past i h o k q allowed at now

abbrev pub HasOrigins : Network → History → Type 0
HasOrigins t h = (k : Key) → has_00 h k ≡ true → Origin t h k

origin_decide : (t : Network) (n : ℕ) (past : History) (i : ReadInput) → IsFormed i → refusal t n past i ≡ None → NodeFacts t n past → HasOrigins t past → HasOrigins t (decide t n past i)
unfolding has_00 forwarded
origin_decide t n past i form ok f before =
    (decide_keeps t n past i (InEntry t n past i)
    (λ h o q allowed. record {
      own = record { entry = facts_out t n past i h o f q.own.entry allowed; stays_00 = λ k r. has_00_more h (Out i o) k (q.own.stays_00 k r); stays_brought = λ k r. brings_more h i o k i (q.own.stays_brought k r) };
      input = inr q.input;
      forwarded_stays = λ k l e. forwarded_more h i o k l (q.forwarded_stays k l e);
      origin = λ k e. origin_out t n past i h o k q allowed e;
    })
    (keeps_issuers t n past f)
    (record { own = own_in_entry t n past i form ok f; input = inl refl; forwarded_stays = λ k l e. e; origin = λ k e. more_origin t (In i) past k (before k e) })).origin

pub legal_origins : (t : Network) (n : ℕ) (es : List ReadEntry) → IsLegalRead t n es → HasOrigins t (read_history es)
unfolding read_history has_00
legal_origins t n [] l = λ k e. absurd (not_both false e refl)
legal_origins t n (e ∷ es) l = subst (HasOrigins t) (sym l.1.outputs) (origin_decide t n (read_history es) e.input l.1.formed l.1.accepted (legal_facts t n es l.0) (legal_origins t n es l.0))

-- what was put out with 00
put_00 : (h : History) (i : ReadInput) (l s : ℕ) (m : Fields) (k : Key) → Has (Out i (Put l s m)) h → is_00_of k (Some m) ≡ true → has_00 h k ≡ true
unfolding has_00
put_00 [] i l s m k has e = absurd has
put_00 (In j ∷ h) i l s m k has e = ⊎_elim (λ bad. absurd (differ bad)) (λ below. put_00 h i l s m k below e) has
  where
    differ : In j ≡ Out i (Put l s m) → ⊥
    differ p = cc
put_00 (Out j o ∷ h) i l s m k has e = ⊎_elim (λ here. or_right (has_00 h k) (is_00_of k (sent o)) (ap (λ z. is_00_of k (sent z)) (parts here) ∙ e)) (λ below. rw (put_00 h i l s m k below e) refl) has
  where
    parts : Out j o ≡ Out i (Put l s m) → o ≡ Put l s m
    parts p = cc

-- by induction on the rank

approval_by_rank : (t : Network) (ranks : Ranks) (traces : ℕ → List ReadEntry) → IsReadRun t traces → IsRanked t ranks → IsChecked t → (k : Key) (n0 : ℕ) (op0 : Opening) → opening t (read_history (traces n0)) k ≡ Some op0 → (fuel n : ℕ) → rank ranks (card_of op0.message) n < fuel → has_00 (read_history (traces n)) k ≡ true → (ns : List ℕ) × LeadsToApproval t (histories traces) k n ns
approval_by_rank t ranks traces run ranked sound k n0 op0 e0 zero n low has = absurd (omega (arith, low))
approval_by_rank t ranks traces run ranked sound k n0 op0 e0 (suc fuel) n low has = ⊎_elim (λ c. came c (approval_by_rank t ranks traces run ranked sound k n0 op0 e0 fuel (other_end t n c.link))) (λ w. ([], w)) (legal_origins t n (traces n) (legal_at run n) k has)
  where
    came : (c : Came00 (read_history (traces n)) k) → (rank ranks (card_of op0.message) (other_end t n c.link) < fuel → has_00 (read_history (traces (other_end t n c.link))) k ≡ true → (ns : List ℕ) × LeadsToApproval t (histories traces) k (other_end t n c.link) ns) → (ns : List ℕ) × LeadsToApproval t (histories traces) k n ns
    came c ih =
        let put = run.linked n c.link c.serial c.message c.has in
        let falls : rank ranks (card_of op0.message) (other_end t n c.link) < rank ranks (card_of op0.message) n = forward_falls t ranks traces run ranked sound k n0 op0 e0 n c.link c.forwarded_on in
        let rest = ih (omega (arith, falls, low)) (put_00 (read_history (traces (other_end t n c.link))) put.0 c.link c.serial c.message k put.1 c.is_00) in
        let b = forwarded_has (read_history (traces n)) k c.link c.forwarded_on in
        (other_end t n c.link ∷ rest.0, ((c.link, b.1, b.2, record { input = b.0; put = b.3; request = b.4; key = b.5 }, refl), rest.1))

pub ApprovalsLead_holds : (t : Network) (ranks : Ranks) (traces : ℕ → List ReadEntry) → IsReadRun t traces → IsRanked t ranks → IsChecked t → ApprovalsLead t (histories traces)
ApprovalsLead_holds t ranks traces run ranked sound k n a e code =
    ⊎_elim forwarded_there (λ w. ([], w)) (legal_origins t n (traces n) (legal_at run n) k has)
  where
    has : has_00 (read_history (traces n)) k ≡ true
    has = answer_has_00 (read_history (traces n)) k a e (ap (λ c. bytes_eq c code_00) code)

    forwarded_there : Came00 (read_history (traces n)) k → (ns : List ℕ) × LeadsToApproval t (histories traces) k n ns
    forwarded_there c =
        let b = forwarded_has (read_history (traces n)) k c.link c.forwarded_on in
        let s = (legal_facts t n (traces n) (legal_at run n)).puts b.0 c.link b.1 b.2 b.3 b.4 in
        approval_by_rank t ranks traces run ranked sound k n s.op (ap (opening t (read_history (traces n))) (sym b.5) ∙ s.is) (suc (rank ranks (card_of s.op.message) n)) n (omega arith) has
