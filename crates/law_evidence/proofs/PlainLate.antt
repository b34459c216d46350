-- The plain words of approvals that come late say the same.
use Rattle.std.proofs.Common.{◌≡◌, ℕ, Option, Some, None, Bool, true, false, cond, not, ◌&&◌, refl, sym, ap, ◌∙◌, bytes_eq}
use Rattle.std.proofs.lemmas.Bool.{and_parts, not-true, eq-eqb}
use Rattle.std.proofs.lemmas.Option.{same_Some}
use Rattle.std.specs.Prelude.{◌≢◌}
use Rattle.std.specs.Option.{option_and_then}
use Rattle.std.specs.List.{list_any}
use Rattle.card_digits.specs.declared.key.Key.{Key}
use Rattle.iso_message.specs.Fields.{Fields}
use Rattle.message_elements.specs.Groups.{is_answer, is_04xx}
use Rattle.message_keys.specs.Keys.{key_of, code_of}
use Rattle.message_elements.specs.Codes.{code_00}
use Rattle.net_rows.specs.Network.{Network}
use Rattle.network_law.specs.Cards.{Bytes}
use Rattle.network_law.specs.Traces.{ReadInput, Enter, Take, LinkUp, LinkDown, Tick, HostAnswer, NewDate, TakePacket, Lend, History, IsIn, answer, forwarded, ask_key, Advice, advices, reverses_key, code_is_not_00, comes_late, late_key, is_link}
use Rattle.law_evidence.specs.PlainLate.{IsLate, LateIsSuch, SuchIsLate}
use Rattle.message_keys.proofs.Equality.{key_eq_refl, bytes_eq_is, bytes_eq_refl}
use Rattle.network_law.proofs.Emits.{is_link_is}
use Rattle.network_law.proofs.Provenance.{any_in}
use Rattle.network_law.proofs.Leaves.{any_member, reverses_parts}

not_both : (b : Bool) → b ≡ true → b ≡ false → ⊥
not_both b p q = cc

none_some : {X : Type 0} (x : X) → None ≡ Some x → ⊥
none_some x p = cc

-- an answer of another code, and no reversal

record Otherwise (t : Network) (n : ℕ) (h : History) (k : Key) : Type 0 where
  answered : Fields
  is_answer : answer h k ≡ Some answered
  other_code : code_of answered ≢ code_00
  unreversed : (a : Advice) → IsIn a (advices t n h) → is_04xx a.message.kind ≡ true → key_of a.message ≢ k

otherwise : (t : Network) (n : ℕ) (h : History) (k : Key) → comes_late h (advices t n h) k ≡ true → Otherwise t n h k
otherwise t n h k e = go (answer h k) refl (and_parts (code_is_not_00 (answer h k)) (not (list_any (reverses_key k) (advices t n h))) e).0
  where
    none : list_any (reverses_key k) (advices t n h) ≡ false
    none = not-true _ (and_parts (code_is_not_00 (answer h k)) (not (list_any (reverses_key k) (advices t n h))) e).1

    apart : (a : Advice) → IsIn a (advices t n h) → is_04xx a.message.kind ≡ true → key_of a.message ≢ k
    apart a m kind same = not_both (list_any (reverses_key k) (advices t n h)) (any_in (reverses_key k) a (advices t n h) m (rw (kind, same) (key_eq_refl k))) none

    other : (m : Fields) → not (bytes_eq (code_of m) code_00) ≡ true → code_of m ≢ code_00
    other m off same = not_both (bytes_eq (code_of m) code_00) (ap (λ c. bytes_eq c code_00) same ∙ bytes_eq_refl code_00) (not-true _ off)

    go : (w : Option Fields) → answer h k ≡ w → code_is_not_00 (answer h k) ≡ true → Otherwise t n h k
    go None at off = absurd (not_both false (rw at at off) refl)
    go (Some m) at off = record { answered = m; is_answer = at; other_code = other m (ap code_is_not_00 (sym at) ∙ off); unreversed = apart }

late_again : (t : Network) (n : ℕ) (h : History) (k : Key) → Otherwise t n h k → comes_late h (advices t n h) k ≡ true
late_again t n h k o = go (bytes_eq (code_of (Otherwise.answered o)) code_00) refl (list_any (reverses_key k) (advices t n h)) refl
  where
    go : (b : Bool) → bytes_eq (code_of (Otherwise.answered o)) code_00 ≡ b → (c : Bool) → list_any (reverses_key k) (advices t n h) ≡ c → comes_late h (advices t n h) k ≡ true
    go true at c at' = absurd (Otherwise.other_code o (bytes_eq_is _ _ at))
    go false at true at' =
        let r = any_member (reverses_key k) (advices t n h) at' in
        let p = reverses_parts k r.0 r.2 in
        absurd (Otherwise.unreversed o r.0 r.1 p.0 p.1)
    go false at false at' = let is = Otherwise.is_answer o in rw (is, at, at') refl

-- both directions

taken_late : (t : Network) (n : ℕ) (h : History) (l s : ℕ) (m : Fields) (k : Key) → late_key h (advices t n h) (Take l s m) ≡ Some k → IsLate t n h (Take l s m) k
taken_late t n h l s m k e = go (is_answer m.kind && bytes_eq (code_of m) code_00 && is_link l (forwarded h (key_of m)) && comes_late h (advices t n h) (key_of m)) refl
  where
    go : (b : Bool) → (is_answer m.kind && bytes_eq (code_of m) code_00 && is_link l (forwarded h (key_of m)) && comes_late h (advices t n h) (key_of m)) ≡ b → IsLate t n h (Take l s m) k
    go false at = absurd (none_some k (rw at at e))
    go true at =
        let same : key_of m ≡ k = same_Some _ _ (rw at at e) in
        let late = and_parts (is_answer m.kind && bytes_eq (code_of m) code_00 && is_link l (forwarded h (key_of m))) (comes_late h (advices t n h) (key_of m)) at in
        let on = and_parts (is_answer m.kind && bytes_eq (code_of m) code_00) (is_link l (forwarded h (key_of m))) late.0 in
        let kind = and_parts (is_answer m.kind) (bytes_eq (code_of m) code_00) on.0 in
        let o = otherwise t n h k (ap (comes_late h (advices t n h)) (sym same) ∙ late.1) in
        record { approval = (kind.0, bytes_eq_is _ _ kind.1, same, ap (forwarded h) (sym same) ∙ is_link_is l (forwarded h (key_of m)) on.1); answered = Otherwise.answered o; is_answer = Otherwise.is_answer o; other_code = Otherwise.other_code o; unreversed = Otherwise.unreversed o }

told_late : (t : Network) (n : ℕ) (h : History) (a : ℕ) (c : Bytes) (k : Key) → late_key h (advices t n h) (HostAnswer a c) ≡ Some k → IsLate t n h (HostAnswer a c) k
told_late t n h a c k e = by (ask_key h a) refl e
  where
    test : (j : Key) → ask_key h a ≡ Some j → (b : Bool) → (bytes_eq c code_00 && comes_late h (advices t n h) j) ≡ b → cond (bytes_eq c code_00 && comes_late h (advices t n h) j) (Some j) None ≡ Some k → IsLate t n h (HostAnswer a c) k
    test j asks false at e = absurd (none_some k (rw at at e))
    test j asks true at e =
        let same : j ≡ k = same_Some _ _ (rw at at e) in
        let p = and_parts (bytes_eq c code_00) (comes_late h (advices t n h) j) at in
        let o = otherwise t n h k (ap (comes_late h (advices t n h)) (sym same) ∙ p.1) in
        record { approval = (bytes_eq_is _ _ p.0, asks ∙ ap Some same); answered = Otherwise.answered o; is_answer = Otherwise.is_answer o; other_code = Otherwise.other_code o; unreversed = Otherwise.unreversed o }

    by : (w : Option Key) → ask_key h a ≡ w → option_and_then (λ j. cond (bytes_eq c code_00 && comes_late h (advices t n h) j) (Some j) None) (ask_key h a) ≡ Some k → IsLate t n h (HostAnswer a c) k
    by None at e = absurd (none_some k (rw at at e))
    by (Some j) at e = test j at (bytes_eq c code_00 && comes_late h (advices t n h) j) refl (rw at at e)

pub late_is_such : LateIsSuch
late_is_such t n h (Take l s m) k e = taken_late t n h l s m k e
late_is_such t n h (HostAnswer a c) k e = told_late t n h a c k e
late_is_such t n h (Enter m) k e = absurd (none_some k e)
late_is_such t n h (LinkUp l) k e = absurd (none_some k e)
late_is_such t n h (LinkDown l) k e = absurd (none_some k e)
late_is_such t n h Tick k e = absurd (none_some k e)
late_is_such t n h (NewDate d) k e = absurd (none_some k e)
late_is_such t n h (TakePacket l s p) k e = absurd (none_some k e)
late_is_such t n h (Lend m c d x) k e = absurd (none_some k e)

the_rest : (t : Network) (n : ℕ) (h : History) (i : ReadInput) (k : Key) → IsLate t n h i k → comes_late h (advices t n h) k ≡ true
the_rest t n h i k r = late_again t n h k (record { answered = r.answered; is_answer = r.is_answer; other_code = r.other_code; unreversed = r.unreversed })

pub such_is_late : SuchIsLate
such_is_late t n h (Take l s m) k r =
    let p = r.approval in
    let kind = p.0 in
    let code : bytes_eq (code_of m) code_00 ≡ true = ap (λ c. bytes_eq c code_00) p.1 ∙ bytes_eq_refl code_00 in
    let same = p.2 in
    let on : is_link l (forwarded h k) ≡ true = ap (is_link l) p.3 ∙ eq-eqb l l refl in
    let late = the_rest t n h (Take l s m) k r in
    rw (kind, code, same, on, late) refl
such_is_late t n h (HostAnswer a c) k r =
    let p = r.approval in
    let code : bytes_eq c code_00 ≡ true = ap (λ z. bytes_eq z code_00) p.0 ∙ bytes_eq_refl code_00 in
    let asks = p.1 in
    let late = the_rest t n h (HostAnswer a c) k r in
    rw (asks, code, late) refl
such_is_late t n h (Enter m) k r = absurd r.approval
such_is_late t n h (LinkUp l) k r = absurd r.approval
such_is_late t n h (LinkDown l) k r = absurd r.approval
such_is_late t n h Tick k r = absurd r.approval
such_is_late t n h (NewDate d) k r = absurd r.approval
such_is_late t n h (TakePacket l s p) k r = absurd r.approval
such_is_late t n h (Lend m c d x) k r = absurd r.approval
