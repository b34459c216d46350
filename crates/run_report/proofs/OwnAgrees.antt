-- Own approvals counted in the answers of a history, and by the law: both counts agree, and an event keeps it.
use Rattle.std.proofs.Common.{◌≡◌, ℕ, ◌+◌, List, [], ◌∷◌, ◌++◌, length, Option, Some, None, is_some, Bool, true, false, cond, not, ◌&&◌, ◌||◌, refl, sym, ap, ◌∙◌, subst, ⊎_elim, ◌⊎◌, bytes_eq}
use Rattle.std.proofs.lemmas.Bool.{and_right}
use Rattle.std.proofs.lemmas.List.{length-append}
use Rattle.std.proofs.lemmas.Option.{same_Some}
use Rattle.std.specs.Option.{option_or, option_and_then}
use Rattle.card_digits.specs.declared.key.Key.{Key}
use Rattle.message_elements.specs.Codes.{code_00, code_94}
use Rattle.message_elements.specs.Groups.{is_request, is_answer}
use Rattle.message_keys.specs.Keys.{key_of, key_eq, code_of, has_key, when}
use Rattle.iso_message.specs.Fields.{Fields, get, el}
use Rattle.iso_message.specs.Made.{response, has_own_key}
use Rattle.iso_message.proofs.Found.{el_some}
use Rattle.net_rows.specs.Network.{Network}
use Rattle.network_law.specs.Cards.{Bytes}
use Rattle.network_law.specs.Decision.{reply_output}
use Rattle.network_law.specs.Refusals.{refusal}
use Rattle.network_law.specs.Traces.{ReadInput, Enter, Take, LinkUp, LinkDown, Tick, HostAnswer, NewDate, TakePacket, Lend, ReadOutput, In, Out, History, Opening, opening, sent, answers, answer, has_00, brings_00, key_of_00, own_in, own_approval, Approval, approval_by, approval_of, approvals}
use Rattle.network_law.proofs.AdviceMarks.{answered_00}
use Rattle.network_law.proofs.Elements.{code_response, response_key}
use Rattle.network_law.proofs.Node.{answers_is, opening_in_cases}
use Rattle.network_law.proofs.Provenance.{no_own}
use Rattle.network_law.proofs.Used.{sent_reply}
use Rattle.run_report.specs.declared.answered.Answered.{Answered}
use Rattle.run_report.specs.Own.{with_code, with_answer, was_answered, one_if, own_among}
use Rattle.run_report.proofs.AnswersRead.{brings, answer_from, given}
use Rattle.run_report.proofs.Keyed.{IsAnswer, opens_keyed, response_is_answer}

not_both : (b : Bool) → b ≡ true → b ≡ false → ⊥
not_both b p q = cc

none_some : {X : Type 0} (x : X) → None ≡ Some x → ⊥
none_some x p = cc

-- the keys that were answered are those of the given answers, and as many of these are own as the law counts
pub record Agrees (t : Network) (h : History) : Type 0 where
  pub answered : (k : Key) → was_answered k (given h) ≡ is_some (answer h k)
  pub counts : own_among (given h) ≡ length (approvals t h)
  pub whole : (k : Key) (m : Fields) → answer h k ≡ Some m → IsAnswer m
  pub requests : (k : Key) (op : Opening) → opening t h k ≡ Some op → has_own_key op.message ≡ true

pub nothing_agrees : (t : Network) → Agrees t []
unfolding answer approvals opening
nothing_agrees t = record {
  answered = λ k. refl;
  counts = refl;
  whole = λ k m e. absurd (none_some m e);
  requests = λ k op e. absurd (none_some op e);
}

-- an input gives no answer
pub input_agrees : (t : Network) (n : ℕ) (i : ReadInput) (h : History) → refusal t n h i ≡ None → Agrees t h → Agrees t (In i ∷ h)
unfolding answer approvals
input_agrees t n i h ok a = record {
  answered = a.answered;
  counts = a.counts;
  whole = a.whole;
  requests = λ k op e. ⊎_elim (λ was. a.requests k op was) (λ now. opens_keyed t n h i k op ok now) (opening_in_cases t h i k op e);
}

-- outputs that answer no request

pub record Quiet (w : Option Fields) : Type 0 where
  pub gives_none : (alone : Bool) → answer_from alone w ≡ None
  pub answers_none : (k : Key) → answers k w ≡ None
  pub approves_none : key_of_00 w ≡ None

pub quiet_none : Quiet None
quiet_none = record { gives_none = λ alone. refl; answers_none = λ k. refl; approves_none = refl }

pub quiet_kind : (m : Fields) → is_answer m.kind ≡ false → Quiet (Some m)
quiet_kind m e = record { gives_none = λ alone. rw e refl; answers_none = λ k. rw e refl; approves_none = rw e refl }

pub quiet_94 : (m : Fields) → get m 39 ≡ Some code_94 → Quiet (Some m)
unfolding code_of
quiet_94 m e = record {
  gives_none = λ alone. gives alone (is_answer m.kind) (has_key m);
  answers_none = λ k. rw (and_right (is_answer m.kind && key_eq (key_of m) k) (not (bytes_eq (el m 39) code_94)) (ap (λ c. not (bytes_eq c code_94)) code)) refl;
  approves_none = rw (and_right (is_answer m.kind) (bytes_eq (el m 39) code_00) (ap (λ c. bytes_eq c code_00) code)) refl;
}
  where
    code : el m 39 ≡ code_94
    code = el_some m 39 code_94 e

    gives : (alone a b : Bool) → cond a (option_and_then (λ key. option_and_then (with_code alone key) (get m 39)) (when b (key_of m))) None ≡ None
    gives alone false b = refl
    gives alone true false = refl
    gives alone true true = rw e refl

or_none : {X : Type 0} (x : Option X) → option_or x None ≡ x
or_none None = refl
or_none (Some x) = refl

pub quiet_answer : (i : ReadInput) (o : ReadOutput) (h : History) (k : Key) → Quiet (sent o) → answer (Out i o ∷ h) k ≡ answer h k
unfolding answer
quiet_answer i o h k q = ap (option_or (answer h k)) (q.answers_none k) ∙ or_none (answer h k)

pub quiet_agrees : (t : Network) (i : ReadInput) (o : ReadOutput) (h : History) → Quiet (sent o) → Agrees t h → Agrees t (Out i o ∷ h)
unfolding approvals opening
quiet_agrees t i o h q a = record {
  answered = λ k. ap (was_answered k) same ∙ (a.answered k ∙ ap is_some (sym (quiet_answer i o h k q)));
  counts = ap own_among same ∙ (a.counts ∙ ap length (sym none_more));
  whole = λ k m e. a.whole k m (sym (quiet_answer i o h k q) ∙ e);
  requests = λ k op e. a.requests k op e;
}
  where
    same : given (Out i o ∷ h) ≡ given h
    same = ap (λ x. with_answer x (given h)) (q.gives_none (not (brings i)))

    none_more : approval_of t h (own_approval h i o) ++ approvals t h ≡ approvals t h
    none_more = ap (λ k. approval_of t h (own_in h i k) ++ approvals t h) q.approves_none

-- outputs that answer one

-- it counts as an own approval just where the law has one
pub record Said (t : Network) (h : History) (i : ReadInput) (o : ReadOutput) : Type 0 where
  pub message : Fields
  pub is : sent o ≡ Some message
  pub whole : IsAnswer message
  pub counts : one_if (not (is_some (answer h (key_of message))) && (bytes_eq (code_of message) code_00 && not (brings i))) ≡ length (approval_of t h (own_approval h i o))

is_given : (alone : Bool) (m : Fields) → IsAnswer m → answer_from alone (Some m) ≡ Some (record { key = key_of m; approves = bytes_eq (code_of m) code_00; alone = alone })
is_given alone m a = rw (a.kind, a.keyed, a.code, a.not_94) refl

answers_if : (k : Key) (m : Fields) → IsAnswer m → answers k (Some m) ≡ cond (key_eq (key_of m) k) (Some m) None
answers_if k m a = go (key_eq (key_of m) k) refl
  where
    go : (b : Bool) → key_eq (key_of m) k ≡ b → cond (is_answer m.kind && key_eq (key_of m) k && not (bytes_eq (code_of m) code_94)) (Some m) None ≡ cond b (Some m) None
    go true at = rw (a.kind, at, a.not_94) refl
    go false at = rw (a.kind, at) refl

some_or : (m : Fields) (w : Option Fields) (b : Bool) → (b || is_some w) ≡ is_some (option_or w (cond b (Some m) None))
some_or m None true = refl
some_or m None false = refl
some_or m (Some x) true = refl
some_or m (Some x) false = refl

pub said_agrees : (t : Network) (i : ReadInput) (o : ReadOutput) (h : History) → Said t h i o → Agrees t h → Agrees t (Out i o ∷ h)
unfolding answer approvals opening
said_agrees t i o h s a = record {
  answered = λ k. ap (was_answered k) same ∙ (ap (λ z. key_eq (key_of m) k || z) (a.answered k) ∙ (some_or m (answer h k) (key_eq (key_of m) k) ∙ ap (λ w. is_some (option_or (answer h k) w)) (sym (answered_by k))));
  counts = ap own_among same ∙ (ap (λ z. one_if (not z && (bytes_eq (code_of m) code_00 && not (brings i))) + own_among (given h)) (a.answered (key_of m)) ∙ (ap (λ z. z + own_among (given h)) s.counts ∙ (ap (λ z. length new + z) a.counts ∙ sym (length-append new (approvals t h)))));
  whole = λ k x e. whole k x (answer h k) refl e;
  requests = λ k op e. a.requests k op e;
}
  where
    m : Fields
    m = s.message

    new : List Approval
    new = approval_of t h (own_approval h i o)

    said : Answered
    said = record { key = key_of m; approves = bytes_eq (code_of m) code_00; alone = not (brings i) }

    same : given (Out i o ∷ h) ≡ said ∷ given h
    same = ap (λ w. with_answer (answer_from (not (brings i)) w) (given h)) s.is ∙ ap (λ x. with_answer x (given h)) (is_given (not (brings i)) m s.whole)

    answered_by : (k : Key) → answers k (sent o) ≡ cond (key_eq (key_of m) k) (Some m) None
    answered_by k = ap (answers k) s.is ∙ answers_if k m s.whole

    whole : (k : Key) (x : Fields) (w : Option Fields) → answer h k ≡ w → option_or w (answers k (sent o)) ≡ Some x → IsAnswer x
    whole k x (Some y) at e = a.whole k x (at ∙ e)
    whole k x None at e = subst IsAnswer (same_Some m x (sym s.is ∙ (answers_is k (sent o) x e).0)) s.whole

-- what is no own approval by the law counts as none where its code isn't 00, its key was answered, or its input brings an answer
pub unowned : (t : Network) (h : History) (i : ReadInput) (o : ReadOutput) (m : Fields) → sent o ≡ Some m → IsAnswer m → own_approval h i o ≡ None → (bytes_eq (code_of m) code_00 ≡ true → (is_some (answer h (key_of m)) ≡ true) ⊎ (brings i ≡ true)) → Said t h i o
unowned t h i o m is whole own why = record { message = m; is = is; whole = whole; counts = ap one_if (no_count (bytes_eq (code_of m) code_00) refl) ∙ sym (ap (λ k. length (approval_of t h k)) own) }
  where
    seen : Bool
    seen = is_some (answer h (key_of m))

    no_count : (b : Bool) → bytes_eq (code_of m) code_00 ≡ b → (not (is_some (answer h (key_of m))) && (b && not (brings i))) ≡ false
    no_count false at = and_right (not (is_some (answer h (key_of m)))) false refl
    no_count true at = ⊎_elim (λ was. ap (λ z. not z && not (brings i)) was) (λ came. and_right (not (is_some (answer h (key_of m)))) (not (brings i)) (ap not came)) (why at)

-- where a 00 of the key was there, or is brought, the law has no own approval
pub not_own : (h : History) (i : ReadInput) (o : ReadOutput) (m : Fields) (k : Key) → sent o ≡ Some m → key_of m ≡ k → (bytes_eq (code_of m) code_00 ≡ true → (has_00 h k || brings_00 h k i) ≡ true) → own_approval h i o ≡ None
not_own h i o m k is key seen = go (is_answer m.kind) refl (bytes_eq (code_of m) code_00) refl
  where
    go : (a : Bool) → is_answer m.kind ≡ a → (b : Bool) → bytes_eq (code_of m) code_00 ≡ b → own_approval h i o ≡ None
    go false at b at' = no_own h i o m is (rw at refl)
    go true at false at' = no_own h i o m is (rw (at, at') refl)
    go true at true at' =
        let now : key_of_00 (sent o) ≡ Some k = rw (is, at, at', key) refl in
        let was = seen at' in
        rw (now, was) refl

-- an input that brings no answer brings no 00
pub brings_no_00 : (h : History) (k : Key) (i : ReadInput) → brings i ≡ false → brings_00 h k i ≡ false
brings_no_00 h k (Take l s m) e = rw e refl
brings_no_00 h k (HostAnswer a c) e = absurd (not_both true refl e)
brings_no_00 h k (Enter m) e = refl
brings_no_00 h k (LinkUp l) e = refl
brings_no_00 h k (LinkDown l) e = refl
brings_no_00 h k Tick e = refl
brings_no_00 h k (NewDate d) e = refl
brings_no_00 h k (TakePacket l s p) e = refl
brings_no_00 h k (Lend b c d a) e = refl

-- the response to an open request of a key that wasn't answered, where no answer is brought
pub stands : (t : Network) (h : History) (i : ReadInput) (o : ReadOutput) (op : Opening) (k : Key) (c : Bytes) → opening t h k ≡ Some op → key_of op.message ≡ k → is_request op.message.kind ≡ true → has_own_key op.message ≡ true → answer h k ≡ None → brings i ≡ false → bytes_eq c code_94 ≡ false → o ≡ reply_output op.source (response op.message c) h → Said t h i o
stands t h i o op k c opens key request keyed none alone n94 is = record { message = m; is = said; whole = whole; counts = by (bytes_eq c code_00) refl }
  where
    m : Fields
    m = response op.message c

    said : sent o ≡ Some m
    said = ap sent is ∙ sent_reply op.source m h

    whole : IsAnswer m
    whole = response_is_answer op.message c request keyed n94

    key_is : key_of m ≡ k
    key_is = response_key op.message c request ∙ key

    by : (b : Bool) → bytes_eq c code_00 ≡ b → one_if (not (is_some (answer h (key_of m))) && (bytes_eq (code_of m) code_00 && not (brings i))) ≡ length (approval_of t h (own_approval h i o))
    by true at =
        let code : bytes_eq (code_of m) code_00 ≡ true = ap (λ z. bytes_eq z code_00) (code_response op.message c) ∙ at in
        let now : key_of_00 (sent o) ≡ Some k = rw (said, whole.kind, code, key_is) refl in
        let none_before : has_00 h k ≡ false = answered_00 h k none in
        let not_brought : brings_00 h k i ≡ false = brings_no_00 h k i alone in
        let own : own_approval h i o ≡ Some k = rw (now, none_before, not_brought) refl in
        let unanswered : is_some (answer h (key_of m)) ≡ false = ap (λ z. is_some (answer h z)) key_is ∙ ap is_some none in
        let one : length (approval_of t h (own_approval h i o)) ≡ 1 = ap (λ z. length (approval_of t h z)) own ∙ ap (λ z. length (approval_by k z)) opens in
        rw (unanswered, code, alone) (sym one)
    by false at =
        let code : bytes_eq (code_of m) code_00 ≡ false = ap (λ z. bytes_eq z code_00) (code_response op.message c) ∙ at in
        let own : own_approval h i o ≡ None = no_own h i o m said (and_right (is_answer m.kind) (bytes_eq (code_of m) code_00) code) in
        let unanswered : is_some (answer h (key_of m)) ≡ false = ap (λ z. is_some (answer h z)) key_is ∙ ap is_some none in
        rw (unanswered, code) (sym (ap (λ z. length (approval_of t h z)) own))
