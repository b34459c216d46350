-- What a legal trace shows in bytes is what the law says of its history: how many keys are approved by the node itself, and how many
-- advices are posted.
use Rattle.std.proofs.Common.{◌≡◌, ℕ, ◌+◌, List, [], ◌∷◌, ◌++◌, map, length, None, Ok, Bool, true, false, cond, not, refl, sym, ap, ◌∙◌, subst, arith}
use Rattle.std.specs.Prelude.{count_by}
use Rattle.std.proofs.lemmas.List.{append-nil}
use Rattle.std.proofs.lemmas.List.Sums.{sum_by-cons}
use Rattle.net_rows.specs.Network.{Network}
use Rattle.network_law.specs.Decision.{decide}
use Rattle.network_law.specs.Refusals.{refusal}
use Rattle.network_law.specs.Runs.{IsLegal}
use Rattle.network_law.specs.Traces.{ReadInput, ReadOutput, Put, Answer, Ask, Post, PutPacket, In, Out, History, approvals, is_timer}
use Rattle.network_law.specs.Entries.{Entry, ReadEntry, read_input, read_outputs, read_trace, put_out, read_history, history, spelled, newest_onto, newest_outputs}
use Rattle.network_law.proofs.Late.{LateFacts, legal_late}
use Rattle.network_law.proofs.Node.{NodeFacts, legal_facts}
use Rattle.network_law.proofs.ReadRuns.{IsFormed, IsLegalRead, IsDecidedRead}
use Rattle.network_law.proofs.Reading.{AreOutputs, Legible, has_reading, read_trace_more}
use Rattle.network_law.proofs.Written.{AreWritten}
use Rattle.run_report.specs.Stations.{is_posting, posts_in}
use Rattle.run_report.specs.Own.{answers_onto, answers_given, own_among, own_of, is_post, posts_of}
use Rattle.run_report.proofs.AnswersRead.{brings, given, given_puts, brings_read}
use Rattle.run_report.proofs.OwnAgrees.{Agrees, nothing_agrees}
use Rattle.run_report.proofs.OwnCases.{calm_agrees}
use Rattle.run_report.proofs.OwnTimers.{timer_agrees}

-- in messages

entry_agrees : (t : Network) (n : ℕ) (past : History) (i : ReadInput) → IsFormed i → refusal t n past i ≡ None → NodeFacts t n past → LateFacts t n past → Agrees t past → Agrees t (decide t n past i)
entry_agrees t n past i form ok f late a = go (is_timer i) refl
  where
    go : (b : Bool) → is_timer i ≡ b → Agrees t (decide t n past i)
    go true at = timer_agrees t n past i ok f at a
    go false at = calm_agrees t n past i form ok f late at a

legal_agrees : (t : Network) (n : ℕ) (es : List ReadEntry) → IsLegalRead t n es → Agrees t (read_history es)
unfolding read_history
legal_agrees t n [] l = nothing_agrees t
legal_agrees t n (e ∷ es) l = subst (Agrees t) (sym l.1.outputs) (entry_agrees t n (read_history es) e.input l.1.formed l.1.accepted (legal_facts t n es l.0) (legal_late t n es l.0) (legal_agrees t n es l.0))

-- the outputs of an entry

newest_put : (i : ReadInput) (os xs : List ReadOutput) (h : History) → newest_onto xs (put_out i os h) ≡ newest_onto (os ++ xs) h
newest_put i [] xs h = refl
newest_put i (o ∷ os) xs h = newest_put i os xs (Out i o ∷ h)

newest_is : (i : ReadInput) (os : List ReadOutput) (past : History) → newest_outputs (put_out i os (In i ∷ past)) ≡ os
newest_is i os past = newest_put i os [] (In i ∷ past) ∙ append-nil os

puts_written : (i : ReadInput) (os : List ReadOutput) (h : History) → AreWritten (put_out i os h) → AreOutputs os × AreWritten h
puts_written i [] h w = (tt, w)
puts_written i (o ∷ os) h w = let r = puts_written i os (Out i o ∷ h) w in ((r.1.0.1, r.0), r.1.1)

post_spelled : (i : ReadInput) (o : ReadOutput) → is_posting (Out i o) ≡ is_post (spelled o)
unfolding spelled
post_spelled i (Put l s m) = refl
post_spelled i (Answer m) = refl
post_spelled i (Ask a m) = refl
post_spelled i (Post m) = refl
post_spelled i (PutPacket l s p) = refl

posts_put : (i : ReadInput) (os : List ReadOutput) (h : History) → posts_in (put_out i os h) ≡ count_by is_post (map spelled os) + posts_in h
posts_put i [] h = omega arith
posts_put i (o ∷ os) h =
    let a = posts_put i os (Out i o ∷ h) in
    let b = ap {B = ℕ} (λ x. cond x 1 0) (post_spelled i o) in
    let c = sum_by-cons (λ e. cond (is_posting e) 1 0) (Out i o) h in
    let d = sum_by-cons (λ x. cond (is_post x) 1 0) (spelled o) (map spelled os) in
    omega (arith, a, b, c, d)

-- an entry of a legal trace, with its input and outputs read
record Entered (e : Entry) (es : List Entry) : Type 0 where
  input : ReadInput
  reads : read_input e.input ≡ Ok input
  outputs : List ReadOutput
  is : history (e ∷ es) ≡ put_out input outputs (In input ∷ history es)
  bytes : e.outputs ≡ map spelled outputs
  written : AreOutputs outputs

module _ (t : Network) (n : ℕ) (legible : (es : List Entry) → IsLegal t n es → Legible t n es) where
  entered : (e : Entry) (es : List Entry) → IsLegal t n (e ∷ es) → Entered e es
  unfolding history read_history
  entered e es l =
      let r = has_reading t n es e l.1 in
      let i = r.input in
      let os : List ReadOutput = read_outputs e.outputs in
      let past : History = history es in
      let here : read_trace (e ∷ es) ≡ record { input = i; outputs = os } ∷ read_trace es = read_trace_more e es i r.is in
      let all = legible (e ∷ es) l in
      let decided : put_out i os (In i ∷ past) ≡ decide t n past i = IsDecidedRead.outputs (subst (IsLegalRead t n) here (Legible.legal all)).1 in
      record {
        input = i;
        reads = r.is;
        outputs = os;
        is = ap read_history here;
        bytes = r.outputs ∙ (ap (λ h. map spelled (newest_outputs h)) (sym decided) ∙ ap (map spelled) (newest_is i os past));
        written = (puts_written i os (In i ∷ past) (subst (λ z. AreWritten (read_history z)) here (Legible.written all))).0;
      }

  given_bytes : (es : List Entry) → IsLegal t n es → answers_given es ≡ given (history es)
  unfolding history read_history read_trace
  given_bytes [] l = refl
  given_bytes (e ∷ es) l =
      let r = entered e es l in
      let i = Entered.input r in
      let os = Entered.outputs r in
      ap (λ b. answers_onto (not b) e.outputs (answers_given es)) (brings_read e.input i (Entered.reads r))
      ∙ (ap (λ z. answers_onto (not (brings i)) z (answers_given es)) (Entered.bytes r)
      ∙ (ap (answers_onto (not (brings i)) (map spelled os)) (given_bytes es l.0)
      ∙ (sym (given_puts i os (In i ∷ history es) (Entered.written r)) ∙ ap given (sym (Entered.is r)))))

  -- as many keys are approved by the node itself as the law says
  pub own_is_law : (es : List Entry) → IsLegal t n es → own_of es ≡ length (approvals t (history es))
  unfolding history
  own_is_law es l = ap own_among (given_bytes es l) ∙ (legal_agrees t n (read_trace es) (Legible.legal (legible es l))).counts

  -- and as many advices are posted as stand in the history
  pub posts_is_law : (es : List Entry) → IsLegal t n es → posts_of es ≡ posts_in (history es)
  unfolding history read_history read_trace
  posts_is_law [] l = refl
  posts_is_law (e ∷ es) l =
      let r = entered e es l in
      let i = Entered.input r in
      let os = Entered.outputs r in
      sum_by-cons (λ (x : Entry). count_by is_post x.outputs) e es
      ∙ (ap (λ z. count_by is_post z + posts_of es) (Entered.bytes r)
      ∙ (ap (λ k. count_by is_post (map spelled os) + k) (posts_is_law es l.0)
      ∙ (sym (posts_put i os (In i ∷ history es)) ∙ ap posts_in (sym (Entered.is r)))))
