-- A run in bytes is a run in messages: what a node puts is read as what it decided.
use Rattle.std.proofs.Common.{◌≡◌, ℕ, suc, ◌<◌, ◌≤◌, List, [], ◌∷◌, ◌++◌, map, length, Option, Some, None, Result, Ok, Err, Bool, true, false, cond, refl, sym, ap, ◌∙◌, subst, arith, inl, inr, ⊎_elim, append_assoc}
use Rattle.std.proofs.lemmas.Bool.{cases_lt, leb-false}
use Rattle.std.specs.Prelude.{⊤, nat_le}
use Rattle.message_elements.specs.declared.fault.DecodeFault.{DecodeFault}
use Rattle.iso_message.specs.Fields.{Fields, has}
use Rattle.message_elements.specs.declared.kind.Kind.{Kind}
use Rattle.message_elements.specs.declared.kind.Kind.TheVariants.{K0100, K0101, K0110, K0120, K0121, K0130, K0400, K0401, K0410, K0420, K0421, K0430}
use Rattle.message_elements.specs.Groups.{group, is_request}
use Rattle.iso_message.specs.Messages.{read}
use Rattle.iso_message.specs.Spelling.{spelling, IsMessage}
use Rattle.iso_message.proofs.ReadingLaws.{read_takes, read_again}
use Rattle.iso_message.proofs.Canonical.{spells}
use Rattle.iso_message.proofs.Good.{is_message}
use Rattle.net_rows.specs.Network.{Network, other_end}
use Rattle.network_law.specs.declared.fault.StepFault.TheVariants.{Decode, HistoryFull}
use Rattle.network_law.specs.Cards.{Bytes}
use Rattle.network_law.specs.Tables.{node_id}
use Rattle.network_law.specs.Traces.{ReadInput, ReadOutput, Event, In, Out, History, IsIn, Has}
use Rattle.network_law.specs.Traces as messages
use Rattle.network_law.specs.Decision.{decide}
use Rattle.network_law.specs.Refusals.{refusal, required_entered, required_taken}
use Rattle.network_law.specs.Entries.{Input, Enter, Take, LinkUp, LinkDown, Tick, HostAnswer, NewDate, Lend, Output, Put, Entry, ReadEntry, read_entry, packet_or, read_as, read_input, read_output, read_outputs, with_read, read_trace, put_out, read_history, history, spelled, newest_onto, newest_outputs}
use Rattle.net_rows.specs.Sound.{IsSound}
use Rattle.network_law.specs.Checked.{IsChecked}
use Rattle.network_law.specs.Runs.{NamesOwnLink, IsTyped, fault_of, step_refusal, outputs_of, step_outputs, IsStep, IsLegal, IsRun}
use Rattle.network_law.specs.declared.grant.GrantPacket.{GrantPacket}
use Rattle.network_law.specs.Grants.{read_packet}
use Rattle.network_law.specs.Traces.{grants}
use Rattle.network_law.proofs.Packets.{packet_again, message_no_packet, packet_numbered}
use Rattle.network_law.proofs.Ids.{IsIdText, id_text, id_fits}
use Rattle.network_law.proofs.Whole.{lengths}
use Rattle.network_law.proofs.ReadRuns.{HasLengths, IsFormed, IsDecidedRead, IsLegalRead, IsReadRun}
use Rattle.network_law.proofs.ReadRuns as reading
use Rattle.network_law.proofs.Refused.{EnteredFacts, entered_facts, TakenFacts, taken_facts, IsWhole, is_there}
use Rattle.network_law.proofs.Emits.{decide_keeps, KeepsIssuers}
use Rattle.network_law.proofs.Node.{legal_facts, keeps_issuers}
use Rattle.network_law.proofs.Written.{InputIs, OutputIs, AreWritten, decide_written, grants_few}

-- the decision is its outputs on top of the input

pub newest_more : (os : List ReadOutput) (h : History) → newest_onto os h ≡ newest_onto [] h ++ os
newest_more os [] = refl
newest_more os (In i ∷ h) = refl
newest_more os (Out i o ∷ h) = newest_more (o ∷ os) h ∙ (sym (append_assoc (newest_onto [] h) (o ∷ []) os) ∙ ap (λ z. z ++ os) (sym (newest_more (o ∷ []) h)))

put_more : (i : ReadInput) (os : List ReadOutput) (o : ReadOutput) (h : History) → put_out i (os ++ o ∷ []) h ≡ Out i o ∷ put_out i os h
put_more i [] o h = refl
put_more i (x ∷ os) o h = put_more i os o (Out i x ∷ h)

pub decide_is_outputs : (t : Network) (n : ℕ) (past : History) (i : ReadInput) → KeepsIssuers t past → put_out i (newest_outputs (decide t n past i)) (In i ∷ past) ≡ decide t n past i
decide_is_outputs t n past i keeps = decide_keeps t n past i (λ h. put_out i (newest_onto [] h) (In i ∷ past) ≡ h)
    (λ h o q allowed. ap (λ os. put_out i os (In i ∷ past)) (newest_more (o ∷ []) h) ∙ (put_more i (newest_onto [] h) o (In i ∷ past) ∙ ap (λ g. Out i o ∷ g) q)) keeps refl

-- outputs that can be written are read as themselves

abbrev pub AreOutputs : List ReadOutput → Type 0
AreOutputs [] = ⊤
AreOutputs (o ∷ os) = OutputIs o × AreOutputs os

outputs_written : (os : List ReadOutput) (h : History) → AreOutputs os → AreWritten h → AreOutputs (newest_onto os h)
outputs_written os [] a w = a
outputs_written os (In i ∷ h) a w = a
outputs_written os (Out i o ∷ h) a w = outputs_written (o ∷ os) h (w.0.1, a) w.1

pub read_spelling : (m : Fields) → IsMessage m → read (spelling m) ≡ Ok m
read_spelling m g = read_again (spelling m) m (spells m g)

read_spelled : (o : ReadOutput) → OutputIs o → read_output (spelled o) ≡ Ok o
unfolding read_output spelled
read_spelled (messages.Put l s m) g = rw (message_no_packet m) (ap (read_as (messages.Put l s)) (read_spelling m g))
read_spelled (messages.PutPacket l s p) g = rw (packet_again p g) refl
read_spelled (messages.Answer m) g = ap (read_as messages.Answer) (read_spelling m g)
read_spelled (messages.Ask a m) g = ap (read_as (messages.Ask a)) (read_spelling m g)
read_spelled (messages.Post m) g = ap (read_as messages.Post) (read_spelling m g)

pub read_all : (os : List ReadOutput) → AreOutputs os → read_outputs (map spelled os) ≡ os
read_all [] a = refl
read_all (o ∷ os) a = ap (λ r. with_read r (read_outputs (map spelled os))) (read_spelled o a.0) ∙ ap (λ z. o ∷ z) (read_all os a.1)

-- inputs that are read and not refused

abbrev pub IsReadInput : Network → ℕ → Input → ReadInput → Type 0
IsReadInput t n i j = InputIs j × IsFormed j × reading.NamesOwnLink t n j

read_ok : {X : Type 0} (f : Fields → X) (r : Result Fields DecodeFault) (x : X) → read_as f r ≡ Ok x → (m : Fields) × (r ≡ Ok m) × (f m ≡ x)
read_ok {X = X} f (Ok m) x e = (m, refl, same e)
  where
    same : ◌≡◌ {A = Result X DecodeFault} (Ok (f m)) (Ok x) → f m ≡ x
    same p = cc
read_ok {X = X} f (Err d) x e = absurd (no e)
  where
    no : ◌≡◌ {A = Result X DecodeFault} (Err d) (Ok x) → ⊥
    no p = cc

same_ok : {X : Type 0} (x y : X) → ◌≡◌ {A = Result X DecodeFault} (Ok x) (Ok y) → x ≡ y
same_ok x y e = cc

message_read : (bytes : Bytes) (m : Fields) → read bytes ≡ Ok m → IsMessage m
message_read bytes m e = is_message bytes m (read_takes bytes m e)

entered_needs : (k : Kind) → is_request k ≡ true → required_entered (group k) ≡ 2 ∷ 3 ∷ 4 ∷ 7 ∷ 11 ∷ 32 ∷ 49 ∷ []
entered_needs K0100 e = refl
entered_needs K0101 e = refl
entered_needs K0110 e = cc
entered_needs K0120 e = cc
entered_needs K0121 e = cc
entered_needs K0130 e = cc
entered_needs K0400 e = cc
entered_needs K0401 e = cc
entered_needs K0410 e = cc
entered_needs K0420 e = cc
entered_needs K0421 e = cc
entered_needs K0430 e = cc

taken_needs : (k : Kind) → is_request k ≡ true → required_taken (group k) k ≡ 2 ∷ 3 ∷ 4 ∷ 7 ∷ 11 ∷ 15 ∷ 32 ∷ 49 ∷ []
taken_needs K0100 e = refl
taken_needs K0101 e = refl
taken_needs K0110 e = cc
taken_needs K0120 e = cc
taken_needs K0121 e = cc
taken_needs K0130 e = cc
taken_needs K0400 e = cc
taken_needs K0401 e = cc
taken_needs K0410 e = cc
taken_needs K0420 e = cc
taken_needs K0421 e = cc
taken_needs K0430 e = cc

entered_lengths : (m : Fields) → IsMessage m → IsWhole (required_entered (group m.kind)) m → is_request m.kind ≡ true → HasLengths m
entered_lengths m g w r =
    let f = IsWhole.none_missing (subst (λ z. IsWhole z m) (entered_needs m.kind r) w) in
    lengths m g (is_there m (2 ∷ 3 ∷ 4 ∷ 7 ∷ 11 ∷ 32 ∷ 49 ∷ []) 11 f (inr (inr (inr (inr (inl refl)))))) (is_there m (2 ∷ 3 ∷ 4 ∷ 7 ∷ 11 ∷ 32 ∷ 49 ∷ []) 7 f (inr (inr (inr (inl refl))))) (is_there m (2 ∷ 3 ∷ 4 ∷ 7 ∷ 11 ∷ 32 ∷ 49 ∷ []) 32 f (inr (inr (inr (inr (inr (inl refl)))))))

taken_lengths : (m : Fields) → IsMessage m → IsWhole (required_taken (group m.kind) m.kind) m → is_request m.kind ≡ true → HasLengths m
taken_lengths m g w r =
    let f = IsWhole.none_missing (subst (λ z. IsWhole z m) (taken_needs m.kind r) w) in
    lengths m g (is_there m (2 ∷ 3 ∷ 4 ∷ 7 ∷ 11 ∷ 15 ∷ 32 ∷ 49 ∷ []) 11 f (inr (inr (inr (inr (inl refl)))))) (is_there m (2 ∷ 3 ∷ 4 ∷ 7 ∷ 11 ∷ 15 ∷ 32 ∷ 49 ∷ []) 7 f (inr (inr (inr (inl refl))))) (is_there m (2 ∷ 3 ∷ 4 ∷ 7 ∷ 11 ∷ 15 ∷ 32 ∷ 49 ∷ []) 32 f (inr (inr (inr (inr (inr (inr (inl refl))))))))

pub input_read : (t : Network) (n : ℕ) (past : History) (i : Input) (j : ReadInput) → read_input i ≡ Ok j → NamesOwnLink t n i → IsTyped i → refusal t n past j ≡ None → IsReadInput t n i j
unfolding read_input
input_read t n past (Enter bytes) j e own typed ok =
    let r = read_ok messages.Enter (read bytes) j e in
    let g = message_read bytes r.0 r.1 in
    let f = entered_lengths r.0 g (EnteredFacts.is_whole (entered_facts t n past r.0 (ap (refusal t n past) r.2 ∙ ok))) in
    subst (IsReadInput t n (Enter bytes)) r.2 ((g, f), f, omega arith)
input_read t n past (Take l s bytes) j e own typed ok = go (read_packet bytes) refl e
  where
    go : (w : Option GrantPacket) → read_packet bytes ≡ w → packet_or (messages.TakePacket l s) (read_packet bytes) (read_as (messages.Take l s) (read bytes)) ≡ Ok j → IsReadInput t n (Take l s bytes) j
    go (Some p) at e = subst (IsReadInput t n (Take l s bytes)) (same_ok (messages.TakePacket l s p) j (rw at at e)) (packet_numbered bytes p at, omega arith, own)
    go None at e =
        let r = read_ok (messages.Take l s) (read bytes) j (rw at at e) in
        let g = message_read bytes r.0 r.1 in
        let f = taken_lengths r.0 g (TakenFacts.is_whole (taken_facts t n past l s r.0 (ap (refusal t n past) r.2 ∙ ok))) in
        subst (IsReadInput t n (Take l s bytes)) r.2 ((g, f), f, own)
input_read t n past (Lend m c d a) j e own typed ok = subst (IsReadInput t n (Lend m c d a)) (same_ok (messages.Lend m c d a) j e) (typed, omega arith, omega arith)
input_read t n past (LinkUp l) j e own typed ok = subst (IsReadInput t n (LinkUp l)) (same_ok (messages.LinkUp l) j e) (tt, omega arith, own)
input_read t n past (LinkDown l) j e own typed ok = subst (IsReadInput t n (LinkDown l)) (same_ok (messages.LinkDown l) j e) (tt, omega arith, own)
input_read t n past Tick j e own typed ok = subst (IsReadInput t n Tick) (same_ok messages.Tick j e) (tt, omega arith, omega arith)
input_read t n past (HostAnswer a c) j e own typed ok = subst (IsReadInput t n (HostAnswer a c)) (same_ok (messages.HostAnswer a c) j e) (typed, omega arith, omega arith)
input_read t n past (NewDate d) j e own typed ok = subst (IsReadInput t n (NewDate d)) (same_ok (messages.NewDate d) j e) (typed, omega arith, omega arith)

-- a step has a reading

pub record HasReading (t : Network) (n : ℕ) (es : List Entry) (e : Entry) : Type 0 where
  pub input : ReadInput
  pub is : read_input e.input ≡ Ok input
  pub accepted : refusal t n (history es) input ≡ None
  pub outputs : e.outputs ≡ map spelled (newest_outputs (decide t n (history es) input))
  pub room : length es < 1000000

accepted_fault : (t : Network) (n : ℕ) (es : List Entry) (i : Input) → step_refusal t n es i ≡ None → fault_of t n (history es) (read_input i) ≡ None
unfolding step_refusal
accepted_fault t n es i e = go (nat_le 1000000 (length es)) refl e
  where
    go : (b : Bool) → nat_le 1000000 (length es) ≡ b → cond (nat_le 1000000 (length es)) (Some HistoryFull) (fault_of t n (history es) (read_input i)) ≡ None → fault_of t n (history es) (read_input i) ≡ None
    go true at e = absurd (no (rw at at e))
      where
        no : Some HistoryFull ≡ None → ⊥
        no p = cc
    go false at e = rw at at e

accepted_room : (t : Network) (n : ℕ) (es : List Entry) (i : Input) → step_refusal t n es i ≡ None → length es < 1000000
unfolding step_refusal
accepted_room t n es i e = go (nat_le 1000000 (length es)) refl e
  where
    go : (b : Bool) → nat_le 1000000 (length es) ≡ b → cond (nat_le 1000000 (length es)) (Some HistoryFull) (fault_of t n (history es) (read_input i)) ≡ None → length es < 1000000
    go true at e = absurd (no (rw at at e))
      where
        no : Some HistoryFull ≡ None → ⊥
        no p = cc
    go false at e = leb-false 1000000 (length es) at

trace_length : (es : List Entry) → length (read_trace es) ≤ length es
unfolding read_trace
trace_length [] = omega arith
trace_length (e ∷ es) = go (read_entry e) (trace_length es)
  where
    go : (r : Result ReadEntry DecodeFault) → length (read_trace es) ≤ length es → length (with_read r (read_trace es)) ≤ suc (length es)
    go (Ok x) le = omega (arith, le)
    go (Err d) le = omega (arith, le)

pub has_reading : (t : Network) (n : ℕ) (es : List Entry) (e : Entry) → IsStep t n es e → HasReading t n es e
unfolding step_outputs
has_reading t n es e s = go (read_input e.input) refl
  where
    go : (r : Result ReadInput DecodeFault) → read_input e.input ≡ r → HasReading t n es e
    go (Ok i) at = record { input = i; is = at; accepted = rw at at (accepted_fault t n es e.input s.accepted); outputs = s.outputs ∙ ap (outputs_of t n (history es)) at; room = accepted_room t n es e.input s.accepted }
    go (Err f) at = absurd (no (rw at at (accepted_fault t n es e.input s.accepted)))
      where
        no : Some (Decode f) ≡ None → ⊥
        no p = cc

pub read_trace_more : (e : Entry) (es : List Entry) (i : ReadInput) → read_input e.input ≡ Ok i → read_trace (e ∷ es) ≡ record { input = i; outputs = read_outputs e.outputs } ∷ read_trace es
unfolding read_trace
read_trace_more e es i at = rw at refl

-- over tables whose rows are sound a legal trace is read as one, whatever the checker says of them

pub record Legible (t : Network) (n : ℕ) (es : List Entry) : Type 0 where
  pub legal : IsLegalRead t n (read_trace es)
  pub written : AreWritten (history es)

pub legible : (t : Network) (n : ℕ) → IsSound t → n < length t.nodes → (es : List Entry) → IsLegal t n es → Legible t n es
unfolding history read_history read_trace
legible t n sound less [] l = record { legal = omega arith; written = tt }
legible t n sound less (e ∷ es) l = more (has_reading t n es e l.1) (legible t n sound less es l.0)
  where
    more : HasReading t n es e → Legible t n es → Legible t n (e ∷ es)
    more r before =
        let i = HasReading.input r in
        let past : History = history es in
        let good = input_read t n past e.input i (HasReading.is r) l.1.own l.1.typed (HasReading.accepted r) in
        let keeps = keeps_issuers t n past (legal_facts t n (read_trace es) (Legible.legal before)) in
        let few : length (grants t n past) < 1000000 = (let a = HasReading.room r in let b = grants_few t n (read_trace es) in let c = trace_length es in omega (arith, a, b, c)) in
        let after : AreWritten (decide t n past i) = decide_written t n sound.date (id_text t sound n less) (λ m. id_fits t sound m) past i (Legible.written before) good.0 (HasReading.accepted r) few keeps in
        let outs : read_outputs e.outputs ≡ newest_outputs (decide t n past i) = ap read_outputs (HasReading.outputs r) ∙ read_all (newest_outputs (decide t n past i)) (outputs_written [] (decide t n past i) tt after) in
        let whole : put_out i (read_outputs e.outputs) (In i ∷ past) ≡ decide t n past i = ap (λ os. put_out i os (In i ∷ past)) outs ∙ decide_is_outputs t n past i keeps in
        let here : read_trace (e ∷ es) ≡ record { input = i; outputs = read_outputs e.outputs } ∷ read_trace es = read_trace_more e es i (HasReading.is r) in
        record {
          legal = subst (IsLegalRead t n) (sym here) (Legible.legal before, record { own = good.2; formed = good.1; accepted = HasReading.accepted r; outputs = whole });
          written = subst (λ z. AreWritten (read_history z)) (sym here) (subst AreWritten (sym whole) after);
        }

-- takes and puts

in_below : (i : ReadInput) (os : List ReadOutput) (h : History) (j : ReadInput) → Has (In j) (put_out i os h) → Has (In j) h
in_below i [] h j has = has
in_below i (o ∷ os) h j has = ⊎_elim (λ bad. absurd (no bad)) (λ below. below) (in_below i os (Out i o ∷ h) j has)
  where
    no : Out i o ≡ In j → ⊥
    no p = cc

out_above : (i : ReadInput) (os : List ReadOutput) (h : History) (e : Event) → Has e h → Has e (put_out i os h)
out_above i [] h e has = has
out_above i (o ∷ os) h e has = out_above i os (Out i o ∷ h) e (inr has)

out_here : (i : ReadInput) (os : List ReadOutput) (h : History) (o : ReadOutput) → IsIn o os → Has (Out i o) (put_out i os h)
out_here i [] h o has = absurd has
out_here i (x ∷ os) h o has = ⊎_elim (λ same. out_above i os (Out i x ∷ h) (Out i o) (inl (ap (Out i) same))) (λ below. out_here i os (Out i x ∷ h) o below) has

in_read : (os : List Output) (o : Output) (x : ReadOutput) → IsIn o os → read_output o ≡ Ok x → IsIn x (read_outputs os)
in_read [] o x has e = absurd has
in_read (p ∷ os) o x has e = ⊎_elim here (λ below. there (read_output p) (in_read os o x below e)) has
  where
    here : p ≡ o → IsIn x (with_read (read_output p) (read_outputs os))
    here same = subst (λ r. IsIn x (with_read r (read_outputs os))) (sym (ap read_output same ∙ e)) (inl refl)

    there : (r : Result ReadOutput DecodeFault) → IsIn x (read_outputs os) → IsIn x (with_read r (read_outputs os))
    there (Ok y) m = inr m
    there (Err d) m = m

record TakenAt (es : List Entry) (l s : ℕ) (o : ReadOutput) : Type 0 where
  entry : Entry
  at : IsIn entry es
  bytes : Bytes
  is : entry.input ≡ Take l s bytes
  reads : read_output (Put l s bytes) ≡ Ok o

-- an input takes bytes that, put, are read as this
abbrev TakesAs : ℕ → ℕ → ReadOutput → Input → Type 0
TakesAs l s o i = (bytes : Bytes) × (i ≡ Take l s bytes) × (read_output (Put l s bytes) ≡ Ok o)

take_read : (i : Input) (l s : ℕ) (m : Fields) → read_input i ≡ Ok (messages.Take l s m) → TakesAs l s (messages.Put l s m) i
unfolding read_input read_output
take_read (Take l' s' bytes) l s m e = go (read_packet bytes) refl
  where
    links : {a b c d : ℕ} {x y : Fields} → messages.Take a b x ≡ messages.Take c d y → a ≡ c
    links p = cc

    serials : {a b c d : ℕ} {x y : Fields} → messages.Take a b x ≡ messages.Take c d y → b ≡ d
    serials p = cc

    bodies : {a b c d : ℕ} {x y : Fields} → messages.Take a b x ≡ messages.Take c d y → x ≡ y
    bodies p = cc

    no : {a b c d : ℕ} {p : GrantPacket} {x : Fields} → messages.TakePacket a b p ≡ messages.Take c d x → ⊥
    no p = cc

    go : (w : Option GrantPacket) → read_packet bytes ≡ w → TakesAs l s (messages.Put l s m) (Take l' s' bytes)
    go (Some p) at = absurd (no (same_ok (messages.TakePacket l' s' p) (messages.Take l s m) (rw at at e)))
    go None at =
        let r = read_ok (messages.Take l' s') (read bytes) (messages.Take l s m) (rw at at e) in
        (bytes, ap (λ z. Take z s' bytes) (links r.2) ∙ ap (λ z. Take l z bytes) (serials r.2), rw (at, r.1) (ap (λ (z : Fields). Ok (messages.Put l s z)) (bodies r.2)))
take_read (Enter bytes) l s m e = absurd (no (read_ok messages.Enter (read bytes) (messages.Take l s m) e).2)
  where
    no : {x : Fields} → messages.Enter x ≡ messages.Take l s m → ⊥
    no p = cc
take_read (LinkUp k) l s m e = cc
take_read (LinkDown k) l s m e = cc
take_read Tick l s m e = cc
take_read (HostAnswer a c) l s m e = cc
take_read (NewDate d) l s m e = cc
take_read (Lend k c d a) l s m e = cc

packet_taken : (i : Input) (l s : ℕ) (p : GrantPacket) → read_input i ≡ Ok (messages.TakePacket l s p) → TakesAs l s (messages.PutPacket l s p) i
unfolding read_input read_output
packet_taken (Take l' s' bytes) l s p e = go (read_packet bytes) refl
  where
    links : {a b c d : ℕ} {x y : GrantPacket} → messages.TakePacket a b x ≡ messages.TakePacket c d y → a ≡ c
    links q = cc

    serials : {a b c d : ℕ} {x y : GrantPacket} → messages.TakePacket a b x ≡ messages.TakePacket c d y → b ≡ d
    serials q = cc

    bodies : {a b c d : ℕ} {x y : GrantPacket} → messages.TakePacket a b x ≡ messages.TakePacket c d y → x ≡ y
    bodies q = cc

    no : {a b c d : ℕ} {q : GrantPacket} {x : Fields} → messages.Take a b x ≡ messages.TakePacket c d q → ⊥
    no r = cc

    go : (w : Option GrantPacket) → read_packet bytes ≡ w → TakesAs l s (messages.PutPacket l s p) (Take l' s' bytes)
    go (Some q) at =
        let same = same_ok (messages.TakePacket l' s' q) (messages.TakePacket l s p) (rw at at e) in
        (bytes, ap (λ z. Take z s' bytes) (links same) ∙ ap (λ z. Take l z bytes) (serials same), rw at (ap (λ (z : GrantPacket). Ok (messages.PutPacket l s z)) (bodies same)))
    go None at = absurd (no (read_ok (messages.Take l' s') (read bytes) (messages.TakePacket l s p) (rw at at e)).2)
packet_taken (Enter bytes) l s p e = absurd (no (read_ok messages.Enter (read bytes) (messages.TakePacket l s p) e).2)
  where
    no : {x : Fields} → messages.Enter x ≡ messages.TakePacket l s p → ⊥
    no q = cc
packet_taken (LinkUp k) l s p e = cc
packet_taken (LinkDown k) l s p e = cc
packet_taken Tick l s p e = cc
packet_taken (HostAnswer a c) l s p e = cc
packet_taken (NewDate d) l s p e = cc
packet_taken (Lend k c d a) l s p e = cc

take_from : (j : ReadInput) (l s : ℕ) (o : ReadOutput) → ((i : Input) → read_input i ≡ Ok j → TakesAs l s o i) → (es : List Entry) → Has (In j) (read_history (read_trace es)) → TakenAt es l s o
unfolding read_history read_trace
take_from j l s o each [] has = absurd has
take_from j l s o each (e ∷ es) has = go (read_input e.input) refl (take_from j l s o each es)
  where
    more : TakenAt es l s o → TakenAt (e ∷ es) l s o
    more r = record { entry = TakenAt.entry r; at = inr (TakenAt.at r); bytes = TakenAt.bytes r; is = TakenAt.is r; reads = TakenAt.reads r }

    go : (r : Result ReadInput DecodeFault) → read_input e.input ≡ r → (Has (In j) (read_history (read_trace es)) → TakenAt es l s o) → TakenAt (e ∷ es) l s o
    go (Err d) at rest = more (rest (rw at at has))
    go (Ok i) at rest = ⊎_elim here (λ below. more (rest below)) (in_below i (read_outputs e.outputs) (In i ∷ read_history (read_trace es)) j (rw at at has))
      where
        same_in : (a b : ReadInput) → In a ≡ In b → a ≡ b
        same_in a b p = cc

        here : In i ≡ In j → TakenAt (e ∷ es) l s o
        here p =
            let t = each e.input (at ∙ ap (λ (z : ReadInput). Ok z) (same_in i j p)) in
            record { entry = e; at = inl refl; bytes = t.0; is = t.1; reads = t.2 }

put_from : (t : Network) (n : ℕ) (es : List Entry) (f : Entry) (l s : ℕ) (bytes : Bytes) (o : ReadOutput) → IsLegal t n es → IsIn f es → IsIn (Put l s bytes) f.outputs → read_output (Put l s bytes) ≡ Ok o → (i : ReadInput) × Has (Out i o) (read_history (read_trace es))
unfolding read_history
put_from t n [] f l s bytes o legal has puts e = absurd has
put_from t n (x ∷ es) f l s bytes o legal has puts e = go (has_reading t n es x legal.1) (λ below. put_from t n es f l s bytes o legal.0 below puts e)
  where
    go : HasReading t n es x → (IsIn f es → (i : ReadInput) × Has (Out i o) (read_history (read_trace es))) → (i : ReadInput) × Has (Out i o) (read_history (read_trace (x ∷ es)))
    go r rest = ⊎_elim here (λ below. (let b = rest below in (b.0, subst (λ z. Has (Out b.0 o) (read_history z)) (sym (read_trace_more x es i (HasReading.is r))) (out_above i (read_outputs x.outputs) (In i ∷ read_history (read_trace es)) (Out b.0 o) (inr b.1))))) has
      where
        i : ReadInput
        i = HasReading.input r

        here : x ≡ f → (j : ReadInput) × Has (Out j o) (read_history (read_trace (x ∷ es)))
        here same = (
          i,
          subst (λ z. Has (Out i o) (read_history z)) (sym (read_trace_more x es i (HasReading.is r)))
              (out_here i (read_outputs x.outputs) (In i ∷ read_history (read_trace es)) o (in_read x.outputs (Put l s bytes) o (subst (λ (z : Entry). IsIn (Put l s bytes) z.outputs) (sym same) puts) e)),
        )

-- a run

abbrev pub in_messages : (ℕ → List Entry) → ℕ → List ReadEntry
in_messages traces n = read_trace (traces n)

pub read_run : (t : Network) (traces : ℕ → List Entry) → IsChecked t → IsRun t traces → IsReadRun t (in_messages traces)
unfolding read_trace
read_run t traces checked run = record {
  legal = λ n less. Legible.legal (legible t n checked.sound less (traces n) (run.legal n less));
  no_others = λ n more. ap read_trace (run.no_others n more);
  packets = λ n l s p has. linked' n l s (messages.TakePacket l s p) (messages.PutPacket l s p) (λ i e. packet_taken i l s p e) has;
  linked = λ n l s m has. linked' n l s (messages.Take l s m) (messages.Put l s m) (λ i e. take_read i l s m e) has;
}
  where
    live : (n : ℕ) (f : Entry) → IsIn f (traces n) → n < length t.nodes
    live n f has = ⊎_elim (λ less. less) (λ more. absurd (subst (IsIn f) (run.no_others n more) has)) (cases_lt n (length t.nodes))

    linked' : (n l s : ℕ) (j : ReadInput) (o : ReadOutput) → ((i : Input) → read_input i ≡ Ok j → TakesAs l s o i) → Has (In j) (read_history (in_messages traces n)) → (i : ReadInput) × Has (Out i o) (read_history (in_messages traces (other_end t n l)))
    linked' n l s j o each has =
        let a = take_from j l s o each (traces n) has in
        let b = run.linked n l s (TakenAt.bytes a) (TakenAt.entry a) (TakenAt.at a) (TakenAt.is a) in
        put_from t (other_end t n l) (traces (other_end t n l)) b.0 l s (TakenAt.bytes a) o (run.legal (other_end t n l) (live (other_end t n l) b.0 b.1)) b.1 b.2 (TakenAt.reads a)

-- one entry of a legal trace

pub record EntryRead (t : Network) (n : ℕ) (e : Entry) (es : List Entry) (i : ReadInput) : Type 0 where
  pub outputs : List ReadOutput
  pub is : read_trace (e ∷ es) ≡ record { input = i; outputs = outputs } ∷ read_trace es
  pub legal : IsLegalRead t n (record { input = i; outputs = outputs } ∷ read_trace es)

pub entry_read : (t : Network) (n : ℕ) (e : Entry) (es : List Entry) (i : ReadInput) → IsChecked t → n < length t.nodes → IsLegal t n (e ∷ es) → read_input e.input ≡ Ok i → EntryRead t n e es i
entry_read t n e es i checked less legal at =
    let here = read_trace_more e es i at in
    record { outputs = read_outputs e.outputs; is = here; legal = subst (IsLegalRead t n) here (Legible.legal (legible t n checked.sound less (e ∷ es) legal)) }
