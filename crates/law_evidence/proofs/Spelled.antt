-- Traces in messages, spelled: they are read as themselves, and are legal where they are legal in messages.
use Rattle.std.proofs.Common.{◌≡◌, ℕ, ◌<◌, List, [], ◌∷◌, ◌++◌, map, length, Option, Some, None, Ok, Bool, true, false, ◌&&◌, refl, sym, ap, ◌∙◌, subst, arith, leb, ltb, eqb}
use Rattle.std.proofs.lemmas.List.{append-nil}
use Rattle.std.proofs.lemmas.List.{length-map}
use Rattle.std.proofs.lemmas.Bool.{and_parts, ltb-true, leb-true, eqb-true, lt-leb}
use Rattle.std.specs.Prelude.{⊤, nat_le}
use Rattle.std.specs.List.{list_all}
use Rattle.message_elements.specs.declared.form.Form.{Form}
use Rattle.message_elements.specs.declared.form.Form.TheVariants.{Fixed, Llvar, Lllvar, Binary}
use Rattle.message_elements.specs.Values.{fits}
use Rattle.message_elements.specs.Table.{form_of}
use Rattle.iso_message.specs.Fields.{Fields}
use Rattle.iso_message.specs.Spelling.{IsMessage, IsGood, AreGood, Ascends}
use Rattle.net_rows.specs.Network.{Network}
use Rattle.network_law.specs.Traces.{ReadInput, ReadOutput, In, Out, History}
use Rattle.network_law.specs.Traces as messages
use Rattle.network_law.specs.Decision.{decide}
use Rattle.network_law.specs.Refusals.{refusal}
use Rattle.network_law.specs.Entries.{ReadEntry, read_as, read_input, read_trace, put_out, read_history, history, spelled, spelled_input, spelled_trace, newest_onto, newest_outputs}
use Rattle.network_law.specs.Checked.{IsChecked}
use Rattle.network_law.specs.Runs.{NamesOwnLink, IsTyped, step_refusal, step_outputs, outputs_of, fault_of, IsLegal}
use Rattle.network_law.proofs.ReadRuns.{IsLegalRead, IsDecidedRead}
use Rattle.network_law.proofs.Packets.{packet_good, packet_is, packet_again, message_no_packet}
use Rattle.network_law.proofs.Written.{OutputIs}
use Rattle.network_law.proofs.Reading.{AreOutputs, read_spelling, read_all, read_trace_more, Legible, legible}

-- a test of whether a message can be written, which knows no binary elements

abbrev looks_right : Option Form → List ℕ → Bool
looks_right None v = false
looks_right (Some (Fixed class size)) v = eqb (length v) size && list_all (fits class) v
looks_right (Some (Llvar class most)) v = leb (length v) most && ltb (length v) 100 && list_all (fits class) v
looks_right (Some (Lllvar class most)) v = leb (length v) most && ltb (length v) 1000 && list_all (fits class) v
looks_right (Some Binary) v = false

unfoldable looks_ordered : ℕ → List (ℕ × List ℕ) → Bool
unfolding form_of Rattle.message_elements.specs.Table.table
looks_ordered low [] = true
looks_ordered low (e ∷ es) = ltb low e.0 && leb e.0 128 && looks_right (form_of e.0) e.1 && looks_ordered e.0 es

unfoldable pub looks_good : Fields → Bool
unfolding looks_ordered
looks_good m = looks_ordered 1 m.elements

right_is : (f : Option Form) (v : List ℕ) → looks_right f v ≡ true → IsGood f v
right_is None v e = cc
right_is (Some (Fixed class size)) v e = let p = and_parts (eqb (length v) size) (list_all (fits class) v) e in (eqb-true _ _ p.0, p.1)
right_is (Some (Llvar class most)) v e =
    let p = and_parts (leb (length v) most && ltb (length v) 100) (list_all (fits class) v) e in
    let q = and_parts (leb (length v) most) (ltb (length v) 100) p.0 in
    (leb-true _ _ q.0, ltb-true _ _ q.1, p.1)
right_is (Some (Lllvar class most)) v e =
    let p = and_parts (leb (length v) most && ltb (length v) 1000) (list_all (fits class) v) e in
    let q = and_parts (leb (length v) most) (ltb (length v) 1000) p.0 in
    (leb-true _ _ q.0, ltb-true _ _ q.1, p.1)
right_is (Some Binary) v e = cc

ordered_is : (low : ℕ) (es : List (ℕ × List ℕ)) → looks_ordered low es ≡ true → Ascends low 128 (map (λ e. e.0) es) × AreGood es
unfolding looks_ordered
ordered_is low [] e = (tt, tt)
ordered_is low (x ∷ es) e =
    let p = and_parts (ltb low x.0 && leb x.0 128 && looks_right (form_of x.0) x.1) (looks_ordered x.0 es) e in
    let q = and_parts (ltb low x.0 && leb x.0 128) (looks_right (form_of x.0) x.1) p.0 in
    let r = and_parts (ltb low x.0) (leb x.0 128) q.0 in
    let rest = ordered_is x.0 es p.1 in
    ((ltb-true _ _ r.0, leb-true _ _ r.1, rest.0), (right_is (form_of x.0) x.1 q.1, rest.1))

pub good_is : (m : Fields) → looks_good m ≡ true → IsMessage m
unfolding looks_good
good_is m e = let p = ordered_is 1 m.elements e in record { order = p.0; values = p.1 }

unfoldable input_good : ReadInput → Bool
unfolding looks_good packet_good
input_good (messages.Enter m) = looks_good m
input_good (messages.Take l s m) = looks_good m
input_good (messages.TakePacket l s p) = packet_good p
input_good _ = true

unfoldable output_good : ReadOutput → Bool
unfolding looks_good packet_good
output_good (messages.Put l s m) = looks_good m
output_good (messages.Answer m) = looks_good m
output_good (messages.Ask a m) = looks_good m
output_good (messages.Post m) = looks_good m
output_good (messages.PutPacket l s p) = packet_good p

unfoldable pub trace_good : List ReadEntry → Bool
unfolding input_good output_good
trace_good [] = true
trace_good (e ∷ es) = input_good e.input && list_all output_good e.outputs && trace_good es

-- reading what was spelled

read_spelled_input : (i : ReadInput) → input_good i ≡ true → read_input (spelled_input i) ≡ Ok i
unfolding read_input spelled_input input_good
read_spelled_input (messages.Enter m) g = ap (read_as messages.Enter) (read_spelling m (good_is m g))
read_spelled_input (messages.Take l s m) g = rw (message_no_packet m) (ap (read_as (messages.Take l s)) (read_spelling m (good_is m g)))
read_spelled_input (messages.TakePacket l s p) g = rw (packet_again p (packet_is p g)) refl
read_spelled_input (messages.Lend m c d a) g = refl
read_spelled_input (messages.LinkUp l) g = refl
read_spelled_input (messages.LinkDown l) g = refl
read_spelled_input messages.Tick g = refl
read_spelled_input (messages.HostAnswer a c) g = refl
read_spelled_input (messages.NewDate d) g = refl

output_is : (o : ReadOutput) → output_good o ≡ true → OutputIs o
unfolding output_good
output_is (messages.Put l s m) g = good_is m g
output_is (messages.Answer m) g = good_is m g
output_is (messages.Ask a m) g = good_is m g
output_is (messages.Post m) g = good_is m g
output_is (messages.PutPacket l s p) g = packet_is p g

outputs_are : (os : List ReadOutput) → list_all output_good os ≡ true → AreOutputs os
outputs_are [] g = tt
outputs_are (o ∷ os) g = let p = and_parts (output_good o) (list_all output_good os) g in (output_is o p.0, outputs_are os p.1)

pub read_spelled_trace : (es : List ReadEntry) → trace_good es ≡ true → read_trace (spelled_trace es) ≡ es
unfolding spelled_trace trace_good read_trace
read_spelled_trace [] g = refl
read_spelled_trace (e ∷ es) g =
    let p = and_parts (input_good e.input && list_all output_good e.outputs) (trace_good es) g in
    let q = and_parts (input_good e.input) (list_all output_good e.outputs) p.0 in
    let outs = read_all e.outputs (outputs_are e.outputs q.1) in
    let rest = read_spelled_trace es p.1 in
    read_trace_more (record { input = spelled_input e.input; outputs = map spelled e.outputs }) (spelled_trace es) e.input (read_spelled_input e.input q.0)
    ∙ (λ j. record { input = e.input; outputs = outs j } ∷ rest j)

-- what is legal spelled is legal in messages
pub legal_in_messages : (t : Network) (n : ℕ) → IsChecked t → n < length t.nodes → (es : List ReadEntry) → trace_good es ≡ true → IsLegal t n (spelled_trace es) → IsLegalRead t n es
legal_in_messages t n checked less es g l = subst (IsLegalRead t n) (read_spelled_trace es g) (Legible.legal (legible t n checked.sound less (spelled_trace es) l))

-- and the other way round

newest_put : (i : ReadInput) (os more : List ReadOutput) (h : History) → newest_onto more (put_out i os h) ≡ newest_onto (os ++ more) h
newest_put i [] more h = refl
newest_put i (o ∷ os) more h = newest_put i os more (Out i o ∷ h) ∙ refl

abbrev pub AreTyped : List ReadEntry → Type 0
AreTyped [] = ⊤
AreTyped (e ∷ es) = IsTyped (spelled_input e.input) × AreTyped es

own_link : (t : Network) (n : ℕ) (i : ReadInput) → Rattle.network_law.proofs.ReadRuns.NamesOwnLink t n i → NamesOwnLink t n (spelled_input i)
unfolding spelled_input
own_link t n (messages.Enter m) own = tt
own_link t n (messages.Take l s m) own = own
own_link t n (messages.LinkUp l) own = own
own_link t n (messages.LinkDown l) own = own
own_link t n messages.Tick own = tt
own_link t n (messages.HostAnswer a c) own = tt
own_link t n (messages.NewDate d) own = tt
own_link t n (messages.TakePacket l s p) own = own
own_link t n (messages.Lend m c d a) own = tt

pub legal_spelled : (t : Network) (n : ℕ) (es : List ReadEntry) → trace_good es ≡ true → AreTyped es → length es < 1000000 → IsLegalRead t n es → IsLegal t n (spelled_trace es)
unfolding spelled_trace trace_good step_refusal step_outputs history
legal_spelled t n [] g typed few l = tt
legal_spelled t n (e ∷ es) g typed few l =
    let p = and_parts (input_good e.input && list_all output_good e.outputs) (trace_good es) g in
    let q = and_parts (input_good e.input) (list_all output_good e.outputs) p.0 in
    let i : read_input (spelled_input e.input) ≡ Ok e.input = read_spelled_input e.input q.0 in
    let past : read_history (read_trace (spelled_trace es)) ≡ read_history es = ap read_history (read_spelled_trace es p.1) in
    let long : length (spelled_trace es) ≡ length es = length-map es (λ x. record { input = spelled_input x.input; outputs = map spelled x.outputs }) in
    let room : nat_le 1000000 (length (spelled_trace es)) ≡ false = lt-leb 1000000 (length (spelled_trace es)) (omega (arith, long, few)) in
    let outs : newest_outputs (decide t n (read_history es) e.input) ≡ e.outputs = ap newest_outputs (sym l.1.outputs) ∙ (newest_put e.input e.outputs [] (In e.input ∷ read_history es) ∙ append-nil e.outputs) in (
      legal_spelled t n es p.1 typed.1 (omega (arith, few)) l.0,
      record {
        own = own_link t n e.input l.1.own;
        typed = typed.0;
        accepted = rw room (ap (fault_of t n (read_history (read_trace (spelled_trace es)))) i ∙ (ap (λ h. refusal t n h e.input) past ∙ l.1.accepted));
        outputs = ap (map spelled) (sym outs) ∙ (ap (λ h. map spelled (newest_outputs (decide t n h e.input))) (sym past) ∙ ap (outputs_of t n (read_history (read_trace (spelled_trace es)))) (sym i));
      },
    )
