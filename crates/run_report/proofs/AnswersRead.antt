-- The answers of a history, and that those of a trace in bytes are the same.
use Rattle.std.proofs.Common.{◌≡◌, ℕ, List, [], ◌∷◌, ◌++◌, map, Option, Some, None, Result, Ok, Err, Bool, true, false, not, if◌then◌else◌, refl, sym, ap, ◌∙◌, bytes_eq}
use Rattle.std.specs.Prelude.{codes}
use Rattle.std.proofs.lemmas.Bool.{cond_both}
use Rattle.std.proofs.lemmas.Option.{same_Some}
use Rattle.message_elements.specs.declared.fault.DecodeFault.{DecodeFault}
use Rattle.message_elements.specs.declared.kind.Kind.{Kind}
use Rattle.message_elements.specs.declared.kind.Kind.TheVariants.{K0100, K0101, K0110, K0120, K0121, K0130, K0400, K0401, K0410, K0420, K0421, K0430}
use Rattle.message_elements.specs.Groups.{is_answer}
use Rattle.message_elements.specs.Types.{kind_text, kind_of}
use Rattle.message_keys.proofs.Equality.{bytes_eq_is}
use Rattle.iso_message.specs.Fields.{Fields}
use Rattle.iso_message.specs.Messages.{read}
use Rattle.iso_message.specs.Spelling.{spelling, IsMessage}
use Rattle.iso_message.proofs.ReadingLaws.{read_takes}
use Rattle.network_law.specs.Grants.{read_packet, packet_bytes}
use Rattle.network_law.specs.declared.grant.GrantPacket.{GrantPacket}
use Rattle.network_law.specs.declared.grant.GrantPacket.TheVariants as packets
use Rattle.network_law.specs.Traces.{ReadInput, ReadOutput, In, Out, History, sent}
use Rattle.network_law.specs.Traces as messages
use Rattle.network_law.specs.Entries.{Input, Enter, Take, LinkUp, LinkDown, Tick, HostAnswer, NewDate, Lend, packet_or, read_as, read_input, put_out, spelled}
use Rattle.network_law.proofs.PacketsExact.{packets_are_exact}
use Rattle.network_law.proofs.Reading.{AreOutputs, read_spelling}
use Rattle.network_law.proofs.Written.{OutputIs}
use Rattle.run_report.specs.declared.answered.Answered.{Answered}
use Rattle.run_report.specs.Own.{is_response, brings_answer, answer_of, answer_in, output_answer, with_answer, answers_onto}

-- answers in messages

-- the input is the host's answer, or takes one by a link
abbrev pub brings : ReadInput → Bool
brings (messages.Take l s m) = is_answer m.kind
brings (messages.HostAnswer a c) = true
brings _ = false

-- the answer that an output gives
abbrev pub answer_from : Bool → Option Fields → Option Answered
answer_from alone None = None
answer_from alone (Some m) = if is_answer m.kind then answer_of alone m else None

-- the answers of a history, the newest first
abbrev pub given : History → List Answered
given [] = []
given (In i ∷ h) = given h
given (Out i o ∷ h) = with_answer (answer_from (not (brings i)) (sent o)) (given h)

-- bytes that begin as those of a response

kind_responds : (k : Kind) (rest : List ℕ) → is_response (kind_text k ++ rest) ≡ is_answer k
kind_responds K0100 rest = refl
kind_responds K0101 rest = refl
kind_responds K0110 rest = refl
kind_responds K0120 rest = refl
kind_responds K0121 rest = refl
kind_responds K0130 rest = refl
kind_responds K0400 rest = refl
kind_responds K0401 rest = refl
kind_responds K0410 rest = refl
kind_responds K0420 rest = refl
kind_responds K0421 rest = refl
kind_responds K0430 rest = refl

spelling_responds : (m : Fields) → is_response (spelling m) ≡ is_answer m.kind
unfolding spelling
spelling_responds m = kind_responds m.kind _

packet_responds : (p : GrantPacket) → is_response (packet_bytes p) ≡ false
unfolding packet_bytes
packet_responds (packets.Grant g) = refl
packet_responds (packets.Ack lender number) = refl

-- the bytes of a type are its own

abbrev Writes : List ℕ → Kind → Option Kind → Type 0
Writes text k o = o ≡ Some k → text ≡ kind_text k

kind_is_text : (text : List ℕ) (k : Kind) → Writes text k (kind_of text)
kind_is_text text k =
    cond_both (bytes_eq text (codes "0100")) (Some K0100) _ (Writes text k) (here K0100)
    (λ _. cond_both (bytes_eq text (codes "0101")) (Some K0101) _ (Writes text k) (here K0101)
    (λ _. cond_both (bytes_eq text (codes "0110")) (Some K0110) _ (Writes text k) (here K0110)
    (λ _. cond_both (bytes_eq text (codes "0120")) (Some K0120) _ (Writes text k) (here K0120)
    (λ _. cond_both (bytes_eq text (codes "0121")) (Some K0121) _ (Writes text k) (here K0121)
    (λ _. cond_both (bytes_eq text (codes "0130")) (Some K0130) _ (Writes text k) (here K0130)
    (λ _. cond_both (bytes_eq text (codes "0400")) (Some K0400) _ (Writes text k) (here K0400)
    (λ _. cond_both (bytes_eq text (codes "0401")) (Some K0401) _ (Writes text k) (here K0401)
    (λ _. cond_both (bytes_eq text (codes "0410")) (Some K0410) _ (Writes text k) (here K0410)
    (λ _. cond_both (bytes_eq text (codes "0420")) (Some K0420) _ (Writes text k) (here K0420)
    (λ _. cond_both (bytes_eq text (codes "0421")) (Some K0421) _ (Writes text k) (here K0421)
    (λ _. cond_both (bytes_eq text (codes "0430")) (Some K0430) _ (Writes text k) (here K0430)
    (λ _ e. absurd (none_some e)))))))))))))
  where
    here : (j : Kind) → bytes_eq text (kind_text j) ≡ true → Writes text k (Some j)
    here j at e = bytes_eq_is text (kind_text j) at ∙ ap kind_text (same_Some j k e)

    none_some : None ≡ Some k → ⊥
    none_some e = cc

message_responds : (bytes : List ℕ) (m : Fields) → read bytes ≡ Ok m → is_response bytes ≡ is_answer m.kind
message_responds bytes m e =
    let s = read_takes bytes m e in
    ap is_response (s.whole ∙ ap (λ k. k ++ (s.maps ++ s.body)) (kind_is_text s.kind m.kind s.is_kind.1)) ∙ kind_responds m.kind (s.maps ++ s.body)

-- outputs

spelling_answers : (alone : Bool) (m : Fields) → IsMessage m → answer_in alone (spelling m) ≡ answer_from alone (Some m)
spelling_answers alone m g = rw (spelling_responds m, read_spelling m g) refl

packet_answers : (alone : Bool) (p : GrantPacket) → answer_in alone (packet_bytes p) ≡ None
packet_answers alone p = rw (packet_responds p) refl

output_read : (alone : Bool) (o : ReadOutput) → OutputIs o → output_answer alone (spelled o) ≡ answer_from alone (sent o)
unfolding spelled
output_read alone (messages.Put l s m) g = spelling_answers alone m g
output_read alone (messages.Answer m) g = spelling_answers alone m g
output_read alone (messages.Ask a m) g = refl
output_read alone (messages.Post m) g = refl
output_read alone (messages.PutPacket l s p) g = packet_answers alone p

-- the outputs of an entry give the same answers in bytes
pub given_puts : (i : ReadInput) (os : List ReadOutput) (h : History) → AreOutputs os → given (put_out i os h) ≡ answers_onto (not (brings i)) (map spelled os) (given h)
given_puts i [] h a = refl
given_puts i (o ∷ os) h a = given_puts i os (Out i o ∷ h) a.1 ∙ ap (λ x. answers_onto (not (brings i)) (map spelled os) (with_answer x (given h))) (sym (output_read (not (brings i)) o a.0))

-- inputs

pub same_ok : {X : Type 0} (x y : X) → ◌≡◌ {A = Result X DecodeFault} (Ok x) (Ok y) → x ≡ y
same_ok x y e = cc

pub no_ok : {X : Type 0} (d : DecodeFault) (x : X) → ◌≡◌ {A = Result X DecodeFault} (Err d) (Ok x) → ⊥
no_ok d x e = cc

-- and an input brings an answer in bytes where it does
pub brings_read : (i : Input) (j : ReadInput) → read_input i ≡ Ok j → brings_answer i ≡ brings j
unfolding read_input
brings_read (Enter bytes) j e = go (read bytes) e
  where
    go : (r : Result Fields DecodeFault) → read_as messages.Enter r ≡ Ok j → false ≡ brings j
    go (Ok m) p = ap brings (same_ok (messages.Enter m) j p)
    go (Err d) p = absurd (no_ok d j p)
brings_read (Take l s bytes) j e = go (read_packet bytes) refl e
  where
    of_message : (r : Result Fields DecodeFault) → read bytes ≡ r → read_as (messages.Take l s) r ≡ Ok j → is_response bytes ≡ brings j
    of_message (Ok m) at p = message_responds bytes m at ∙ ap brings (same_ok (messages.Take l s m) j p)
    of_message (Err d) at p = absurd (no_ok d j p)

    go : (w : Option GrantPacket) → read_packet bytes ≡ w → packet_or (messages.TakePacket l s) w (read_as (messages.Take l s) (read bytes)) ≡ Ok j → is_response bytes ≡ brings j
    go (Some p) at e = ap is_response (sym (packets_are_exact bytes p at)) ∙ (packet_responds p ∙ ap brings (same_ok (messages.TakePacket l s p) j e))
    go None at e = of_message (read bytes) refl e
brings_read (LinkUp l) j e = ap brings (same_ok (messages.LinkUp l) j e)
brings_read (LinkDown l) j e = ap brings (same_ok (messages.LinkDown l) j e)
brings_read Tick j e = ap brings (same_ok messages.Tick j e)
brings_read (HostAnswer a c) j e = ap brings (same_ok (messages.HostAnswer a c) j e)
brings_read (NewDate d) j e = ap brings (same_ok (messages.NewDate d) j e)
brings_read (Lend m c d a) j e = ap brings (same_ok (messages.Lend m c d a) j e)
