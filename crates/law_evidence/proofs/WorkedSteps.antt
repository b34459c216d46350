-- The first steps of the first example, byte for byte.
use Rattle.std.proofs.Common.{◌≡◌, List, [], ◌∷◌, Ok, false, true, refl, sym, ap, ◌∙◌, subst, arith}
use Rattle.std.specs.Prelude.{codes}
use Rattle.hex.specs.Hex.{encode_with}
use Rattle.message_elements.specs.Table.{form_of, table}
use Rattle.iso_message.specs.Spelling.{spelling}
use Rattle.iso_message.specs.Messages.{read}
use Rattle.network_law.specs.Traces.{Enter, Take, HostAnswer, Put, Answer, Ask}
use Rattle.network_law.specs.Decision.{decide}
use Rattle.network_law.specs.Refusals.{refusal}
use Rattle.network_law.specs.Entries.{ReadEntry, read_history, spelled, spelled_input, spelled_trace}
use Rattle.network_law.specs.Runs.{IsLegal}
use Rattle.law_evidence.specs.Worked.{base, entered, forwarded, answered, one, ten_dollars}
use Rattle.law_evidence.specs.WorkedBytes.{request_bytes, forwarded_bytes, answered_bytes, bytes_at_a, bytes_at_h}
use Rattle.network_law.proofs.ReadRuns.{IsLegalRead}
use Rattle.network_law.proofs.Reading.{read_spelling}
use Rattle.law_evidence.proofs.Spelled.{looks_good, good_is, legal_spelled}

pub request_spelled : spelling (entered one ten_dollars) ≡ request_bytes
unfolding spelling form_of table encode_with
request_spelled = refl

pub forwarded_spelled : spelling (forwarded one ten_dollars) ≡ forwarded_bytes
unfolding spelling form_of table encode_with
forwarded_spelled = refl

pub answered_spelled : spelling (answered one ten_dollars (codes "00")) ≡ answered_bytes
unfolding spelling form_of table encode_with
answered_spelled = refl

pub request_read : read request_bytes ≡ Ok (entered one ten_dollars)
unfolding looks_good
request_read = ap read (sym request_spelled) ∙ read_spelling (entered one ten_dollars) (good_is (entered one ten_dollars) refl)

-- the same entries in messages

read_at_a : List ReadEntry
read_at_a = record { input = Take 0 1 (answered one ten_dollars (codes "00")); outputs = Answer (answered one ten_dollars (codes "00")) ∷ [] } ∷ record { input = Enter (entered one ten_dollars); outputs = Put 0 1 (forwarded one ten_dollars) ∷ [] } ∷ []

read_at_h : List ReadEntry
read_at_h = record { input = HostAnswer 1 (codes "00"); outputs = Put 0 1 (answered one ten_dollars (codes "00")) ∷ [] } ∷ record { input = Take 0 1 (forwarded one ten_dollars); outputs = Ask 1 (forwarded one ten_dollars) ∷ [] } ∷ []

not_request : {A : Type 0} → false ≡ true → A
not_request p = cc

legal_read_a : IsLegalRead base 0 read_at_a
unfolding read_at_a read_history decide refusal
legal_read_a = ((omega arith, record { own = omega arith; formed = λ _. record { trace = refl; time = refl; acquirer = omega arith }; accepted = refl; outputs = refl }), record { own = refl; formed = λ r. not_request r; accepted = refl; outputs = refl })

legal_read_h : IsLegalRead base 1 read_at_h
unfolding read_at_h read_history decide refusal
legal_read_h = ((omega arith, record { own = refl; formed = λ _. record { trace = refl; time = refl; acquirer = omega arith }; accepted = refl; outputs = refl }), record { own = omega arith; formed = omega arith; accepted = refl; outputs = refl })

at_a_spelled : spelled_trace read_at_a ≡ bytes_at_a
unfolding read_at_a spelled_trace spelled spelled_input
at_a_spelled = rw (request_spelled, forwarded_spelled, answered_spelled) refl

at_h_spelled : spelled_trace read_at_h ≡ bytes_at_h
unfolding read_at_h spelled_trace spelled spelled_input
at_h_spelled = rw (forwarded_spelled, answered_spelled) refl

pub legal_at_a : IsLegal base 0 bytes_at_a
unfolding read_at_a spelled_input Rattle.law_evidence.proofs.Spelled.trace_good
legal_at_a = subst (IsLegal base 0) at_a_spelled (legal_spelled base 0 read_at_a refl (tt, (tt, tt)) (omega arith) legal_read_a)

pub legal_at_h : IsLegal base 1 bytes_at_h
unfolding read_at_h spelled_input Rattle.law_evidence.proofs.Spelled.trace_good
legal_at_h = subst (IsLegal base 1) at_h_spelled (legal_spelled base 1 read_at_h refl ((refl, refl), (tt, tt)) (omega arith) legal_read_h)
