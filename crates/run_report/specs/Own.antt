-- How a trace is counted: its answers one after another, and its posts. These are working definitions: what a report says is defined by the
-- law (Stations), and that their numbers are those of the law for every legal trace is proved (proofs/OwnLaw).
use Rattle.std.specs.Prelude.{ℕ, ◌+◌, ◌&&◌, Bool, true, false, not, List, [], ◌∷◌, codes, nat_eq, bytes_eq, sum_by, count_by, Option, Some, None, option_and_then, if◌then◌else◌}
use Rattle.std.specs.List.{list_any, starts_with}
use Rattle.std.specs.Result.{result_ok}
use Rattle.card_digits.specs.declared.key.Key.{Key}
use Rattle.message_elements.specs.Codes.{code_00, code_94}
use Rattle.iso_message.specs.Fields.{Fields, get}
use Rattle.message_keys.specs.Keys.{when, has_key, key_of, key_eq}
use Rattle.iso_message.specs.Messages.{read}
use Rattle.network_law.specs.Entries.{Entry, Input, Take, HostAnswer, Output, Put, Answer, Post}
use Rattle.run_report.specs.declared.answered.Answered.{Answered}

-- answers

-- the bytes begin as those of a response to a request do
abbrev pub is_response : List ℕ → Bool
is_response bytes = starts_with nat_eq bytes (codes "0110")

-- an answer that is given at this input is the host's, or came by a link
abbrev pub brings_answer : Input → Bool
brings_answer (HostAnswer ask code) = true
brings_answer (Take l s bytes) = is_response bytes
brings_answer _ = false

-- a response with code 94 answers no request
abbrev pub with_code : Bool → Key → List ℕ → Option Answered
with_code alone key code = if bytes_eq code code_94 then None else Some (record { key = key; approves = bytes_eq code code_00; alone = alone })

-- the answer that a response is, where it has a key and a code
abbrev pub answer_of : Bool → Fields → Option Answered
answer_of alone m = option_and_then (λ key. option_and_then (with_code alone key) (get m 39)) (when (has_key m) (key_of m))

abbrev pub answer_in : Bool → List ℕ → Option Answered
answer_in alone bytes = if is_response bytes then option_and_then (answer_of alone) (result_ok (read bytes)) else None

-- the answer that goes out to the acquirer or on a link
abbrev pub output_answer : Bool → Output → Option Answered
output_answer alone (Put l s bytes) = answer_in alone bytes
output_answer alone (Answer bytes) = answer_in alone bytes
output_answer alone _ = None

abbrev pub with_answer : Option Answered → List Answered → List Answered
with_answer None before = before
with_answer (Some a) before = a ∷ before

-- the answers among outputs on top of those before, the last one first
abbrev pub answers_onto : Bool → List Output → List Answered → List Answered
answers_onto alone [] before = before
answers_onto alone (o ∷ os) before = answers_onto alone os (with_answer (output_answer alone o) before)

-- the answers of a trace, the newest first
abbrev pub answers_given : List Entry → List Answered
answers_given [] = []
answers_given (e ∷ es) = answers_onto (not (brings_answer e.input)) e.outputs (answers_given es)

-- answers that count as own approvals

abbrev pub was_answered : Key → List Answered → Bool
was_answered k answers = list_any (λ a. key_eq a.key k) answers

-- the first answer to its key, an approval, and the node's own
abbrev pub is_own : Answered → List Answered → Bool
is_own a before = not (was_answered a.key before) && (a.approves && a.alone)

abbrev pub one_if : Bool → ℕ
one_if b = if b then 1 else 0

-- how many of the answers are such
abbrev pub own_among : List Answered → ℕ
own_among [] = 0
own_among (a ∷ before) = one_if (is_own a before) + own_among before

-- how many of the answers of a trace
abbrev pub own_of : List Entry → ℕ
own_of trace = own_among (answers_given trace)

-- posts

abbrev pub is_post : Output → Bool
is_post (Post bytes) = true
is_post _ = false

-- how many outputs of a trace are posts
abbrev pub posts_of : List Entry → ℕ
posts_of trace = sum_by (λ e. count_by is_post e.outputs) trace
