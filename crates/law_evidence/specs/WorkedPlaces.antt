-- Words for what a node meets where few places are left, after whatever came before: so many are taken, and what is known of the request
-- of ten dollars.
use Rattle.std.specs.Prelude.{ℕ, suc, ◌≡◌, true, false, List, [], ◌∷◌, Some, None}
use Rattle.card_digits.specs.declared.key.Key.{Key}
use Rattle.iso_message.specs.Fields.{Fields}
use Rattle.message_keys.specs.Keys.{key_of, identity_of}
use Rattle.net_rows.specs.Network.{Network}
use Rattle.network_law.specs.Traces.{ReadInput, Enter, Take, ReadOutput, Put, Answer, Gate, History, date_of, put_count, ask_key, opening, answer, forwarded, comes_late, advices, known, reversed, used, borrowed, lent, load}
use Rattle.network_law.specs.Decision.{decide}
use Rattle.network_law.specs.Entries.{newest_outputs}
use Rattle.law_evidence.specs.Worked.{base, lenders, card_number, march_14}
use Rattle.law_evidence.specs.WorkedRequest.{forwarded_request, approval, reversal_request, stand_in_advice}

abbrev pub request_key : Key
request_key = key_of forwarded_request

-- what is put out for an input that comes next
abbrev pub outputs_for : Network → ℕ → History → ReadInput → List ReadOutput
outputs_for t n past i = newest_outputs (decide t n past i)

-- a message is put on link 0, under its next serial number
abbrev pub put_next : History → Fields → ReadOutput
put_next past message = Put 0 (suc (put_count past 0)) message

-- A answers a message that is entered next by this response, and puts out nothing else
abbrev pub AnswersEntered : Network → History → Fields → Fields → Type 0
AnswersEntered t past message response = outputs_for t 0 past (Enter message) ≡ Answer response ∷ []

-- A forwards a message that is entered next, as this one, and puts out nothing else
abbrev pub ForwardsEntered : Network → History → Fields → Fields → Type 0
ForwardsEntered t past message forwarded_message = outputs_for t 0 past (Enter message) ≡ put_next past forwarded_message ∷ []

-- H answers a message that it takes next from A by this response, and puts out nothing else
abbrev pub AnswersTaken : Network → History → Fields → Fields → Type 0
AnswersTaken t past message response = outputs_for t 1 past (Take 0 1 message) ≡ put_next past response ∷ []

-- so many places are taken at the node, and the request is new to it: its key is neither open nor reversed
abbrev pub NewAtLoad : ℕ → Network → ℕ → History → Type 0
NewAtLoad places t n past = (load t n past ≡ places) × (opening t past request_key ≡ None) × (reversed t n past request_key ≡ false)

-- so it is at A, and the date is the 14th of March
abbrev pub NewTodayAtLoad : ℕ → Network → History → Type 0
NewTodayAtLoad places t past = (date_of t past ≡ march_14) × NewAtLoad places t 0 past

-- the request was entered and opened, by some input and at some count of ticks
abbrev pub WasOpened : History → Type 0
WasOpened past = (input : ReadInput) × (count : ℕ) × (opening base past request_key ≡ Some (record { message = forwarded_request; source = Gate; count = count; input = input }))

-- so it was, so many places are taken at A, and the date is the 14th of March
abbrev pub OpenTodayAtLoad : ℕ → History → Type 0
OpenTodayAtLoad places past = (load base 0 past ≡ places) × (date_of base past ≡ march_14) × WasOpened past

-- the acquirer got the approval
abbrev pub WasApproved : History → Type 0
WasApproved past = answer past request_key ≡ Some approval

-- so many places are taken at A; the request is open and has no response, and the acquirer's reversal of it isn't known
abbrev pub PendingAtLoad : ℕ → History → Type 0
PendingAtLoad places past = (load base 0 past ≡ places) × WasOpened past × (answer past request_key ≡ None) × (known base 0 past (identity_of reversal_request) ≡ false)

-- so many places are taken at A; the request is open and approved, and the acquirer's reversal of it isn't known
abbrev pub ApprovedAtLoad : ℕ → History → Type 0
ApprovedAtLoad places past = (load base 0 past ≡ places) × WasOpened past × WasApproved past × (known base 0 past (identity_of reversal_request) ≡ false)

-- so many places are taken at A; the request is open and went over link 0, and an approval of it would come late
abbrev pub LateAtLoad : ℕ → History → Type 0
LateAtLoad places past = (load base 0 past ≡ places) × (forwarded past request_key ≡ Some 0) × (comes_late past (advices base 0 past) request_key ≡ true) × WasOpened past

-- so many places are taken at the node; the request isn't open there, and this reversal of it isn't known
abbrev pub NewReversalAtLoad : ℕ → Network → ℕ → History → Fields → Type 0
NewReversalAtLoad places t n past message = (load t n past ≡ places) × (opening t past request_key ≡ None) × (known t n past (identity_of message) ≡ false)

-- and so where the reversal is known
abbrev pub KnownReversalAtLoad : ℕ → Network → ℕ → History → Fields → Type 0
KnownReversalAtLoad places t n past message = (load t n past ≡ places) × (opening t past request_key ≡ None) × (known t n past (identity_of message) ≡ true)

-- so many places are taken at the node, and the stand-in advice isn't known
abbrev pub NewAdviceAtLoad : ℕ → Network → ℕ → History → Type 0
NewAdviceAtLoad places t n past = (load t n past ≡ places) × (known t n past (identity_of stand_in_advice) ≡ false)

-- so many places are taken at H, and the request is the first about which it asked its host
abbrev pub AskedAtLoad : ℕ → History → Type 0
AskedAtLoad places past = (load base 1 past ≡ places) × (ask_key past 1 ≡ Some request_key)

-- so many places are taken at A, and it has used, borrowed and lent nothing of the card's limit of the 14th of March
abbrev pub UnusedAtLoad : ℕ → History → Type 0
UnusedAtLoad places past = (load lenders 0 past ≡ places) × (used lenders 0 past card_number march_14 ≡ 0) × (borrowed past card_number march_14 ≡ 0) × (lent lenders 0 past card_number march_14 ≡ 0)
