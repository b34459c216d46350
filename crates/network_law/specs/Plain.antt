-- The terms of a history once more, in plain words: as lists in the order of time, of which they are the first, the last or a sum.
use Rattle.std.specs.Prelude.{ℕ, ◌≡◌, ◌≤◌, ◌⊎◌, unwrap_or, List, [], ◌∷◌, ◌++◌, map, filter, find, sum, length, Bool, true, false, not, ◌&&◌, if◌then◌else◌, bytes_eq, Option, Some, None, is_none, ◌==◌, reverse}
use Rattle.std.specs.Option.{option_map, option_map_or}
use Rattle.card_digits.specs.Numbers.{decimal}
use Rattle.card_digits.specs.declared.key.Key.{Key}
use Rattle.iso_message.specs.Fields.{Fields, el}
use Rattle.message_elements.specs.Groups.{is_request, is_answer}
use Rattle.message_keys.specs.Keys.{key_of, key_eq, code_of}
use Rattle.message_elements.specs.Codes.{code_94}
use Rattle.iso_message.specs.Made.{made_reversal}
use Rattle.net_rows.specs.Network.{Network}
use Rattle.network_law.specs.Cards.{card_of, label_of}
use Rattle.message_keys.specs.Amounts.{actual_amount}
use Rattle.network_law.specs.Tables.{node_id}
use Rattle.network_law.specs.Traces.{LinkUp, LinkDown, NewDate, is_up, date_of, ask_count, put_count, ReadInput, Tick, ReadOutput, Put, Answer, Ask, Post, PutPacket, In, Out, History, IsIn, count_of, Handled, handled, Opening, opening, answer, forwarded, fails, Advice, Approval, approvals, reverses_key, reversed, left, used, advices, late_key, ask_key}
use Rattle.network_law.specs.Decision.{failing, decide, keep}

-- the inputs and the outputs, the oldest first

unfoldable pub inputs : History → List ReadInput
inputs [] = []
inputs (In i ∷ h) = inputs h ++ i ∷ []
inputs (Out i o ∷ h) = inputs h

unfoldable pub outputs : History → List ReadOutput
outputs [] = []
outputs (In i ∷ h) = outputs h
outputs (Out i o ∷ h) = outputs h ++ o ∷ []

-- requests

abbrev pub request_of : ℕ → ReadInput → Option Handled → List Opening
request_of count i None = []
request_of count i (Some x) = if is_request x.message.kind then record { message = x.message; source = x.source; count = count; input = i } ∷ [] else []

-- the requests that were entered or taken
unfoldable pub requests : Network → History → List Opening
requests t [] = []
requests t (In i ∷ h) = requests t h ++ request_of (count_of h) i (handled t h i)
requests t (Out i o ∷ h) = requests t h

abbrev pub opened_key : Opening → Key
opened_key op = key_of op.message

-- of these those whose keys weren't open before
unfoldable pub openings : Network → History → List Opening
openings t [] = []
openings t (In i ∷ h) = openings t h ++ filter (λ op. is_none (opening t h (opened_key op))) (request_of (count_of h) i (handled t h i))
openings t (Out i o ∷ h) = openings t h

-- a key is opened by the first request of it
abbrev pub OpenedByFirst : Type 0
OpenedByFirst = (t : Network) (h : History) (k : Key) → opening t h k ≡ find (λ op. key_eq (opened_key op) k) (requests t h)

-- and by none after that
abbrev pub OpenedOnce : Type 0
OpenedOnce = (t : Network) (h : History) (k : Key) → opening t h k ≡ find (λ op. key_eq (opened_key op) k) (openings t h)

-- each opening is that of its key
abbrev pub EachIsOfItsKey : Type 0
EachIsOfItsKey = (t : Network) (h : History) (op : Opening) → IsIn op (openings t h) → opening t h (opened_key op) ≡ Some op

-- the keys that fail are those of the openings that do, in the order of opening
abbrev pub FailInOpeningOrder : Type 0
FailInOpeningOrder = (t : Network) (past : History) (i : ReadInput) → failing t past i ≡ map opened_key (filter (λ op. fails t past i (opened_key op)) (openings t past))

-- answers and forwards

abbrev pub is_answer_of : Key → Fields → Bool
is_answer_of k m = is_answer m.kind && key_eq (key_of m) k && not (bytes_eq (code_of m) code_94)

abbrev pub said_in : ReadOutput → List Fields
said_in (Put l s m) = m ∷ []
said_in (Answer m) = m ∷ []
said_in (Ask a m) = []
said_in (Post m) = []
said_in (PutPacket l s p) = []

-- the messages that were put and given as answers
unfoldable pub said : History → List Fields
said [] = []
said (In i ∷ h) = said h
said (Out i o ∷ h) = said h ++ said_in o

-- the answer of a key is the first 0110 of it whose code isn't 94
abbrev pub AnsweredByFirst : Type 0
AnsweredByFirst = (h : History) (k : Key) → answer h k ≡ find (is_answer_of k) (said h)

pub record OnLink : Type 0 where
  pub link : ℕ
  pub message : Fields

abbrev pub put_in : ReadOutput → List OnLink
put_in (Put l s m) = record { link = l; message = m } ∷ []
put_in _ = []

unfoldable pub puts : History → List OnLink
puts [] = []
puts (In i ∷ h) = puts h
puts (Out i o ∷ h) = puts h ++ put_in o

-- a key is forwarded on the link of the first put of a request of it
abbrev pub ForwardedByFirst : Type 0
ForwardedByFirst = (h : History) (k : Key) → forwarded h k ≡ option_map (λ p. p.link) (find (λ p. is_request p.message.kind && key_eq (key_of p.message) k) (puts h))

-- asks and serials

pub record Asked : Type 0 where
  pub ask : ℕ
  pub message : Fields

abbrev pub asked_in : ReadOutput → List Asked
asked_in (Ask a m) = record { ask = a; message = m } ∷ []
asked_in _ = []

unfoldable pub all_asked : History → List Asked
all_asked [] = []
all_asked (In i ∷ h) = all_asked h
all_asked (Out i o ∷ h) = all_asked h ++ asked_in o

-- a number is that of the key that was asked by it
abbrev pub AskedByNumber : Type 0
AskedByNumber = (h : History) (a : ℕ) → ask_key h a ≡ option_map (λ p. key_of p.message) (find (λ p. a == p.ask) (all_asked h))

-- the links on which something was put

abbrev pub link_in : ReadOutput → List ℕ
link_in (Put l s m) = l ∷ []
link_in (PutPacket l s p) = l ∷ []
link_in _ = []

unfoldable pub links_put : History → List ℕ
links_put [] = []
links_put (In i ∷ h) = links_put h
links_put (Out i o ∷ h) = links_put h ++ link_in o

-- asks and serials count what was put out
abbrev pub CountsAsks : Type 0
CountsAsks = (h : History) → ask_count h ≡ length (all_asked h)

abbrev pub CountsPuts : Type 0
CountsPuts = (h : History) (l : ℕ) → put_count h l ≡ length (filter (λ k. k == l) (links_put h))

-- links and dates

abbrev pub sets_link : ℕ → ReadInput → Bool
sets_link l (LinkUp k) = k == l
sets_link l (LinkDown k) = k == l
sets_link l _ = false

abbrev pub sets_up : ReadInput → Bool
sets_up (LinkDown k) = false
sets_up _ = true

-- a link is down where its last link input is LinkDown
abbrev pub UpByLast : Type 0
UpByLast = (h : History) (l : ℕ) → is_up h l ≡ option_map_or sets_up (find (sets_link l) (reverse (inputs h))) true

abbrev pub sets_date : ReadInput → Bool
sets_date (NewDate date) = true
sets_date _ = false

abbrev pub date_in : ReadInput → List ℕ
date_in (NewDate date) = date
date_in _ = []

-- the date is that of the last NewDate, else the network's
abbrev pub DatedByLast : Type 0
DatedByLast = (t : Network) (h : History) → date_of t h ≡ option_map_or date_in (find sets_date (reverse (inputs h))) t.settings.date

-- the count

abbrev pub is_tick : ReadInput → Bool
is_tick Tick = true
is_tick _ = false

-- the count is the number of ticks
abbrev pub CountsTicks : Type 0
CountsTicks = (h : History) → count_of h ≡ length (filter is_tick (inputs h))

-- used amounts

-- used is the sum of what is left of the amounts of all approvals of the card and the date
abbrev pub UsedIsSum : Type 0
UsedIsSum = (t : Network) (n : ℕ) (h : History) (card date : List ℕ) → used t n h card date ≡ sum (map (left t n h) (filter (λ a. bytes_eq (card_of a.request) card && bytes_eq (label_of a.request) date) (approvals t h)))

-- no more is left than the actual amount of any accepted reversal of the key
abbrev pub LeavesLeast : Type 0
LeavesLeast = (t : Network) (n : ℕ) (h : History) (a : Approval) (x : Advice) → IsIn x (advices t n h) → x.own ≡ false → reverses_key a.key x ≡ true → left t n h a ≤ unwrap_or (actual_amount x.message) 0

-- what is left is the amount, or the actual amount of one of these
abbrev pub LeavesOne : Type 0
LeavesOne = (t : Network) (n : ℕ) (h : History) (a : Approval) → (left t n h a ≡ decimal (el a.request 4)) ⊎ ((x : Advice) × IsIn x (advices t n h) × (x.own ≡ false) × (reverses_key a.key x ≡ true) × (left t n h a ≡ unwrap_or (actual_amount x.message) 0))

-- and no more than the amount
abbrev pub LeavesNoMore : Type 0
LeavesNoMore = (t : Network) (n : ℕ) (h : History) (a : Approval) → left t n h a ≤ decimal (el a.request 4)

-- it is the amount where no reversal was accepted
abbrev pub LeavesAll : Type 0
LeavesAll = (t : Network) (n : ℕ) (h : History) (a : Approval) → reversed t n h a.key ≡ false → left t n h a ≡ decimal (el a.request 4)

-- late approvals

-- the reversal of a late approval is kept in the very entry in which it comes, and nothing else is put out there
abbrev pub LateIsReversed : Type 0
LateIsReversed = (t : Network) (n : ℕ) (past : History) (i : ReadInput) (k : Key) (op : Opening) → late_key past (advices t n past) i ≡ Some k → opening t past k ≡ Some op → decide t n past i ≡ keep t n past i (made_reversal op.message (node_id t n)) (In i ∷ past)
