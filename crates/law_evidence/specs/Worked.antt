-- Small networks, messages and traces, by which the definitions are tried.
use Rattle.std.specs.Prelude.{ℕ, zero, suc, ◌≡◌, List, [], ◌∷◌, ◌++◌, replicate, codes, Option, Some}
use Rattle.message_elements.specs.declared.kind.Kind.{Kind}
use Rattle.message_elements.specs.declared.kind.Kind.TheVariants.{K0100, K0110, K0120, K0130, K0400, K0410, K0420, K0430}
use Rattle.iso_message.specs.Fields.{Fields}
use Rattle.net_rows.specs.Network.{Network}
use Rattle.net_rows.specs.declared.row.Settings.{Settings}
use Rattle.net_rows.specs.declared.row.Node.{Node}
use Rattle.net_rows.specs.declared.row.Link.{Link}
use Rattle.net_rows.specs.declared.row.Route.{Route}
use Rattle.network_law.specs.declared.grant.GrantPacket.{GrantPacket}
use Rattle.network_law.specs.declared.grant.GrantPacket.TheVariants as packets
use Rattle.network_law.specs.Traces.{ReadInput, Enter, Take, TakePacket, LinkUp, LinkDown, Tick, HostAnswer, Lend, ReadOutput, Put, PutPacket, Answer, Ask, Post, History, load, used}
use Rattle.network_law.specs.Decision.{decide}
use Rattle.network_law.specs.Entries.{ReadEntry, newest_outputs}

-- networks

abbrev settings : Settings
settings = record { currency = codes "840"; date = 0 ∷ 3 ∷ 1 ∷ 4 ∷ []; host_ticks = 100; advice_ticks = 50 }

abbrev node : List ℕ → List ℕ → Node
node name id = record { name = name; id = id }

abbrev link : List ℕ → ℕ → ℕ → Link
link name from to = record { name = name; from = from; to = to; ticks = 3 }

abbrev route : ℕ → List ℕ → Route
route node links = record { node = node; prefix = 4 ∷ []; links = links }

-- A, node 0, is the gate of acquirer 400001, and routes over link 0 to H, node 1, which is the home of cards that begin with 4
abbrev pub base : Network
base = record {
  settings = settings;
  nodes = node (codes "A") (codes "1001") ∷ node (codes "H") (codes "1002") ∷ [];
  links = link (codes "AH") 0 1 ∷ [];
  acquirers = record { id = codes "400001"; node = 0 } ∷ [];
  issuers = record { name = codes "I"; prefix = 4 ∷ []; home = 1; named = []; ceiling = 0 } ∷ [];
  routes = route 0 (0 ∷ []) ∷ [];
  stand_ins = [];
}

-- the same, and A may approve 1000 a day by itself
abbrev pub limited : Network
limited = record base {
  issuers = record { name = codes "I"; prefix = 4 ∷ []; home = 1; named = 0 ∷ []; ceiling = 1000 } ∷ [];
  stand_ins = record { node = 0; prefix = 4 ∷ []; day = 1000; single = 1000 } ∷ [];
}

-- A, P, Q and H are nodes 0 to 3; A routes to P over link 0, else to Q over link 1, and may approve 1000 a day by itself
abbrev pub diamond : Network
diamond = record {
  settings = settings;
  nodes = node (codes "A") (codes "1001") ∷ node (codes "P") (codes "1003") ∷ node (codes "Q") (codes "1004") ∷ node (codes "H") (codes "1002") ∷ [];
  links = link (codes "AP") 0 1 ∷ link (codes "AQ") 0 2 ∷ link (codes "PH") 1 3 ∷ link (codes "QH") 2 3 ∷ [];
  acquirers = record { id = codes "400001"; node = 0 } ∷ [];
  issuers = record { name = codes "I"; prefix = 4 ∷ []; home = 3; named = 0 ∷ []; ceiling = 1000 } ∷ [];
  routes = route 0 (0 ∷ 1 ∷ []) ∷ route 1 (2 ∷ []) ∷ route 2 (3 ∷ []) ∷ [];
  stand_ins = record { node = 0; prefix = 4 ∷ []; day = 1000; single = 1000 } ∷ [];
}

-- A, B and H are nodes 0 to 2; A and B may approve 300 and 200 a day, and each has a link to H, over which it routes, and link 0 to
-- the other
abbrev pub lenders : Network
lenders = record {
  settings = settings;
  nodes = node (codes "A") (codes "1001") ∷ node (codes "B") (codes "1003") ∷ node (codes "H") (codes "1002") ∷ [];
  links = link (codes "AB") 0 1 ∷ link (codes "AH") 0 2 ∷ link (codes "BH") 1 2 ∷ [];
  acquirers = record { id = codes "400001"; node = 0 } ∷ record { id = codes "400002"; node = 1 } ∷ [];
  issuers = record { name = codes "I"; prefix = 4 ∷ []; home = 2; named = 0 ∷ 1 ∷ []; ceiling = 500 } ∷ [];
  routes = route 0 (1 ∷ []) ∷ route 1 (2 ∷ []) ∷ [];
  stand_ins = record { node = 0; prefix = 4 ∷ []; day = 300; single = 1000 } ∷ record { node = 1; prefix = 4 ∷ []; day = 200; single = 1000 } ∷ [];
}

-- A, B and H are nodes 0 to 2; A routes over link 0 to B, B over link 1 to H; A may approve 1000 a day by itself, and advices are sent
-- again at each tick
abbrev pub two_hops : Network
two_hops = record {
  settings = record settings { advice_ticks = 1 };
  nodes = node (codes "A") (codes "1001") ∷ node (codes "B") (codes "1003") ∷ node (codes "H") (codes "1002") ∷ [];
  links = link (codes "AB") 0 1 ∷ link (codes "BH") 1 2 ∷ [];
  acquirers = record { id = codes "400001"; node = 0 } ∷ [];
  issuers = record { name = codes "I"; prefix = 4 ∷ []; home = 2; named = 0 ∷ []; ceiling = 1000 } ∷ [];
  routes = route 0 (0 ∷ []) ∷ route 1 (1 ∷ []) ∷ [];
  stand_ins = record { node = 0; prefix = 4 ∷ []; day = 1000; single = 1000 } ∷ [];
}

-- messages

abbrev card : List ℕ
card = codes "4111111111111111"

-- its digits
abbrev pub card_number : List ℕ
card_number = 4 ∷ replicate 15 1

abbrev time : List ℕ
time = codes "0314091530"

-- a request as it is entered, by its trace number, amount and currency
abbrev pub entered_in : List ℕ → List ℕ → List ℕ → Fields
entered_in currency trace amount = record { kind = K0100; elements = (2, card) ∷ (3, codes "000000") ∷ (4, amount) ∷ (7, time) ∷ (11, trace) ∷ (32, codes "400001") ∷ (49, currency) ∷ [] }

abbrev pub entered : List ℕ → List ℕ → Fields
entered = entered_in (codes "840")

-- the same of the acquirer at B, and as B answers it
abbrev pub entered_at_b : List ℕ → List ℕ → Fields
entered_at_b trace amount = record { kind = K0100; elements = (2, card) ∷ (3, codes "000000") ∷ (4, amount) ∷ (7, time) ∷ (11, trace) ∷ (32, codes "400002") ∷ (49, codes "840") ∷ [] }

abbrev pub answered_at_b : List ℕ → List ℕ → List ℕ → Fields
answered_at_b trace amount code = record { kind = K0110; elements = (2, card) ∷ (3, codes "000000") ∷ (4, amount) ∷ (7, time) ∷ (11, trace) ∷ (15, codes "0314") ∷ (32, codes "400002") ∷ (39, code) ∷ (49, codes "840") ∷ [] }

-- with another card number, with further elements behind, and under another type
abbrev pub entered_with : Kind → List ℕ → List (ℕ × List ℕ) → Fields
entered_with kind card behind = record { kind = kind; elements = (2, card) ∷ (3, codes "000000") ∷ (4, codes "000000001000") ∷ (7, time) ∷ (11, codes "000001") ∷ behind }

-- a request with another card number, and its answer
abbrev pub entered_card : List ℕ → Fields
entered_card other = entered_with K0100 other ((32, codes "400001") ∷ (49, codes "840") ∷ [])

abbrev pub answered_card : List ℕ → List ℕ → Fields
answered_card other code = record { kind = K0110; elements = (2, other) ∷ (3, codes "000000") ∷ (4, codes "000000001000") ∷ (7, time) ∷ (11, codes "000001") ∷ (15, codes "0314") ∷ (32, codes "400001") ∷ (39, code) ∷ (49, codes "840") ∷ [] }

-- as it is forwarded
abbrev pub forwarded : List ℕ → List ℕ → Fields
forwarded trace amount = record { kind = K0100; elements = (2, card) ∷ (3, codes "000000") ∷ (4, amount) ∷ (7, time) ∷ (11, trace) ∷ (15, codes "0314") ∷ (32, codes "400001") ∷ (49, codes "840") ∷ [] }

abbrev pub answered_in : List ℕ → List ℕ → List ℕ → List ℕ → Fields
answered_in currency trace amount code = record { kind = K0110; elements = (2, card) ∷ (3, codes "000000") ∷ (4, amount) ∷ (7, time) ∷ (11, trace) ∷ (15, codes "0314") ∷ (32, codes "400001") ∷ (39, code) ∷ (49, currency) ∷ [] }

abbrev pub answered : List ℕ → List ℕ → List ℕ → Fields
answered = answered_in (codes "840")

abbrev original : List ℕ → List ℕ
original trace = codes "0100" ++ trace ++ time ++ codes "00000400001" ++ codes "00000000000"

-- the reversal that a node with this id makes, first or again
abbrev pub reversal_by : List ℕ → Kind → List ℕ → List ℕ → Fields
reversal_by id kind trace amount = record { kind = kind; elements = (2, card) ∷ (3, codes "000000") ∷ (4, amount) ∷ (7, time) ∷ (11, trace) ∷ (15, codes "0314") ∷ (32, codes "400001") ∷ (33, id) ∷ (39, codes "68") ∷ (49, codes "840") ∷ (90, original trace) ∷ [] }

-- that of A
abbrev pub reversal_as : Kind → List ℕ → List ℕ → Fields
reversal_as = reversal_by (codes "1001")

abbrev pub reversal : List ℕ → List ℕ → Fields
reversal = reversal_as K0420

-- what acknowledges it
abbrev pub acknowledged : List ℕ → List ℕ → Fields
acknowledged trace amount = record { kind = K0430; elements = (2, card) ∷ (3, codes "000000") ∷ (4, amount) ∷ (7, time) ∷ (11, trace) ∷ (15, codes "0314") ∷ (32, codes "400001") ∷ (33, codes "1001") ∷ (39, codes "00") ∷ (49, codes "840") ∷ (90, original trace) ∷ [] }

-- the stand-in advice that A makes
abbrev pub stand_in : List ℕ → List ℕ → Fields
stand_in trace amount = record { kind = K0120; elements = (2, card) ∷ (3, codes "000000") ∷ (4, amount) ∷ (7, time) ∷ (11, trace) ∷ (15, codes "0314") ∷ (32, codes "400001") ∷ (33, codes "1001") ∷ (39, codes "00") ∷ (49, codes "840") ∷ [] }

-- what acknowledges it
abbrev pub stand_in_acknowledged : List ℕ → List ℕ → Fields
stand_in_acknowledged trace amount = record { kind = K0130; elements = (stand_in trace amount).elements }

-- a reversal as its acquirer enters it, as A forwards it, and its reply
abbrev pub reversal_by_acquirer : Kind → List ℕ → List ℕ → Fields
reversal_by_acquirer kind trace amount = record { kind = kind; elements = (2, card) ∷ (3, codes "000000") ∷ (4, amount) ∷ (7, codes "0314091600") ∷ (11, codes "000002") ∷ (32, codes "400001") ∷ (49, codes "840") ∷ (90, original trace) ∷ [] }

-- a partial one, with its actual amount
abbrev pub partial_reversal : List ℕ → List ℕ → List ℕ → Fields
partial_reversal actual trace amount = record { kind = K0400; elements = (reversal_by_acquirer K0400 trace amount).elements ++ (95, actual ++ codes "000000000000C00000000C00000000") ∷ [] }

abbrev pub reversal_reply_with : List ℕ → List ℕ → List ℕ → Fields
reversal_reply_with code trace amount = record { kind = K0410; elements = (2, card) ∷ (3, codes "000000") ∷ (4, amount) ∷ (7, codes "0314091600") ∷ (11, codes "000002") ∷ (32, codes "400001") ∷ (39, code) ∷ (49, codes "840") ∷ (90, original trace) ∷ [] }

abbrev pub reversal_reply : List ℕ → List ℕ → Fields
reversal_reply = reversal_reply_with (codes "00")

-- what acknowledges it between nodes
abbrev pub reversal_acknowledged : List ℕ → List ℕ → Fields
reversal_acknowledged trace amount = record { kind = K0430; elements = (reversal_reply trace amount).elements }

abbrev pub one : List ℕ
one = codes "000001"

abbrev pub two : List ℕ
two = codes "000002"

abbrev pub three : List ℕ
three = codes "000003"

abbrev pub four : List ℕ
four = codes "000004"

abbrev pub ten_dollars : List ℕ
ten_dollars = codes "000000001000"

abbrev pub twenty_dollars : List ℕ
twenty_dollars = codes "000000002000"

abbrev pub six_dollars : List ℕ
six_dollars = codes "000000000600"

abbrev pub three_dollars : List ℕ
three_dollars = codes "000000000300"

abbrev pub two_dollars : List ℕ
two_dollars = codes "000000000200"

abbrev pub four_dollars : List ℕ
four_dollars = codes "000000000400"

abbrev pub one_cent : List ℕ
one_cent = codes "000000000001"

-- the tables' date, and the next day

abbrev pub march_14 : List ℕ
march_14 = 0 ∷ 3 ∷ 1 ∷ 4 ∷ []

abbrev pub march_15 : List ℕ
march_15 = 0 ∷ 3 ∷ 1 ∷ 5 ∷ []

-- lent amounts

-- A is to lend so much to B
abbrev pub lend_to_b : ℕ → ReadInput
lend_to_b amount = Lend 1 card_number march_14 amount

-- and its first grant says so
abbrev pub granted : ℕ → GrantPacket
granted amount = packets.Grant (record { lender = codes "00000001001"; number = 1; borrower = codes "00000001003"; card = card_number; date = march_14; amount = amount })

abbrev pub received : GrantPacket
received = packets.Ack (codes "00000001001") 1

-- steps

-- the history after these inputs, of which the last stands first
unfoldable pub history_after : Network → ℕ → List ReadInput → History
unfolding decide
history_after t n [] = []
history_after t n (i ∷ is) = decide t n (history_after t n is) i

-- what is put out for the last of them
unfoldable pub outputs_after : Network → ℕ → List ReadInput → List ReadOutput
unfolding history_after
outputs_after t n is = newest_outputs (history_after t n is)

-- the places that are taken after them
abbrev pub load_after : Network → ℕ → List ReadInput → ℕ
load_after t n is = load t n (history_after t n is)

-- what the node's own approvals use of the card's limit of a date after them
abbrev pub used_after : Network → ℕ → List ReadInput → List ℕ → ℕ
used_after t n is date = used t n (history_after t n is) card_number date

-- after these inputs a message that an acquirer enters at A is answered by this response, and nothing else is put out
abbrev pub EnteredIsAnswered : Network → List ReadInput → Fields → Fields → Type 0
EnteredIsAnswered t is message response = outputs_after t 0 (Enter message ∷ is) ≡ Answer response ∷ []

-- the first message that H takes from A in the base network is answered by this response, and nothing else is put out
abbrev pub TakenIsAnswered : Fields → Fields → Type 0
TakenIsAnswered message response = outputs_after base 1 (Take 0 1 message ∷ []) ≡ Put 0 1 response ∷ []

-- so many ticks after these inputs
abbrev pub ticks : ℕ → List ReadInput → List ReadInput
ticks zero is = is
ticks (suc n) is = Tick ∷ ticks n is

-- traces, the newest entry first

abbrev entry : ReadInput → List ReadOutput → ReadEntry
entry i os = record { input = i; outputs = os }

abbrev quiet_ticks : ℕ → List ReadEntry → List ReadEntry
quiet_ticks zero es = es
quiet_ticks (suc n) es = entry Tick [] ∷ quiet_ticks n es

-- after a link failure the request goes to the next alternate
abbrev pub next_alternate : List ReadEntry
next_alternate =
    entry (LinkDown 0) (Put 1 1 (forwarded one ten_dollars) ∷ [])
    ∷ entry (Enter (entered one ten_dollars)) (Put 0 1 (forwarded one ten_dollars) ∷ [])
    ∷ []

-- and after a time-out
abbrev pub next_alternate_in_time : List ReadEntry
next_alternate_in_time =
    entry Tick (Put 1 1 (forwarded one ten_dollars) ∷ [])
    ∷ quiet_ticks 2 (
    entry (Enter (entered one ten_dollars)) (Put 0 1 (forwarded one ten_dollars) ∷ [])
    ∷ [])

-- a request that was reversed while it was pending is stood in for when its time is over
abbrev pub stood_in_though_reversed : List ReadEntry
stood_in_though_reversed =
    entry Tick (Answer (answered one ten_dollars (codes "00")) ∷ Put 0 3 (stand_in one ten_dollars) ∷ [])
    ∷ quiet_ticks 2 (
    entry (Enter (reversal_by_acquirer K0400 one ten_dollars)) (Answer (answered one ten_dollars (codes "68")) ∷ Answer (reversal_reply one ten_dollars) ∷ Put 0 2 (reversal_by_acquirer K0420 one ten_dollars) ∷ [])
    ∷ entry (Enter (entered one ten_dollars)) (Put 0 1 (forwarded one ten_dollars) ∷ [])
    ∷ [])

-- an approval that comes after the answer is dropped
abbrev pub late_approval_dropped : List ReadEntry
late_approval_dropped =
    entry (Take 0 2 (answered one ten_dollars (codes "00"))) []
    ∷ entry (Take 0 1 (answered one ten_dollars (codes "96"))) (Answer (answered one ten_dollars (codes "96")) ∷ [])
    ∷ entry (Enter (entered one ten_dollars)) (Put 0 1 (forwarded one ten_dollars) ∷ [])
    ∷ []

-- of two requests that fail at one tick the second's limit doesn't count the first
abbrev pub same_tick_not_counted : List ReadEntry
same_tick_not_counted =
    entry Tick (Put 0 3 (reversal one six_dollars) ∷ Answer (answered one six_dollars (codes "00")) ∷ Put 0 4 (stand_in one six_dollars) ∷ Put 0 5 (reversal two six_dollars) ∷ Answer (answered two six_dollars (codes "00")) ∷ Put 0 6 (stand_in two six_dollars) ∷ [])
    ∷ quiet_ticks 2 (
    entry (Enter (entered two six_dollars)) (Put 0 2 (forwarded two six_dollars) ∷ [])
    ∷ entry (Enter (entered one six_dollars)) (Put 0 1 (forwarded one six_dollars) ∷ [])
    ∷ [])

-- an advice that was sent, and isn't acknowledged, isn't sent again
abbrev pub advice_dropped_when_sent : List ReadEntry
advice_dropped_when_sent =
    quiet_ticks 50 (
    entry Tick (Put 0 2 (reversal one ten_dollars) ∷ Answer (answered one ten_dollars (codes "91")) ∷ [])
    ∷ quiet_ticks 2 (
    entry (Enter (entered one ten_dollars)) (Put 0 1 (forwarded one ten_dollars) ∷ [])
    ∷ []))

-- a reversal that the node made gives it back what it approved itself
abbrev pub own_reversal_frees : List ReadEntry
own_reversal_frees =
    entry (Enter (entered two six_dollars)) (Answer (answered two six_dollars (codes "00")) ∷ [])
    ∷ entry (LinkDown 0) (Answer (answered one six_dollars (codes "00")) ∷ [])
    ∷ entry (Enter (entered one six_dollars)) (Put 0 1 (forwarded one six_dollars) ∷ [])
    ∷ []

-- a partial reversal frees the whole amount
abbrev pub partial_frees_all : List ReadEntry
partial_frees_all =
    entry (Enter (entered two ten_dollars)) (Answer (answered two ten_dollars (codes "00")) ∷ [])
    ∷ entry (Enter (partial_reversal four_dollars one ten_dollars)) (Answer (reversal_reply one ten_dollars) ∷ [])
    ∷ entry (Enter (entered one ten_dollars)) (Answer (answered one ten_dollars (codes "00")) ∷ [])
    ∷ entry (LinkDown 0) []
    ∷ []

-- a borrower counts a repeated grant again
abbrev pub repeated_grant_counted : List ReadEntry
repeated_grant_counted =
    entry (Enter (entered_at_b one four_dollars)) (Answer (answered_at_b one four_dollars (codes "00")) ∷ [])
    ∷ entry (LinkDown 2) []
    ∷ entry (TakePacket 0 1 (granted 100)) (PutPacket 0 2 received ∷ [])
    ∷ entry (TakePacket 0 1 (granted 100)) (PutPacket 0 1 received ∷ [])
    ∷ []

-- a lender's own limit isn't lessened
abbrev pub lent_amount_used : List ReadEntry
lent_amount_used =
    entry (Enter (entered one three_dollars)) (Answer (answered one three_dollars (codes "00")) ∷ [])
    ∷ entry (LinkDown 1) []
    ∷ entry (lend_to_b 100) (PutPacket 0 1 (granted 100) ∷ [])
    ∷ []

-- a grant is dropped when it is put
abbrev pub grant_dropped_when_put : List ReadEntry
grant_dropped_when_put = quiet_ticks 50 (entry (lend_to_b 100) (PutPacket 0 1 (granted 100) ∷ []) ∷ [])

-- a run: the request fails at A at its third tick, H posts the reversal, and A takes the acknowledgement

abbrev at_a : List ReadEntry
at_a =
    entry (Take 0 1 (acknowledged one ten_dollars)) []
    ∷ entry Tick (Put 0 2 (reversal one ten_dollars) ∷ Answer (answered one ten_dollars (codes "91")) ∷ [])
    ∷ quiet_ticks 2 (
    entry (Enter (entered one ten_dollars)) (Put 0 1 (forwarded one ten_dollars) ∷ [])
    ∷ [])

abbrev at_h : List ReadEntry
at_h = entry (Take 0 2 (reversal one ten_dollars)) (Put 0 1 (acknowledged one ten_dollars) ∷ Post (reversal one ten_dollars) ∷ []) ∷ []

abbrev pub reversed_run : ℕ → List ReadEntry
reversed_run zero = at_a
reversed_run (suc zero) = at_h
reversed_run (suc (suc n)) = []

-- a run: A lends to B, which takes the grant twice and acknowledges it twice, and A takes what acknowledges it first
abbrev pub lent_run : ℕ → List ReadEntry
lent_run zero = entry (TakePacket 0 1 received) [] ∷ entry (lend_to_b 100) (PutPacket 0 1 (granted 100) ∷ []) ∷ []
lent_run (suc zero) = entry (TakePacket 0 1 (granted 100)) (PutPacket 0 2 received ∷ []) ∷ entry (TakePacket 0 1 (granted 100)) (PutPacket 0 1 received ∷ []) ∷ []
lent_run (suc (suc n)) = []

-- a run of two hops: the host approves the first request; A stands in for the second, while its link is down, and sends its advice at
-- the next tick, which H posts; the second is reversed, which frees its amount for the third

abbrev hops_a : List ReadEntry
hops_a =
    entry (Enter (entered three ten_dollars)) (Answer (answered three ten_dollars (codes "00")) ∷ [])
    ∷ entry (LinkDown 0) []
    ∷ entry (Take 0 3 (reversal_acknowledged two ten_dollars)) []
    ∷ entry (Enter (reversal_by_acquirer K0400 two ten_dollars)) (Answer (reversal_reply two ten_dollars) ∷ Put 0 3 (reversal_by_acquirer K0420 two ten_dollars) ∷ [])
    ∷ entry (Take 0 2 (stand_in_acknowledged two ten_dollars)) []
    ∷ entry Tick (Put 0 2 (stand_in two ten_dollars) ∷ [])
    ∷ entry (LinkUp 0) []
    ∷ entry (Enter (entered two ten_dollars)) (Answer (answered two ten_dollars (codes "00")) ∷ [])
    ∷ entry (LinkDown 0) []
    ∷ entry (Take 0 1 (answered one ten_dollars (codes "00"))) (Answer (answered one ten_dollars (codes "00")) ∷ [])
    ∷ entry (Enter (entered one ten_dollars)) (Put 0 1 (forwarded one ten_dollars) ∷ [])
    ∷ []

abbrev hops_b : List ReadEntry
hops_b =
    entry (Take 1 3 (reversal_acknowledged two ten_dollars)) []
    ∷ entry (Take 0 3 (reversal_by_acquirer K0420 two ten_dollars)) (Put 0 3 (reversal_acknowledged two ten_dollars) ∷ Put 1 3 (reversal_by_acquirer K0420 two ten_dollars) ∷ [])
    ∷ entry (Take 1 2 (stand_in_acknowledged two ten_dollars)) []
    ∷ entry (Take 0 2 (stand_in two ten_dollars)) (Put 0 2 (stand_in_acknowledged two ten_dollars) ∷ Put 1 2 (stand_in two ten_dollars) ∷ [])
    ∷ entry (Take 1 1 (answered one ten_dollars (codes "00"))) (Put 0 1 (answered one ten_dollars (codes "00")) ∷ [])
    ∷ entry (Take 0 1 (forwarded one ten_dollars)) (Put 1 1 (forwarded one ten_dollars) ∷ [])
    ∷ []

abbrev hops_h : List ReadEntry
hops_h =
    entry (Take 1 3 (reversal_by_acquirer K0420 two ten_dollars)) (Put 1 3 (reversal_acknowledged two ten_dollars) ∷ Post (reversal_by_acquirer K0420 two ten_dollars) ∷ [])
    ∷ entry (Take 1 2 (stand_in two ten_dollars)) (Put 1 2 (stand_in_acknowledged two ten_dollars) ∷ Post (stand_in two ten_dollars) ∷ [])
    ∷ entry (HostAnswer 1 (codes "00")) (Put 1 1 (answered one ten_dollars (codes "00")) ∷ [])
    ∷ entry (Take 1 1 (forwarded one ten_dollars)) (Ask 1 (forwarded one ten_dollars) ∷ [])
    ∷ []

abbrev pub hops_run : ℕ → List ReadEntry
hops_run zero = hops_a
hops_run (suc zero) = hops_b
hops_run (suc (suc zero)) = hops_h
hops_run (suc (suc (suc n))) = []

-- A stands above B, and B above H, for every card
abbrev pub hop_ranks : ℕ → List ℕ → Option ℕ
hop_ranks zero digits = Some 2
hop_ranks (suc zero) digits = Some 1
hop_ranks (suc (suc n)) digits = Some 0

-- A stands above H for every card
abbrev pub base_ranks : ℕ → List ℕ → Option ℕ
base_ranks zero digits = Some 1
base_ranks (suc n) digits = Some 0

-- A and B stand above H for every card
abbrev pub lender_ranks : ℕ → List ℕ → Option ℕ
lender_ranks zero digits = Some 1
lender_ranks (suc zero) digits = Some 1
lender_ranks (suc (suc n)) digits = Some 0
