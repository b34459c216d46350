-- Messages by which settled readings are tried: with further elements, on another date, and at a home that stands in.
use Rattle.std.specs.Prelude.{ℕ, List, [], ◌∷◌, ◌++◌, replicate, codes}
use Rattle.message_elements.specs.declared.kind.Kind.{Kind}
use Rattle.message_elements.specs.declared.kind.Kind.TheVariants.{K0100, K0110, K0120, K0410, K0420}
use Rattle.iso_message.specs.Fields.{Fields}
use Rattle.net_rows.specs.Network.{Network}
use Rattle.network_law.specs.declared.grant.GrantPacket.{GrantPacket}
use Rattle.network_law.specs.declared.grant.GrantPacket.TheVariants as packets
use Rattle.network_law.specs.Traces.{ReadInput, Enter, NewDate, ReadOutput, Put, Answer, Post}
use Rattle.law_evidence.specs.Worked.{base, answered, one, ten_dollars, card_number, twenty_dollars, march_14, march_15, lend_to_b}
use Rattle.law_evidence.specs.WorkedRequest.{home_reversal_advice}

abbrev number : List ℕ
number = codes "4111111111111111"

abbrev amount : List ℕ
amount = codes "000000001000"

abbrev time : List ℕ
time = codes "0314091530"

-- H may approve 1000 a day by itself, and no other node may
abbrev pub home_stands_in : Network
home_stands_in = record base {
  issuers = record { name = codes "I"; prefix = 4 ∷ []; home = 1; named = 1 ∷ []; ceiling = 1000 } ∷ [];
  stand_ins = record { node = 1; prefix = 4 ∷ []; day = 1000; single = 1000 } ∷ [];
}

-- H may lend of 1000 to A
abbrev pub home_lends : Network
home_lends = record home_stands_in { issuers = record { name = codes "I"; prefix = 4 ∷ []; home = 1; named = 0 ∷ 1 ∷ []; ceiling = 1000 } ∷ [] }

-- a card number with a wrong check digit
abbrev pub wrong_number : List ℕ
wrong_number = 4 ∷ (replicate 14 1 ++ 2 ∷ [])

-- the stand-in advice that H makes
abbrev pub stand_in_of_home : Fields
stand_in_of_home = record { kind = K0120; elements = (2, number) ∷ (3, codes "000000") ∷ (4, amount) ∷ (7, time) ∷ (11, codes "000001") ∷ (15, codes "0314") ∷ (32, codes "400001") ∷ (33, codes "1002") ∷ (39, codes "00") ∷ (49, codes "840") ∷ [] }

-- H's host gave no answer about the request of ten dollars: H reverses it there and approves it by itself, and its reversal advice and
-- its stand-in advice are posted
abbrev pub stands_in_at_home : List ReadOutput
stands_in_at_home = Post home_reversal_advice ∷ Put 0 1 (answered one ten_dollars (codes "00")) ∷ Post stand_in_of_home ∷ []

-- a request with elements that nodes only hand on, as it is entered, forwarded and answered; the answer has but two of them
abbrev pub entered_more : Fields
entered_more = record { kind = K0100; elements = (2, number) ∷ (3, codes "000000") ∷ (4, amount) ∷ (7, time) ∷ (11, codes "000001") ∷ (32, codes "400001") ∷ (33, codes "77") ∷ (37, codes "REFERENCE001") ∷ (41, codes "TERMINAL") ∷ (42, codes "MERCHANT0000001") ∷ (49, codes "840") ∷ [] }

abbrev pub forwarded_more : Fields
forwarded_more = record { kind = K0100; elements = (2, number) ∷ (3, codes "000000") ∷ (4, amount) ∷ (7, time) ∷ (11, codes "000001") ∷ (15, codes "0314") ∷ (32, codes "400001") ∷ (37, codes "REFERENCE001") ∷ (41, codes "TERMINAL") ∷ (42, codes "MERCHANT0000001") ∷ (49, codes "840") ∷ [] }

abbrev pub answered_more : List ℕ → Fields
answered_more code = record { kind = K0110; elements = (2, number) ∷ (3, codes "000000") ∷ (4, amount) ∷ (7, time) ∷ (11, codes "000001") ∷ (15, codes "0314") ∷ (32, codes "400001") ∷ (37, codes "REFERENCE001") ∷ (39, code) ∷ (41, codes "TERMINAL") ∷ (49, codes "840") ∷ [] }

-- A forwarded the request, and has no response to it
abbrev pub more_pending : List ReadInput
more_pending = Enter entered_more ∷ []

-- the answer with code 00, and with 91
abbrev pub approved_more : Fields
approved_more = answered_more (codes "00")

abbrev pub declined_more : Fields
declined_more = answered_more (codes "91")

-- and its reversal, which has the same two
abbrev pub reversal_more : Fields
reversal_more = record { kind = K0420; elements = (2, number) ∷ (3, codes "000000") ∷ (4, amount) ∷ (7, time) ∷ (11, codes "000001") ∷ (15, codes "0314") ∷ (32, codes "400001") ∷ (33, codes "1001") ∷ (37, codes "REFERENCE001") ∷ (39, codes "68") ∷ (41, codes "TERMINAL") ∷ (49, codes "840") ∷ (90, codes "010000000103140915300000040000100000000000") ∷ [] }

-- the next day begins
abbrev pub next_day : ReadInput
next_day = NewDate march_15

-- an answer on it
abbrev pub answered_next_day : List ℕ → List ℕ → Fields
answered_next_day amount code = record { kind = K0110; elements = (2, number) ∷ (3, codes "000000") ∷ (4, amount) ∷ (7, time) ∷ (11, codes "000001") ∷ (15, codes "0315") ∷ (32, codes "400001") ∷ (39, code) ∷ (49, codes "840") ∷ [] }

-- to a request of twenty dollars, with code 94
abbrev pub next_day_response_94 : Fields
next_day_response_94 = answered_next_day twenty_dollars (codes "94")

-- an acquirer's reversal that has a settlement date of its own, and its reply
abbrev pub reversal_dated : Kind → Fields
reversal_dated kind = record { kind = kind; elements = (2, number) ∷ (3, codes "000000") ∷ (4, amount) ∷ (7, codes "0314091600") ∷ (11, codes "000002") ∷ (15, codes "0313") ∷ (32, codes "400001") ∷ (49, codes "840") ∷ (90, codes "010000000103140915300000040000100000000000") ∷ [] }

abbrev pub reversal_dated_reply : Kind → Fields
reversal_dated_reply kind = record { kind = kind; elements = (2, number) ∷ (3, codes "000000") ∷ (4, amount) ∷ (7, codes "0314091600") ∷ (11, codes "000002") ∷ (15, codes "0313") ∷ (32, codes "400001") ∷ (39, codes "00") ∷ (49, codes "840") ∷ (90, codes "010000000103140915300000040000100000000000") ∷ [] }

-- A accepts it: the acquirer gets that reply, and the reversal is forwarded, put on the link and under the serial number that are given
abbrev pub accepts_dated_reversal : (Fields → ReadOutput) → List ReadOutput
accepts_dated_reversal put_reversal = Answer (reversal_dated_reply K0410) ∷ put_reversal (reversal_dated K0420) ∷ []

-- A's second grant to B, and what acknowledges it
abbrev pub granted_second : ℕ → GrantPacket
granted_second sum = packets.Grant (record { lender = codes "00000001001"; number = 2; borrower = codes "00000001003"; card = card_number; date = march_14; amount = sum })

abbrev pub received_second : GrantPacket
received_second = packets.Ack (codes "00000001001") 2

-- the one of half a dollar
abbrev pub second_grant : GrantPacket
second_grant = granted_second 50

-- A lent one dollar to B, and then half a dollar
abbrev pub lent_twice : List ReadInput
lent_twice = lend_to_b 50 ∷ lend_to_b 100 ∷ []
