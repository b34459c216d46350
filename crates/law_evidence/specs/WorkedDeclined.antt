-- Messages of other cards, and what declines them.
use Rattle.std.specs.Prelude.{ℕ, List, [], ◌∷◌, codes}
use Rattle.message_elements.specs.declared.kind.Kind.{Kind}
use Rattle.message_elements.specs.declared.kind.Kind.TheVariants.{K0100, K0120, K0130, K0400, K0401, K0410, K0430}
use Rattle.iso_message.specs.Fields.{Fields}
use Rattle.network_law.specs.Traces.{ReadInput, Enter}
use Rattle.law_evidence.specs.Worked.{entered_card, answered_card}

-- with a wrong check digit
abbrev pub wrong_card : List ℕ
wrong_card = codes "4111111111111112"

-- with the right one, but of no issuer
abbrev pub unissued_card : List ℕ
unissued_card = codes "5555555555554444"

-- of no issuer, and with a wrong check digit
abbrev pub wrong_unissued_card : List ℕ
wrong_unissued_card = codes "5555555555554445"

-- a request of a card as it is forwarded
abbrev pub forwarded_card : List ℕ → Fields
forwarded_card other = record { kind = K0100; elements = (2, other) ∷ (3, codes "000000") ∷ (4, codes "000000001000") ∷ (7, codes "0314091530") ∷ (11, codes "000001") ∷ (15, codes "0314") ∷ (32, codes "400001") ∷ (49, codes "840") ∷ [] }

-- its reversal, as it is entered or taken
abbrev pub reversal_of_card : Kind → List ℕ → Fields
reversal_of_card kind other = record { kind = kind; elements = (2, other) ∷ (3, codes "000000") ∷ (4, codes "000000001000") ∷ (7, codes "0314091600") ∷ (11, codes "000002") ∷ (32, codes "400001") ∷ (49, codes "840") ∷ (90, codes "010000000103140915300000040000100000000000") ∷ [] }

-- and what is said to it
abbrev pub reversal_of_card_declined : Kind → List ℕ → List ℕ → Fields
reversal_of_card_declined kind other code = record { kind = kind; elements = (2, other) ∷ (3, codes "000000") ∷ (4, codes "000000001000") ∷ (7, codes "0314091600") ∷ (11, codes "000002") ∷ (32, codes "400001") ∷ (39, code) ∷ (49, codes "840") ∷ (90, codes "010000000103140915300000040000100000000000") ∷ [] }

-- a stand-in advice of a card, and under another type and code what is said to it
abbrev pub stand_in_of_card : Kind → List ℕ → List ℕ → Fields
stand_in_of_card kind other code = record { kind = kind; elements = (2, other) ∷ (3, codes "000000") ∷ (4, codes "000000001000") ∷ (7, codes "0314091530") ∷ (11, codes "000001") ∷ (15, codes "0314") ∷ (32, codes "400001") ∷ (33, codes "1001") ∷ (39, code) ∷ (49, codes "840") ∷ [] }

-- requests of these cards, as they are entered

abbrev pub wrong_card_request : Fields
wrong_card_request = entered_card wrong_card

abbrev pub unissued_card_request : Fields
unissued_card_request = entered_card unissued_card

-- the responses: with code 14 to messages of the wrong card, with 92 to those of the card of no issuer

-- to a request
abbrev pub response_14 : Fields
response_14 = answered_card wrong_card (codes "14")

abbrev pub response_92 : Fields
response_92 = answered_card unissued_card (codes "92")

-- to an acquirer's reversal
abbrev pub reversal_response_14 : Fields
reversal_response_14 = reversal_of_card_declined K0410 wrong_card (codes "14")

abbrev pub reversal_response_92 : Fields
reversal_response_92 = reversal_of_card_declined K0410 unissued_card (codes "92")

-- to a reversal advice
abbrev pub reversal_advice_response_14 : Fields
reversal_advice_response_14 = reversal_of_card_declined K0430 wrong_card (codes "14")

abbrev pub reversal_advice_response_92 : Fields
reversal_advice_response_92 = reversal_of_card_declined K0430 unissued_card (codes "92")

-- to a stand-in advice
abbrev pub stand_in_response_14 : Fields
stand_in_response_14 = stand_in_of_card K0130 wrong_card (codes "14")

abbrev pub stand_in_response_92 : Fields
stand_in_response_92 = stand_in_of_card K0130 unissued_card (codes "92")

-- to a request of the card that is wrong and of no issuer
abbrev pub wrong_unissued_response_14 : Fields
wrong_unissued_response_14 = answered_card wrong_unissued_card (codes "14")

-- to a request of the wrong card that was reversed before it came
abbrev pub wrong_card_response_68 : Fields
wrong_card_response_68 = answered_card wrong_card (codes "68")

-- an acquirer's reversal of the wrong card, first and again
abbrev pub wrong_card_reversal : Fields
wrong_card_reversal = reversal_of_card K0400 wrong_card

abbrev pub repeated_wrong_card_reversal : Fields
repeated_wrong_card_reversal = reversal_of_card K0401 wrong_card

-- a stand-in advice of the wrong card, and of the card of no issuer
abbrev pub wrong_card_stand_in : Fields
wrong_card_stand_in = stand_in_of_card K0120 wrong_card (codes "00")

abbrev pub unissued_card_stand_in : Fields
unissued_card_stand_in = stand_in_of_card K0120 unissued_card (codes "00")

-- A declined the reversal of the wrong card
abbrev pub reversal_declined : List ReadInput
reversal_declined = Enter wrong_card_reversal ∷ []
