-- Words for requests of several amounts, by which limits, partial reversals and lent amounts are tried.
use Rattle.std.specs.Prelude.{ℕ, ◌≡◌, List, [], ◌∷◌, ◌++◌, codes}
use Rattle.message_elements.specs.declared.kind.Kind.TheVariants.{K0400}
use Rattle.iso_message.specs.Fields.{Fields}
use Rattle.net_rows.specs.Network.{Network}
use Rattle.network_law.specs.declared.grant.GrantPacket.{GrantPacket}
use Rattle.network_law.specs.Traces.{ReadInput, Enter, TakePacket, LinkUp, LinkDown, ReadOutput, Put, Answer}
use Rattle.law_evidence.specs.Worked.{lenders, outputs_after, entered, entered_in, entered_at_b, answered, answered_in, answered_at_b, reversal, stand_in, reversal_by_acquirer, reversal_reply, one, two, three, six_dollars, four_dollars, three_dollars, two_dollars, one_cent, lend_to_b, granted}
use Rattle.law_evidence.specs.WorkedRequest.{request, partial_reversal_request, stands_in}

-- an acquirer enters a request of this trace number and amount at A, and gets the response with code 00, that the amount is above the
-- limit, or that the issuer can't be reached

abbrev pub enters : List ℕ → List ℕ → ReadInput
enters trace amount = Enter (entered trace amount)

abbrev pub approves : List ℕ → List ℕ → ReadOutput
approves trace amount = Answer (answered trace amount (codes "00"))

abbrev pub declines_61 : List ℕ → List ℕ → ReadOutput
declines_61 trace amount = Answer (answered trace amount (codes "61"))

abbrev pub declines_91 : List ℕ → List ℕ → ReadOutput
declines_91 trace amount = Answer (answered trace amount (codes "91"))

-- after these inputs A approves such a request by itself, or declines it as above the limit, and puts out nothing else

abbrev pub ApprovesAfter : Network → List ReadInput → List ℕ → List ℕ → Type 0
ApprovesAfter t is trace amount = outputs_after t 0 (enters trace amount ∷ is) ≡ approves trace amount ∷ []

abbrev pub Declines61After : Network → List ReadInput → List ℕ → List ℕ → Type 0
Declines61After t is trace amount = outputs_after t 0 (enters trace amount ∷ is) ≡ declines_61 trace amount ∷ []

-- and so the acquirer at B, and B itself

abbrev pub enters_at_b : List ℕ → List ℕ → ReadInput
enters_at_b trace amount = Enter (entered_at_b trace amount)

abbrev pub approves_at_b : List ℕ → List ℕ → ReadOutput
approves_at_b trace amount = Answer (answered_at_b trace amount (codes "00"))

abbrev pub declines_61_at_b : List ℕ → List ℕ → ReadOutput
declines_61_at_b trace amount = Answer (answered_at_b trace amount (codes "61"))

abbrev pub ApprovesAtBAfter : List ReadInput → List ℕ → List ℕ → Type 0
ApprovesAtBAfter is trace amount = outputs_after lenders 1 (enters_at_b trace amount ∷ is) ≡ approves_at_b trace amount ∷ []

abbrev pub Declines61AtBAfter : List ReadInput → List ℕ → List ℕ → Type 0
Declines61AtBAfter is trace amount = outputs_after lenders 1 (enters_at_b trace amount ∷ is) ≡ declines_61_at_b trace amount ∷ []

-- limits: A may approve ten dollars a day by itself; what came before a step, the last input first

-- the link is down, and A approved six dollars
abbrev pub six_approved : List ReadInput
six_approved = enters one six_dollars ∷ LinkDown 0 ∷ []

-- and then four, which is all
abbrev pub limit_used : List ReadInput
limit_used = enters two four_dollars ∷ six_approved

-- the acquirer's reversal of the six dollars, and its response

abbrev pub six_reversal : Fields
six_reversal = reversal_by_acquirer K0400 one six_dollars

abbrev pub six_reversal_response : Fields
six_reversal_response = reversal_reply one six_dollars

-- they were approved and reversed
abbrev pub six_reversed : List ReadInput
six_reversed = Enter six_reversal ∷ six_approved

-- the limit was used, and the six dollars were reversed, twice
abbrev pub six_given_back : List ReadInput
six_given_back = Enter six_reversal ∷ Enter six_reversal ∷ limit_used

-- and then six were used again
abbrev pub six_used_again : List ReadInput
six_used_again = enters three six_dollars ∷ six_given_back

-- two requests of six dollars are forwarded and pending
abbrev pub sixes_pending : List ReadInput
sixes_pending = enters two six_dollars ∷ enters one six_dollars ∷ []

-- what is put out where they fail together: A stands in for the first, and declines the second as above the limit
abbrev pub first_within_second_above : List ReadOutput
first_within_second_above = stands_in one six_dollars (Put 0 3) (Put 0 4) ++ Put 0 5 (reversal two six_dollars) ∷ declines_61 two six_dollars ∷ []

-- a request in another currency, and its response
abbrev pub euro_request : Fields
euro_request = entered_in (codes "978") one one_cent

abbrev pub euro_response_57 : Fields
euro_response_57 = answered_in (codes "978") one one_cent (codes "57")

-- partial reversals

-- the link is down, and A approved ten dollars
abbrev pub ten_approved : List ReadInput
ten_approved = Enter request ∷ LinkDown 0 ∷ []

-- and then they were reversed but for four
abbrev pub partly_reversed : List ReadInput
partly_reversed = Enter partial_reversal_request ∷ ten_approved

-- and then the six that were freed were used
abbrev pub rest_used : List ReadInput
rest_used = enters two six_dollars ∷ partly_reversed

-- and then the partial reversal was entered again
abbrev pub partly_reversed_again : List ReadInput
partly_reversed_again = Enter partial_reversal_request ∷ rest_used

-- lent amounts: A may approve three dollars a day, and B two

-- the first grant, by which A lends one dollar to B
abbrev pub first_grant : GrantPacket
first_grant = granted 100

-- B took it
abbrev pub grant_taken : List ReadInput
grant_taken = TakePacket 0 1 first_grant ∷ []

-- B took it twice, and then its link to H went down
abbrev pub borrower_alone : List ReadInput
borrower_alone = LinkDown 2 ∷ TakePacket 0 1 first_grant ∷ grant_taken

-- and then B approved three dollars, which is all
abbrev pub borrowed_used : List ReadInput
borrowed_used = enters_at_b one three_dollars ∷ borrower_alone

-- B borrowed nothing, its link to H is down, and it approved two dollars, which is all
abbrev pub own_limit_used : List ReadInput
own_limit_used = enters_at_b one two_dollars ∷ LinkDown 2 ∷ []

-- A lent one dollar to B
abbrev pub dollar_lent : List ReadInput
dollar_lent = lend_to_b 100 ∷ []

-- and then its link to H went down
abbrev pub lender_alone : List ReadInput
lender_alone = LinkDown 1 ∷ dollar_lent

-- and then A approved two dollars, which is all
abbrev pub lender_limit_used : List ReadInput
lender_limit_used = enters one two_dollars ∷ lender_alone

-- A lent its three dollars to B, and then its link to H went down
abbrev pub limit_lent : List ReadInput
limit_lent = LinkDown 1 ∷ lend_to_b 300 ∷ []

-- after these inputs a request of one cent is forwarded and fails, as A's link to H goes down, which then is up again
abbrev pub cent_fails : List ReadInput → List ReadInput
cent_fails is = LinkUp 1 ∷ LinkDown 1 ∷ enters one one_cent ∷ is

-- its reversal advice and its stand-in advice are put again
abbrev pub cent_advices : List ReadOutput
cent_advices = Put 1 2 (reversal one one_cent) ∷ Put 1 3 (stand_in one one_cent) ∷ []
