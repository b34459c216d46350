-- Words for one request, of trace number one and of ten dollars: its messages, what came before a step, and what a node puts out.
use Rattle.std.specs.Prelude.{ℕ, List, [], ◌∷◌, codes}
use Rattle.message_elements.specs.declared.kind.Kind.TheVariants.{K0100, K0400, K0401, K0420, K0421}
use Rattle.iso_message.specs.Fields.{Fields}
use Rattle.network_law.specs.Traces.{ReadInput, Enter, Take, LinkUp, LinkDown, HostAnswer, ReadOutput, Put, Answer, Post}
use Rattle.law_evidence.specs.Worked.{entered, entered_with, forwarded, answered, reversal, reversal_as, reversal_by, acknowledged, stand_in, stand_in_acknowledged, reversal_by_acquirer, partial_reversal, reversal_reply, reversal_reply_with, one, ten_dollars, twenty_dollars, four_dollars}

-- the request as its acquirer enters it, and as A forwards it

abbrev pub request : Fields
request = entered one ten_dollars

abbrev pub forwarded_request : Fields
forwarded_request = forwarded one ten_dollars

-- its response with code 00, and those with other codes

abbrev pub approval : Fields
approval = answered one ten_dollars (codes "00")

abbrev pub response_05 : Fields
response_05 = answered one ten_dollars (codes "05")

abbrev pub response_68 : Fields
response_68 = answered one ten_dollars (codes "68")

abbrev pub response_91 : Fields
response_91 = answered one ten_dollars (codes "91")

abbrev pub response_94 : Fields
response_94 = answered one ten_dollars (codes "94")

abbrev pub response_96 : Fields
response_96 = answered one ten_dollars (codes "96")

-- its reversal as the acquirer enters it, first and again, and as A forwards it; and the response that the acquirer gets

abbrev pub reversal_request : Fields
reversal_request = reversal_by_acquirer K0400 one ten_dollars

abbrev pub repeated_reversal_request : Fields
repeated_reversal_request = reversal_by_acquirer K0401 one ten_dollars

abbrev pub forwarded_reversal : Fields
forwarded_reversal = reversal_by_acquirer K0420 one ten_dollars

abbrev pub reversal_response : Fields
reversal_response = reversal_reply one ten_dollars

-- its partial reversal with this actual amount, and with four dollars

abbrev pub reversal_leaving : List ℕ → Fields
reversal_leaving actual = partial_reversal actual one ten_dollars

abbrev pub partial_reversal_request : Fields
partial_reversal_request = reversal_leaving four_dollars

-- the reversal advice that A makes, first and again, and the response to it

abbrev pub reversal_advice : Fields
reversal_advice = reversal one ten_dollars

abbrev pub repeated_reversal_advice : Fields
repeated_reversal_advice = reversal_as K0421 one ten_dollars

abbrev pub reversal_advice_response : Fields
reversal_advice_response = acknowledged one ten_dollars

-- the reversal advice that H makes
abbrev pub home_reversal_advice : Fields
home_reversal_advice = reversal_by (codes "1002") K0420 one ten_dollars

-- the stand-in advice that A makes
abbrev pub stand_in_advice : Fields
stand_in_advice = stand_in one ten_dollars

-- the same messages with twenty dollars, and so of other content; the requests among them are answered by 94

abbrev pub changed_request : Fields
changed_request = entered one twenty_dollars

abbrev pub forwarded_changed_request : Fields
forwarded_changed_request = forwarded one twenty_dollars

abbrev pub changed_response_94 : Fields
changed_response_94 = answered one twenty_dollars (codes "94")

abbrev pub changed_reversal_request : Fields
changed_reversal_request = reversal_by_acquirer K0400 one twenty_dollars

abbrev pub changed_reversal_response_94 : Fields
changed_reversal_response_94 = reversal_reply_with (codes "94") one twenty_dollars

abbrev pub changed_reversal_advice : Fields
changed_reversal_advice = reversal one twenty_dollars

abbrev pub changed_reversal_advice_response : Fields
changed_reversal_advice_response = acknowledged one twenty_dollars

abbrev pub changed_stand_in_advice : Fields
changed_stand_in_advice = stand_in one twenty_dollars

abbrev pub changed_stand_in_response : Fields
changed_stand_in_response = stand_in_acknowledged one twenty_dollars

-- messages that lack an element: a request without its currency, and without its acquirer too; a reversal without its original

abbrev pub request_without_currency : Fields
request_without_currency = entered_with K0100 (codes "4111111111111111") ((32, codes "400001") ∷ [])

abbrev pub request_without_acquirer : Fields
request_without_acquirer = entered_with K0100 (codes "4111111111111111") []

abbrev pub reversal_without_original : Fields
reversal_without_original = entered_with K0400 (codes "4111111111111111") ((32, codes "400001") ∷ (49, codes "840") ∷ [])

-- a reversal whose original is of another acquirer
abbrev pub reversal_of_other_acquirer : Fields
reversal_of_other_acquirer = entered_with K0400 (codes "4111111111111111") ((32, codes "400001") ∷ (49, codes "840") ∷ (90, codes "010000000103140915300000040000200000000000") ∷ [])

-- the request with zeros before its acquirer's id
abbrev pub padded_request : Fields
padded_request = entered_with K0100 (codes "4111111111111111") ((32, codes "00000400001") ∷ (49, codes "840") ∷ [])

-- what came before a step, the last input first

-- the host approves the first request about which it was asked
abbrev pub host_approves : ReadInput
host_approves = HostAnswer 1 (codes "00")

-- A forwarded the request, and has no response to it
abbrev pub request_pending : List ReadInput
request_pending = Enter request ∷ []

-- and then link 0 brought the approval
abbrev pub request_approved : List ReadInput
request_approved = Take 0 1 approval ∷ request_pending

-- or a response with code 96
abbrev pub request_declined : List ReadInput
request_declined = Take 0 1 response_96 ∷ request_pending

-- or the acquirer reversed it
abbrev pub request_reversed : List ReadInput
request_reversed = Enter reversal_request ∷ request_pending

-- in the diamond A's link to P was down and is up again, and meanwhile A forwarded the request to Q
abbrev pub request_at_q : List ReadInput
request_at_q = LinkUp 0 ∷ Enter request ∷ LinkDown 0 ∷ []

-- both links of A there are down
abbrev pub both_links_down : List ReadInput
both_links_down = LinkDown 1 ∷ LinkDown 0 ∷ []

-- H took the request, and asked its host
abbrev pub request_asked : List ReadInput
request_asked = Take 0 1 forwarded_request ∷ []

-- and then the host declined it with code 96
abbrev pub host_declined : List ReadInput
host_declined = HostAnswer 1 (codes "96") ∷ request_asked

-- or H took the request again, with twenty dollars
abbrev pub changed_request_taken : List ReadInput
changed_request_taken = Take 0 2 forwarded_changed_request ∷ request_asked

-- in the diamond H took the request from P, and then from Q
abbrev pub request_from_both : List ReadInput
request_from_both = Take 3 1 forwarded_request ∷ Take 2 1 forwarded_request ∷ []

-- H took the acquirer's reversal, under this serial number
abbrev pub reversal_taken : ℕ → List ReadInput
reversal_taken serial = Take 0 serial forwarded_reversal ∷ []

-- H took A's reversal advice, and then took it again
abbrev pub reversal_advice_repeated : List ReadInput
reversal_advice_repeated = Take 0 3 repeated_reversal_advice ∷ Take 0 2 reversal_advice ∷ []

-- H took A's reversal advice, and then took it with twenty dollars
abbrev pub changed_reversal_taken : List ReadInput
changed_reversal_taken = Take 0 2 changed_reversal_advice ∷ Take 0 1 reversal_advice ∷ []

-- and so for A's stand-in advice
abbrev pub changed_stand_in_taken : List ReadInput
changed_stand_in_taken = Take 0 2 changed_stand_in_advice ∷ Take 0 1 stand_in_advice ∷ []

-- what a node puts out; where a link and a serial number differ, they are given as `Put link serial`

-- A reverses a request of this trace number and amount and approves it by itself: its reversal advice and its stand-in advice are put
abbrev pub stands_in : List ℕ → List ℕ → (Fields → ReadOutput) → (Fields → ReadOutput) → List ReadOutput
stands_in trace amount put_reversal put_advice = put_reversal (reversal trace amount) ∷ Answer (answered trace amount (codes "00")) ∷ put_advice (stand_in trace amount) ∷ []

-- A accepts the acquirer's reversal: the acquirer gets its response, and the reversal is forwarded
abbrev pub accepts_reversal : (Fields → ReadOutput) → List ReadOutput
accepts_reversal put_reversal = Answer reversal_response ∷ put_reversal forwarded_reversal ∷ []

-- H acknowledges A's reversal advice, and posts it
abbrev pub posts_reversal_advice : List ReadOutput
posts_reversal_advice = Put 0 1 reversal_advice_response ∷ Post reversal_advice ∷ []
