-- The groups that the types form, and the type of a response.
use Rattle.std.specs.Prelude.{Bool, true, false}
use Rattle.message_elements.specs.declared.kind.Kind.{Kind}
use Rattle.message_elements.specs.declared.kind.Kind.TheVariants.{K0100, K0101, K0110, K0120, K0121, K0130, K0400, K0401, K0410, K0420, K0421, K0430}
use Rattle.message_elements.specs.declared.kind.Group.{Group}
use Rattle.message_elements.specs.declared.kind.Group.TheVariants.{AuthorizationRequest, AuthorizationResponse, Advice, Reversal, AdviceResponse, ReversalResponse}

abbrev pub group : Kind → Group
group K0100 = AuthorizationRequest
group K0101 = AuthorizationRequest
group K0110 = AuthorizationResponse
group K0120 = Advice
group K0121 = Advice
group K0130 = AdviceResponse
group K0400 = Reversal
group K0401 = Reversal
group K0410 = ReversalResponse
group K0420 = Reversal
group K0421 = Reversal
group K0430 = AdviceResponse

-- the groups whose messages nodes store, and hand on until they are acknowledged
abbrev pub is_advice_group : Group → Bool
is_advice_group Advice = true
is_advice_group Reversal = true
is_advice_group _ = false

abbrev pub is_request : Kind → Bool
is_request K0100 = true
is_request K0101 = true
is_request _ = false

abbrev pub is_answer : Kind → Bool
is_answer K0110 = true
is_answer _ = false

abbrev pub is_reversal : Kind → Bool
is_reversal K0400 = true
is_reversal K0401 = true
is_reversal K0420 = true
is_reversal K0421 = true
is_reversal _ = false

-- of the class of reversals, and of what answers and acknowledges them
abbrev pub is_04xx : Kind → Bool
is_04xx K0400 = true
is_04xx K0401 = true
is_04xx K0410 = true
is_04xx K0420 = true
is_04xx K0421 = true
is_04xx K0430 = true
is_04xx _ = false

-- the type of the response; a response has none, and keeps its own
abbrev pub response_kind : Kind → Kind
response_kind K0100 = K0110
response_kind K0101 = K0110
response_kind K0120 = K0130
response_kind K0121 = K0130
response_kind K0400 = K0410
response_kind K0401 = K0410
response_kind K0420 = K0430
response_kind K0421 = K0430
response_kind kind = kind
