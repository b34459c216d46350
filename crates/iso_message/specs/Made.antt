-- The response to a message, and the advices that a node makes of a request.
use Rattle.std.specs.Prelude.{ℕ, Bool, ◌==◌, ◌&&◌, List, [], ◌∷◌, ◌++◌, replicate, codes}
use Rattle.std.specs.List.{filter, list_any}
use Rattle.card_digits.specs.Numbers.{pad11}
use Rattle.message_elements.specs.declared.kind.Kind.{Kind}
use Rattle.message_elements.specs.declared.kind.Kind.TheVariants.{K0120, K0420}
use Rattle.message_elements.specs.Groups.{response_kind}
use Rattle.iso_message.specs.Fields.{Fields, has, el, set_element, remove_element}
use Rattle.message_elements.specs.Codes.{code_00, code_68}

abbrev pub is_one_of : List ℕ → ℕ → Bool
is_one_of numbers n = list_any (λ k. k == n) numbers

-- the elements of these numbers
abbrev pub kept : List ℕ → List (ℕ × List ℕ) → List (ℕ × List ℕ)
kept numbers elements = filter (λ e. is_one_of numbers e.0) elements

-- what a response carries of its message
abbrev pub response_numbers : List ℕ
response_numbers = 2 ∷ 3 ∷ 4 ∷ 7 ∷ 11 ∷ 15 ∷ 32 ∷ 33 ∷ 37 ∷ 41 ∷ 49 ∷ 90 ∷ []

-- what an advice carries of its request
abbrev pub advice_numbers : List ℕ
advice_numbers = 2 ∷ 3 ∷ 4 ∷ 7 ∷ 11 ∷ 15 ∷ 32 ∷ 37 ∷ 41 ∷ 49 ∷ []

abbrev pub with_code : List ℕ → Fields → Fields
with_code code m = set_element m 39 code

-- the response with a code
unfoldable pub response : Fields → List ℕ → Fields
response m code = with_code code (record { kind = response_kind m.kind; elements = kept response_numbers m.elements })

-- an advice with the maker's id and a code
unfoldable pub made_from : Kind → Fields → List ℕ → List ℕ → Fields
made_from kind m id code = with_code code (set_element (record { kind = kind; elements = kept advice_numbers m.elements }) 33 id)

-- the stand-in advice of a request that the node with this id approved
unfoldable pub made_stand_in : Fields → List ℕ → Fields
unfolding made_from
made_stand_in m id = made_from K0120 m id code_00

-- whether the elements of a request's key are there
unfoldable pub has_own_key : Fields → Bool
unfolding has
has_own_key m = has m 32 && has m 11 && has m 7

-- the original's type, trace number, time, acquirer and forwarder, of which the last is not known
abbrev pub original_data : Fields → List ℕ
original_data m = codes "0100" ++ (el m 11 ++ (el m 7 ++ (pad11 (el m 32) ++ replicate 11 48)))

-- the reversal of a request by the node with this id
unfoldable pub made_reversal : Fields → List ℕ → Fields
unfolding made_from
made_reversal m id = set_element (made_from K0420 m id code_68) 90 (original_data m)

-- as a gate hands it on: without the forwarding institution
abbrev pub without_forwarder : Fields → Fields
without_forwarder m = remove_element m 33

-- with the settlement date
abbrev pub with_date : List ℕ → Fields → Fields
with_date date m = set_element m 15 date
