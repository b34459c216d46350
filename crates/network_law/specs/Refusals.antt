-- Which inputs a node refuses, and with which fault, its messages read. The first fault in the order of the tests is given.
use Rattle.std.specs.Prelude.{ℕ, ◌+◌, ◌-◌, List, [], ◌∷◌, Bool, true, false, ◌&&◌, ◌||◌, not, if◌then◌else◌, ◌==◌, length, nat_lt, bytes_eq, codes, Option, Some, None, unwrap_or, is_some, is_none}
use Rattle.std.specs.Option.{option_or, option_map}
use Rattle.message_elements.specs.declared.kind.Kind.{Kind}
use Rattle.message_elements.specs.declared.kind.Kind.TheVariants.{K0100, K0101, K0130, K0400, K0401, K0410, K0420, K0421}
use Rattle.message_elements.specs.declared.kind.Group.{Group}
use Rattle.message_elements.specs.declared.kind.Group.TheVariants as groups
use Rattle.iso_message.specs.Finding.{find_element, without, put}
use Rattle.iso_message.specs.Fields.{Fields, el, get, has, set_element, remove_element}
use Rattle.message_elements.specs.Groups.{group, is_answer, is_reversal, is_04xx, is_advice_group}
use Rattle.message_keys.specs.Keys.{key_of, own_key, original_key, part, content, identity_of, code_of}
use Rattle.message_elements.specs.Codes.{code_00}
use Rattle.iso_message.specs.Made.{made_reversal, made_stand_in, response, made_from}
use Rattle.net_rows.specs.Network.{Network, issuer}
use Rattle.network_law.specs.declared.fault.StepFault.{StepFault}
use Rattle.network_law.specs.declared.fault.StepFault.TheVariants.{ForeignAcquirer, Missing, TypeNotForGate, UnknownAsk, Replacement, NotLent, NoPlace}
use Rattle.card_digits.specs.Numbers.{decimal, pad11}
use Rattle.network_law.specs.Cards.{card_of, is_good_card}
use Rattle.message_keys.specs.Amounts.{actual_amount}
use Rattle.network_law.specs.Tables.{is_attached, is_named, node_id, links_between}
use Rattle.network_law.specs.declared.grant.Grant.{Grant}
use Rattle.network_law.specs.declared.grant.GrantPacket.TheVariants as packets
use Rattle.network_law.specs.Traces.{ReadInput, Enter, Take, LinkUp, LinkDown, Tick, HostAnswer, NewDate, TakePacket, Lend, History, ask_key, handled, Opening, opening, answer, pending, forwarded, advices, known, load, used, borrowed, lent, allowance, is_at_home, comes_late, is_link}
use Rattle.network_law.specs.Decision.{other_content}

abbrev pub when : {X : Type 0} → Bool → X → Option X
when true fault = Some fault
when false fault = None

-- types

abbrev pub entered_kind : Kind → Bool
entered_kind K0100 = true
entered_kind K0101 = true
entered_kind K0400 = true
entered_kind K0401 = true
entered_kind K0420 = true
entered_kind K0421 = true
entered_kind _ = false

abbrev pub taken_kind : Kind → Bool
taken_kind K0400 = false
taken_kind K0401 = false
taken_kind K0410 = false
taken_kind _ = true

-- elements

abbrev pub required_entered : Group → List ℕ
required_entered groups.AuthorizationRequest = 2 ∷ 3 ∷ 4 ∷ 7 ∷ 11 ∷ 32 ∷ 49 ∷ []
required_entered groups.Reversal = 2 ∷ 3 ∷ 4 ∷ 7 ∷ 11 ∷ 32 ∷ 49 ∷ 90 ∷ []
required_entered _ = []

abbrev pub required_taken : Group → Kind → List ℕ
required_taken groups.AuthorizationRequest k = 2 ∷ 3 ∷ 4 ∷ 7 ∷ 11 ∷ 15 ∷ 32 ∷ 49 ∷ []
required_taken groups.AuthorizationResponse k = 7 ∷ 11 ∷ 32 ∷ 39 ∷ []
required_taken groups.Advice k = 2 ∷ 3 ∷ 4 ∷ 7 ∷ 11 ∷ 15 ∷ 32 ∷ 33 ∷ 39 ∷ 49 ∷ []
required_taken groups.Reversal k = 2 ∷ 3 ∷ 4 ∷ 7 ∷ 11 ∷ 32 ∷ 49 ∷ 90 ∷ []
required_taken groups.AdviceResponse K0130 = 7 ∷ 11 ∷ 32 ∷ 33 ∷ 39 ∷ []
required_taken groups.AdviceResponse k = 32 ∷ 39 ∷ 90 ∷ []
required_taken groups.ReversalResponse k = []

-- the first of these elements that is absent
abbrev pub first_missing : Fields → List ℕ → Option ℕ
first_missing m [] = None
first_missing m (n ∷ ns) = if has m n then first_missing m ns else Some n

-- element 90 doesn't begin with 0100, or names another acquirer than element 32
abbrev pub strange_original : Fields → Bool
strange_original m = is_04xx m.kind && not (bytes_eq (part 0 4 (el m 90)) (codes "0100") && bytes_eq (part 20 11 (el m 90)) ((own_key m).acquirer))

-- element 95 is there, and what should be its actual amount is no number, or is above the amount of element 4
abbrev pub is_above : Option ℕ → ℕ → Bool
is_above None amount = true
is_above (Some actual) amount = nat_lt amount actual

abbrev pub strange_actual : Fields → Bool
strange_actual m = has m 95 && is_above (actual_amount m) (decimal (el m 4))

abbrev pub missing : Fields → List ℕ → Option ℕ
missing m ns = option_or (first_missing m ns) (when (strange_original m) 90)

-- places

-- no place is left, where this advice or reversal would be stored; a pending request that it reverses gives up its two places
abbrev pub no_place : Network → ℕ → History → Fields → Bool
no_place t n past m = not (is_at_home t n m) && nat_lt 65536 (load t n past - (if is_reversal m.kind && pending t past (key_of m) then 2 else 0) + 1)

-- an advice or reversal that would be accepted finds no place
abbrev pub finds_no_place : Network → ℕ → History → Fields → Bool
finds_no_place t n past m = is_advice_group (group m.kind) && is_good_card (el m 2) && is_some (issuer t (card_of m)) && not (is_reversal m.kind && other_content (opening t past (key_of m)) m) && not (known t n past (identity_of m)) && no_place t n past m

abbrev pub home_of_key : Network → ℕ → Option Opening → Bool
home_of_key t n None = false
home_of_key t n (Some op) = is_at_home t n op.message

-- the reversal of an approval that comes late finds no place
abbrev pub late_finds_no_place : Network → ℕ → History → ℕ → Fields → Bool
late_finds_no_place t n past l m = is_answer m.kind && bytes_eq (code_of m) code_00 && is_link l (forwarded past (key_of m)) && comes_late past (advices t n past) (key_of m) && not (home_of_key t n (opening t past (key_of m))) && nat_lt 65536 (load t n past + 1)

-- lending

-- the node may not lend so much of a card and date to another
abbrev pub may_not_lend : Network → ℕ → History → ℕ → List ℕ → List ℕ → ℕ → Bool
may_not_lend t n past m card date amount = length (links_between t n m) == 0 || amount == 0 || not (is_named (issuer t card) m) || nat_lt (allowance t n past card date - used t n past card date) amount

-- the grant is for another node, or for one that the card's issuer doesn't name
abbrev pub may_not_borrow : Network → ℕ → Grant → Bool
may_not_borrow t n g = not (bytes_eq g.borrower (pad11 (node_id t n))) || not (is_named (issuer t g.card) n)

unfoldable pub refusal : Network → ℕ → History → ReadInput → Option StepFault
unfolding handled card_of actual_amount known load used borrowed lent links_between is_good_card opening answer forwarded advices ask_key has get find_element el put without set_element remove_element own_key original_key key_of content identity_of code_of response made_from made_stand_in made_reversal
refusal t n past (Enter m) =
    option_or (when (not (entered_kind m.kind)) TypeNotForGate)
    (option_or (option_map Missing (missing m (required_entered (group m.kind))))
    (option_or (when (not (is_attached t n (own_key m).acquirer)) ForeignAcquirer)
    (option_or (when (is_reversal m.kind && strange_actual m) Replacement)
    (when (finds_no_place t n past (unwrap_or (option_map (λ x. x.message) (handled t past (Enter m))) m)) NoPlace))))
refusal t n past (Take l s m) =
    option_or (when (not (taken_kind m.kind)) TypeNotForGate)
    (option_or (option_map Missing (missing m (required_taken (group m.kind) m.kind)))
    (option_or (when (is_reversal m.kind && strange_actual m) Replacement)
    (when (finds_no_place t n past m || late_finds_no_place t n past l m) NoPlace)))
refusal t n past (LinkUp l) = None
refusal t n past (LinkDown l) = None
refusal t n past Tick = None
refusal t n past (HostAnswer a c) = when (is_none (ask_key past a)) UnknownAsk
refusal t n past (NewDate date) = None
refusal t n past (TakePacket l s (packets.Grant g)) = when (may_not_borrow t n g) NotLent
refusal t n past (TakePacket l s (packets.Ack lender number)) = None
refusal t n past (Lend m card date amount) = option_or (when (may_not_lend t n past m card date amount) NotLent) (when (nat_lt 65536 (load t n past + 1)) NoPlace)
