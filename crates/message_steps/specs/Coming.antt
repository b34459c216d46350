-- What a message does as it comes.
use Rattle.std.specs.Prelude.{[], ℕ, Option, Some, None, Bool, true, false, ◌&&◌, not, is_none, if◌then◌else◌}
use Rattle.card_digits.specs.declared.key.Key.{Key}
use Rattle.message_elements.specs.declared.kind.Group.{Group}
use Rattle.message_elements.specs.declared.kind.Group.TheVariants as groups
use Rattle.message_elements.specs.Codes.{code_00, code_05, code_14, code_92, code_94, code_96}
use Rattle.iso_message.specs.Fields.{Fields, el, has}
use Rattle.iso_message.specs.Made.{made_reversal}
use Rattle.message_keys.specs.Keys.{has_key, has_identity}
use Rattle.net_rows.specs.Network.{Network, issuer}
use Rattle.network_law.specs.Cards.{Bytes, card_of, is_good_card}
use Rattle.network_law.specs.Tables.{node_id}
use Rattle.network_law.specs.Traces.{Handled, is_link}
use Rattle.node_machine.specs.Books.{Books}
use Rattle.node_machine.specs.Lists.{Lists, open_row}
use Rattle.node_machine.specs.Steps.{Progress, keep, on_code, store}

-- a request opens its key
abbrev pub opened_start : Lists → Handled → Progress
opened_start x h = record {
  lists = record { rows = open_row x.count (Some h) x.rows; marks = x.marks; takes = x.takes; store = x.store; known = x.known; loans = x.loans; borrowed = x.borrowed; links = x.links; asks = x.asks; date = x.date; count = x.count };
  outs = [];
}

-- whether a message of a group has what it is handled by: a request or an answer its key, an answer its code, and an advice or what acknowledges one its identity
abbrev pub is_complete : Group → Fields → Bool
is_complete groups.AuthorizationRequest m = has_key m
is_complete groups.AuthorizationResponse m = has_key m && has m 39
is_complete groups.Advice m = has_identity m
is_complete groups.Reversal m = has_identity m
is_complete groups.AdviceResponse m = has_identity m
is_complete groups.ReversalResponse m = true

-- the code of a refusal: of a bad card, without an issuer, of other content, known
abbrev pub first_code : Bool → Bool → Bool → Bool → Option Bytes
first_code good none other known = if not good then Some code_14 else if none then Some code_92 else if other then Some code_94 else if known then Some code_00 else None

-- the code of the response to a reversal or an advice that is not kept
abbrev pub refusal_code : Network → Fields → Bool → Bool → Option Bytes
refusal_code t m other known = first_code (is_good_card (el m 2)) (is_none (issuer t (card_of m))) other known

-- whether a code counts for a request that was put on a link: one of the host's does, and one that came by that link
abbrev pub counts_by : Option ℕ → Option ℕ → Bool
counts_by None put = true
counts_by (Some l) put = is_link l put

-- what a code becomes that tells of a duplicate
abbrev pub for_duplicate : Option ℕ → Bytes
for_duplicate None = code_05
for_duplicate (Some l) = code_96

-- a reversal of a request is stored, and goes out as all that are kept do
abbrev pub take_back : Network → ℕ → Books → Fields → Progress → Progress
take_back t n b request d = keep t n b (made_reversal request (node_id t n)) (store t n true (made_reversal request (node_id t n)) b.count false d)

-- a code for a key, of the host's or by a link
abbrev pub on_code_by : Network → ℕ → Books → Key → Bytes → Option ℕ → Progress → Progress
on_code_by t n b k c by d = if counts_by by (b.link k) then on_code t n b k c (for_duplicate by) (b.opening k) d else d
