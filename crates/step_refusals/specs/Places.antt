-- Whether an advice finds no place, by the identity that it is known by.
use Rattle.std.specs.Prelude.{ℕ, ◌+◌, ◌-◌, Bool, ◌&&◌, not, if◌then◌else◌, nat_lt, is_some, replicate}
use Rattle.card_digits.specs.declared.key.Key.{Key}
use Rattle.message_keys.specs.declared.keys.AdviceId.{AdviceId}
use Rattle.iso_message.specs.Fields.{Fields, el}
use Rattle.message_elements.specs.Groups.{group, is_reversal, is_advice_group}
use Rattle.message_keys.specs.Keys.{identity_of}
use Rattle.net_rows.specs.Network.{Network, issuer}
use Rattle.network_law.specs.Cards.{card_of, is_good_card}
use Rattle.network_law.specs.Traces.{is_at_home, is_link}
use Rattle.node_machine.specs.Lists.{Lists, view, is_among}
use Rattle.node_machine.specs.Machine.{comes_late, home_of_key, load, other_content}
use Rattle.step_refusals.specs.Keyed.{is_pending_at, request_at, link_at_key}

-- a pending request that the message reverses gives up its two places
abbrev pub given_up : Lists → Fields → Key → ℕ
given_up x m k = if is_reversal m.kind && is_pending_at x k then 2 else 0

-- it would be stored in one place too many
abbrev pub has_no_place : Network → ℕ → Lists → Fields → Key → Bool
has_no_place t n x m k = not (is_at_home t n m) && nat_lt 65536 (load (view t n x) - given_up x m k + 1)

-- an advice that is not declined
abbrev pub is_accepted : Network → Lists → Fields → Key → Bool
is_accepted t x m k = is_advice_group (group m.kind) && is_good_card (el m 2) && is_some (issuer t (card_of m)) && not (is_reversal m.kind && other_content (request_at x k) m)

-- an advice of this identity that would be accepted finds no place
abbrev pub finds_no_place_as : Network → ℕ → Lists → Fields → AdviceId → Bool
finds_no_place_as t n x m id = is_accepted t x m id.key && not (is_among id x.known) && has_no_place t n x m id.key

-- an advice that is entered loses its forwarder
abbrev pub entered_identity : Fields → AdviceId
entered_identity m = record { kind = (identity_of m).kind; key = (identity_of m).key; forwarder = replicate 11 48 }

-- an approval of this key by this link comes late, of a card whose home is elsewhere
abbrev pub is_late : Network → ℕ → Lists → ℕ → Key → Bool
is_late t n x l k = is_link l (link_at_key x k) && comes_late (view t n x) k && not (home_of_key t n (request_at x k))

-- its reversal would be stored in one place too many
abbrev pub late_has_no_place : Network → ℕ → Lists → ℕ → Key → Bool
late_has_no_place t n x l k = is_late t n x l k && nat_lt 65536 (load (view t n x) + 1)
