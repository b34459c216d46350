-- What is asked and open, what is approved, and what advices hold, in plain words.
use Rattle.std.specs.Prelude.{ℕ, ◌≡◌, ◌≤◌, List, [], ◌∷◌, ◌++◌, map, filter, find, length, reverse, Bool, true, false, ◌&&◌, if◌then◌else◌, bytes_eq, Option, Some, None}
use Rattle.std.specs.Option.{option_and_then, option_map}
use Rattle.std.specs.List.{list_any}
use Rattle.card_digits.specs.declared.key.Key.{Key}
use Rattle.iso_message.specs.Fields.{Fields}
use Rattle.message_elements.specs.Groups.{group, is_advice_group}
use Rattle.message_keys.specs.Keys.{key_of, key_eq, identity_of, identity_eq, code_of}
use Rattle.message_elements.specs.Codes.{code_00}
use Rattle.iso_message.specs.Made.{made_reversal, made_stand_in}
use Rattle.message_keys.specs.declared.keys.AdviceId.{AdviceId}
use Rattle.net_rows.specs.Network.{Network}
use Rattle.network_law.specs.Tables.{node_id}
use Rattle.network_law.specs.Traces.{ReadInput, Take, Event, In, Out, History, count_of, Handled, handled, Opening, opening, opened, asked, sent, own_approval, approvals, Advice, advices, has_identity, is_ack, late_key, failed_key, is_ok_ack, as_kept, known}
use Rattle.network_law.specs.Plain.{inputs, openings, opened_key, all_asked}

-- the host was asked about a key where an ask of it stands among the outputs
abbrev pub AskedByAsks : Type 0
AskedByAsks = (h : History) (k : Key) → asked h k ≡ list_any (λ p. key_eq (key_of p.message) k) (all_asked h)

-- the open keys are those of the openings, in the order of opening
abbrev pub OpenedInOrder : Type 0
OpenedInOrder = (t : Network) (h : History) → reverse (opened t h) ≡ map opened_key (openings t h)

-- no key stands twice among the own approvals
abbrev pub ApprovalsOnce : Type 0
ApprovalsOnce = (t : Network) (h : History) (k : Key) → length (filter (λ a. key_eq a.key k) (approvals t h)) ≤ 1

-- advices

-- an advice that is made of this opening, if there is one
abbrev pub made_of : (Fields → Fields) → ℕ → Option Opening → List Advice
made_of make count None = []
made_of make count (Some op) = record { message = make op.message; count = count; own = true; acked = false } ∷ []

-- an advice that was brought, if it was accepted
abbrev pub accepted_of : ℕ → Bool → Option Handled → List Advice
accepted_of count true (Some x) = if is_advice_group (group x.message.kind) then record { message = as_kept x.message; count = count; own = false; acked = false } ∷ [] else []
accepted_of count _ _ = []

-- each advice as often as it was made or accepted, the oldest first: at an input the reversal of an approval that comes late; at an
-- output the reversal of the key that fails in it, the stand-in advice of the key that the node approves in it, and what it acknowledges
unfoldable pub all_advices : Network → ℕ → History → List Advice
all_advices t n [] = []
all_advices t n (In i ∷ h) = all_advices t n h ++ made_of (λ m. made_reversal m (node_id t n)) (count_of h) (option_and_then (opening t h) (late_key h (advices t n h) i))
all_advices t n (Out i o ∷ h) =
    ((all_advices t n h
    ++ made_of (λ m. made_reversal m (node_id t n)) (count_of h) (option_and_then (opening t h) (failed_key t h i (sent o))))
    ++ made_of (λ m. made_stand_in m (node_id t n)) (count_of h) (option_and_then (opening t h) (own_approval h i o)))
    ++ accepted_of (count_of h) (is_ok_ack (sent o)) (handled t h i)

-- as it was stored
abbrev pub as_stored : Advice → Advice
as_stored a = record { message = a.message; count = a.count; own = a.own; acked = false }

-- the advice of an identity is the first one of it that was made or accepted
abbrev pub AdviceIsFirst : Type 0
AdviceIsFirst = (t : Network) (n : ℕ) (h : History) (id : AdviceId) → option_map as_stored (find (has_identity id) (advices t n h)) ≡ find (has_identity id) (all_advices t n h)

-- the input acknowledges an identity
abbrev pub acks : AdviceId → ReadInput → Bool
acks id (Take l s m) = is_ack (group m.kind) && bytes_eq (code_of m) code_00 && identity_eq id (identity_of m)
acks id _ = false

-- an advice is acknowledged where such an input came after the event that stored it, and nowhere else
abbrev pub AckedAfterStoring : Type 0
AckedAfterStoring = (t : Network) (n : ℕ) (later : History) (e : Event) (past : History) (id : AdviceId) → known t n past id ≡ false → known t n (e ∷ past) id ≡ true
    → option_map (λ a. a.acked) (find (has_identity id) (advices t n (later ++ e ∷ past))) ≡ Some (list_any (acks id) (inputs later))
