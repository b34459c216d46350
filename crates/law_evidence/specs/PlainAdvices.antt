-- The terms of own approvals and of advices once more, in plain words.
use Rattle.std.specs.Prelude.{ℕ, ◌≡◌, ◌≤◌, ◌+◌, ◌*◌, ◌∷◌, ◌++◌, map, filter, length, Bool, true, false, ◌||◌, ◌&&◌, Option, Some}
use Rattle.std.specs.Option.{option_and_then, option_map_or}
use Rattle.std.specs.List.{list_any}
use Rattle.card_digits.specs.declared.key.Key.{Key}
use Rattle.iso_message.specs.Fields.{Fields}
use Rattle.message_elements.specs.Groups.{group, is_04xx, is_advice_group}
use Rattle.message_keys.specs.Keys.{key_of, identity_of, identity_eq}
use Rattle.iso_message.specs.Made.{made_reversal, made_stand_in}
use Rattle.message_keys.specs.declared.keys.AdviceId.{AdviceId}
use Rattle.net_rows.specs.Network.{Network}
use Rattle.network_law.specs.Tables.{node_id}
use Rattle.network_law.specs.Traces.{ReadInput, ReadOutput, Put, In, Out, History, IsIn, Has, Handled, handled, Opening, opening, sent, has_00, is_00_of, brings_00, own_approval, Approval, approvals, Advice, advices, has_identity, late_key, failed_key, is_ok_ack, as_kept, known, reversed, is_at_home, stored, stored_grants, pending, load, was_put}
use Rattle.network_law.specs.Plain.{said, openings, opened_key}

-- own approvals

-- a 00 for a key was put out where one stands among what was said
abbrev pub Has00BySaid : Type 0
Has00BySaid = (h : History) (k : Key) → has_00 h k ≡ list_any (λ m. is_00_of k (Some m)) (said h)

-- an output that is the first 0110 of a key with 00, in an entry whose input brought no 00 for it
pub record FirstOwn (t : Network) (h : History) (a : Approval) : Type 0 where
  pub later : History
  pub input : ReadInput
  pub output : ReadOutput
  pub past : History
  pub op : Opening
  pub is : h ≡ later ++ Out input output ∷ past
  pub approves : is_00_of a.key (sent output) ≡ true
  pub first : has_00 past a.key ≡ false
  pub not_brought : brings_00 past a.key input ≡ false
  pub opened : opening t past a.key ≡ Some op
  pub request : a.request ≡ op.message

-- the own approvals are these, and no others
abbrev pub ApprovedByFirst : Type 0
ApprovedByFirst = (t : Network) (h : History) (a : Approval) → IsIn a (approvals t h) → FirstOwn t h a

abbrev pub FirstApproves : Type 0
FirstApproves = (t : Network) (h : History) (a : Approval) → FirstOwn t h a → IsIn a (approvals t h)

-- advices

-- an advice that is made of this opening has the identity
abbrev pub is_made : (Fields → Fields) → AdviceId → Option Opening → Bool
is_made make id o = option_map_or (λ op. identity_eq (identity_of (make op.message)) id) o false

-- what was brought and acknowledged has it
abbrev pub is_accepted : AdviceId → Bool → Option Handled → Bool
is_accepted id false o = false
is_accepted id true o = option_map_or (λ x. is_advice_group (group x.message.kind) && identity_eq (identity_of (as_kept x.message)) id) o false

-- an input makes known the reversal of an approval that comes late, and nothing else
abbrev pub KnownAfterInput : Type 0
KnownAfterInput = (t : Network) (n : ℕ) (i : ReadInput) (h : History) (id : AdviceId)
    → known t n (In i ∷ h) id ≡ (known t n h id || is_made (λ m. made_reversal m (node_id t n)) id (option_and_then (opening t h) (late_key h (advices t n h) i)))

-- an output makes known the reversal of the key that fails in it, the stand-in advice of the key that the node approves in it, and what
-- it acknowledges, and nothing else
abbrev pub KnownAfterOutput : Type 0
KnownAfterOutput = (t : Network) (n : ℕ) (i : ReadInput) (o : ReadOutput) (h : History) (id : AdviceId)
    → known t n (Out i o ∷ h) id ≡ (known t n h id || is_made (λ m. made_reversal m (node_id t n)) id (option_and_then (opening t h) (failed_key t h i (sent o))) || is_made (λ m. made_stand_in m (node_id t n)) id (option_and_then (opening t h) (own_approval h i o)) || is_accepted id (is_ok_ack (sent o)) (handled t h i))

-- no identity stands twice among the advices
abbrev pub AdvicesOnce : Type 0
AdvicesOnce = (t : Network) (n : ℕ) (h : History) (id : AdviceId) → length (filter (has_identity id) (advices t n h)) ≤ 1

-- known is having such an advice
abbrev pub KnownHasAdvice : Type 0
KnownHasAdvice = (t : Network) (n : ℕ) (h : History) (id : AdviceId) → known t n h id ≡ true → (a : Advice) × IsIn a (advices t n h) × (identity_of a.message ≡ id)

abbrev pub AdviceIsKnown : Type 0
AdviceIsKnown = (t : Network) (n : ℕ) (h : History) (a : Advice) → IsIn a (advices t n h) → known t n h (identity_of a.message) ≡ true

-- reversed is having a reversal of the key that wasn't made here
abbrev pub ReversedHasAdvice : Type 0
ReversedHasAdvice = (t : Network) (n : ℕ) (h : History) (k : Key) → reversed t n h k ≡ true → (a : Advice) × IsIn a (advices t n h) × (a.own ≡ false) × (is_04xx a.message.kind ≡ true) × (key_of a.message ≡ k)

abbrev pub AdviceReverses : Type 0
AdviceReverses = (t : Network) (n : ℕ) (h : History) (a : Advice) → IsIn a (advices t n h) → a.own ≡ false → is_04xx a.message.kind ≡ true → reversed t n h (key_of a.message) ≡ true

-- the store has the advices that aren't acknowledged, of cards of which the node isn't the home, and no others
abbrev pub StoredAreAdvices : Type 0
StoredAreAdvices = (t : Network) (n : ℕ) (h : History) (a : Advice) → IsIn a (stored t n h) → IsIn a (advices t n h) × (a.acked ≡ false) × (is_at_home t n a.message ≡ false)

abbrev pub AdvicesAreStored : Type 0
AdvicesAreStored = (t : Network) (n : ℕ) (h : History) (a : Advice) → IsIn a (advices t n h) → a.acked ≡ false → is_at_home t n a.message ≡ false → IsIn a (stored t n h)

-- an advice was put where a put of its identity stands among the outputs
abbrev pub WasPutHasPut : Type 0
WasPutHasPut = (h : History) (id : AdviceId) → was_put h id ≡ true → (i : ReadInput) × (l : ℕ) × (s : ℕ) × (m : Fields) × Has (Out i (Put l s m)) h × (is_advice_group (group m.kind) ≡ true) × (identity_of m ≡ id)

abbrev pub PutWasPut : Type 0
PutWasPut = (h : History) (i : ReadInput) (l s : ℕ) (m : Fields) → Has (Out i (Put l s m)) h → is_advice_group (group m.kind) ≡ true → was_put h (identity_of m) ≡ true

-- the load is one for each stored advice and grant, and two for each opened request that is pending
abbrev pub LoadIsSum : Type 0
LoadIsSum = (t : Network) (n : ℕ) (h : History) → load t n h ≡ length (stored t n h) + length (stored_grants t n h) + 2 * length (filter (pending t h) (map opened_key (openings t h)))
