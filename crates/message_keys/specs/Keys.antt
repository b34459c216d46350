-- What a message is known by: its key, its content, and the identity of an advice.
use Rattle.std.specs.Prelude.{ℕ, Bool, true, false, ◌&&◌, if◌then◌else◌, List, take, drop, replicate, bytes_eq, Option, Some, None}
use Rattle.card_digits.specs.Numbers.{pad11}
use Rattle.card_digits.specs.declared.key.Key.{Key}
use Rattle.message_keys.specs.declared.keys.AdviceKind.{AdviceKind}
use Rattle.message_keys.specs.declared.keys.AdviceKind.TheVariants as advices
use Rattle.message_keys.specs.declared.keys.AdviceId.{AdviceId}
use Rattle.message_elements.specs.declared.kind.Group.{Group}
use Rattle.message_elements.specs.declared.kind.Group.TheVariants as groups
use Rattle.message_elements.specs.Groups.{group, is_04xx}
use Rattle.iso_message.specs.Made.{has_own_key}
use Rattle.iso_message.specs.Fields.{Fields, get, has, el}

-- so many bytes of a text, from a place on
abbrev pub part : ℕ → ℕ → List ℕ → List ℕ
part from count text = take count (drop from text)

-- acquiring institution (padded), trace number and time of a message
unfoldable pub own_key : Fields → Key
unfolding el
own_key m = record { acquirer = pad11 (el m 32); trace = el m 11; time = el m 7 }

-- element 90 is the original's type (4), trace number (6), time (10), acquirer (11) and forwarder (11)
unfoldable pub original_key : Fields → Key
unfolding el
original_key m = record { acquirer = part 20 11 (el m 90); trace = part 4 6 (el m 90); time = part 10 10 (el m 90) }

-- a reversal, and what answers it, has the key of its original
unfoldable pub key_of : Fields → Key
unfolding own_key original_key
key_of m = if is_04xx m.kind then original_key m else own_key m

-- the value, where the test holds
abbrev pub when : {A : Type 0} → Bool → A → Option A
when true value = Some value
when false value = None

-- whether the elements of the key are there
unfoldable pub has_key : Fields → Bool
unfolding has has_own_key
has_key m = if is_04xx m.kind then has m 90 else has_own_key m

-- the parts are joined as the derived comparison joins them, so that maps of keys and of identities compare by these
abbrev pub key_eq : Key → Key → Bool
key_eq a b = bytes_eq a.acquirer b.acquirer && (bytes_eq a.trace b.trace && bytes_eq a.time b.time)

-- card number, processing code, amount and currency
pub record Content : Type 0 where
  pub card : List ℕ
  pub processing : List ℕ
  pub amount : List ℕ
  pub currency : List ℕ

unfoldable pub content : Fields → Content
unfolding el
content m = record { card = el m 2; processing = el m 3; amount = el m 4; currency = el m 49 }

abbrev pub content_eq : Content → Content → Bool
content_eq a b = bytes_eq a.card b.card && bytes_eq a.processing b.processing && bytes_eq a.amount b.amount && bytes_eq a.currency b.currency

abbrev pub advice_kind : Bool → AdviceKind
advice_kind true = advices.Reversal
advice_kind false = advices.StandIn

abbrev pub padded_or_zeros : Option (List ℕ) → List ℕ
padded_or_zeros None = replicate 11 48
padded_or_zeros (Some id) = pad11 id

-- the identity of an advice, and of what acknowledges it
unfoldable pub identity_of : Fields → AdviceId
unfolding get key_of
identity_of m = record { kind = advice_kind (is_04xx m.kind); key = key_of m; forwarder = padded_or_zeros (get m 33) }

-- whether a message of the type has an identity
abbrev pub is_identified : Group → Bool
is_identified groups.Advice = true
is_identified groups.Reversal = true
is_identified groups.AdviceResponse = true
is_identified groups.ReversalResponse = true
is_identified _ = false

unfoldable pub has_identity : Fields → Bool
unfolding has_key
has_identity m = is_identified (group m.kind) && has_key m

abbrev pub same_kind : AdviceKind → AdviceKind → Bool
same_kind advices.StandIn advices.StandIn = true
same_kind advices.Reversal advices.Reversal = true
same_kind _ _ = false

abbrev pub identity_eq : AdviceId → AdviceId → Bool
identity_eq a b = same_kind a.kind b.kind && (key_eq a.key b.key && bytes_eq a.forwarder b.forwarder)

-- the response code
unfoldable pub code_of : Fields → List ℕ
unfolding el
code_of m = el m 39
