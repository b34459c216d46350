-- The spelling of a message spells that message.
use Rattle.std.proofs.Common.{◌≡◌, ℕ, List, Option, Some, Ok, length, refl, sym, ap, ◌∙◌}
use Rattle.message_elements.specs.declared.form.Class.TheVariants.{Text}
use Rattle.message_elements.specs.declared.kind.Kind.{Kind}
use Rattle.message_elements.specs.Groups.{response_kind}
use Rattle.message_elements.specs.Values.{AreOf}
use Rattle.iso_message.specs.Fields.{Fields, get, as_kind}
use Rattle.iso_message.specs.Made.{response}
use Rattle.iso_message.specs.Messages.{read}
use Rattle.iso_message.specs.Spelling.{spelling, IsMessage}
use Rattle.iso_message.proofs.Changes.{get_set_same}
use Rattle.iso_message.proofs.Good.{is_message}
use Rattle.iso_message.proofs.ReadingLaws.{read_takes}
use Rattle.network_law.proofs.Node.{response_is_of_kind}
use Rattle.network_law.proofs.Reading.{read_spelling}
use Rattle.network_law.proofs.Whole.{response_is}
use Rattle.kept_messages.specs.Spelled.{message_or_none, message_in, IsSpelled}

pub kept_is : (bytes : List ℕ) (m : Fields) → IsMessage m → bytes ≡ spelling m → message_in bytes ≡ m
kept_is bytes m h e = ap message_in e ∙ ap message_or_none (read_spelling m h)

pub is_spelled : (bytes : List ℕ) (m : Fields) (kind : Kind) (code : Option (List ℕ)) → IsMessage m → bytes ≡ spelling m → kind ≡ m.kind → code ≡ get m 39 → IsSpelled bytes kind code
is_spelled bytes m kind code h e k c =
    let same = kept_is bytes m h e in
    record {
      reads = ap read e ∙ read_spelling m h ∙ ap (λ x. Ok x) (sym same);
      spells = e ∙ ap spelling (sym same);
      kind_is = k ∙ ap (λ x. x.kind) (sym same);
      code_is = c ∙ ap (λ x. get x 39) (sym same);
    }

-- what is kept is a message
pub kept_message : (bytes : List ℕ) (kind : Kind) (code : Option (List ℕ)) → IsSpelled bytes kind code → IsMessage (message_in bytes)
kept_message bytes kind code h = is_message bytes (message_in bytes) (read_takes bytes (message_in bytes) (IsSpelled.reads h))

-- ---- responses

response_code : (m : Fields) (code : List ℕ) → get (response m code) 39 ≡ Some code
unfolding response
response_code m code = get_set_same _ 39 code

pub response_spelled : (bytes : List ℕ) (m : Fields) (kind : Kind) (code : List ℕ) → IsMessage m → length code ≡ 2 → AreOf Text code → kind ≡ response_kind m.kind → bytes ≡ spelling (response m code) → IsSpelled bytes kind (Some code)
response_spelled bytes m kind code h two text k e = is_spelled bytes (response m code) kind (Some code) (response_is m code h (two, text)) e (k ∙ sym (response_is_of_kind m code)) (sym (response_code m code))

pub response_kept : (bytes : List ℕ) (m : Fields) (code : List ℕ) → IsMessage m → length code ≡ 2 → AreOf Text code → bytes ≡ spelling (response m code) → message_in bytes ≡ response m code
response_kept bytes m code h two text e = kept_is bytes (response m code) (response_is m code h (two, text)) e

-- the response of what is kept, by its bytes
pub of_kept : (own bytes : List ℕ) (own_kind kind : Kind) (own_code : Option (List ℕ)) (code : List ℕ) → IsSpelled own own_kind own_code → length code ≡ 2 → AreOf Text code → kind ≡ response_kind own_kind → bytes ≡ spelling (response (message_in own) code)
    → IsSpelled bytes kind (Some code) × (message_in bytes ≡ response (message_in own) code)
of_kept own bytes own_kind kind own_code code h two text k e =
    let m = message_in own in
    let g = kept_message own own_kind own_code h in
    (response_spelled bytes m kind code g two text (k ∙ ap response_kind (IsSpelled.kind_is h)) e, response_kept bytes m code g two text e)

-- ---- other types

typed_is : (kind : Kind) (m : Fields) → IsMessage m → IsMessage (as_kind kind m)
typed_is kind m h = record { order = h.order; values = h.values }

same_code : (kind : Kind) (m : Fields) → get m 39 ≡ get (as_kind kind m) 39
unfolding get
same_code kind m = refl

-- the same elements under another type
pub typed_kept : (own bytes : List ℕ) (own_kind kind : Kind) (code : Option (List ℕ)) (m : Fields) → IsSpelled own own_kind code → message_in own ≡ m → bytes ≡ spelling (as_kind kind m)
    → IsSpelled bytes kind code × (message_in bytes ≡ as_kind kind m)
typed_kept own bytes own_kind kind code m h is e =
    let spelled : bytes ≡ spelling (as_kind kind (message_in own)) = e ∙ ap (λ n. spelling (as_kind kind n)) (sym is) in
    let g = typed_is kind (message_in own) (kept_message own own_kind code h) in
    (is_spelled bytes (as_kind kind (message_in own)) kind code g spelled refl (IsSpelled.code_is h ∙ same_code kind (message_in own)), kept_is bytes (as_kind kind (message_in own)) g spelled ∙ ap (as_kind kind) is)
