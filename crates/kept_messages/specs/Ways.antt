-- Outputs as code keeps them.
use Rattle.std.specs.Prelude.{ℕ, Bool, false, ◌==◌, [], Option, Some, None, if◌then◌else◌}
use Rattle.card_digits.specs.declared.key.Key.{Key}
use Rattle.iso_message.specs.Fields.{Fields}
use Rattle.message_elements.specs.declared.kind.Kind.TheVariants.{K0100}
use Rattle.message_elements.specs.Groups.{group, is_advice_group}
use Rattle.message_keys.specs.Keys.{identity_of, key_of}
use Rattle.message_keys.specs.declared.keys.AdviceId.{AdviceId}
use Rattle.network_law.specs.Traces.{ReadOutput, Put, Answer, Ask, Post, PutPacket}
use Rattle.kept_messages.specs.declared.output.Way.{Way}
use Rattle.kept_messages.specs.declared.output.Way.TheVariants as ways

abbrev pub output_of : Way → Fields → ReadOutput
output_of (ways.Put l s) m = Put l s m
output_of ways.Answer m = Answer m
output_of (ways.Ask a) m = Ask a m
output_of ways.Post m = Post m

-- the message of an output; a packet has none
abbrev pub message_of : ReadOutput → Fields
message_of (Put l s m) = m
message_of (Answer m) = m
message_of (Ask a m) = m
message_of (Post m) = m
message_of (PutPacket l s p) = record { kind = K0100; elements = [] }

abbrev pub output_key : ReadOutput → Key
output_key o = key_of (message_of o)

-- the identity of an advice
abbrev pub advice_of : Fields → Option AdviceId
advice_of m = if is_advice_group (group m.kind) then Some (identity_of m) else None

-- it is put on this link
abbrev pub is_put : ℕ → ReadOutput → Bool
is_put l (Put k s m) = k == l
is_put l (PutPacket k s p) = k == l
is_put l o = false
