-- What bytes are that a node puts out.
use Rattle.std.specs.Prelude.{ℕ, List, Option, Some, None}
use Rattle.std.specs.Option.{option_map}
use Rattle.std.specs.Result.{result_ok}
use Rattle.iso_message.specs.Fields.{Fields, get}
use Rattle.iso_message.specs.Messages.{read}
use Rattle.message_keys.specs.Keys.{when, has_key, key_of}
use Rattle.network_law.specs.declared.grant.GrantPacket.{GrantPacket}
use Rattle.network_law.specs.declared.grant.GrantPacket.TheVariants as grants
use Rattle.network_law.specs.Grants.{read_packet}
use Rattle.trace_view.specs.declared.line.Way.{Way}
use Rattle.trace_view.specs.declared.line.Way.TheVariants as ways
use Rattle.trace_view.specs.declared.packet.Known.{Known}
use Rattle.trace_view.specs.declared.packet.Packet.{Packet}
use Rattle.trace_view.specs.declared.packet.Packet.TheVariants.{Message, Grant, GrantTaken}

-- type, key and response code of a message; a reversal has the key of what it reverses
unfoldable pub known_of : Fields → Known
unfolding get has_key key_of
known_of m = record { kind = m.kind; key = when (has_key m) (key_of m); code = get m 39 }

abbrev pub message_in : List ℕ → Option Packet
message_in bytes = option_map (λ m. Message (known_of m)) (result_ok (read bytes))

abbrev pub packet_or_message : Option GrantPacket → List ℕ → Option Packet
packet_or_message (Some (grants.Grant g)) bytes = Some Grant
packet_or_message (Some (grants.Ack lender number)) bytes = Some GrantTaken
packet_or_message None bytes = message_in bytes

-- bytes of a link that are exactly a grant, or what acknowledges one, are it; all others are read as a message
abbrev pub packet_in : List ℕ → Option Packet
packet_in bytes = packet_or_message (read_packet bytes) bytes

abbrev pub sent_in : Way → List ℕ → Option Packet
sent_in (ways.Put l s) bytes = packet_in bytes
sent_in way bytes = message_in bytes
