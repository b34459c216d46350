-- What a node asks of the items in its store.
use Rattle.std.specs.Prelude.{Bool, false, ◌||◌}
use Rattle.message_keys.specs.declared.keys.AdviceId.{AdviceId}
use Rattle.message_keys.specs.Keys.{identity_of, identity_eq}
use Rattle.network_law.specs.declared.grant.GrantPacket.{GrantPacket}
use Rattle.node_machine.specs.Machine.{packet_acks}
use Rattle.node_machine.specs.Books.{Stored, Advised, Granted}

-- the advice of this identity
abbrev pub has_id : AdviceId → Stored → Bool
has_id id (Advised a) = identity_eq (identity_of a.message) id
has_id id (Granted g) = false

-- the advice of this identity was put
abbrev pub marked_by : AdviceId → Stored → Stored
marked_by id (Advised a) = Advised (record { message = a.message; count = a.count; put = a.put || identity_eq id (identity_of a.message) })
marked_by id (Granted g) = Granted g

-- the packet acknowledges this grant
abbrev pub packet_acked : GrantPacket → Stored → Bool
packet_acked p (Advised a) = false
packet_acked p (Granted g) = packet_acks p g
