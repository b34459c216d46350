use denote.Struct.Struct.{exits_of}
use denote.Struct.Owning.{shape, fields, to}
use denote.Param.Send.{IsSend, AllSend, owning_send, struct_send, sendable}
use Rattle.std_alloc.proofs.SendSync.{quiet}
use Rattle.std.proofs.alloc.Global.TheSendSync as heap
use Rattle.owned_handle.proofs.Values.{held_keyless}
use Rattle.switch_node.specs.contracts.owned.OwnedNode.{the_row as held_row}
use Rattle.switch_node.proofs.owned.OwnedNode.TheSendSync.{the_send as held_send}
use Rattle.node_handle.specs.contracts.handle.NodeHandle.{the_row, the_type}

pub send : IsSend the_row
send =
    let all : AllSend (fields the_type) = (search sendable, (heap.the_field_send, tt)) in
    owning_send the_type all (λ d. held_keyless held_row held_send d.alloc d.at d.value) (λ k. quiet (to the_type) (exits_of k (fields the_type)) ((struct_send (shape the_type) all).leaving k))
