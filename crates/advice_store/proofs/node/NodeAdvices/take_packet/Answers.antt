use Rattle.std.proofs.Common.{◌≡◌, ap, sym, subst, List, filter, not}
use Rattle.network_law.specs.declared.grant.GrantPacket.{GrantPacket}
use Rattle.node_machine.specs.Books.{Stored}
use Rattle.advice_store.specs.Advices.{packet_acked}
use Rattle.advice_store.specs.Nodes.{NodeStore}
use Rattle.advice_store.proofs.Nodes.{grant_acks}
use Rattle.advice_store.proofs.node.NodeAdvices.take_packet.Goals as goal

pub returns-in-Grant : goal.returns-in-Grant
returns-in-Grant c =
    let v = c.args.self.now in
    let P : GrantPacket → Type 0 = λ p. v ≡ record v { store = filter (λ a. not (packet_acked p a)) v.store } in
    let F : List Stored → NodeStore = λ st. record v { store = st } in
    subst P (sym c.in-Grant.is) (ap F (sym (grant_acks c.in-Grant.field-0 v.store)))
