use Rattle.std.proofs.Common.{ap, ◌∙◌, List, not}
use Rattle.node_machine.specs.Books.{Stored}
use Rattle.advice_slots.specs.Items.{is_named}
use Rattle.advice_slots.specs.declared.item.ItemName.TheVariants as names
use Rattle.advice_store.specs.Books.{Store}
use Rattle.advice_store.specs.Nodes.{NodeStore}
use Rattle.advice_store.proofs.Nodes.{own_less, seen, without_id}
use Rattle.advice_store.proofs.node.NodeAdvices.ack.Goals as goal

pub invariant_of-self : goal.invariant_of-self
invariant_of-self c =
    let i = c.self.inside in
    rw (ap (λ (v : Store). v.items) c.ack.ensures.items) (own_less i.lenders (λ x. not (is_named (names.Advice c.args.id) x)) i.store.items c.self.invariant)

pub returns : goal.returns
returns c =
    let i = c.self.inside in
    let F : List Stored → NodeStore = λ st. record { store = st; known = i.store.known; room = i.store.room; ticks = i.store.ticks; count = i.store.count; visits = i.store.visits } in
    rw (← c.self.view_is) (ap seen c.ack.ensures.items ∙ ap F (without_id i.lenders i.store.items c.self.invariant c.args.id))
