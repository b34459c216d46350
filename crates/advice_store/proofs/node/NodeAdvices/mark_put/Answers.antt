use Rattle.std.proofs.Common.{ap, ◌∙◌, List}
use Rattle.node_machine.specs.Books.{Stored}
use Rattle.advice_store.specs.Books.{Store}
use Rattle.advice_store.specs.Nodes.{NodeStore}
use Rattle.advice_store.proofs.Nodes.{marked_stored, own_marked, seen}
use Rattle.advice_store.proofs.node.NodeAdvices.mark_put.Goals as goal

pub invariant_of-self : goal.invariant_of-self
invariant_of-self c =
    let i = c.self.inside in
    rw (ap (λ (v : Store). v.items) c.mark_put.ensures) (own_marked i.lenders c.args.id i.store.items c.self.invariant)

pub returns : goal.returns
returns c =
    let i = c.self.inside in
    let F : List Stored → NodeStore = λ st. record { store = st; known = i.store.known; room = i.store.room; ticks = i.store.ticks; count = i.store.count; visits = i.store.visits } in
    rw (← c.self.view_is) (ap seen c.mark_put.ensures ∙ ap F (marked_stored i.lenders c.args.id i.store.items c.self.invariant))
