use Rattle.std.proofs.Common.{◌+◌, ap, ◌∙◌, map, ℕ}
use Rattle.advice_slots.specs.Items.{stored_of}
use Rattle.advice_store.specs.Books.{Store}
use Rattle.advice_store.specs.Nodes.{NodeStore}
use Rattle.advice_store.proofs.Nodes.{due_counted, same_ticked, seen}
use Rattle.advice_store.proofs.node.NodeAdvices.tick.Goals as goal

pub invariant_of-self : goal.invariant_of-self
invariant_of-self c =
    let i = c.self.inside in
    rw (ap (λ (v : Store). v.items) (same_ticked i.store c.tick.new.self c.tick.ensures.next c.tick.ensures.last)) c.self.invariant

pub returns-clause-next : goal.returns-clause-next
returns-clause-next c =
    let i = c.self.inside in
    let G : ℕ → NodeStore = λ n. record { store = map stored_of i.store.items; known = i.store.known; room = i.store.room; ticks = i.store.ticks; count = i.store.count + 1; visits = n + 1 } in
    rw (← c.self.view_is) (λ less. ap seen (c.tick.ensures.next less) ∙ ap G (due_counted i.lenders i.store.items c.self.invariant i.store.ticks (i.store.count + 1)))

pub returns-clause-last : goal.returns-clause-last
returns-clause-last c = rw (← c.self.view_is) (λ most. ap seen (c.tick.ensures.last most))

pub returns-clause-same : goal.returns-clause-same
returns-clause-same c =
    let i = c.self.inside in
    rw (← c.self.view_is) (ap seen (same_ticked i.store c.tick.new.self c.tick.ensures.next c.tick.ensures.last))
