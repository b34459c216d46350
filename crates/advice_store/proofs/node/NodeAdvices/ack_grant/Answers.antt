use Rattle.std.proofs.Common.{rules, ◌≡◌, false, bytes_eq, ap, sym, ◌∙◌, subst, List, not}
use Rattle.network_law.specs.Cards.{Bytes}
use Rattle.node_machine.specs.Books.{Stored}
use Rattle.advice_slots.specs.Items.{is_lent, is_named}
use Rattle.advice_slots.specs.declared.item.ItemName.TheVariants as names
use Rattle.advice_store.specs.Books.{Store}
use Rattle.advice_store.specs.Nodes.{AreOwn, NodeStore}
use Rattle.advice_store.specs.declared.lenders.Lenders.{Lenders}
use Rattle.advice_store.specs.declared.lenders.Lenders.TheVariants as lenders
use Rattle.advice_store.proofs.Nodes.{own_less, seen, without_lent, without_none, without_number, without_other}
use Rattle.advice_store.proofs.node.NodeAdvices.ack_grant.Goals as goal

pub returns-in-None : goal.returns-in-None
returns-in-None c =
    let i = c.self.inside in
    let own : AreOwn lenders.None i.store.items = subst (λ (l : Lenders). AreOwn l i.store.items) c.in-None.is c.self.invariant in
    let F : List Stored → NodeStore = λ st. record { store = st; known = i.store.known; room = i.store.room; ticks = i.store.ticks; count = i.store.count; visits = i.store.visits } in
    rw (← c.self.view_is) (ap F (sym (without_none c.args.lender c.args.number i.store.items own)))

pub invariant_of-self : goal.invariant_of-self
invariant_of-self c =
    let i = c.self.inside in
    rw (ap (λ (v : Store). v.items) c.ack_grant.ensures.items) (own_less i.lenders (λ x. not (is_named (names.Grant c.args.number) x)) i.store.items c.self.invariant)

pub returns-then-eq : goal.returns-then-eq
returns-then-eq c =
    let i = c.self.inside in
    let own : AreOwn (lenders.One c.in-One.own) i.store.items = subst (λ (l : Lenders). AreOwn l i.store.items) c.in-One.is c.self.invariant in
    let same : c.in-One.own ≡ c.args.lender = search rules in
    let F : List Stored → NodeStore = λ st. record { store = st; known = i.store.known; room = i.store.room; ticks = i.store.ticks; count = i.store.count; visits = i.store.visits } in
    rw (← c.self.view_is) (ap seen c.ack_grant.ensures.items ∙ ap F (without_number c.args.lender c.args.number i.store.items (subst (λ (b : Bytes). AreOwn (lenders.One b) i.store.items) same own)))

pub returns-else-eq : goal.returns-else-eq
returns-else-eq c =
    let i = c.self.inside in
    let own : AreOwn (lenders.One c.in-One.own) i.store.items = subst (λ (l : Lenders). AreOwn l i.store.items) c.in-One.is c.self.invariant in
    let other : bytes_eq c.in-One.own c.args.lender ≡ false = search rules in
    let F : List Stored → NodeStore = λ st. record { store = st; known = i.store.known; room = i.store.room; ticks = i.store.ticks; count = i.store.count; visits = i.store.visits } in
    rw (← c.self.view_is) (ap F (sym (without_other c.in-One.own c.args.lender c.args.number i.store.items other own)))

pub invariant_of-self-in-Several : goal.invariant_of-self-in-Several
invariant_of-self-in-Several c =
    let i = c.self.inside in
    rw (ap (λ (v : Store). v.items) c.remove_lent.ensures) (own_less i.lenders (λ x. not (is_lent c.args.lender c.args.number x)) i.store.items c.self.invariant)

pub returns-in-Several : goal.returns-in-Several
returns-in-Several c =
    let i = c.self.inside in
    let F : List Stored → NodeStore = λ st. record { store = st; known = i.store.known; room = i.store.room; ticks = i.store.ticks; count = i.store.count; visits = i.store.visits } in
    rw (← c.self.view_is) (ap seen c.remove_lent.ensures ∙ ap F (without_lent i.lenders i.store.items c.self.invariant c.args.lender c.args.number))
