use Rattle.std.proofs.Common.{◌≡◌, ◌-◌, ◌^◌, [], ◌∷◌, ◌++◌, map, max, min, ap, subst}
use Rattle.advice_slots.specs.Items.{stored_of}
use Rattle.advice_slots.specs.declared.item.Held.{Held}
use Rattle.advice_store.specs.Books.{Store}
use Rattle.advice_store.proofs.Nodes.{grant_seen, lent_now, own_later, own_more, seen}
use Rattle.advice_store.proofs.node.NodeAdvices.keep_grant.Goals as goal

pub invariant_of-self : goal.invariant_of-self
invariant_of-self c =
    let i = c.self.inside in
    let lender = c.args.grant.grant.lender in
    rw (ap (λ (v : Store). v.items) c.keep_grant.ensures, c.with-self-inside.ensures, c.grant.ensures) (own_more _ i.store.items c.into_held.result (rw c.into_held.ensures tt) (rw c.into_held.ensures (lent_now i.lenders lender)) (own_later i.lenders lender i.store.items c.self.invariant))

pub returns : goal.returns
returns c =
    let i = c.self.inside in
    let n = c.keep_grant.new.self in
    let P : Held → Type 0 = λ x. seen n ≡ record { store = map stored_of i.store.items ++ stored_of x ∷ []; known = i.store.known; room = i.store.room - 1; ticks = i.store.ticks; count = max i.store.count (min x.count (2 ^ 63)); visits = n.visits } in
    rw (← c.self.view_is) (subst P c.into_held.ensures (grant_seen i.store n c.into_held.result c.keep_grant.ensures))
