use Rattle.std.proofs.Common.{◌≡◌, ◌-◌, ◌^◌, [], ◌∷◌, ◌++◌, map, max, min, ap, refl, subst}
use Rattle.message_keys.specs.Keys.{identity_of}
use Rattle.message_keys.specs.declared.keys.AdviceId.{AdviceId}
use Rattle.advice_slots.specs.Items.{stored_of}
use Rattle.advice_slots.specs.declared.item.Held.{Held}
use Rattle.advice_store.specs.Books.{Store}
use Rattle.advice_store.proofs.Nodes.{advice_seen, own_more, seen}
use Rattle.advice_store.proofs.node.NodeAdvices.keep.Goals as goal

pub invariant_of-self : goal.invariant_of-self
invariant_of-self c =
    let i = c.self.inside in
    rw (ap (λ (v : Store). v.items) c.keep.ensures) (own_more i.lenders i.store.items c.into_held.result (rw c.into_held.ensures refl) (rw c.into_held.ensures tt) c.self.invariant)

pub returns : goal.returns
returns c =
    let i = c.self.inside in
    let n = c.keep.new.self in
    let P : AdviceId → Held → Type 0 = λ id x. seen n ≡ record { store = map stored_of i.store.items ++ stored_of x ∷ []; known = i.store.known ++ id ∷ []; room = i.store.room - 1; ticks = i.store.ticks; count = max i.store.count (min x.count (2 ^ 63)); visits = n.visits } in
    let x = c.into_held.result in
    let own = subst (λ (id : AdviceId). P id x) c.id-id.ensures (advice_seen i.store n c.id-id.result x c.keep.ensures) in
    rw (← c.self.view_is) (subst (P (identity_of c.args.advice.message)) c.into_held.ensures own)
