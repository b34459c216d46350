use Rattle.std.proofs.Common.{rules, ◌≡◌, None, ap, sym, ◌∙◌}
use Rattle.advice_slots.specs.declared.wanted.Wanted.TheVariants as wanted
use Rattle.advice_slots.specs.Kept.{HeldView, IsFound, items_of}
use Rattle.advice_slots.proofs.Items.{if_found, mark_less, mark_step, none_unmarked}
use Rattle.advice_slots.proofs.held.HeldItems.mark_all.Goals as goal

pub loop-slot-preserved : goal.loop-slot-preserved
loop-slot-preserved c =
    let v = c.loop-slot.self in
    let n = c.mark.new.self in
    let e = c.mark.ensures in
    let order : n.order ≡ v.order = ap (λ (h : HeldView). h.order) e.rest in
    let inv = c.loop-slot.invariant in
    record {
      items = mark_step c.args.id v n c.in-Some.slot e.slots order ∙ inv.items;
      len = e.len ∙ inv.len;
      capacity = e.capacity ∙ inv.capacity;
      rest = e.rest ∙ ap (λ (h : HeldView). record h { slots = n.slots }) inv.rest;
    }

pub loop-slot-smaller : goal.loop-slot-smaller
loop-slot-smaller c =
    let v = c.loop-slot.self in
    let e = c.mark.ensures in
    let f = if_found (λ x. IsFound (wanted.NotPut c.args.id) v.slots v.order x) c.find.result c.in-Some.slot c.in-Some.is c.find.ensures.found in
    mark_less c.args.id v c.mark.new.self c.in-Some.slot f e.slots (ap (λ (h : HeldView). h.order) e.rest)

pub returns-clause-items : goal.returns-clause-items
returns-clause-items c =
    let none : c.find.result ≡ None = search rules in
    sym (none_unmarked c.args.id (items_of c.loop-slot.self) (c.find.ensures.none none)) ∙ c.loop-slot.invariant.items
