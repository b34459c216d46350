use Rattle.std.proofs.Common.{rules, ◌≡◌, ◌<◌, List, ℕ, length, arith, ap, sym, ◌∙◌, subst, None}
use Rattle.chain_links.specs.Lists.{without}
use Rattle.advice_slots.specs.Kept.{HeldView, IsFound, items_of, wants}
use Rattle.advice_slots.proofs.Items.{fewer_slots, if_found, leave_step, none_left}
use Rattle.advice_slots.proofs.held.HeldItems.leave_all.Goals as goal

pub leave-requires : goal.leave-requires
leave-requires c =
    let v = c.loop-slot.self in
    let f = if_found (λ x. IsFound c.args.wanted v.slots v.order x) c.find.result c.in-Some.slot c.in-Some.is c.find.ensures.found in
    f.among

pub loop-slot-preserved : goal.loop-slot-preserved
loop-slot-preserved c =
    let v = c.loop-slot.self in
    let n = c.leave.new.self in
    let e = c.leave.ensures in
    let f = if_found (λ x. IsFound c.args.wanted v.slots v.order x) c.find.result c.in-Some.slot c.in-Some.is c.find.ensures.found in
    let order : n.order ≡ without c.in-Some.slot v.order = ap (λ (h : HeldView). h.order) e.rest in
    let inv = c.loop-slot.invariant in
    let l = e.len in
    let k = inv.len in
    record {
      items = leave_step c.args.wanted v n c.in-Some.slot f e.slots order ∙ inv.items;
      len = omega (arith, l, k);
      room = λ n fits. e.room n (inv.room n fits);
      rest = e.rest ∙ ap (λ (h : HeldView). record h { slots = n.slots; order = without c.in-Some.slot v.order }) inv.rest ∙ ap (λ xs. record c.args.self.now { slots = n.slots; order = xs }) (sym order);
    }

pub loop-slot-smaller : goal.loop-slot-smaller
loop-slot-smaller c =
    let v = c.loop-slot.self in
    let f = if_found (λ x. IsFound c.args.wanted v.slots v.order x) c.find.result c.in-Some.slot c.in-Some.is c.find.ensures.found in
    let order : c.leave.new.self.order ≡ without c.in-Some.slot v.order = ap (λ (h : HeldView). h.order) c.leave.ensures.rest in
    subst (λ (xs : List ℕ). length xs < length v.order) (sym order) (fewer_slots c.in-Some.slot v.order f.among)

pub returns-clause-items : goal.returns-clause-items
returns-clause-items c =
    let none : c.find.result ≡ None = search rules in
    let items = items_of c.loop-slot.self in
    sym (none_left (wants c.args.wanted) items (c.find.ensures.none none)) ∙ c.loop-slot.invariant.items
