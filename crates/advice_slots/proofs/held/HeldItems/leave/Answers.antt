use Rattle.std.proofs.Common.{◌≡◌, ℕ, List, map, ap, sym, ◌∙◌, subst}
use Rattle.chain_links.specs.Lists.{Among, unlinked, without}
use Rattle.slot_chains.specs.Chains.{over}
use Rattle.tick_wheel.specs.Wheel.{WheelView}
use Rattle.advice_slots.specs.declared.item.Held.{Held}
use Rattle.advice_slots.specs.Kept.{HeldView, order}
use Rattle.advice_slots.proofs.Turning.{left_turning}
use Rattle.advice_slots.proofs.Standing.{in_bucket, in_card, in_link, left_listed, order_less}
use Rattle.advice_slots.proofs.held.HeldItems.leave.Goals as goal

pub leave-requires-clause-held : goal.leave-requires-clause-held
leave-requires-clause-held c = c.self.invariant.1.held c.args.slot (subst (λ (v : HeldView). Among c.args.slot v.order) (sym c.self.view_is) c.requires)

pub leave-requires-clause-armed : goal.leave-requires-clause-armed
leave-requires-clause-armed c = let i = c.self.inside in in_bucket i.wheel i.ticks i.turn c.self.invariant.0 c.self.invariant.1 c.args.slot (subst (λ (v : HeldView). Among c.args.slot v.order) (sym c.self.view_is) c.requires)

pub leave-requires-clause-member : goal.leave-requires-clause-member
leave-requires-clause-member c = let i = c.self.inside in in_card i.wheel i.ticks i.turn c.self.invariant.0 c.self.invariant.1 c.args.slot (subst (λ (v : HeldView). Among c.args.slot v.order) (sym c.self.view_is) c.requires)

pub leave-requires-clause-classed : goal.leave-requires-clause-classed
leave-requires-clause-classed c = let i = c.self.inside in in_link i.wheel i.ticks i.turn c.self.invariant.0 c.self.invariant.1 c.args.slot (subst (λ (v : HeldView). Among c.args.slot v.order) (sym c.self.view_is) c.requires)

pub invariant_of-self : goal.invariant_of-self
invariant_of-self c =
    let i = c.self.inside in
    let slot = c.args.slot in
    let e = c.leave.ensures in
    let waiting : c.leave.new.wheel.waiting ≡ map (without slot) i.wheel.waiting = ap (λ (w : WheelView Held). w.waiting) e.wheel in
    let card : c.leave.new.wheel.card ≡ over (unlinked i.wheel.card slot) c.leave.new.wheel.slots.capacity = ap (λ (w : WheelView Held). w.card) e.wheel in
    let link : c.leave.new.wheel.link ≡ over (unlinked i.wheel.link slot) c.leave.new.wheel.slots.capacity = ap (λ (w : WheelView Held). w.link) e.wheel in (
      left_turning i.wheel c.leave.new.wheel i.ticks i.turn slot c.self.invariant.0 (in_link i.wheel i.ticks i.turn c.self.invariant.0 c.self.invariant.1 slot (subst (λ (v : HeldView). Among slot v.order) (sym c.self.view_is) c.requires)) link waiting,
      left_listed i.wheel c.leave.new.wheel i.ticks slot c.self.invariant.1 e.slots card link,
    )

pub returns-clause-rest : goal.returns-clause-rest
returns-clause-rest c =
    let i = c.self.inside in
    let slot = c.args.slot in
    let e = c.leave.ensures in
    let card : c.leave.new.wheel.card ≡ over (unlinked i.wheel.card slot) c.leave.new.wheel.slots.capacity = ap (λ (w : WheelView Held). w.card) e.wheel in
    let link : c.leave.new.wheel.link ≡ over (unlinked i.wheel.link slot) c.leave.new.wheel.slots.capacity = ap (λ (w : WheelView Held). w.link) e.wheel in
    let visits : c.leave.new.wheel.visits ≡ i.wheel.visits = ap (λ (w : WheelView Held). w.visits) e.wheel in
    let less = order_less i.wheel c.leave.new.wheel i.ticks slot c.self.invariant.1 e.slots card link in
    let V : List ℕ → ℕ → HeldView = λ xs n. record { slots = c.leave.new.wheel.slots; order = xs; ticks = i.ticks; turn = i.turn; visits = n } in
    rw (← c.self.view_is) (ap (λ (xs : List ℕ). V xs c.leave.new.wheel.visits) less ∙ ap (λ (n : ℕ). V (without slot (order i.wheel)) n) visits)

pub returns-clause-room : goal.returns-clause-room
returns-clause-room c = rw (← c.self.view_is) (λ n fits. c.leave.ensures.room n fits)
