use Rattle.std.proofs.Common.{◌≡◌, ◌++◌, ◌∷◌, ◌+◌, ◌-◌, [], ℕ, List, get_or, length, Some, arith, ap, sym, ◌∙◌, subst}
use Rattle.std.proofs.Math.ListN.{set}
use Rattle.slab.specs.Slab.{Slab, Updates, HasRoomFor}
use Rattle.chain_links.specs.Lists.{pushed}
use Rattle.tick_wheel.specs.Wheel.{WheelView}
use Rattle.advice_slots.specs.declared.item.Held.{Held}
use Rattle.advice_slots.specs.Kept.{HeldView, order}
use Rattle.advice_slots.proofs.Turning.{entered_turning}
use Rattle.advice_slots.proofs.Standing.{has_classes, armed_ordered, card_ordered, entered_listed, link_ordered, not_ordered, order_more}
use Rattle.advice_slots.proofs.held.HeldItems.push.Goals as goal

pub enter-requires-clause-unarmed : goal.enter-requires-clause-unarmed
enter-requires-clause-unarmed c =
    let i = c.self.inside in
    let t = c.self.invariant.0 in
    let l = c.self.invariant.1 in
    let same : c.insert-slot.new.self.waiting ≡ i.wheel.waiting = ap (λ (w : WheelView Held). w.waiting) c.insert-slot.ensures.lists in
    rw same (λ m. not_ordered i.wheel i.ticks i.turn t l c.insert-slot.result c.insert-slot.ensures.was_free (armed_ordered i.wheel i.ticks i.turn t l c.insert-slot.result m))

pub enter-requires-clause-loose : goal.enter-requires-clause-loose
enter-requires-clause-loose c =
    let i = c.self.inside in
    let t = c.self.invariant.0 in
    let l = c.self.invariant.1 in
    let same : c.insert-slot.new.self.card ≡ i.wheel.card = ap (λ (w : WheelView Held). w.card) c.insert-slot.ensures.lists in
    rw same (λ m. not_ordered i.wheel i.ticks i.turn t l c.insert-slot.result c.insert-slot.ensures.was_free (card_ordered i.wheel i.ticks i.turn t l c.insert-slot.result m))

pub enter-requires-clause-free : goal.enter-requires-clause-free
enter-requires-clause-free c =
    let i = c.self.inside in
    let t = c.self.invariant.0 in
    let l = c.self.invariant.1 in
    let same : c.insert-slot.new.self.link ≡ i.wheel.link = ap (λ (w : WheelView Held). w.link) c.insert-slot.ensures.lists in
    rw same (λ m. not_ordered i.wheel i.ticks i.turn t l c.insert-slot.result c.insert-slot.ensures.was_free (link_ordered i.wheel i.ticks i.turn t l c.insert-slot.result m))

pub invariant_of-self : goal.invariant_of-self
invariant_of-self c =
    let i = c.self.inside in
    let t = c.self.invariant.0 in
    let l = c.self.invariant.1 in
    let heads : length i.wheel.link.lists ≡ i.ticks = has_classes i.wheel i.ticks t.heads (subst (λ (v : HeldView). HasRoomFor v.slots 1) (sym c.self.view_is) c.requires) in
    let slot = c.insert-slot.result in
    let class = c.class_of-class.result in
    let ahead = c.ahead_of-ahead.result in
    let e = c.enter.ensures in
    let f = c.insert-slot.ensures.lists in
    let slots_is : c.enter.new.wheel.slots ≡ c.insert-slot.new.self.slots = ap (λ (w : WheelView Held). w.slots) e in
    let ups : Updates i.wheel.slots c.enter.new.wheel.slots slot (Some c.args.held) = subst (λ (s : Slab Held). Updates i.wheel.slots s slot (Some c.args.held)) (sym slots_is) c.insert-slot.ensures.slots in
    let card : c.enter.new.wheel.card ≡ pushed i.wheel.card 0 slot = ap (λ (w : WheelView Held). w.card) e ∙ ap (λ (w : WheelView Held). pushed w.card 0 slot) f in
    let link : c.enter.new.wheel.link ≡ pushed i.wheel.link class slot = ap (λ (w : WheelView Held). w.link) e ∙ ap (λ (w : WheelView Held). pushed w.link class slot) f in
    let one : ahead + 1 - 1 ≡ ahead = omega arith in
    let waiting : c.enter.new.wheel.waiting ≡ set i.wheel.waiting ahead (get_or i.wheel.waiting ahead [] ++ slot ∷ []) =
    ap (λ (w : WheelView Held). w.waiting) e
    ∙ (ap (λ (w : WheelView Held). set w.waiting (ahead + 1 - 1) (get_or w.waiting (ahead + 1 - 1) [] ++ slot ∷ [])) f
    ∙ ap (λ (n : ℕ). set i.wheel.waiting n (get_or i.wheel.waiting n [] ++ slot ∷ [])) one) in (
      entered_turning i.wheel c.enter.new.wheel i.ticks i.turn class ahead slot t heads c.ahead_of-ahead.ensures.below c.ahead_of-ahead.ensures.class link waiting,
      entered_listed i.wheel c.enter.new.wheel i.ticks class slot c.args.held l heads t.some c.insert-slot.ensures.was_free ups c.class_of-class.ensures.class card link,
    )

pub returns-clause-free : goal.returns-clause-free
returns-clause-free c =
    let i = c.self.inside in
    let t = c.self.invariant.0 in
    let l = c.self.invariant.1 in
    rw (← c.self.view_is) (not_ordered i.wheel i.ticks i.turn t l c.insert-slot.result c.insert-slot.ensures.was_free)

pub returns-clause-rest : goal.returns-clause-rest
returns-clause-rest c =
    let i = c.self.inside in
    let t = c.self.invariant.0 in
    let l = c.self.invariant.1 in
    let heads : length i.wheel.link.lists ≡ i.ticks = has_classes i.wheel i.ticks t.heads (subst (λ (v : HeldView). HasRoomFor v.slots 1) (sym c.self.view_is) c.requires) in
    let slot = c.insert-slot.result in
    let class = c.class_of-class.result in
    let e = c.enter.ensures in
    let f = c.insert-slot.ensures.lists in
    let slots_is : c.enter.new.wheel.slots ≡ c.insert-slot.new.self.slots = ap (λ (w : WheelView Held). w.slots) e in
    let ups : Updates i.wheel.slots c.enter.new.wheel.slots slot (Some c.args.held) = subst (λ (s : Slab Held). Updates i.wheel.slots s slot (Some c.args.held)) (sym slots_is) c.insert-slot.ensures.slots in
    let card : c.enter.new.wheel.card ≡ pushed i.wheel.card 0 slot = ap (λ (w : WheelView Held). w.card) e ∙ ap (λ (w : WheelView Held). pushed w.card 0 slot) f in
    let link : c.enter.new.wheel.link ≡ pushed i.wheel.link class slot = ap (λ (w : WheelView Held). w.link) e ∙ ap (λ (w : WheelView Held). pushed w.link class slot) f in
    let visits : c.enter.new.wheel.visits ≡ i.wheel.visits = ap (λ (w : WheelView Held). w.visits) e ∙ ap (λ (w : WheelView Held). w.visits) f in
    let grown = order_more i.wheel c.enter.new.wheel i.ticks class slot c.args.held l heads t.some c.insert-slot.ensures.was_free ups c.class_of-class.ensures.class card link in
    let V : List ℕ → ℕ → HeldView = λ xs n. record { slots = c.enter.new.wheel.slots; order = xs; ticks = i.ticks; turn = i.turn; visits = n } in
    rw (← c.self.view_is) (ap (λ (xs : List ℕ). V xs c.enter.new.wheel.visits) grown ∙ ap (λ (n : ℕ). V (order i.wheel ++ slot ∷ []) n) visits)
