use Rattle.std.proofs.Common.{◌≡◌, ◌%◌, ℕ, List, [], arith, ap, ◌∙◌, get_or, replicate}
use Rattle.slab.specs.Slab.{Slab}
use Rattle.chain_links.specs.Lists.{LinksView}
use Rattle.tick_wheel.specs.Wheel.{WheelView}
use Rattle.advice_slots.specs.declared.item.Held.{Held}
use Rattle.advice_slots.proofs.Standing.{grown_lists, none_listed, none_turning}
use Rattle.advice_slots.proofs.held.HeldItems.new.Goals as goal

pub invariant_of-result : goal.invariant_of-result
invariant_of-result c =
    let w = c.in_ok-wheel.wheel in
    let n = c.in_ok-wheel.ensures in
    let g = c.in_ok-grow_heads.ensures.ok in
    let new = c.grow_heads.new.self in
    let ticks = c.args.ticks in
    let slots : new.slots ≡ w.slots = ap (λ (v : WheelView Held). v.slots) g in
    let waiting : new.waiting ≡ w.waiting = ap (λ (v : WheelView Held). v.waiting) g in
    let card : new.card.lists ≡ replicate 1 [] = ap (λ (v : WheelView Held). v.card.lists) g ∙ grown_lists w.card 1 n.lists.0 in
    let link : new.link.lists ≡ [] = ap (λ (v : WheelView Held). v.link.lists) g ∙ ap (λ (l : LinksView). l.lists) n.lists.1 in
    let some = c.requires.some in
    (none_turning new ticks (1 % ticks) some c.requires.few (omega (arith, some)) (waiting ∙ n.waiting) link (ap (λ (s : Slab Held). s.capacity) slots ∙ n.slots.1), none_listed new ticks (ap (λ (s : Slab Held). s.slots) slots ∙ n.slots.0) card link)

pub returns-clause-order : goal.returns-clause-order
returns-clause-order c =
    let w = c.in_ok-wheel.wheel in
    let n = c.in_ok-wheel.ensures in
    let g = c.in_ok-grow_heads.ensures.ok in
    let card : c.grow_heads.new.self.card.lists ≡ replicate 1 [] = ap (λ (v : WheelView Held). v.card.lists) g ∙ grown_lists w.card 1 n.lists.0 in
    ap (λ (ls : List (List ℕ)). get_or ls 0 []) card
