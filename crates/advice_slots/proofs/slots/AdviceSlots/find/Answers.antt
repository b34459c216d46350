use Rattle.std.proofs.Common.{rules, ◌≡◌, ℕ, Option, Some, None, option_and_then, option_copied, ap, sym, ◌∙◌}
use Rattle.slab.specs.Slab.{get}
use Rattle.advice_slots.specs.Kept.{items_of}
use Rattle.advice_slots.proofs.Changed.{find_item}
use Rattle.advice_slots.proofs.slots.AdviceSlots.find.Goals as goal

pub returns-in_err-slot : goal.returns-in_err-slot
returns-in_err-slot c =
    let i = c.self.inside in
    let none : c.slot_of.result ≡ None = search rules in
    let gone : c.from_residual.result ≡ None = search rules in
    rw (← c.self.view_is) (ap option_copied gone ∙ (sym (ap (λ (o : Option ℕ). option_and_then (get i.held.slots) o) none) ∙ (c.slot_of.ensures.oldest ∙ find_item c.args.name.now (items_of i.held))))

pub returns : goal.returns
returns c =
    let i = c.self.inside in
    let some : c.slot_of.result ≡ Some c.in_ok-slot.slot = search rules in
    rw (← c.self.view_is) (c.get.ensures ∙ (sym (ap (λ (o : Option ℕ). option_and_then (get i.held.slots) o) some) ∙ (c.slot_of.ensures.oldest ∙ find_item c.args.name.now (items_of i.held))))
