use Rattle.std.proofs.Common.{◌∙◌}
use Rattle.advice_slots.specs.Kept.{items_of}
use Rattle.advice_slots.proofs.Changed.{any_put, is_any}
use Rattle.advice_slots.proofs.slots.AdviceSlots.was_put.Goals as goal

pub returns : goal.returns
returns c =
    let i = c.self.inside in
    rw (← c.self.view_is) (c.is_some.ensures ∙ (is_any c.slot_of.result _ c.slot_of.ensures.found c.slot_of.ensures.none ∙ any_put c.args.id (items_of i.held)))
