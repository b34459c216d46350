use Rattle.std.proofs.Common.{◌∙◌, sym}
use Rattle.advice_slots.proofs.Standing.{items_length}
use Rattle.advice_slots.proofs.held.HeldItems.len.Goals as goal

pub returns : goal.returns
returns c = let i = c.self.inside in rw (← c.self.view_is) (c.len.ensures ∙ sym (items_length i.wheel i.ticks c.self.invariant.1))
