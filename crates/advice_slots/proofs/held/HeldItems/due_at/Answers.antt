use Rattle.std.proofs.Common.{subst, sym}
use Rattle.advice_slots.specs.Items.{HaveOwnIds}
use Rattle.advice_slots.specs.Kept.{HeldView, items_of}
use Rattle.advice_slots.proofs.Owned.{own_at}
use Rattle.advice_slots.proofs.held.HeldItems.due_at.Goals as goal

pub due_in-requires : goal.due_in-requires
due_in-requires c =
    let i = c.self.inside in
    let P : HeldView → Type 0 = λ v. HaveOwnIds (items_of v) in
    own_at i.wheel i.ticks c.self.invariant.1 (subst P (sym c.self.view_is) c.requires)
