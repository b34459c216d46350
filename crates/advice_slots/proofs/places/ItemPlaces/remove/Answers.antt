use Rattle.std.proofs.Common.{sym, ◌∙◌, refl}
use Rattle.advice_slots.proofs.Derived.{lookup_is, derived_is}
use Rattle.advice_slots.proofs.places.ItemPlaces.remove.Goals as goal

pub returns-clause-slot : goal.returns-clause-slot
returns-clause-slot c = c.remove.ensures.old ∙ lookup_is c.args.name c.args.self.now.slots.entries

pub returns-clause-slots : goal.returns-clause-slots
returns-clause-slots c = λ k. sym (lookup_is k c.remove.new.self.entries) ∙ (c.remove.ensures.updates k ∙ rw (derived_is c.args.name k, lookup_is k c.args.self.now.slots.entries) refl)
