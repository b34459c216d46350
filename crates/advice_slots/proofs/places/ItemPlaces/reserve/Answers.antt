use Rattle.std.proofs.Common.{sym, ◌∙◌}
use Rattle.advice_slots.proofs.Derived.{lookup_is}
use Rattle.advice_slots.proofs.places.ItemPlaces.reserve.Goals as goal

pub returns-clause-slots : goal.returns-clause-slots
returns-clause-slots c = λ k. sym (lookup_is k c.reserve.new.self.entries) ∙ (c.reserve.ensures.entries k ∙ lookup_is k c.args.self.now.slots.entries)
