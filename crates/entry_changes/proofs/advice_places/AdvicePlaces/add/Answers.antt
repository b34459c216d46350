use Rattle.std.proofs.Common.{sym, ◌∙◌, refl}
use Rattle.book_index.proofs.Identities.{found_id_is, derived_id_is}
use Rattle.entry_changes.proofs.advice_places.AdvicePlaces.add.Goals as goal

pub returns : goal.returns
returns c = λ k. sym (found_id_is k c.add.new.self.places.entries) ∙ (c.add.ensures.found k ∙ rw (derived_id_is c.args.id k, found_id_is k c.args.self.now.index.places.entries, found_id_is c.args.id c.args.self.now.index.places.entries) refl)
