use Rattle.std.proofs.Common.{sym, ◌∙◌}
use Rattle.book_index.proofs.Identities.{found_id_is}
use Rattle.entry_changes.proofs.advice_places.AdvicePlaces.reserve.Goals as goal

pub returns-clause-found : goal.returns-clause-found
returns-clause-found c = λ k. sym (found_id_is k c.reserve.new.self.places.entries) ∙ (c.reserve.ensures.found k ∙ found_id_is k c.args.self.now.index.places.entries)
