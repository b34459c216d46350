use Rattle.std.proofs.Common.{sym, ◌∙◌}
use Rattle.book_index.proofs.Identities.{found_id_is}
use Rattle.entry_changes.proofs.advice_places.AdvicePlaces.new.Goals as goal

pub returns : goal.returns
returns c = λ k. sym (found_id_is k c.new.result.places.entries) ∙ c.new.ensures k
