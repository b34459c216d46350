use Rattle.std.proofs.Common.{◌∙◌}
use Rattle.book_index.proofs.Identities.{found_id_is}
use Rattle.entry_changes.proofs.advice_places.AdvicePlaces.find.Goals as goal

pub returns : goal.returns
returns c = c.find.ensures ∙ found_id_is c.args.id c.args.self.now.index.places.entries
