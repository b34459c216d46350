use Rattle.std.proofs.Common.{◌∙◌}
use Rattle.book_index.proofs.Identities.{any_is}
use Rattle.advice_store.proofs.known.KnownIds.contains.Goals as goal

pub returns : goal.returns
returns c = let i = c.self.inside in rw (← c.self.view_is) (c.contains.ensures ∙ (any_is c.args.id i.set.keys ∙ c.self.invariant c.args.id))
