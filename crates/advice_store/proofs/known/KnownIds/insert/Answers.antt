use Rattle.advice_store.proofs.Identities.{known_more}
use Rattle.advice_store.proofs.known.KnownIds.insert.Goals as goal

pub invariant_of-self : goal.invariant_of-self
invariant_of-self c =
    let i = c.self.inside in
    rw c.push_reserved.ensures.items (known_more i.set.keys c.insert.new.self.keys i.list.items c.args.id c.insert.ensures.keys c.self.invariant)
