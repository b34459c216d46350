use Rattle.advice_store.proofs.Identities.{known_again}
use Rattle.advice_store.proofs.known.KnownIds.reserve.Goals as goal

pub invariant_of-self-2 : goal.invariant_of-self-2
invariant_of-self-2 c =
    let i = c.self.inside in
    rw c.reserve.ensures.items (known_again i.set.keys c.reserve-2.new.self.keys i.list.items c.reserve-2.ensures.keys c.self.invariant)
