use Rattle.table_checker.specs.Property.{AreAccepted}
use Rattle.table_checker.proofs.checker.Accepted.tables.Goals as goal

pub returns-clause-accepted : goal.returns-clause-accepted
returns-clause-accepted c = rw (← c.self.view_is) (AreAccepted.accepted c.self.invariant)

pub returns-clause-checked : goal.returns-clause-checked
returns-clause-checked c = rw (← c.self.view_is) (AreAccepted.checked c.self.invariant)

pub returns-clause-bounded : goal.returns-clause-bounded
returns-clause-bounded c = rw (← c.self.view_is) (AreAccepted.bounded c.self.invariant)

pub returns-clause-safe : goal.returns-clause-safe
returns-clause-safe c = rw (← c.self.view_is) (AreAccepted.safe c.self.invariant)

pub returns-clause-covered : goal.returns-clause-covered
returns-clause-covered c = rw (← c.self.view_is) (AreAccepted.covered c.self.invariant)
