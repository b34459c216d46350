use Rattle.std.proofs.Common.{subst}
use Rattle.chain_links.specs.Lists.{AreApart}
use Rattle.slot_chains.specs.Chains.{ChainsView, lists_in}
use Rattle.slot_chains.proofs.Held.{apart_over}
use Rattle.slot_chains.proofs.Chains.first.Goals as goal

pub returns-in-Bucket-clause-apart : goal.returns-in-Bucket-clause-apart
returns-in-Bucket-clause-apart g c =
    let P : ChainsView g.row.T.Denot → Type 0 = λ v. AreApart (lists_in v c.args.family) in
    subst P c.self.view_is (rw c.in-Bucket.is (apart_over c.self.inside.bucket c.self.inside.capacity c.first.ensures.apart))

pub returns-in-Card-clause-apart : goal.returns-in-Card-clause-apart
returns-in-Card-clause-apart g c =
    let P : ChainsView g.row.T.Denot → Type 0 = λ v. AreApart (lists_in v c.args.family) in
    subst P c.self.view_is (rw c.in-Card.is (apart_over c.self.inside.card c.self.inside.capacity c.first-in-Card.ensures.apart))

pub returns-in-Link-clause-apart : goal.returns-in-Link-clause-apart
returns-in-Link-clause-apart g c =
    let P : ChainsView g.row.T.Denot → Type 0 = λ v. AreApart (lists_in v c.args.family) in
    subst P c.self.view_is (rw c.in-Link.is (apart_over c.self.inside.link c.self.inside.capacity c.first-in-Link.ensures.apart))
