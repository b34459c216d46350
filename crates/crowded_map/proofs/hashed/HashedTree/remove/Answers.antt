use Rattle.std.proofs.Common.{refl, None, ◌∙◌}
use Rattle.crowded_map.proofs.ByHash.{found_hashed, hashed_remove, hashed_change}
use Rattle.crowded_map.proofs.hashed.HashedTree.remove.Goals as goal

pub invariant_of-self : goal.invariant_of-self
invariant_of-self g c = rw c.remove.ensures.entries (hashed_remove _ _ c.self.inside.tree.entries c.self.invariant)

pub returns-clause-old : goal.returns-clause-old
returns-clause-old g c =
    let i = c.self.inside in
    let p = c.with_hash-hashed in
    let found = found_hashed _ g.K.PartialEq.eq g.K.Ord.cmp g.met.K.Ord.matches_eq (λ x y t. rw (g.met.K.Hash.respects_eq x y t) refl) p.result p.ensures.hash i.tree.entries c.self.invariant in
    rw (← c.self.view_is, ← p.ensures.key) (c.remove.ensures.value ∙ found)

pub returns-clause-updates : goal.returns-clause-updates
returns-clause-updates g c =
    let i = c.self.inside in
    let p = c.with_hash-hashed in
    rw (← c.self.view_is, ← p.ensures.key) (hashed_change _ g.K.PartialEq.eq g.K.Ord.cmp g.met.K.Ord.matches_eq (λ x y t. rw (g.met.K.Hash.respects_eq x y t) refl) p.result p.ensures.hash None i.tree.entries c.remove.new.self.entries c.self.invariant (invariant_of-self g c) c.remove.ensures.updates.0)
