use Rattle.std.proofs.Common.{refl, ◌∙◌}
use Rattle.crowded_map.proofs.ByHash.{found_hashed}
use Rattle.crowded_map.proofs.hashed.HashedTree.get.Goals as goal

pub returns : goal.returns
returns g c =
    let i = c.self.inside in
    let p = c.with_hash-hashed in
    let found = found_hashed _ g.K.PartialEq.eq g.K.Ord.cmp g.met.K.Ord.matches_eq (λ x y t. rw (g.met.K.Hash.respects_eq x y t) refl) p.result p.ensures.hash i.tree.entries c.self.invariant in
    rw (← c.self.view_is, ← p.ensures.key) (c.get.ensures.value ∙ found)
