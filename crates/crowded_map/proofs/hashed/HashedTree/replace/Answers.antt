use Rattle.std.proofs.Common.{rules, refl, sym, Some, None, ◌≡◌, ◌∙◌}
use Rattle.std.specs.Map.{lookup}
use Rattle.crowded_map.proofs.ByHash.{found_hashed, hashed_set, hashed_change}
use Rattle.crowded_map.proofs.hashed.HashedTree.replace.Goals as goal

pub invariant_of-self : goal.invariant_of-self
invariant_of-self g c = rw c.in_err-old.ensures.none c.self.invariant

pub returns-in_err-old-clause-old : goal.returns-in_err-old-clause-old
returns-in_err-old-clause-old g c =
    let i = c.self.inside in
    let p = c.with_hash-hashed in
    let found = found_hashed _ g.K.PartialEq.eq g.K.Ord.cmp g.met.K.Ord.matches_eq (λ x y t. rw (g.met.K.Hash.respects_eq x y t) refl) p.result p.ensures.hash i.tree.entries c.self.invariant in
    let none : lookup (g.K.PartialEq.eq c.args.key.now) c.args.self.now ≡ None = rw (← c.self.view_is, ← p.ensures.key) (sym found ∙ sym c.in_err-old.ensures.old) in
    search rules

pub invariant_of-self-2 : goal.invariant_of-self-2
invariant_of-self-2 g c = rw c.in_ok-old.ensures.some (hashed_set _ _ c.args.value c.self.inside.tree.entries c.self.invariant)

pub returns-clause-old : goal.returns-clause-old
returns-clause-old g c =
    let i = c.self.inside in
    let p = c.with_hash-hashed in
    let found = found_hashed _ g.K.PartialEq.eq g.K.Ord.cmp g.met.K.Ord.matches_eq (λ x y t. rw (g.met.K.Hash.respects_eq x y t) refl) p.result p.ensures.hash i.tree.entries c.self.invariant in
    rw (← c.self.view_is, ← p.ensures.key) (c.in_ok-old.ensures.old ∙ found)

pub returns-clause-updates : goal.returns-clause-updates
returns-clause-updates g c =
    let i = c.self.inside in
    let p = c.with_hash-hashed in
    rw (← c.self.view_is, ← p.ensures.key) (hashed_change _ g.K.PartialEq.eq g.K.Ord.cmp g.met.K.Ord.matches_eq (λ x y t. rw (g.met.K.Hash.respects_eq x y t) refl) p.result p.ensures.hash (Some c.args.value) i.tree.entries c.replace_in.new.tree.entries c.self.invariant (invariant_of-self-2 g c) c.in_ok-old.ensures.updates)
