use Rattle.std.proofs.Common.{sym, ◌∙◌}
use Rattle.prefix_map.specs.Walk.{pairs, next}
use Rattle.prefix_map.proofs.Lookups.{value_changed}
use Rattle.prefix_map.proofs.Walks.{tree_changed}
use Rattle.prefix_map.proofs.Written.{value_found, value_missing}
use Rattle.prefix_map.proofs.map.PrefixMap.replace.Goals as goal

pub invariant_of-self : goal.invariant_of-self
invariant_of-self g c =
    let nodes = c.self.inside.nodes.items in
    rw c.put.ensures.pairs (tree_changed (pairs nodes) (next nodes) (next c.put.new.nodes.items) c.in-There.at c.args.value c.self.invariant c.put.ensures.next)

pub returns-in-There-clause-old : goal.returns-in-There-clause-old
returns-in-There-clause-old g c =
    let nodes = c.self.inside.nodes.items in
    let there = rw c.deref.ensures.value at c.in-There.ensures in
    rw (← c.self.view_is) (sym (value_found nodes c.args.prefix.now c.in-There.at c.self.invariant there ∙ c.put.ensures.old))

pub returns-in-There-clause-updates : goal.returns-in-There-clause-updates
returns-in-There-clause-updates g c =
    let nodes = c.self.inside.nodes.items in
    let there = rw c.deref.ensures.value at c.in-There.ensures in
    rw (← c.self.view_is, c.put.ensures.pairs) (value_changed c.args.prefix.now c.args.value (pairs nodes) c.in-There.at there (λ j h. c.self.invariant.single j c.in-There.at c.args.prefix.now h there))

pub returns-in-Free-clause-old : goal.returns-in-Free-clause-old
returns-in-Free-clause-old g c =
    let free = rw c.deref.ensures.value at c.in-Free.ensures in
    rw (← c.self.view_is) (sym (value_missing c.self.inside.nodes.items c.args.prefix.now free.2))
