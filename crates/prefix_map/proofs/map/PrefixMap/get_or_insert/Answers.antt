use Rattle.std.proofs.Common.{sym, ◌∙◌}
use Rattle.prefix_map.specs.Walk.{pairs}
use Rattle.prefix_map.proofs.Lookups.{value_added}
use Rattle.prefix_map.proofs.Written.{value_found, value_missing, value_nowhere}
use Rattle.prefix_map.proofs.map.PrefixMap.get_or_insert.Goals as goal

pub returns-in-Free-clause-old : goal.returns-in-Free-clause-old
returns-in-Free-clause-old g c =
    let free = rw c.deref.ensures.value at c.in-Free.ensures in
    rw (← c.self.view_is) (sym (value_missing c.self.inside.nodes.items c.args.prefix free.2))

pub returns-in-Free-clause-updates : goal.returns-in-Free-clause-updates
returns-in-Free-clause-updates g c =
    let nodes = c.self.inside.nodes.items in
    let free = rw c.deref.ensures.value at c.in-Free.ensures in
    rw (← c.self.view_is, c.add_behind.ensures.pairs) (value_added c.args.prefix c.args.value (pairs nodes) (value_missing nodes c.args.prefix free.2))

pub returns-in-Empty-clause-updates : goal.returns-in-Empty-clause-updates
returns-in-Empty-clause-updates g c =
    let nodes = c.self.inside.nodes.items in
    let none = rw c.deref.ensures.value at c.in-Empty.ensures in
    rw (← c.self.view_is, c.add_first.ensures.pairs) (value_added c.args.prefix c.args.value (pairs nodes) (value_nowhere nodes c.args.prefix none))

pub returns-in-There-clause-old : goal.returns-in-There-clause-old
returns-in-There-clause-old g c =
    let nodes = c.self.inside.nodes.items in
    let there = rw c.deref.ensures.value at c.in-There.ensures in
    rw (← c.self.view_is) (c.copied.ensures ∙ c.value_at.ensures ∙ rw c.deref-in-There.ensures.value (sym (value_found nodes c.args.prefix c.in-There.at c.self.invariant there)))
