use Rattle.std.proofs.Common.{sym}
use Rattle.prefix_map.proofs.Written.{value_found, value_missing, value_nowhere}
use Rattle.prefix_map.proofs.map.PrefixMap.get.Goals as goal

pub returns-in-There : goal.returns-in-There
returns-in-There g c =
    let nodes = c.self.inside.nodes.items in
    let there = rw c.deref.ensures.value at c.in-There.ensures in
    rw (← c.self.view_is, c.value_at.ensures, c.deref-in-There.ensures.value) (sym (value_found nodes c.args.prefix.now c.in-There.at c.self.invariant there))

pub returns-in-Free : goal.returns-in-Free
returns-in-Free g c =
    let nodes = c.self.inside.nodes.items in
    let free = rw c.deref.ensures.value at c.in-Free.ensures in
    rw (← c.self.view_is) (sym (value_missing nodes c.args.prefix.now free.2))

pub returns-in-Empty : goal.returns-in-Empty
returns-in-Empty g c =
    let nodes = c.self.inside.nodes.items in
    let none = rw c.deref.ensures.value at c.in-Empty.ensures in
    rw (← c.self.view_is) (sym (value_nowhere nodes c.args.prefix.now none))
