use Rattle.std.proofs.Common.{◌≡◌, Some, length, ap, ◌∙◌, arith}
use Rattle.prefix_map.specs.Walk.{next, pairs}
use Rattle.prefix_map.proofs.Walks.{tree_behind}
use Rattle.prefix_map.proofs.Written.{pairs_length}
use Rattle.prefix_map.proofs.node.add_behind.Goals as goal

pub returns-clause-tree : goal.returns-clause-tree
returns-clause-tree g c =
    let old = c.args.nodes.now.items in
    let len : length (pairs old) ≡ length old = pairs_length old in
    let place : c.len-place.result ≡ length (pairs old) = omega arith in
    rw (c.link.ensures.pairs, c.push.ensures.pairs) (tree_behind (pairs old) (next old) (next c.link.new.nodes.items) c.args.prefix c.args.value c.args.at c.args.digit c.requires.tree c.requires.free.2 c.requires.free.3
    (c.link.ensures.now ∙ ap (λ n. Some n) place) (λ i d apart. c.link.ensures.others i d apart ∙ c.push.ensures.next i d))
