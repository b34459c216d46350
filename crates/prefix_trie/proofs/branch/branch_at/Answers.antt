use Rattle.std.proofs.Common.{get_or, take, arith}
use Rattle.std.proofs.lemmas.List.{take_more}
use Rattle.prefix_trie.proofs.Same.{way_from_root, way_on, way_inside}
use Rattle.prefix_trie.proofs.branch.branch_at.Goals as goal

pub loop-digit-init : goal.loop-digit-init
loop-digit-init c = way_from_root c.args.branches.now.items c.add_root.new.branches.items c.in_ok-add_root.ensures.same c.in_ok-add_root.ensures.root

pub step-requires-clause-within : goal.step-requires-clause-within
step-requires-clause-within c = way_inside _ _ _ _ c.loop-digit.invariant

pub step-requires-clause-tree : goal.step-requires-clause-tree
step-requires-clause-tree c = c.loop-digit.invariant.same.tree

pub loop-digit-preserved : goal.loop-digit-preserved
loop-digit-preserved c =
    let more = take_more c.args.digits.now c.loop-digit.digit-index 0 (omega arith) in
    let root = c.loop-digit.invariant.root in
    let longer = c.step.ensures.longer in
    rw more (way_on c.args.branches.now.items c.loop-digit.branches.items c.step.new.branches.items (take c.loop-digit.digit-index c.args.digits.now) c.loop-digit.at (get_or c.args.digits.now c.loop-digit.digit-index 0) c.in_ok-at.at
    c.loop-digit.invariant c.step.ensures.same c.in_ok-at.ensures.to c.in_ok-at.ensures.some (omega arith))
