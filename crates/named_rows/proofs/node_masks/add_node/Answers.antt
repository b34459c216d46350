use Rattle.std.proofs.Common.{◌≡◌, ◌^◌, ◌==◌, ℕ, List, Some, cond, bit_or, sym, ◌∙◌}
use Rattle.std.specs.Cmp.Lexicographic.{pointwise}
use Rattle.prefix_map.specs.Values.{value_of}
use Rattle.named_rows.proofs.Masks.{node_first, node_more}
use Rattle.named_rows.proofs.node_masks.add_node.Goals as goal

pub returns-in_default-clause-nodes : goal.returns-in_default-clause-nodes
returns-in_default-clause-nodes c =
    node_first c.args.masks.now.entries c.reserve.new.self.entries c.get_or_insert.new.self.entries c.args.prefix c.args.node c.reserve.ensures.entries (sym c.in_default.ensures.old) (rw c.bit_of-bit.ensures at c.in_default.ensures.updates)

pub returns-clause-nodes : goal.returns-clause-nodes
returns-clause-nodes c =
    let old = c.args.masks.now.entries in
    let kept = c.get_or_insert.new.self.entries in
    let new = c.replace.new.self.entries in
    let p = c.args.prefix in
    let same : (q : List ℕ) → value_of q kept ≡ value_of q old = λ q. c.in-Some.ensures.updates q ∙ c.reserve.ensures.entries q in
    let some : value_of p kept ≡ Some c.in-Some.mask = c.in-Some.ensures.updates p ∙ sym c.in-Some.ensures.old in
    let is : c.replace.result ≡ Some c.in-Some.mask = c.replace.ensures.old ∙ some in
    let put : (q : List ℕ) → value_of q new ≡ cond (pointwise ◌==◌ p q) (Some (bit_or c.in-Some.mask (2 ^ c.args.node))) (value_of q kept) = λ q. rw (is, c.bit_of-bit.ensures) at c.replace.ensures.updates q in
    node_more old kept new p c.args.node same c.in-Some.mask some put
