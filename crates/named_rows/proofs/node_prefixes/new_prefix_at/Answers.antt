use Rattle.std.proofs.Common.{◌<◌, length, sym, ◌∙◌, arith}
use Rattle.std.proofs.lemmas.Bool.{not-false}
use Rattle.named_rows.proofs.Again.{insert_again}
use Rattle.named_rows.proofs.node_prefixes.new_prefix_at.Goals as goal

pub returns-then-not-branch-clause-stays : goal.returns-then-not-branch-clause-stays
returns-then-not-branch-clause-stays c =
    let within : c.in_ok-node.node < length c.args.taken.now = omega (arith, c.requires, c.in_ok-node.ensures.within) in
    c.in_ok-insert.ensures.set ∙ insert_again c.args.taken.now c.in_ok-node.node c.in_ok-prefix.prefix within (not-false _ (sym c.in_ok-insert.ensures.new ∙ c.if-not-branch.true))
