use Rattle.std.proofs.Common.{◌≡◌, Some, None, rules, sym, ap, ◌∙◌}
use Rattle.std.specs.Result.{result_ok}
use Rattle.rank_cert.specs.Reading.{prefix_of}
use Rattle.rank_cert.proofs.LineFields.{no_space, no_name, no_prefix, no_cut, no_prefix_cut, prefix_cut, a_row, ok_from, spelled_as}
use Rattle.rank_cert.proofs.row.row_of.Goals as goal

pub returns-in_err-name-clause-row : goal.returns-in_err-name-clause-row
returns-in_err-name-clause-row c = rw c.from_residual.ensures (sym (no_space c.args.line.now c.in_err-name.ensures))

pub returns-in_err-node-clause-row : goal.returns-in_err-node-clause-row
returns-in_err-node-clause-row c = rw c.from_residual-in_err-node.ensures (sym (no_name c.args.line.now _ _ c.in_ok-name.ensures (sym c.in_err-node.ensures)))

pub returns-in_err-text-clause-row : goal.returns-in_err-text-clause-row
returns-in_err-text-clause-row c =
    rw c.from_residual-in_err-text.ensures (sym (no_prefix c.args.line.now _ _ c.in_ok-name.ensures (no_cut _ c.in_err-text.ensures)))

pub returns-in_err-prefix-clause-row : goal.returns-in_err-prefix-clause-row
returns-in_err-prefix-clause-row c =
    let none : prefix_of c.in_ok-text.text.now ≡ None = sym (ap result_ok c.read-2.ensures) ∙ sym c.in_err-prefix.ensures.value in
    rw c.from_residual-in_err-prefix.ensures (sym (no_prefix c.args.line.now _ _ c.in_ok-name.ensures (no_prefix_cut _ _ _ c.in_ok-text.ensures none)))

pub returns-in_err-row-clause-row : goal.returns-in_err-row-clause-row
returns-in_err-row-clause-row c =
    let some : prefix_of c.in_ok-text.text.now ≡ Some c.in_ok-prefix.prefix = sym (ap result_ok c.read-2.ensures) ∙ sym c.in_ok-prefix.ensures.value in
    rw c.from_residual-in_err-row.ensures (c.in_err-row.ensures.row
    ∙ sym (a_row c.args.line.now _ c.in_ok-node.node _ c.in_ok-prefix.prefix c.in_ok-text.rank.now c.in_ok-name.ensures (sym c.in_ok-node.ensures) (prefix_cut _ _ _ _ c.in_ok-text.ensures some)))

pub invariant_of-spelled : goal.invariant_of-spelled
invariant_of-spelled c =
    let some : prefix_of c.in_ok-text.text.now ≡ Some c.in_ok-prefix.prefix = sym (ap result_ok c.read-2.ensures) ∙ sym c.in_ok-prefix.ensures.value in
    spelled_as c.in_ok-name.behind.now c.in_ok-text.text.now c.in_ok-text.rank.now c.in_ok-prefix.prefix c.in_ok-text.ensures (ok_from _ c.in_ok-prefix.prefix some) (search rules)

pub returns-clause-row : goal.returns-clause-row
returns-clause-row c =
    let some : prefix_of c.in_ok-text.text.now ≡ Some c.in_ok-prefix.prefix = sym (ap result_ok c.read-2.ensures) ∙ sym c.in_ok-prefix.ensures.value in
    c.in_ok-row.ensures.row
    ∙ sym (a_row c.args.line.now _ c.in_ok-node.node _ c.in_ok-prefix.prefix c.in_ok-text.rank.now c.in_ok-name.ensures (sym c.in_ok-node.ensures) (prefix_cut _ _ _ _ c.in_ok-text.ensures some))
