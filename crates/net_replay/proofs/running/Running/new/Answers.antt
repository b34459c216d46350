use Rattle.std.proofs.Common.{◌≡◌, [], ◌∷◌, length, replicate, Some, sym, ap, subst, ◌∙◌, arith, length-append}
use Rattle.std.specs.Prelude.{slice_get}
use Rattle.network_law.specs.Checked.{IsChecked}
use Rattle.net_replay.proofs.Standing.{pushed_get, none_put, view_is}
use Rattle.net_replay.proofs.running.Running.new.Goals as goal

pub loop-node-preserved : goal.loop-node-preserved
loop-node-preserved c =
    let t = c.tables-tables.result.now in
    let inv = c.loop-node.invariant in
    let nodes = c.loop-node.nodes.items in
    let sent = c.loop-node.sent.items in
    let v = view_is c.in_ok-new.field-0 t c.loop-node.node [] (c.in_ok-new.ensures.0 ∙ sym c.tables-tables.ensures.tables) (c.in_ok-new.ensures.1 ∙ c.new.ensures) c.in_ok-new.ensures.2 in
    let count = ap length c.links.ensures.links in
    let kept = c.in_ok-new-2.ensures ∙ ap (λ k. replicate k []) count in (
      omega (arith, inv.0, ap length c.in_ok-push.ensures.items, length-append nodes (c.in_ok-new.field-0 ∷ [])),
      omega (arith, inv.1, ap length c.in_ok-push-2.ensures.items, length-append sent (c.in_ok-new-2.field-0 ∷ [])),
      (λ n less. ap (λ z. slice_get z n) c.in_ok-push.ensures.items ∙ pushed_get nodes c.in_ok-new.field-0 (λ k. Some (record { t = t; n = k; trace = [] })) (λ k lk. inv.2 k (omega (arith, lk, inv.0))) (ap (λ k. Some (record { t = t; n = k; trace = [] })) inv.0 ∙ ap Some (sym v)) n (omega (arith, less, inv.0))),
      (λ n less. ap (λ z. slice_get z n) c.in_ok-push-2.ensures.items ∙ pushed_get sent c.in_ok-new-2.field-0 (λ k. Some (replicate (length t.links) [])) (λ k lk. inv.3 k (omega (arith, lk, inv.1))) (ap Some (sym kept)) n (omega (arith, less, inv.1))),
    )

pub returns-clause-standing : goal.returns-clause-standing
returns-clause-standing c =
    let t = c.tables-tables.result.now in
    let inv = c.loop-node.invariant in
    let end : c.loop-node.node ≡ length t.nodes = omega (arith, ap length c.nodes-node-end.ensures.nodes, c.loop-node.auto, c.loop-node-test.false) in (
      subst IsChecked (sym c.tables-tables.ensures.tables) c.tables-tables.ensures.checked,
      record {
        nodes_are = (inv.0 ∙ end, λ n less. inv.2 n (omega (arith, less, end)));
        sent_are = (inv.1 ∙ end, λ n less. (replicate (length t.links) [], inv.3 n (omega (arith, less, end)), none_put (length t.links)));
        line_nodes_are = c.new-2.ensures.items;
        there = tt;
        legal = λ n less. tt;
      },
    )
