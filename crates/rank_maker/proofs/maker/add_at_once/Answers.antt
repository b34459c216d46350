use Rattle.std.proofs.Common.{◌≡◌, ◌-◌, ◌≤◌, true, ap, refl, subst, ◌∙◌, length, take, arith, rules}
use Rattle.std.proofs.lemmas.List.{length-take-le}
use Rattle.rank_maker.specs.Adding.{AddsOf}
use Rattle.rank_maker.proofs.Added.{all_added}
use Rattle.rank_maker.proofs.maker.add_at_once.Goals as goal

pub returns-clause-yes : goal.returns-clause-yes
returns-clause-yes c = λ is.
    let yes : c.in_ok-repeat_run.field-0 ≡ true = cc in
    let old = c.args.cert.now in
    let rows = length c.rows-rows.result.now in
    let nodes = length c.nodes-nodes.result.now in
    let ranks = c.in_ok-ranks.ranks in
    let all : rows ≡ length old = ap length c.rows-rows.ensures.rows in
    let enough : nodes ≤ rows = search rules in
    let few : nodes ≤ 64 = search rules in
    let size : length ranks ≡ 64 = search rules in
    let many : length (take nodes ranks) ≡ nodes = length-take-le nodes ranks (omega (arith, size, few)) in
    let same : length (take nodes ranks) ≡ length c.args.routes.now.tables.now.nodes = many ∙ ap length c.nodes-nodes.ensures.nodes in
    subst (λ count. AddsOf c.args.class.now count old c.repeat_run.new.self) same
    (all_added c.args.class.now (take nodes ranks) old c.repeat_run.new.self (rows - nodes) (omega (arith, many, all, enough)) (c.in_ok-repeat_run.ensures.yes (rw yes refl)))
