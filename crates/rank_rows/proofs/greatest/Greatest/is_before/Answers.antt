use Rattle.std.proofs.Common.{◌≡◌, ◌≤◌, sym, ◌∙◌, length, drop, rules}
use Rattle.std.proofs.Math.ListN.{drop_of_length-le}
use Rattle.rank_rows.specs.Greatest.{is_behind, greatest_of}
use Rattle.rank_rows.proofs.GreatestName.{behind_none}
use Rattle.rank_rows.proofs.greatest.Greatest.is_before.Goals as goal

pub returns-clause-new : goal.returns-clause-new
returns-clause-new c =
    let run = c.args.run.now in
    let rest = drop c.args.self.now.rows run in
    let all : length rest ≤ c.loop-row.row-index = search rules in
    let name : c.loop-row.name ≡ greatest_of run = rw (drop_of_length-le rest all) at c.loop-row.invariant in
    let before : c.is_behind.result ≡ is_behind c.loop-row.name c.args.node.now = search rules in
    λ is. behind_none run c.args.node.now (rw name at (sym before ∙ is))
