use Rattle.std.proofs.Common.{rules, ◌≡◌, arith}
use Rattle.node_books.specs.Values.{waits_in}
use Rattle.node_books.proofs.Ticks.{all_waits}
use Rattle.node_books.proofs.waits.are_waits_in.Goals as goal

pub returns : goal.returns
returns c =
    let w = c.args.waits.now in
    let links = c.args.links.now in
    let all : w ≡ waits_in links c.args.host = all_waits w c.links-ticks.result.now links c.args.host c.links-ticks.ensures (omega arith) (omega arith) (λ k link lt e. c.loop-i.invariant k link (omega (arith, lt)) e) in
    (λ t. all, λ e. search rules)
