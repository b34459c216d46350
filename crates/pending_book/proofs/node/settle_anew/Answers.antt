use Rattle.std.proofs.Common.{rules, ◌≡◌, ◌∙◌, true}
use Rattle.request_slots.specs.Waits.{wait_at}
use Rattle.pending_book.specs.NodeKept.{standing_of}
use Rattle.pending_book.proofs.NodeWaiting.{has_less, same_standing}
use Rattle.pending_book.proofs.node.settle_anew.Goals as goal

pub returns-then-eq-clause-here : goal.returns-then-eq-clause-here
returns-then-eq-clause-here c =
    let w = c.args.waits.now in
    let row = c.args.row.now in
    let o = wait_at c.args.waiting.now.waits c.args.place in
    let now : c.args.before ≡ standing_of row = search rules in
    λ timely r alike stands h. has_less w c.args.waiting.now.count timely true row o (same_standing w c.args.waiting.now.count timely r row o alike (stands ∙ now) h)
