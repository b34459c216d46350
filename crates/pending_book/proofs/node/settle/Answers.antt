use Rattle.std.proofs.Common.{rules, ◌≡◌, ◌<◌, ◌+◌, ℕ, true, Option, Some, None, length, ap, sym, ◌∙◌, subst}
use Rattle.std.specs.Prelude.{IfSome}
use Rattle.std.proofs.lemmas.List.{length-set}
use Rattle.request_slots.specs.declared.wait.Wait.{Wait}
use Rattle.request_slots.specs.Waits.{SlotsView, wait_at}
use Rattle.pending_book.specs.Waits.{waits_by}
use Rattle.pending_book.specs.NodeKept.{is_waiting}
use Rattle.pending_book.proofs.NodeWaiting.{has_entered, with_at}
use Rattle.pending_book.proofs.node.settle.Goals as goal

pub returns-clause-here : goal.returns-clause-here
returns-clause-here c =
    let old = c.args.waiting.now in
    let r = c.args.row.now in
    let place = c.args.place in
    let v : Wait = record { place = place; card = c.card.result; link = c.link-2.result; due = c.due_at-due.result.tick } in
    let waits : is_waiting r ≡ true = search rules in
    let before : place < length c.leave.new.self.waits = subst (λ (n : ℕ). place < n) (sym (ap (λ (s : SlotsView). length s.waits) c.leave.ensures ∙ length-set old.waits place None)) c.requires.place in
    let here : wait_at c.enter.new.self.waits place ≡ Some v = ap (λ (s : SlotsView). wait_at s.waits place) c.enter.ensures ∙ with_at c.leave.new.self.waits place (Some v) before in
    let ticks : c.of-ticks.result ≡ waits_by c.args.waits.now r.link r.asked = search rules in
    let opened : c.count.result ≡ r.count = search rules in
    let now : c.count-2.result ≡ old.count = search rules in
    has_entered c.args.waits.now old.count place c.due_at-due.result.is_known r v (wait_at c.enter.new.self.waits place) waits here c.link-2.ensures c.card.ensures
    (λ known t is later. subst (λ (n : ℕ). c.due_at-due.result.tick ≡ Some (n + t)) opened (c.due_at-due.ensures.known known t (ticks ∙ is) (rw (opened, now) later)))
    (λ d e.
    let t = subst (λ (o : Option ℕ). IfSome o (λ tick. (x : ℕ) × (c.of-ticks.result ≡ Some x) × (c.count.result + x ≡ tick))) e c.due_at-due.ensures.time in
    (t.0, sym ticks ∙ t.1, ap (λ n. n + t.0) (sym opened) ∙ t.2))
