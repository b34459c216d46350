use Rattle.std.proofs.Common.{rules, ◌≡◌, ◌+◌, ◌&&◌, Some, None, sym, ap, ◌∙◌, get_or}
use Rattle.std.specs.Prelude.{count_by}
use Rattle.node_machine.specs.Lists.{row_pending}
use Rattle.kept_messages.specs.Ways.{output_key}
use Rattle.node_machine.specs.Lists.{row_after}
use Rattle.pending_book.specs.NodeKept.{place_of, bit, standing_of}
use Rattle.pending_book.proofs.NodePlaces.{found_none, place_within}
use Rattle.pending_book.proofs.At.{mapped_get}
use Rattle.pending_book.proofs.Unique.{quiet_all}
use Rattle.pending_book.proofs.NodeWaiting.{kept_after, waiting_after}
use Rattle.pending_book.proofs.node.NodeRequests.after.Goals as goal
use Rattle.pending_book.proofs.node.NodeRequests.after.Goals.{then-self, else-self}

pub index-requires : goal.index-requires
index-requires c =
    let at : place_of (output_key c.args.output) c.self.inside.rows.items ≡ Some c.in-Some.place = search rules in
    let lt = place_within (output_key c.args.output) c.self.inside.rows.items c.in-Some.place at in
    search rules

pub index-row-requires : goal.index-row-requires
index-row-requires c =
    let at : place_of (output_key c.args.output) c.self.inside.rows.items ≡ Some c.in-Some.place = search rules in
    let lt = place_within (output_key c.args.output) c.self.inside.rows.items c.in-Some.place at in
    let n = c.change_in-closed.ensures.len in
    search rules

pub settle_anew-is_known-requires-clause-place : goal.settle_anew-is_known-requires-clause-place
settle_anew-is_known-requires-clause-place c =
    let at : place_of (output_key c.args.output) c.self.inside.rows.items ≡ Some c.in-Some.place = search rules in
    let lt = place_within (output_key c.args.output) c.self.inside.rows.items c.in-Some.place at in
    rw c.self.invariant.0.waiting.places lt

pub invariant_of-self : goal.invariant_of-self
invariant_of-self c =
    let i = c.self.inside in
    let o = c.args.output in
    let place = c.in-Some.place in
    let d = c.index.result.now in
    let at : place_of (output_key o) i.rows.items ≡ Some place = search rules in
    let lt = place_within (output_key o) i.rows.items place at in
    let rows = c.change_in-closed.ensures.rows in
    let e = c.settle_anew-is_known.ensures in
    let known = c.settle_anew-is_known.result in
    let new = c.settle_anew-is_known.new.waiting in
    let row : c.index-row.result.now ≡ row_after o (get_or i.rows.items place d) = c.index-row.ensures ∙ (ap (λ (rs : _). get_or rs place c.index-row.result.now) rows ∙ mapped_get (row_after o) i.rows.items place d c.index-row.result.now lt) in
    let before : c.standing_of-before.result ≡ standing_of (get_or i.rows.items place d) = c.standing_of-before.ensures ∙ ap standing_of c.index.ensures in
    let waiting = waiting_after i.waits i.waiting.count i.is_timely known o i.rows.items place d c.index-row.result.now c.standing_of-before.result i.waiting.waits new.waits c.self.invariant.0.waiting c.self.invariant.0.unique at lt before row e.here e.others e.places in
    let both : c.if-self.self ≡ (i.is_timely && known) = elim c.if-self.branch [
      | then-self w ↦ w.self-is ∙ sym (ap (λ b. b && known) w.if-self.true)
      | else-self w ↦ w.self-is ∙ (w.if-self.false ∙ sym (ap (λ b. b && known) w.if-self.false))
    ] in
    let kept = kept_after o i.rows.items i.places.entries i.pending c.less-self-inside.result c.change_in-closed.result i.waits i.waiting new i.is_timely known c.self.invariant.0
    (ap (λ xs. count_by row_pending xs + bit c.change_in-closed.result) (sym rows) ∙ c.change_in-closed.ensures.closed)
    c.less-self-inside.ensures
    (rw e.count waiting)
    in
    (rw (rows, both) kept, search rules)

pub returns-in_default : goal.returns-in_default
returns-in_default c =
    let none : place_of (output_key c.args.output) c.self.inside.rows.items ≡ None = search rules in
    let same = quiet_all c.args.output c.self.inside.rows.items (found_none (output_key c.args.output) c.self.inside.rows.items none) in
    rw (← c.self.view_is, same) (search rules)
