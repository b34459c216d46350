use Rattle.std.proofs.Common.{◌≡◌, get_or, set, sym, ap, ◌∙◌}
use Rattle.node_machine.specs.Lists.{Row, row_key}
use Rattle.kept_messages.specs.Ways.{output_key}
use Rattle.pending_book.specs.NodeKept.{bit}
use Rattle.pending_book.proofs.NodePlaces.{place_within, has_key_at, changed_at, closed_open, closed_before}
use Rattle.pending_book.proofs.Unique.{key_turn}
use Rattle.pending_book.proofs.node.change.Goals as goal

pub after-requires : goal.after-requires
after-requires c = key_turn (output_key c.args.output) (row_key (get_or c.args.rows.now c.args.place c.index-rows-place.result)) (has_key_at (output_key c.args.output) c.args.rows.now c.args.place c.index-rows-place.result c.requires.place)

pub returns-then-was-clause-rows : goal.returns-then-was-clause-rows
returns-then-was-clause-rows c = ap (λ (r : Row). set c.args.rows.now c.args.place r) c.after.ensures ∙ changed_at c.args.output c.args.rows.now c.args.place c.index-rows-place.result c.requires.unique c.requires.place

pub returns-then-was-clause-closed : goal.returns-then-was-clause-closed
returns-then-was-clause-closed c =
    let lt = place_within (output_key c.args.output) c.args.rows.now c.args.place c.requires.place in
    closed_open c.args.rows.now c.args.place c.index-rows-place.result c.after.new.self c.is_open.result lt (sym c.is_open-was.ensures ∙ c.if-was.true) c.is_open.ensures

pub returns-else-was-clause-rows : goal.returns-else-was-clause-rows
returns-else-was-clause-rows c = ap (λ (r : Row). set c.args.rows.now c.args.place r) c.after.ensures ∙ changed_at c.args.output c.args.rows.now c.args.place c.index-rows-place.result c.requires.unique c.requires.place

pub returns-else-was-clause-closed : goal.returns-else-was-clause-closed
returns-else-was-clause-closed c =
    let lt = place_within (output_key c.args.output) c.args.rows.now c.args.place c.requires.place in
    let bits : bit c.is_open-was.result ≡ 0 = ap bit c.if-was.false in
    rw bits (closed_before c.args.output c.args.rows.now c.args.place c.index-rows-place.result c.after.new.self lt (sym c.is_open-was.ensures ∙ c.if-was.false) c.after.ensures)
