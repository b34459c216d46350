use Rattle.std.proofs.Common.{sym, ◌∙◌, refl}
use Rattle.bundle_text.proofs.Parting.{at_sign, line_on, none_left, part_at}
use Rattle.bundle_text.proofs.input_parts.first_part.Goals as goal

pub returns-then-is_separator : goal.returns-then-is_separator
returns-then-is_separator c =
    let h = at_sign c.args.text.now c.loop-tail.rest.now c.in-Some.tail.now c.loop-tail.invariant c.in-Some.ensures in
    part_at c.args.text.now c.in-Some.tail.now _ _ _ _ h c.first_line.ensures (sym c.is_separator.ensures ∙ c.if-is_separator.true) refl c.without_last.ensures

pub loop-tail-preserved : goal.loop-tail-preserved
loop-tail-preserved c =
    let h = at_sign c.args.text.now c.loop-tail.rest.now c.in-Some.tail.now c.loop-tail.invariant c.in-Some.ensures in
    line_on c.args.text.now c.in-Some.tail.now _ _ h c.first_line.ensures (sym c.is_separator.ensures ∙ c.if-is_separator.false)

pub returns : goal.returns
returns c = none_left c.args.text.now c.loop-tail.rest.now c.loop-tail.invariant c.in_default.ensures
