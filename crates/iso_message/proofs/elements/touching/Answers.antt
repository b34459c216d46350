use Rattle.std.proofs.Common.{◌≡◌, false, get_or, sym, ◌∙◌, arith}
use Rattle.message_elements.specs.Table.{form_of}
use Rattle.iso_message.specs.Spelling.{is_binary}
use Rattle.iso_message.specs.Spans.{text_of}
use Rattle.iso_message.proofs.MessageLemmas.{any}
use Rattle.iso_message.proofs.RunLemmas.{got_below, within_got, within_there, spelled_first, spelled_behind}
use Rattle.iso_message.proofs.elements.touching.Goals as goal

pub loop-next-init : goal.loop-next-init
loop-next-init c =
    let spans = c.args.spans.now in
    let values = c.args.values.now in
    let within = within_got values spans c.args.place c.args.first c.requires.within c.requires.at in
    record {
      further = omega arith;
      bound = omega (arith, got_below spans c.args.place c.args.first c.requires.at);
      order = omega (arith, c.end-end.ensures);
      inside = omega (arith, c.end-end.ensures, within.inside);
      pieces = rw c.end-end.ensures (spelled_first values spans c.args.place c.args.first c.requires.within c.requires.at c.requires.spelled);
    }

pub loop-next-preserved : goal.loop-next-preserved
loop-next-preserved c =
    let spans = c.args.spans.now in
    let values = c.args.values.now in
    let next = c.loop-next.next in
    let s = get_or spans next any in
    let before = c.loop-next.invariant in
    let within = within_there values spans next c.loop-next-test.true c.requires.within in
    let other : is_binary (form_of s.number) ≡ false = sym c.is_binary.ensures ∙ c.if-is_binary.false in
    let touches : c.loop-next.end ≡ text_of s = omega (arith, c.text.ensures, c.if-text-end.false) in
    record {
      further = omega (arith, before.further);
      bound = omega (arith, c.loop-next-test.true);
      order = omega (arith, c.end-end-in-loop-next.ensures, before.order);
      inside = omega (arith, c.end-end-in-loop-next.ensures, within.inside);
      pieces = rw c.end-end-in-loop-next.ensures (spelled_behind values spans next (text_of c.args.first) _ c.loop-next-test.true c.requires.within other (omega (arith, touches, before.order)) (rw touches at before.pieces));
    }
