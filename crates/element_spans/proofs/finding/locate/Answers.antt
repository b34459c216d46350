use Rattle.std.proofs.Common.{◌≡◌, ◌+◌, ◌-◌, ◌^◌, ◌<◌, ◌≤◌, ◌++◌, length, map, take, drop, sym, ap, subst, ◌∙◌, arith, rules}
use Rattle.std.specs.Prelude.{All}
use Rattle.std.proofs.lemmas.List.{take_at}
use Rattle.element_spans.specs.declared.span.ElementSpan.{ElementSpan}
use Rattle.element_spans.specs.Spans.{LaysOut, Locates, moved, spans_from, end_from}
use Rattle.element_spans.proofs.SpanLemmas.{all_moved, spans_length, starts_fit}
use Rattle.element_spans.proofs.PlaceLemmas.{StandsAt, all_read, stands_behind}
use Rattle.element_spans.proofs.finding.locate.Goals as goal

pub overflow_sub-message : goal.overflow_sub-message
overflow_sub-message c =
    let laid = c.in-Ok-take_all.ensures.laid in
    let at = stands_behind c.args.message.now c.in-Ok.read.0 c.in-Ok.read.1 c.take_all.new.spans _ _ c.in-Ok.ensures.read laid in
    omega (arith, StandsAt.whole at, LaysOut.ended laid)

pub move_on-requires : goal.move_on-requires
move_on-requires c =
    let laid = c.in-Ok-take_all.ensures.laid in
    let es = LaysOut.elements laid in
    let by = length c.args.message.now - c.in-Ok-take_all.body.length in
    let at = stands_behind c.args.message.now c.in-Ok.read.0 c.in-Ok.read.1 c.take_all.new.spans _ _ c.in-Ok.ensures.read laid in
    let small : length c.args.message.now < 2 ^ 64 = search rules in
    let fits : end_from 0 es + by < 2 ^ 64 = omega (arith, StandsAt.whole at, LaysOut.ended laid, small) in
    let few : c.in-Ok-take_all.body.count ≤ length c.take_all.new.spans = omega (arith, c.if-body-spans.false) in
    subst (All (λ (s : ElementSpan). s.start + by < 2 ^ 64)) (sym (LaysOut.laid laid few)) (starts_fit by 0 es fits)

pub returns-clause-spans : goal.returns-clause-spans
returns-clause-spans c =
    let laid = c.in-Ok-take_all.ensures.laid in
    let es = LaysOut.elements laid in
    let message = c.args.message.now in
    let n = c.in-Ok-take_all.body.count in
    let by = length message - c.in-Ok-take_all.body.length in
    let at = stands_behind message c.in-Ok.read.0 c.in-Ok.read.1 c.take_all.new.spans _ _ c.in-Ok.ensures.read laid in
    let few : n ≤ length c.take_all.new.spans = omega (arith, c.if-body-spans.false) in
    let moved_on : c.move_on.new.spans ≡ spans_from (0 + by) es = c.move_on.ensures ∙ ap (map (moved by)) (LaysOut.laid laid few) ∙ all_moved by 0 es in
    let long : length c.move_on.new.spans ≡ n = ap length moved_on ∙ spans_length (0 + by) es ∙ sym (LaysOut.counted laid) in
    let start : 0 + by ≡ StandsAt.start at = omega (arith, StandsAt.whole at, LaysOut.ended laid) in
    let front : take n (c.move_on.new.spans ++ drop n c.take_all.new.spans) ≡ spans_from (StandsAt.start at) es = take_at c.move_on.new.spans (drop n c.take_all.new.spans) n long ∙ moved_on ∙ ap (λ k. spans_from k es) start in
    record {
      found = record { kind = c.in-Ok.read.0; elements = es };
      is_read = all_read message c.in-Ok.read.0 c.in-Ok.read.1 c.take_all.new.spans _ _ c.in-Ok.ensures.read laid;
      located = subst (Locates message es) (sym front) (StandsAt.there at);
    }
