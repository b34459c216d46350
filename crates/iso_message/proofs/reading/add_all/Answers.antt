use Rattle.std.proofs.Common.{◌≡◌, [], sym, ap, ◌∙◌, arith}
use Rattle.std.proofs.lemmas.Result.{err_from_is_err_and}
use Rattle.iso_message.specs.Elements.{with_all}
use Rattle.iso_message.specs.Messages.{marks}
use Rattle.iso_message.proofs.Steps.{marks_none, goes_on, ends}
use Rattle.iso_message.proofs.reading.add_all.Goals as goal

pub returns-in_err-rest-clause-value : goal.returns-in_err-rest-clause-value
returns-in_err-rest-clause-value c =
    let p = err_from_is_err_and c.from_residual.result c.from_residual.ensures.1 in
    rw (p.1, p.2) (ends c.in_err-rest.field-0.0 c.loop-left.parts.elements c.take_mark-number.result (marks c.args.last 64 c.take_mark-number.new.map) (marks c.args.last 64 c.loop-left.left) c.loop-left.rest.now _ c.take_mark-number.ensures c.in_err-rest.ensures.value c.loop-left.invariant.so_far)

pub loop-left-preserved : goal.loop-left-preserved
loop-left-preserved c = record {
  known = c.in_ok-rest.ensures.known;
  end = c.in_ok-rest.ensures.end;
  so_far = goes_on c.loop-left.parts.elements c.add_next.new.parts.elements c.take_mark-number.result (marks c.args.last 64 c.take_mark-number.new.map) (marks c.args.last 64 c.loop-left.left) c.loop-left.rest.now c.in_ok-rest.rest.now _ c.take_mark-number.ensures c.in_ok-rest.ensures.value c.loop-left.invariant.so_far;
}

pub returns-clause-value : goal.returns-clause-value
unfolding with_all
returns-clause-value c =
    let none : c.loop-left.left ≡ 0 = omega arith in
    let e : marks c.args.last 64 c.loop-left.left ≡ [] = ap (λ n. marks c.args.last 64 n) none ∙ marks_none c.args.last in
    sym c.loop-left.invariant.so_far ∙ ap (λ ns. with_all c.loop-left.parts.elements ns c.loop-left.rest.now) e
