use Rattle.std.proofs.Common.{◌≡◌, ◌∷◌, ap, sym, length, ◌∙◌, arith}
use Rattle.plan_state.specs.Found.{answers_from}
use Rattle.plan_state.specs.Wanted.{answer_to}
use Rattle.plan_state.proofs.Traces.{next_found, none_found, one_entry}
use Rattle.plan_state.proofs.trace_search.next_answer.Goals as goal

pub loop-k-preserved : goal.loop-k-preserved
loop-k-preserved c = (
  ap (λ x. x.entry) c.at.ensures,
  ap (answers_from c.args.wanted.now c.args.trace.now) c.at.ensures
      ∙ none_found (answer_to c.args.wanted.now) c.args.trace.now c.loop-k.cursor c.args.cursor.now c.loop-k.k c.index-trace-k.result c.as_slice.result.now (omega arith) c.loop-k.invariant.0 c.loop-k.invariant.1 c.index-trace-k.is (c.as_slice.ensures ∙ c.outputs.ensures) (c.answered.ensures.none c.in_default.is),
)

pub returns-in-Some-clause-found : goal.returns-in-Some-clause-found
returns-in-Some-clause-found c =
    let trace = c.args.trace.now in
    let k = c.loop-k.k in
    let outs = c.as_slice.result.now in
    let same : outs ≡ c.index-trace-k.result.outputs = c.as_slice.ensures ∙ c.outputs.ensures in
    let counted : length c.as_slice-in-Some.result.now ≡ length outs = one_entry trace k c.index-trace-k.result c.index-trace-k-in-Some.result outs c.as_slice-in-Some.result.now (omega arith) c.index-trace-k.is c.index-trace-k-in-Some.is same (c.as_slice-in-Some.ensures ∙ c.outputs-in-Some.ensures) in
    let there : answers_from c.args.wanted.now trace c.args.cursor.now ≡ c.in-Some.answer.bytes.now ∷ answers_from c.args.wanted.now trace c.behind.result =
    next_found (answer_to c.args.wanted.now) trace c.loop-k.cursor c.args.cursor.now c.behind.result k c.in-Some.answer.place (length c.as_slice-in-Some.result.now) c.in-Some.answer.bytes.now c.index-trace-k.result outs (omega arith) c.loop-k.invariant.0 c.loop-k.invariant.1 c.index-trace-k.is same c.in-Some.ensures.found.1 counted c.behind.ensures in
    there ∙ ap (λ b. b ∷ answers_from c.args.wanted.now trace c.behind.result) (sym c.in-Ok.ensures.items)
