use Rattle.std.proofs.Common.{◌≡◌, ◌∷◌, ap, sym, length, ◌∙◌, arith}
use Rattle.plan_state.specs.Found.{ask_of, asks_from}
use Rattle.plan_state.proofs.Traces.{next_found, none_found, one_entry}
use Rattle.plan_state.proofs.trace_search.next_ask.Goals as goal

pub loop-k-preserved : goal.loop-k-preserved
loop-k-preserved c = (
  ap (λ x. x.entry) c.at.ensures,
  ap (asks_from c.args.trace.now) c.at.ensures
      ∙ none_found ask_of c.args.trace.now c.loop-k.cursor c.args.cursor.now c.loop-k.k c.index-trace-k.result c.as_slice.result.now (omega arith) c.loop-k.invariant.0 c.loop-k.invariant.1 c.index-trace-k.is (c.as_slice.ensures ∙ c.outputs.ensures) (c.asked.ensures.none c.in_default.is),
)

pub returns-in-Some-clause-found : goal.returns-in-Some-clause-found
returns-in-Some-clause-found c =
    let trace = c.args.trace.now in
    let k = c.loop-k.k in
    let outs = c.as_slice.result.now in
    let same : outs ≡ c.index-trace-k.result.outputs = c.as_slice.ensures ∙ c.outputs.ensures in
    let counted : length c.as_slice-in-Some.result.now ≡ length outs = one_entry trace k c.index-trace-k.result c.index-trace-k-in-Some.result outs c.as_slice-in-Some.result.now (omega arith) c.index-trace-k.is c.index-trace-k-in-Some.is same (c.as_slice-in-Some.ensures ∙ c.outputs-in-Some.ensures) in
    let there : asks_from trace c.args.cursor.now ≡ (c.in-Some.ask.number, c.in-Some.ask.bytes.now) ∷ asks_from trace c.behind.result =
    next_found ask_of trace c.loop-k.cursor c.args.cursor.now c.behind.result k c.in-Some.ask.place (length c.as_slice-in-Some.result.now) (c.in-Some.ask.number, c.in-Some.ask.bytes.now) c.index-trace-k.result outs (omega arith) c.loop-k.invariant.0 c.loop-k.invariant.1 c.index-trace-k.is same c.in-Some.ensures.found.1 counted c.behind.ensures in
    there ∙ ap (λ b. (c.in-Some.ask.number, b) ∷ asks_from trace c.behind.result) (sym c.in-Ok.ensures)
