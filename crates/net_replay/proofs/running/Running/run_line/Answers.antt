use Rattle.std.proofs.Common.{◌≡◌, ℕ, ◌++◌, ◌∷◌, [], List, length, Some, None, get_or-set_same, refl, sym, ap, ◌∙◌, subst, arith, ◌⊎◌, true, not}
use Rattle.std.specs.Result.{is_ok}
use Rattle.std.proofs.lemmas.List.{length-reverse}
use Rattle.network_law.specs.Entries.{Entry}
use Rattle.network_law.specs.Runs.{IsStep, NamesOwnLink, step_refusal, step_outputs}
use Rattle.network_law.specs.declared.fault.StepFault.TheVariants.{Memory as NoMemory}
use Rattle.replay_script.specs.Lines.{said, event_of}
use Rattle.net_replay.specs.Replays.{IsSaidFault}
use Rattle.net_rows.specs.Network.{Network}
use Rattle.switch_node.specs.Node.{NodeView, newest_outputs}
use Rattle.net_replay.specs.Steps.{entries_at}
use Rattle.net_replay.specs.Packets.{put_all}
use Rattle.net_replay.proofs.Reading.{line_placed, own_input}
use Rattle.net_replay.proofs.Standing.{one_more, view_is, refused, node_at, links_at}
use Rattle.net_replay.proofs.running.Running.run_line.Goals as goal

pub index-requires : goal.index-requires
index-requires c = omega (arith, c.place-place.ensures.place, (line_placed c.args.self.now.tables.now c.requires.said.0 _ c.requires.said.1).0, c.requires.standing.1.1.nodes_are.0)

pub index_mut-requires : goal.index_mut-requires
index_mut-requires c = omega (arith, c.place-place.ensures.place, (line_placed c.args.self.now.tables.now c.requires.said.0 _ c.requires.said.1).0, c.requires.standing.1.1.nodes_are.0)

pub index_mut-requires-2 : goal.index_mut-requires-2
index_mut-requires-2 c = omega (arith, c.place-place.ensures.place, (line_placed c.args.self.now.tables.now c.requires.said.0 _ c.requires.said.1).0, c.requires.standing.1.1.sent_are.0)

pub advance-requires : goal.advance-requires
advance-requires c =
    let t = c.args.self.now.tables.now in
    let n = c.args.line.now.node in
    let steps = c.requires.standing.0 in
    let at = c.requires.standing.1.1 in
    let placed = line_placed t c.requires.said.0 _ c.requires.said.1 in
    let view = node_at t c.args.self.now.nodes.items c.args.self.now.sent.items c.args.self.now.line_nodes.items steps at n placed.0 c.place-place.result c.index_mut.result.now c.place-place.ensures.place c.index_mut.ensures.value in
    record { own = subst (λ (v : NodeView). NamesOwnLink v.t v.n c.in_ok-input.input) (sym view) (own_input t steps n (event_of c.args.line.now.command) c.in_ok-input.input (c.in_ok-input.ensures.input steps c.requires.standing.1) placed.1) }

pub returns-in-Err-clause-fault : goal.returns-in-Err-clause-fault
returns-in-Err-clause-fault c aside steps standing =
    let t = c.args.self.now.tables.now in
    let n = c.args.line.now.node in
    let at = standing.1 in
    let placed = line_placed t c.requires.said.0 _ c.requires.said.1 in
    let view = node_at t c.args.self.now.nodes.items c.args.self.now.sent.items c.args.self.now.line_nodes.items steps at n placed.0 c.place-place.result c.index_mut.result.now c.place-place.ensures.place c.index_mut.ensures.value in
    subst (IsSaidFault t steps c.args.number (said c.args.line.now)) (sym c.step_fault.ensures)
    (refused t steps c.args.number (said c.args.line.now) c.in_ok-input.input c.in-Err.fault (λ e. aside (c.step_fault.ensures ∙ e)) (c.in_ok-input.ensures.input steps standing)
    (subst (λ (v : NodeView). (c.in-Err.fault ≡ NoMemory) ⊎ (step_refusal v.t v.n v.trace c.in_ok-input.input ≡ Some c.in-Err.fault)) view c.in-Err.ensures.fault))

pub index-requires-2 : goal.index-requires-2
index-requires-2 c = omega (arith, c.place-place.ensures.place, (line_placed c.args.self.now.tables.now c.requires.said.0 _ c.requires.said.1).0, c.requires.standing.1.1.nodes_are.0)

pub returns-clause-made : goal.returns-clause-made
returns-clause-made c steps standing =
    let t : Network = c.args.self.now.tables.now in
    let n : ℕ = c.args.line.now.node in
    let at = standing.1 in
    let placed = line_placed t c.requires.said.0 _ c.requires.said.1 in
    let es : List Entry = entries_at n steps in
    let e : Entry = record { input = c.in_ok-input.input; outputs = step_outputs t n es c.in_ok-input.input } in
    let view = node_at t c.args.self.now.nodes.items c.args.self.now.sent.items c.args.self.now.line_nodes.items steps at n placed.0 c.place-place.result c.index_mut.result.now c.place-place.ensures.place c.index_mut.ensures.value in
    let first = node_at t c.args.self.now.nodes.items c.args.self.now.sent.items c.args.self.now.line_nodes.items steps at n placed.0 c.place-place.result c.index.result.now c.place-place.ensures.place c.index.ensures in
    let links = links_at t c.args.self.now.nodes.items c.args.self.now.sent.items c.args.self.now.line_nodes.items steps at n placed.0 c.place-place.result c.index_mut-2.result.now c.place-place.ensures.place c.index_mut-2.ensures.value in
    let input = c.in_ok-input.ensures.input steps standing in
    let step : IsStep t n es e = record {
      own = own_input t steps n (event_of c.args.line.now.command) c.in_ok-input.input input placed.1;
      typed = c.in_ok-input.ensures.typed;
      accepted = subst (λ (v : NodeView). step_refusal v.t v.n v.trace c.in_ok-input.input ≡ None) view c.in_default-advance.ensures.accepted;
      outputs = refl;
    } in
    let now = view_is c.advance.new.self t n (e ∷ es) (c.in_default-advance.ensures.same.0 ∙ ap (λ (v : NodeView). v.t) view) (c.in_default-advance.ensures.same.1 ∙ ap (λ (v : NodeView). v.n) view) (c.in_default-advance.ensures.entry ∙ ap (λ (v : NodeView). (record { input = c.in_ok-input.input; outputs = step_outputs v.t v.n v.trace c.in_ok-input.input }) ∷ v.trace) view) in
    let newest : c.index-2.result.now ≡ c.advance.new.self = c.index-2.ensures ∙ get_or-set_same c.args.self.now.nodes.items c.place-place.result c.advance.new.self c.index-2.result.now (omega (arith, c.place-place.ensures.place, placed.0, at.nodes_are.0)) in
    let outs : c.newest_outputs-outputs.result.now ≡ e.outputs = c.newest_outputs-outputs.ensures ∙ ap (λ (v : NodeView). newest_outputs v.trace) (newest ∙ now) in
    let len : length c.trace-count.result.now ≡ length es = sym (length-reverse c.trace-count.result.now) ∙ ap length (c.trace-count.ensures.trace ∙ ap (λ (v : NodeView). v.trace) first) in
    let entry : c.in-Ok.entry ≡ length es = c.in-Ok.ensures.1 ∙ len in
    let sent : c.put_all.new.self ≡ put_all c.index_mut-2.result.now (length es) 0 e.outputs = c.in_ok-put_all.ensures ∙ (ap (λ k. put_all c.index_mut-2.result.now k 0 c.newest_outputs-outputs.result.now) entry ∙ ap (put_all c.index_mut-2.result.now (length es) 0) outs) in
    let ok : is_ok c.push.result ≡ true = c.is_err.ensures.negation ∙ ap not c.if-is_err.false in
    let pushed : c.push.new.self.items ≡ c.args.self.now.line_nodes.items ++ n ∷ [] = c.push.ensures.items ∙ rw ok refl in
    (record { node = n; entry = e }, record { node = refl; input = input; step = step }, (standing.0, rw (c.place-place.ensures.place, now, sent, pushed) (one_more t c.args.self.now.nodes.items c.args.self.now.sent.items c.args.self.now.line_nodes.items steps at n placed.0 e step c.index_mut-2.result.now links)))
