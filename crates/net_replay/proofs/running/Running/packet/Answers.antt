use Rattle.std.proofs.Common.{◌≡◌, ℕ, List, length, reverse, Option, Some, None, refl, sym, ap, ◌∙◌, Bor, arith}
use Rattle.std.specs.Prelude.{slice_get, option_and_then, MatchOption}
use Rattle.std.specs.Option.{option_copied}
use Rattle.std.proofs.lemmas.List.{reverse-reverse}
use Rattle.std.proofs.lemmas.Option.{slice_get_read}
use Rattle.net_rows.specs.Network.{other_end}
use Rattle.network_law.specs.Cards.{Bytes}
use Rattle.network_law.specs.Entries.{Entry}
use Rattle.switch_node.specs.Node.{NodeView}
use Rattle.net_replay.specs.Packets.{bytes_at}
use Rattle.net_replay.specs.Replays.{WasSent}
use Rattle.net_replay.specs.Steps.{entries_at}
use Rattle.net_replay.proofs.Ends.{end_there}
use Rattle.net_replay.proofs.Sent.{packet_in, kept_was_sent, sent_is_kept}
use Rattle.net_replay.proofs.Standing.{node_at}
use Rattle.net_replay.proofs.running.Running.packet.Goals as goal

pub returns : goal.returns
returns c steps standing =
    let t = c.args.self.now.tables.now in
    let far = other_end t c.args.node c.args.link in
    let past : List Entry = entries_at far steps in
    let place : c.place-other.result ≡ far = c.place-other.ensures.place ∙ c.other_end.ensures in
    let less = end_there t standing.0 c.args.node c.args.link c.requires.own in
    let at = slice_get_read c.args.self.now.sent.items (length c.args.self.now.sent.items) c.place-other.result c.index.result.now refl (omega (arith, place, less, standing.1.sent_are.0)) c.index.ensures in
    let there : slice_get c.args.self.now.sent.items far ≡ Some c.index.result.now = ap (slice_get c.args.self.now.sent.items) (sym place) ∙ at in
    let view = node_at t c.args.self.now.nodes.items c.args.self.now.sent.items c.args.self.now.line_nodes.items steps standing.1 far less c.place-other.result c.index-2.result.now place c.index-2.ensures in
    let trace : c.trace.result.now ≡ reverse past = sym (reverse-reverse c.trace.result.now) ∙ ap reverse (c.trace.ensures.trace ∙ ap (λ (v : NodeView). v.trace) view) in
    let read : option_copied c.bytes_at.result ≡ packet_in past c.index.result.now c.args.link c.args.serial = c.bytes_at.ensures ∙ (ap (λ z. option_and_then (bytes_at z) c.get-place.result) trace ∙ ap (option_and_then (bytes_at (reverse past))) c.get-place.ensures) in
    go c.bytes_at.result past
    (kept_was_sent t c.args.self.now.nodes.items c.args.self.now.sent.items c.args.self.now.line_nodes.items steps standing.0 standing.1 c.args.node c.args.link c.args.serial c.requires.own c.index.result.now there)
    (sent_is_kept t c.args.self.now.nodes.items c.args.self.now.sent.items c.args.self.now.line_nodes.items steps standing.0 standing.1 c.args.node c.args.link c.args.serial c.requires.own c.index.result.now there)
    read
  where
    go : (r : Option (Bor (List ℕ))) (past : List Entry) → ((bytes : Bytes) → packet_in past c.index.result.now c.args.link c.args.serial ≡ Some bytes → WasSent c.args.self.now.tables.now steps c.args.node c.args.link c.args.serial bytes)
        → (packet_in past c.index.result.now c.args.link c.args.serial ≡ None → (bytes : Bytes) → WasSent c.args.self.now.tables.now steps c.args.node c.args.link c.args.serial bytes → ⊥)
        → option_copied r ≡ packet_in past c.index.result.now c.args.link c.args.serial
        → MatchOption r ((bytes : Bytes) → WasSent c.args.self.now.tables.now steps c.args.node c.args.link c.args.serial bytes → ⊥) (λ b. WasSent c.args.self.now.tables.now steps c.args.node c.args.link c.args.serial b.now)
    go None past f g e = g (sym e)
    go (Some b) past f g e = f b.now (sym e)
