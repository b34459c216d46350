use Rattle.std.proofs.Common.{◌≡◌, ◌++◌, List, ℕ, map, drop, Bor}
use Rattle.std.specs.List.{concat}
use Rattle.message_text.specs.Printed.{Sends}
use Rattle.replay_text.proofs.sending.add_each.Given as goal

abbrev pub invariant-loop-piece : goal.invariant-loop-piece
invariant-loop-piece g l = record {
  done : List ℕ;
  sends : Sends (g.W.Sink.written l.fn.writer) (g.W.Sink.written l.writer) l.initial.waiting.items done l.waiting.items;
  counts : g.W.Sink.failures l.writer ≡ g.W.Sink.failures l.fn.writer;
  whole : done ++ concat (map (λ (p : Bor (List ℕ)). p.now) (drop l.piece-index l.pieces)) ≡ concat (map (λ (p : Bor (List ℕ)). p.now) l.pieces);
}
