use Rattle.std.proofs.Common.{◌≡◌, ◌++◌, List, ℕ, map, drop, Bor}
use Rattle.std.specs.List.{concat}
use Rattle.replay_text.proofs.sending.push_pieces.Given as goal

abbrev pub invariant-loop-piece : goal.invariant-loop-piece
invariant-loop-piece l = record {
  done : List ℕ;
  added : l.waiting.items ≡ l.initial.waiting.items ++ done;
  whole : done ++ concat (map (λ (p : Bor (List ℕ)). p.now) (drop l.piece-index l.pieces)) ≡ concat (map (λ (p : Bor (List ℕ)). p.now) l.pieces);
}
