use Rattle.std.proofs.Common.{◌≡◌, ◌≤◌, ◌+◌, ◌++◌, ◌&&◌, suc, length, map, List, ℕ, Bool, Some}
use Rattle.std.specs.Io.KnownBytes.{Appends}
use Rattle.card_digits.specs.Lines.{lines}
use Rattle.message_text.specs.Printed.{Printed}
use Rattle.message_text.proofs.answer.decode_lines.Given as goal

abbrev pub invariant-loop-line : goal.invariant-loop-line
invariant-loop-line g l = record {
  few : l.number + length l.rest ≤ length l.input;
  sent : List ℕ;
  sends : Appends (g.W.Sink.written l.fn.writer) (g.W.Sink.written l.writer) sent;
  counts : g.W.Sink.failures l.writer ≡ g.W.Sink.failures l.fn.writer;
  so_far : (text : List ℕ) (good : Bool) → Printed (suc l.number) (map (λ line. Some line) (lines l.rest)) text good → Printed 1 (map (λ line. Some line) (lines l.input)) ((sent ++ l.buffers.waiting.items) ++ text) (l.good && good);
}

abbrev pub decreases-loop-line : goal.decreases-loop-line
decreases-loop-line g l = length l.rest
