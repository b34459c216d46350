use Rattle.std.proofs.Common.{◌≡◌, ◌≤◌, ◌+◌, ◌++◌, ◌&&◌, suc, length, List, ℕ, Bool, Option}
use Rattle.std.specs.Io.KnownBytes.{Appends}
use Rattle.message_text.specs.Parts.{AreFrames}
use Rattle.message_text.specs.Printed.{Printed}
use Rattle.message_text.proofs.WrittenLemmas.{AreSmall}
use Rattle.message_text.proofs.answer.decode_frames.Given as goal

abbrev pub invariant-loop-rest : goal.invariant-loop-rest
invariant-loop-rest g l = record {
  few : l.number + length l.rest ≤ length l.input;
  small : AreSmall l.rest;
  sent : List ℕ;
  sends : Appends (g.W.Sink.written l.fn.writer) (g.W.Sink.written l.writer) sent;
  counts : g.W.Sink.failures l.writer ≡ g.W.Sink.failures l.fn.writer;
  so_far : (items : List (Option (List ℕ))) → AreFrames l.rest items → (whole : List (Option (List ℕ))) × AreFrames l.input whole
      × ((text : List ℕ) (good : Bool) → Printed (suc l.number) items text good → Printed 1 whole ((sent ++ l.buffers.waiting.items) ++ text) (l.good && good));
}

abbrev pub decreases-loop-rest : goal.decreases-loop-rest
decreases-loop-rest g l = length l.rest
