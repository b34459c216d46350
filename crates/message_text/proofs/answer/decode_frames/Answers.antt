use Rattle.std.proofs.Common.{◌+◌, ◌++◌, suc, [], ◌∷◌, length, Some, None, arith, sym}
use Rattle.std.proofs.KnownBytes.{Appends-trans}
use Rattle.std.proofs.lemmas.Bool.{eqb-true}
use Rattle.std.proofs.lemmas.List.{nil_from_length}
use Rattle.message_frames.specs.Frames.{frame}
use Rattle.message_frames.proofs.FrameLemmas.{second_front}
use Rattle.message_text.specs.Printed.{Sends, SendsBlock}
use Rattle.message_text.proofs.PrintLemmas.{frames_step, frames_end, cut_step, cut_some, behind_frame}
use Rattle.message_text.proofs.WrittenLemmas.{block_printed, front_written, some_frames, small_behind}
use Rattle.message_text.proofs.answer.decode_frames.Goals as goal

pub returns-in_default-add-clause-write : goal.returns-in_default-add-clause-write
returns-in_default-add-clause-write g c e =
    let l = c.loop-rest in
    let frame_is = c.in-Some.ensures.frame in
    let bytes = c.in-Some.bytes.now in
    let later = c.in-Some.later.now in
    let others = some_frames (length later) later (small_behind l.rest.now (frame bytes) later frame_is.1 l.invariant.small) (omega arith) in
    let w = l.invariant.so_far (Some bytes ∷ others.0) (later, frame_is.1, frame_is.0, others.1) in
    (w.0, w.1, front_written w.0 others.0 (Some bytes) l.number (l.number + 1) _ _ _ l.invariant.sent l.buffers.waiting.items l.good (omega arith) w.2 l.invariant.sends c.in_default-add.ensures.err)

pub loop-rest-preserved-in-Some : goal.loop-rest-preserved-in-Some
loop-rest-preserved-in-Some g c =
    let l = c.loop-rest in
    let frame_is = c.in-Some.ensures.frame in
    let bytes = c.in-Some.bytes.now in
    let later = c.in-Some.later.now in
    let b = c.in-Ok-add.ensures.ok in
    let more = Sends.sent (SendsBlock.sends b) in
    record {
      few = omega (arith, behind_frame l.rest.now bytes later frame_is.1, l.invariant.few);
      small = small_behind l.rest.now (frame bytes) later frame_is.1 l.invariant.small;
      sent = l.invariant.sent ++ more;
      sends = Appends-trans _ _ _ l.invariant.sent more l.invariant.sends (Sends.sends (SendsBlock.sends b));
      counts = rw c.in-Ok-add.ensures.counts l.invariant.counts;
      so_far = frames_step c.args.input.now l.rest.now bytes later l.number (l.number + 1) (l.invariant.sent ++ l.buffers.waiting.items) ((l.invariant.sent ++ more) ++ c.add.new.self.waiting.items) l.good c.in-Ok-add.fine
          (omega arith) frame_is l.invariant.so_far (block_printed (l.number + 1) (Some bytes) _ _ l.invariant.sent l.buffers.waiting.items c.add.new.self.waiting.items c.in-Ok-add.fine b);
    }

pub returns-in_default-add-2-clause-write : goal.returns-in_default-add-2-clause-write
returns-in_default-add-2-clause-write g c e =
    let l = c.loop-rest in
    let w = l.invariant.so_far (None ∷ []) c.in-None.ensures.frame in
    (w.0, w.1, front_written w.0 [] None l.number (l.number + 1) _ _ _ l.invariant.sent l.buffers.waiting.items l.good (omega arith) w.2 l.invariant.sends c.in_default-add-2.ensures.err)

pub loop-rest-preserved : goal.loop-rest-preserved
loop-rest-preserved g c =
    let l = c.loop-rest in
    let b = c.in-Ok-add-2.ensures.ok in
    let more = Sends.sent (SendsBlock.sends b) in
    record {
      few = omega (arith, cut_some l.rest.now c.in-None.ensures.frame, l.invariant.few);
      small = λ i. omega arith;
      sent = l.invariant.sent ++ more;
      sends = Appends-trans _ _ _ l.invariant.sent more l.invariant.sends (Sends.sends (SendsBlock.sends b));
      counts = rw c.in-Ok-add-2.ensures.counts l.invariant.counts;
      so_far = cut_step c.args.input.now l.rest.now l.number (l.number + 1) (l.invariant.sent ++ l.buffers.waiting.items) ((l.invariant.sent ++ more) ++ c.add-in-None.new.self.waiting.items) l.good c.in-Ok-add-2.fine
          (omega arith) c.in-None.ensures.frame l.invariant.so_far (block_printed (l.number + 1) None _ _ l.invariant.sent l.buffers.waiting.items c.add-in-None.new.self.waiting.items c.in-Ok-add-2.fine b);
    }

pub returns-in-Ok-send-clause-ok : goal.returns-in-Ok-send-clause-ok
returns-in-Ok-send-clause-ok g c =
    let l = c.loop-rest in
    let waiting = l.buffers.waiting.items in
    let done = frames_end c.args.input.now l.rest.now (suc l.number) (l.invariant.sent ++ waiting) l.good (nil_from_length l.rest.now (eqb-true _ _ (sym c.loop-rest-test.ensures))) l.invariant.so_far in
    (done.0, done.1, (l.invariant.sent ++ waiting, done.2, Appends-trans _ _ _ l.invariant.sent waiting l.invariant.sends c.in-Ok-send.ensures.sent))

pub returns-clause-write : goal.returns-clause-write
returns-clause-write g c e =
    let l = c.loop-rest in
    let waiting = l.buffers.waiting.items in
    let done = frames_end c.args.input.now l.rest.now (suc l.number) (l.invariant.sent ++ waiting) l.good (nil_from_length l.rest.now (eqb-true _ _ (sym c.loop-rest-test.ensures))) l.invariant.so_far in
    (done.0, done.1, (l.invariant.sent ++ waiting, l.good, done.2, second_front _ _ _ l.invariant.sent waiting l.invariant.sends c.in-Err.ensures.err))
