use Rattle.std.proofs.Common.{◌+◌, ◌++◌, suc, map, List, ℕ, Some, arith, sym, subst}
use Rattle.std.proofs.KnownBytes.{Appends-trans}
use Rattle.message_frames.proofs.FrameLemmas.{second_front}
use Rattle.card_digits.specs.Lines.{lines}
use Rattle.message_text.specs.Printed.{Printed, Sends, SendsBlock}
use Rattle.message_text.proofs.PrintLemmas.{lines_step, lines_end}
use Rattle.message_text.proofs.WrittenLemmas.{block_printed, front_written}
use Rattle.message_text.proofs.answer.decode_lines.Goals as goal

pub returns-in_default-add-clause-write : goal.returns-in_default-add-clause-write
returns-in_default-add-clause-write g c e =
    let l = c.loop-line in
    let later = map (λ line. Some line) (lines c.in-Some.later.now) in
    front_written (map (λ line. Some line) (lines c.args.input.now)) later (Some c.in-Some.line.now) l.number (l.number + 1) _ _ _ l.invariant.sent l.buffers.waiting.items l.good (omega arith)
    (λ text others p. l.invariant.so_far text others (subst (λ (ls : List (List ℕ)). Printed (suc l.number) (map (λ line. Some line) ls) text others) (sym c.in-Some.ensures.line) p))
    l.invariant.sends c.in_default-add.ensures.err

pub loop-line-preserved : goal.loop-line-preserved
loop-line-preserved g c =
    let l = c.loop-line in
    let b = c.in-Ok-add.ensures.ok in
    let more = Sends.sent (SendsBlock.sends b) in
    record {
      few = omega (arith, c.in-Some.ensures.shorter, l.invariant.few);
      sent = l.invariant.sent ++ more;
      sends = Appends-trans _ _ _ l.invariant.sent more l.invariant.sends (Sends.sends (SendsBlock.sends b));
      counts = rw c.in-Ok-add.ensures.counts l.invariant.counts;
      so_far = lines_step (map (λ line. Some line) (lines c.args.input.now)) l.rest.now c.in-Some.line.now c.in-Some.later.now l.number (l.number + 1)
          (l.invariant.sent ++ l.buffers.waiting.items) ((l.invariant.sent ++ more) ++ c.add.new.self.waiting.items) l.good c.in-Ok-add.fine (omega arith) c.in-Some.ensures.line l.invariant.so_far
          (block_printed (l.number + 1) (Some c.in-Some.line.now) _ _ l.invariant.sent l.buffers.waiting.items c.add.new.self.waiting.items c.in-Ok-add.fine b);
    }

pub returns-in-Ok-send-clause-ok : goal.returns-in-Ok-send-clause-ok
returns-in-Ok-send-clause-ok g c =
    let l = c.loop-line in
    let waiting = l.buffers.waiting.items in (
      l.invariant.sent ++ waiting,
      lines_end (map (λ line. Some line) (lines c.args.input.now)) l.rest.now (suc l.number) (l.invariant.sent ++ waiting) l.good c.in_default-first_line.ensures.line l.invariant.so_far,
      Appends-trans _ _ _ l.invariant.sent waiting l.invariant.sends c.in-Ok-send.ensures.sent,
    )

pub returns-clause-write : goal.returns-clause-write
returns-clause-write g c e =
    let l = c.loop-line in
    let waiting = l.buffers.waiting.items in (
      l.invariant.sent ++ waiting,
      l.good,
      lines_end (map (λ line. Some line) (lines c.args.input.now)) l.rest.now (suc l.number) (l.invariant.sent ++ waiting) l.good c.in_default-first_line.ensures.line l.invariant.so_far,
      second_front _ _ _ l.invariant.sent waiting l.invariant.sends c.in-Err.ensures.err,
    )
