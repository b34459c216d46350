use Rattle.std.proofs.Common.{◌≡◌, ◌≤◌, ◌-◌, length, arith, rules}
use Rattle.card_digits.proofs.Known.{Consumes-trans}
use Rattle.message_frames.proofs.FrameLemmas.{read_part, part_within}
use Rattle.message_frames.proofs.frame.fill.Goals as goal

pub loop-done-preserved-in-Ok : goal.loop-done-preserved-in-Ok
loop-done-preserved-in-Ok g c =
    let done = c.loop-done.done in
    let buffer = c.loop-done.buffer in
    let part = c.read.new.buffer in
    let len : length part ≡ length buffer - done = search rules in
    let bound : c.in-Ok.n ≤ length part = c.in-Ok.ensures.bound in
    let both = read_part done c.in-Ok.n buffer part c.loop-done.invariant.within len bound in
    record {
      within = part_within done c.in-Ok.n buffer part c.loop-done.invariant.within bound;
      taken = rw both (Consumes-trans _ _ _ _ _ c.loop-done.invariant.taken c.in-Ok.ensures.bytes.0);
      counts = rw c.in-Ok.ensures.counts c.loop-done.invariant.counts;
      left = omega arith;
      spent = omega arith;
    }
