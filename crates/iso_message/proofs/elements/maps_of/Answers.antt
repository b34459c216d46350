use Rattle.std.proofs.Common.{◌≡◌, ◌≤◌, ◌<◌, ◌-◌, ◌*◌, ◌%◌, ◌^◌, get_or, ap, arith}
use Rattle.std.proofs.lemmas.Nat.{one_shl}
use Rattle.iso_message.specs.Spans.{numbers}
use Rattle.iso_message.specs.Spelling.{bits}
use Rattle.iso_message.proofs.Maps.{any, order_at, low_at, high_at, low_fits, high_fits}
use Rattle.iso_message.proofs.elements.maps_of.Goals as goal
use Rattle.iso_message.proofs.elements.maps_of.Goals.{then-span-le64, else-span-le64}

pub overflow_add-low : goal.overflow_add-low
overflow_add-low c =
    let spans = c.args.spans.now in
    let i = c.loop-span.span-index in
    let o = order_at spans i c.loop-span-test.true c.loop-span.invariant.order in
    let shl : (1 * 2 ^ (64 - (get_or spans i any).number)) % 2 ^ 64 ≡ 2 ^ (64 - (get_or spans i any).number) = one_shl (64 - (get_or spans i any).number) 64 (omega (arith, o.0)) in
    let at = low_at spans i c.loop-span-test.true c.if-span-le64.true in
    rw shl (omega (arith, c.loop-span.invariant.low, at.0, low_fits (numbers spans) c.requires))

pub overflow_add-high : goal.overflow_add-high
overflow_add-high c =
    let spans = c.args.spans.now in
    let i = c.loop-span.span-index in
    let o = order_at spans i c.loop-span-test.true c.loop-span.invariant.order in
    let above : 64 < (get_or spans i any).number = omega arith in
    let shl : (1 * 2 ^ (128 - (get_or spans i any).number)) % 2 ^ 64 ≡ 2 ^ (128 - (get_or spans i any).number) = one_shl (128 - (get_or spans i any).number) 64 (omega (arith, above)) in
    let at = high_at spans i c.loop-span-test.true above in
    rw shl (omega (arith, c.loop-span.invariant.high, at.0, high_fits (numbers spans) c.requires))

pub loop-span-preserved : goal.loop-span-preserved
loop-span-preserved c =
    let spans = c.args.spans.now in
    let i = c.loop-span.span-index in
    let o = order_at spans i c.loop-span-test.true c.loop-span.invariant.order in
    elim c.if-span-le64.branch [
      | then-span-le64 w ↦
          let le : (get_or spans i any).number ≤ 64 = omega arith in
          let shl : (1 * 2 ^ (64 - (get_or spans i any).number)) % 2 ^ 64 ≡ 2 ^ (64 - (get_or spans i any).number) = one_shl (64 - (get_or spans i any).number) 64 (omega (arith, o.0)) in
          let at = low_at spans i c.loop-span-test.true le in
          record {
            order = o.2;
            low = rw (w.low-is, shl) (omega (arith, c.loop-span.invariant.low, at.0));
            high = rw (w.high-is) (omega (arith, c.loop-span.invariant.high, ap (bits 128) at.1));
          }
      | else-span-le64 w ↦
          let above : 64 < (get_or spans i any).number = omega arith in
          let shl : (1 * 2 ^ (128 - (get_or spans i any).number)) % 2 ^ 64 ≡ 2 ^ (128 - (get_or spans i any).number) = one_shl (128 - (get_or spans i any).number) 64 (omega (arith, above)) in
          let at = high_at spans i c.loop-span-test.true above in
          record {
            order = o.2;
            low = rw (w.low-is) (omega (arith, c.loop-span.invariant.low, ap (bits 64) at.1));
            high = rw (w.high-is, shl) (omega (arith, c.loop-span.invariant.high, at.0));
          }
    ]
