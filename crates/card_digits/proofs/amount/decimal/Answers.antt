use Rattle.std.proofs.Common.{◌-◌, get_or, arith, sym, ◌∙◌}
use Rattle.card_digits.proofs.Decimals.{digit_at, decimal_from-drop, below_more, fits_more}
use Rattle.card_digits.proofs.amount.decimal.Goals as goal

pub overflow_mul-value : goal.overflow_mul-value
overflow_mul-value c =
    let few = fits_more c.loop-byte.value c.loop-byte.byte-index c.loop-byte.invariant.bound (omega arith) in
    omega arith

pub overflow_add-value : goal.overflow_add-value
overflow_add-value c =
    let few = fits_more c.loop-byte.value c.loop-byte.byte-index c.loop-byte.invariant.bound (omega arith) in
    let byte = digit_at c.args.text.now c.loop-byte.byte-index c.requires.digits c.loop-byte-test.true in
    omega (arith, byte.high)

pub loop-byte-preserved : goal.loop-byte-preserved
loop-byte-preserved c =
    let byte = digit_at c.args.text.now c.loop-byte.byte-index c.requires.digits c.loop-byte-test.true in
    record {
      rest = sym (decimal_from-drop c.loop-byte.value c.loop-byte.byte-index c.args.text.now c.loop-byte-test.true) ∙ c.loop-byte.invariant.rest;
      bound = below_more c.loop-byte.value (get_or c.args.text.now c.loop-byte.byte-index 0 - 48) c.loop-byte.byte-index c.loop-byte.invariant.bound (omega (arith, byte.high));
    }
