use Rattle.std.proofs.Common.{◌≡◌, ℕ, ◌-◌, ◌<◌, true, length, get_or, arith}
use Rattle.std.proofs.lemmas.Bool.Decides.{nat_tests}
use Rattle.std.proofs.lemmas.Grind.{common_steps}
use Rattle.std.proofs.lemmas.Int.Digits.{digits_more, digits_value_more}
use Rattle.std.specs.Char.{digit_value, is_ascii_digit}
use Rattle.toml_rows.proofs.digits.front_digits.Goals as goal

digit_is : (c : ℕ) → is_ascii_digit c ≡ true → digit_value c ≡ c - 48
digit_is c digit = grind (arith, nat_tests)

digit_small : (c : ℕ) → is_ascii_digit c ≡ true → digit_value c < 10
digit_small c digit = grind (arith, nat_tests)

pub loop-at-preserved : goal.loop-at-preserved
loop-at-preserved c =
    let l = c.loop-at in
    let bs = c.args.bytes.now in
    let (front, digits, value, small) = l.invariant in
    let here : is_ascii_digit (get_or bs l.at 0) ≡ true = grind (arith, common_steps) in
    let within : l.at < length bs = omega arith in
    let is = digit_is (get_or bs l.at 0) here in
    let less = digit_small (get_or bs l.at 0) here in (
      grind (arith, common_steps),
      digits_more 10 bs l.at within digits less,
      rw (digits_value_more 10 bs l.at within, ← value, is),
      omega arith,
    )
