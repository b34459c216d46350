use Rattle.std.proofs.Common.{◌≡◌, ℕ, ◌-◌, ◌<◌, ◌==◌, true, zero, suc, not, ◌≤◌, ◌^◌, ◌||◌, List, [], ◌∷◌, length, get_or, get_or-drop, take, drop, slice_index, length-take, add-zero, pos, to_z, arith}
use Rattle.std.proofs.lemmas.Bool.Decides.{nat_tests}
use Rattle.std.proofs.lemmas.Grind.{common_steps}
use Rattle.std.proofs.lemmas.List.{take-append-drop}
use Rattle.std.proofs.lemmas.List.Sums.{prefix_len_passes}
use Rattle.std.specs.Int.{w64}
use Rattle.std.proofs.lemmas.Int.{ints}
use Rattle.std.specs.Char.{is_ascii_digit}
use Rattle.std.specs.List.{prefix_len}
use Rattle.std.specs.Str.Parse.{digits_value}
use Rattle.toml_parser.specs.Lexical.{first}
use Rattle.toml_rows.proofs.Numbers.{digits_read}
use Rattle.toml_rows.proofs.digits.digits_alone.Goals as goal

digit_bounds : (c : ℕ) → is_ascii_digit c ≡ true → (0 < c) × (c < 128)
digit_bounds c digit = (grind (arith, nat_tests), grind (arith, nat_tests))

last_digit : (s : List ℕ) (n : ℕ) → n ≡ prefix_len is_ascii_digit s → 0 < n → (0 < get_or s (n - 1) 0) × (get_or s (n - 1) 0 < 128)
last_digit s n is some = digit_bounds (get_or s (n - 1) 0) (prefix_len_passes is_ascii_digit s (n - 1) 0 (omega arith))

pub skip-requires-clause-there : goal.skip-requires-clause-there
skip-requires-clause-there c = (last_digit c.args.s.now c.in_ok-number.len (rw c.as_bytes.ensures.value at c.in_ok-number.ensures.len) (omega arith)).0

pub skip-requires-clause-ascii : goal.skip-requires-clause-ascii
skip-requires-clause-ascii c = (last_digit c.args.s.now c.in_ok-number.len (rw c.as_bytes.ensures.value at c.in_ok-number.ensures.len) (omega arith)).1

zero_alone : (s : List ℕ) (k : ℕ) → 0 < k → k ≤ length s → (k == 1 || not (slice_index s 0 == 48)) ≡ true → get_or (take k s) 0 0 ≡ 48 → length (take k s) ≡ 1
zero_alone [] k some within spelled lead = absurd (omega arith)
zero_alone (c ∷ cs) zero some within spelled lead = absurd (omega arith)
zero_alone (c ∷ cs) (suc k) some within spelled lead = grind (arith, nat_tests, length-take {A = ℕ})

pub returns-clause-value : goal.returns-clause-value
returns-clause-value c depth =
    let s = c.args.s.now in
    let k = c.in_ok-number.len in
    let w = take k s in
    let rest = drop k s in
    let bytes = c.as_bytes.ensures.value in
    let within : k ≤ length s = rw bytes at c.in_ok-number.ensures.within in
    let len : length w ≡ k = omega (arith, length-take {A = ℕ}) in
    let at_end : first rest ≡ slice_index s k = rw add-zero at (get_or-drop k s 0 0) in
    let stop : first rest < 32 = omega arith in
    let spelled : (k == 1 || not (slice_index s 0 == 48)) ≡ true = grind (arith, common_steps) in
    let value : c.in_ok-number.number ≡ digits_value 10 w = rw bytes at c.in_ok-number.ensures.value in
    let small : digits_value 10 w < 10 ^ 18 = omega (arith, c.in_ok-number.ensures.small) in
    let read = digits_read depth w rest (rw bytes at c.in_ok-number.ensures.digits) (omega arith) (zero_alone s k (omega arith) within spelled) small stop in
    let same : to_z w64 c.in_ok-number.number ≡ pos (digits_value 10 w) = omega (arith, ints) in
    rw (c.skip.ensures.rest, same) (rw take-append-drop at read)
