use Rattle.std.proofs.Common.{◌≡◌, ◌+◌, ◌<◌, ◌^◌, take, drop}
use Rattle.std.specs.List.{prefix_len}
use Rattle.std.specs.Char.{is_ascii_digit}
use Rattle.std.specs.Str.Parse.{AllDigits, digits_value}
use Rattle.toml_rows.proofs.digits.front_digits.Given as goal

abbrev pub invariant-loop-at : goal.invariant-loop-at
invariant-loop-at l =
    (prefix_len is_ascii_digit l.bytes ≡ l.at + prefix_len is_ascii_digit (drop l.at l.bytes))
    × AllDigits 10 (take l.at l.bytes)
    × (l.value ≡ digits_value 10 (take l.at l.bytes))
    × (l.value < 10 ^ 18)
