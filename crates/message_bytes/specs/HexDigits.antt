-- Values of hexadecimal digits.
use Rattle.std.specs.Prelude.{ℕ, Option, Some, None}
use Rattle.hex.specs.Hex.{hex_digit_value}

abbrev pub value_or_none : Option ℕ → ℕ
value_or_none (Some value) = value
value_or_none None = 255

-- the value of a digit, in either case, and 255 of any other byte
abbrev pub digit_value : ℕ → ℕ
digit_value byte = value_or_none (hex_digit_value byte)
