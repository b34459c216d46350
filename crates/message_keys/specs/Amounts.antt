-- Amounts that messages carry.
use Rattle.std.specs.Prelude.{ℕ, List, if◌then◌else◌, Option, Some, None}
use Rattle.std.specs.Char.{is_ascii_digit}
use Rattle.std.specs.List.{list_all}
use Rattle.std.specs.Option.{option_and_then}
use Rattle.card_digits.specs.Numbers.{decimal}
use Rattle.iso_message.specs.Fields.{Fields, get}
use Rattle.message_keys.specs.Keys.{part}

-- the number that a text writes, where it is digits
abbrev pub number_in : List ℕ → Option ℕ
number_in text = if list_all is_ascii_digit text then Some (decimal text) else None

-- the actual amount of a partial reversal, which stands in the first twelve bytes of element 95
unfoldable pub actual_amount : Fields → Option ℕ
unfolding get
actual_amount m = option_and_then (λ amounts. number_in (part 0 12 amounts)) (get m 95)
