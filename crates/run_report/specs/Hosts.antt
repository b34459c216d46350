-- What a host with a limit answers.
use Rattle.std.specs.Prelude.{ℕ, nat_le, Bool, false, List, Result, Ok, Err, if◌then◌else◌}
use Rattle.std.specs.Option.{option_map_or}
use Rattle.card_digits.specs.Numbers.{read_amount}
use Rattle.card_digits.specs.declared.card.DigitFault.{DigitFault}
use Rattle.message_elements.specs.Codes.{code_00, code_05}
use Rattle.iso_message.specs.Fields.{Fields, get}

abbrev pub is_at_most : ℕ → Result ℕ DigitFault → Bool
is_at_most limit (Ok amount) = nat_le amount limit
is_at_most limit (Err fault) = false

-- the request has an amount, of at most the limit
abbrev pub is_within : ℕ → Fields → Bool
is_within limit m = option_map_or (λ text. is_at_most limit (read_amount text)) (get m 4) false

-- 00 within the limit, else 05
abbrev pub limit_code : ℕ → Fields → List ℕ
limit_code limit m = if is_within limit m then code_00 else code_05
