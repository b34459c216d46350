-- Card numbers and settlement dates of messages, as the digits that ASCII digits write.
use Rattle.std.specs.Prelude.{ℕ, ◌+◌, List, map, Bool, ◌&&◌, is_ok}
use Rattle.card_digits.specs.Digits.{digits_of}
use Rattle.card_digits.specs.Reading.{read_digits}
use Rattle.card_digits.specs.Numbers.{passes_luhn}
use Rattle.iso_message.specs.Fields.{Fields, el}

abbrev pub Bytes : Type 0
Bytes = List ℕ

-- the digits of the card number
unfoldable pub card_of : Fields → List ℕ
unfolding el
card_of m = digits_of (el m 2)

-- the digits of the settlement date
unfoldable pub label_of : Fields → List ℕ
unfolding el
label_of m = digits_of (el m 15)

-- the ASCII digits that write digits
abbrev pub text_of : List ℕ → Bytes
text_of digits = map (λ d. d + 48) digits

-- a card number whose check digit is right
unfoldable pub is_good_card : Bytes → Bool
is_good_card bytes = is_ok (read_digits 8 19 bytes) && passes_luhn (digits_of bytes)
