-- The actual amount of a partial reversal, as it is read.
use Rattle.std.proofs.Common.{◌≡◌, ℕ, Bool, true, false, List, length, take, Option, Some, None, Result, refl, ap, ◌∙◌, arith}
use Rattle.std.proofs.lemmas.Bool.{eq-eqb}
use Rattle.std.proofs.lemmas.List.{length-take-le}
use Rattle.std.specs.Char.{is_ascii_digit}
use Rattle.std.specs.List.{list_all}
use Rattle.std.specs.Result.{result_ok}
use Rattle.card_digits.specs.Numbers.{read_amount}
use Rattle.card_digits.specs.declared.card.DigitFault.{DigitFault}
use Rattle.message_elements.specs.Table.{table, form_of}
use Rattle.iso_message.specs.Fields.{Fields, get}
use Rattle.message_keys.specs.Amounts.{number_in, actual_amount}
use Rattle.iso_message.specs.Spelling.{IsMessage}
use Rattle.iso_message.proofs.Found.{good_found}

replacement_length : (m : Fields) → IsMessage m → (v : List ℕ) → get m 95 ≡ Some v → length v ≡ 42
unfolding form_of table
replacement_length m g v e = (good_found m 95 v g e).0

pub replacement_front : (m : Fields) → IsMessage m → (v : List ℕ) → get m 95 ≡ Some v → length (take 12 v) ≡ 12
replacement_front m g v e = length-take-le 12 v (let all = replacement_length m g v e in omega (arith, all))

pub actual_none : (m : Fields) → get m 95 ≡ None → None ≡ actual_amount m
unfolding actual_amount
actual_none m e = rw e refl

-- twelve bytes are an amount where they are digits
number_read : (text : List ℕ) → length text ≡ 12 → result_ok (read_amount text) ≡ number_in text
number_read text size = go (list_all is_ascii_digit text) refl
  where
    go : (b : Bool) → list_all is_ascii_digit text ≡ b → result_ok (read_amount text) ≡ number_in text
    go true at = rw (at, eq-eqb (length text) 12 size) refl
    go false at = rw at refl

pub actual_some : (m : Fields) → IsMessage m → (v : List ℕ) (read : Result ℕ DigitFault) (found : Option ℕ) → get m 95 ≡ Some v → read ≡ read_amount (take 12 v) → found ≡ result_ok read → found ≡ actual_amount m
unfolding actual_amount
actual_some m g v read found e r f =
    f ∙ (ap result_ok r ∙ (number_read (take 12 v) (replacement_front m g v e) ∙ rw e refl))
