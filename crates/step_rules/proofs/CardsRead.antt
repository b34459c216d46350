-- The card and the settlement date of a message, as they are read.
use Rattle.std.proofs.Common.{◌≡◌, ℕ, ◌||◌, ◌<◌, ◌≤◌, nat_lt, true, false, List, length, Option, Some, None, IfSome, refl, inl, inr}
use Rattle.std.specs.Char.{is_ascii_digit}
use Rattle.std.specs.List.{list_all}
use Rattle.std.specs.Result.{result_ok}
use Rattle.std.proofs.lemmas.Bool.{cases_Bool, lt-ltb, le-ltb}
use Rattle.card_digits.specs.Digits.{digits_of}
use Rattle.card_digits.specs.Numbers.{passes_luhn}
use Rattle.card_digits.specs.Reading.{read_digits}
use Rattle.message_elements.specs.Table.{table, form_of}
use Rattle.iso_message.specs.Fields.{Fields, get, el, has}
use Rattle.message_keys.specs.Keys.{when}
use Rattle.iso_message.specs.Spelling.{IsMessage}
use Rattle.iso_message.proofs.Found.{good_found, has_some, has_none, el_some}
use Rattle.network_law.specs.Cards.{card_of, label_of, is_good_card}

-- what is read is the digits
read_is : (least most : ℕ) (bytes : List ℕ) → IfSome (result_ok (read_digits least most bytes)) (λ digits. digits ≡ digits_of bytes)
read_is least most bytes = elim (cases_Bool (list_all is_ascii_digit bytes)) [
  | inl all ↦ elim (cases_Bool (nat_lt (length bytes) least || nat_lt most (length bytes))) [
    | inl far ↦ rw (all, far) tt
    | inr fits ↦ rw (all, fits) refl
  ]
  | inr other ↦ rw other tt
]

pub card_read : (m : Fields) → IfSome (result_ok (read_digits 8 19 (el m 2))) (λ card. card ≡ card_of m)
unfolding card_of
card_read m = read_is 8 19 (el m 2)

-- the digits of a card number that is there
number_good : (m : Fields) (v : List ℕ) → IsMessage m → get m 2 ≡ Some v → (length v ≤ 19) × (list_all is_ascii_digit v ≡ true)
unfolding form_of table
number_good m v g e = let good = good_found m 2 v g e in (good.0, good.2)

pub number_digits : (m : Fields) (v : List ℕ) → IsMessage m → get m 2 ≡ Some v → list_all is_ascii_digit v ≡ true
number_digits m v g e = (number_good m v g e).1

digits_at : (m : Fields) (o : Option (List ℕ)) → IsMessage m → get m 2 ≡ o → list_all is_ascii_digit (el m 2) ≡ true
unfolding el
digits_at m None g e = rw e refl
digits_at m (Some v) g e = rw (el_some m 2 v e) (number_digits m v g e)

-- where the message has no card number, there are no digits
pub known_digits : (m : Fields) → IsMessage m → list_all is_ascii_digit (el m 2) ≡ true
known_digits m g = digits_at m (get m 2) g refl

pub number_few : (m : Fields) (v : List ℕ) → IsMessage m → get m 2 ≡ Some v → length v ≤ 19
number_few m v g e = (number_good m v g e).0

pub no_number : (m : Fields) → get m 2 ≡ None → false ≡ is_good_card (el m 2)
unfolding is_good_card el
no_number m e = rw e refl

pub short_number : (m : Fields) (v : List ℕ) → IsMessage m → get m 2 ≡ Some v → length v < 8 → false ≡ is_good_card (el m 2)
unfolding is_good_card
short_number m v g e short = rw (el_some m 2 v e, number_digits m v g e, lt-ltb (length v) 8 short) refl

pub long_number : (m : Fields) (v : List ℕ) → IsMessage m → get m 2 ≡ Some v → 8 ≤ length v → passes_luhn (digits_of v) ≡ is_good_card (el m 2)
unfolding is_good_card
long_number m v g e long = rw (el_some m 2 v e, number_digits m v g e, le-ltb (length v) 8 long, le-ltb 19 (length v) (number_few m v g e)) refl

pub no_label : (m : Fields) → get m 15 ≡ None → None ≡ when (has m 15) (label_of m)
no_label m e = rw (has_none m 15 e) refl

pub some_label : (m : Fields) (v : List ℕ) → IsMessage m → get m 15 ≡ Some v → result_ok (read_digits 4 4 v) ≡ when (has m 15) (label_of m)
unfolding label_of form_of table
some_label m v g e = let good = good_found m 15 v g e in rw (has_some m 15 v e, el_some m 15 v e, good.1, good.0) refl
