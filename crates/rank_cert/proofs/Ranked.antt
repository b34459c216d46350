-- A rank's digits, read one after the other.
use Rattle.std.proofs.Common.{◌≡◌, ℕ, ◌+◌, ◌-◌, ◌*◌, ◌<◌, ◌≤◌, ◌==◌, ◌++◌, true, false, List, [], ◌∷◌, refl, sym, ap, ◌∙◌, arith, length, take, drop, get_or, nat_lt, ne_eqb, length-drop}
use Rattle.std.specs.Char.{is_ascii_digit}
use Rattle.std.specs.List.{list_all}
use Rattle.std.proofs.lemmas.Bool.{and_parts, le-ltb}
use Rattle.std.proofs.lemmas.List.{take-append-drop, take_more, drop_more, length-take-le, take_all}
use Rattle.card_digits.specs.Numbers.{decimal, decimal_from}
use Rattle.rank_cert.specs.Like.{IsRanked}
use Rattle.rank_cert.proofs.Again.{others_from}

-- so many bytes are digits of this number
pub record IsReadTo (text : List ℕ) (i number : ℕ) : Type 0 where
  pub digits : list_all is_ascii_digit (take i text) ≡ true
  pub value : decimal (take i text) ≡ number
  pub small : number ≤ 65535

push_digit : (xs : List ℕ) (b : ℕ) → list_all is_ascii_digit xs ≡ true → is_ascii_digit b ≡ true → list_all is_ascii_digit (xs ++ b ∷ []) ≡ true
push_digit [] b h is = rw is refl
push_digit (x ∷ xs) b h is = let parts = and_parts (is_ascii_digit x) (list_all is_ascii_digit xs) h in rw (parts.0, push_digit xs b parts.1 is) refl

push_decimal : (n : ℕ) (xs : List ℕ) (b : ℕ) → decimal_from n (xs ++ b ∷ []) ≡ decimal_from n xs * 10 + (b - 48)
push_decimal n [] b = refl
push_decimal n (x ∷ xs) b = push_decimal (n * 10 + (x - 48)) xs b

-- one digit more
pub read_more : (text : List ℕ) (i number b : ℕ) → i < length text → b ≡ get_or text i 0 → is_ascii_digit b ≡ true → IsReadTo text i number → number * 10 + (b - 48) ≤ 65535 → IsReadTo text (i + 1) (number * 10 + (b - 48))
read_more text i number b within at is read small =
    let next : take (i + 1) text ≡ take i text ++ b ∷ [] = take_more text i 0 within ∙ ap (λ (c : ℕ). take i text ++ c ∷ []) (sym at) in
    record {
      digits = rw next (push_digit (take i text) b read.digits is);
      value = ap (decimal_from 0) next ∙ (push_decimal 0 (take i text) b ∙ ap (λ (n : ℕ). n * 10 + (b - 48)) read.value);
      small = small;
    }

-- a line feed behind one to five digits
pub ranked : (text : List ℕ) (i number : ℕ) → 0 < i → i ≤ 5 → i < length text → get_or text i 0 ≡ 10 → IsReadTo text i number → IsRanked text number (drop (i + 1) text)
ranked text i number some few within at read = record {
  digits = take i text;
  whole = sym (take-append-drop i text) ∙ ap (λ (xs : List ℕ). take i text ++ xs) (drop_more text i 0 within ∙ ap (λ (b : ℕ). b ∷ drop (i + 1) text) at);
  number =
      let count : length (take i text) ≡ i = length-take-le i text (omega arith) in
      let not_none : (i == 0) ≡ false = ne_eqb i 0 (λ e. omega arith) in
      let not_more : nat_lt 5 i ≡ false = le-ltb 5 i few in
      let not_large : nat_lt 65535 number ≡ false = le-ltb 65535 number read.small in
      rw (count, not_none, not_more, read.digits, read.value, not_large) refl;
  one_line = others_from is_ascii_digit 10 refl (take i text) read.digits;
}

-- all that is left behind a place
pub take-to-end : (text : List ℕ) (i : ℕ) → take (length text - i) (drop i text) ≡ drop i text
take-to-end text i = take_all (length text - i) (drop i text) (omega (arith, length-drop i text))
