-- The bytes of a grant, as they are read and written.
use Rattle.std.proofs.Common.{◌≡◌, ℕ, zero, suc, ◌+◌, ◌-◌, ◌/◌, ◌%◌, ◌<◌, ◌≤◌, List, [], ◌∷◌, ◌++◌, append_assoc, length, take, drop, Ok, Bool, true, false, ◌&&◌, nat_le, refl, sym, ap, ◌∙◌, arith}
use Rattle.std.proofs.lemmas.Bool.{and_parts, leb-true, le-ltb}
use Rattle.std.specs.Prelude.{codes}
use Rattle.std.specs.Char.{is_ascii_digit}
use Rattle.std.specs.List.{list_all}
use Rattle.card_digits.specs.Digits.{digits_of}
use Rattle.card_digits.specs.Reading.{read_digits}
use Rattle.message_keys.specs.Keys.{part}
use Rattle.network_law.specs.Cards.{Bytes, text_of}
use Rattle.network_law.specs.declared.grant.Grant.{Grant}
use Rattle.network_law.specs.Grants.{number_text, grant_bytes, is_word_and_digits, is_grant, card_size}
use Rattle.network_law.proofs.PacketsExact.{digits_part, part_long, word_parts}

pub record IsGrantText (bytes : Bytes) : Type 0 where
  pub size : length bytes ≡ 54 + card_size bytes
  pub digits : list_all is_ascii_digit (drop 4 bytes) ≡ true
  pub least : 8 ≤ card_size bytes
  pub most : card_size bytes ≤ 19

grant_parts : (bytes : Bytes) → is_grant bytes ≡ true → (is_word_and_digits (codes "GRNT") (50 + card_size bytes) bytes ≡ true) × (nat_le 8 (card_size bytes) ≡ true) × (nat_le (card_size bytes) 19 ≡ true)
grant_parts bytes e =
    let p = and_parts (is_word_and_digits (codes "GRNT") (50 + card_size bytes) bytes && nat_le 8 (card_size bytes)) (nat_le (card_size bytes) 19) e in
    let q = and_parts (is_word_and_digits (codes "GRNT") (50 + card_size bytes) bytes) (nat_le 8 (card_size bytes)) p.0 in
    (q.0, q.1, p.1)

pub grant_text : (bytes : Bytes) → is_grant bytes ≡ true → IsGrantText bytes
grant_text bytes e =
    let p = grant_parts bytes e in
    let w = word_parts (codes "GRNT") (50 + card_size bytes) bytes p.0 in
    let l = w.1 in
    record { size = omega (arith, l); digits = w.2; least = leb-true 8 (card_size bytes) p.1; most = leb-true (card_size bytes) 19 p.2 }

-- what isn't so is no grant
pub no_grant : (bytes : Bytes) → (IsGrantText bytes → ⊥) → is_grant bytes ≡ false
no_grant bytes other = go (is_grant bytes) refl
  where
    go : (b : Bool) → is_grant bytes ≡ b → is_grant bytes ≡ false
    go true at = absurd (other (grant_text bytes at))
    go false at = at

-- each of these parts is digits
pub size_digits : (bytes : Bytes) → IsGrantText bytes → list_all is_ascii_digit (part 36 2 bytes) ≡ true
size_digits bytes g = digits_part 36 32 2 bytes refl g.digits

pub short_no_grant : (bytes : Bytes) → length bytes < 38 → is_grant bytes ≡ false
short_no_grant bytes few = no_grant bytes (λ g. let s = g.size in omega (arith, few, s))

pub other_no_grant : (bytes : Bytes) → list_all is_ascii_digit (part 36 2 bytes) ≡ false → is_grant bytes ≡ false
other_no_grant bytes e = no_grant bytes (λ g. let d : true ≡ false = sym (size_digits bytes g) ∙ e in cc)

pub number_digits : (bytes : Bytes) → IsGrantText bytes → list_all is_ascii_digit (part 15 10 bytes) ≡ true
number_digits bytes g = digits_part 15 11 10 bytes refl g.digits

-- digits of a right number are read
read_within : (least most : ℕ) (text : Bytes) → list_all is_ascii_digit text ≡ true → least ≤ length text → length text ≤ most → read_digits least most text ≡ Ok (digits_of text)
read_within least most text d low high = rw (d, le-ltb (length text) least low, le-ltb most (length text) high) refl

module _ (bytes : Bytes) (g : IsGrantText bytes) (size : ℕ) (is : size ≡ card_size bytes) where
  pub card_read : read_digits 8 19 (take (38 + size - 38) (drop 38 bytes)) ≡ Ok (digits_of (part 38 (card_size bytes) bytes))
  card_read =
      let n : 38 + size - 38 ≡ card_size bytes = omega (arith, is) in
      let s = g.size in
      let long : length (part 38 (card_size bytes) bytes) ≡ card_size bytes = part_long 38 (card_size bytes) 16 bytes (omega (arith, s)) in
      let least = g.least in
      let most = g.most in
      ap (λ k. read_digits 8 19 (take k (drop 38 bytes))) n ∙ read_within 8 19 (part 38 (card_size bytes) bytes) (digits_part 38 34 (card_size bytes) bytes refl g.digits) (omega (arith, long, least)) (omega (arith, long, most))

  pub date_read : read_digits 4 4 (take (38 + size + 4 - (38 + size)) (drop (38 + size) bytes)) ≡ Ok (digits_of (part (38 + card_size bytes) 4 bytes))
  date_read =
      let n : 38 + size + 4 - (38 + size) ≡ 4 = omega arith in
      let m : 38 + size ≡ 38 + card_size bytes = omega (arith, is) in
      let s = g.size in
      let long : length (part (38 + card_size bytes) 4 bytes) ≡ 4 = part_long (38 + card_size bytes) 4 12 bytes (omega (arith, s)) in
      ap (λ k. read_digits 4 4 (take k (drop (38 + size) bytes))) n
      ∙ (ap (λ k. read_digits 4 4 (take 4 (drop k bytes))) m
      ∙ read_within 4 4 (part (38 + card_size bytes) 4 bytes) (digits_part (38 + card_size bytes) (34 + card_size bytes) 4 bytes (omega arith) g.digits) (omega (arith, long)) (omega (arith, long)))

  pub amount_part : take (38 + size + 16 - (38 + size + 4)) (drop (38 + size + 4) bytes) ≡ part (42 + card_size bytes) 12 bytes
  amount_part =
      let n : 38 + size + 16 - (38 + size + 4) ≡ 12 = omega arith in
      let m : 38 + size + 4 ≡ 42 + card_size bytes = omega (arith, is) in
      ap (λ k. take k (drop (38 + size + 4) bytes)) n ∙ ap (λ k. take 12 (drop k bytes)) m

  pub amount_digits : list_all is_ascii_digit (take (38 + size + 16 - (38 + size + 4)) (drop (38 + size + 4) bytes)) ≡ true
  amount_digits = ap (list_all is_ascii_digit) amount_part ∙ digits_part (42 + card_size bytes) (38 + card_size bytes) 12 bytes (omega arith) g.digits

-- writing

-- one digit more
pub number_more : (width n : ℕ) (before front all : Bytes) → 0 < width → front ≡ before ++ number_text (width - 1) (n / 10) → all ≡ front ++ (48 + n % 10) ∷ [] → all ≡ before ++ number_text width n
number_more zero n before front all some f e = absurd (omega (arith, some))
number_more (suc width) n before front all some f e =
    let k : suc width - 1 ≡ width = omega arith in
    e ∙ (ap (λ z. z ++ (48 + n % 10) ∷ []) (f ∙ ap (λ z. before ++ number_text z (n / 10)) k) ∙ append_assoc before (number_text width (n / 10)) ((48 + n % 10) ∷ []))

pub eight_parts : (o a b c d e f g h : Bytes) → (((((((o ++ a) ++ b) ++ c) ++ d) ++ e) ++ f) ++ g) ++ h ≡ o ++ (a ++ (b ++ (c ++ (d ++ (e ++ (f ++ (g ++ h)))))))
eight_parts o a b c d e f g h = simp append_assoc

-- what is written when each part of a grant was
pub grant_written : (g : Grant) (o o1 o2 o3 o4 o5 o6 o7 o8 : Bytes) (digits : List ℕ) (dates : List ℕ) (sized : List ℕ) (amount : ℕ)
    → o1 ≡ o ++ codes "GRNT" → o2 ≡ o1 ++ g.lender → o3 ≡ o2 ++ number_text 10 g.number → o4 ≡ o3 ++ g.borrower
    → o5 ≡ o4 ++ number_text 2 (length sized) → sized ≡ g.card → o6 ≡ o5 ++ text_of digits → digits ≡ g.card → o7 ≡ o6 ++ text_of dates → dates ≡ g.date → o8 ≡ o7 ++ number_text 12 amount → amount ≡ g.amount
    → o8 ≡ o ++ grant_bytes g
grant_written g o o1 o2 o3 o4 o5 o6 o7 o8 digits dates sized amount e1 e2 e3 e4 e5 es e6 ed e7 et e8 ea =
    e8 ∙ (ap (λ z. o7 ++ number_text 12 z) ea
    ∙ (ap (λ z. z ++ number_text 12 g.amount) (e7 ∙ (ap (λ z. o6 ++ text_of z) et
    ∙ ap (λ z. z ++ text_of g.date) (e6 ∙ (ap (λ z. o5 ++ text_of z) ed
    ∙ ap (λ z. z ++ text_of g.card) (e5 ∙ (ap (λ z. o4 ++ number_text 2 (length z)) es
    ∙ ap (λ z. z ++ number_text 2 (length g.card)) (e4
    ∙ ap (λ z. z ++ g.borrower) (e3
    ∙ ap (λ z. z ++ number_text 10 g.number) (e2 ∙ ap (λ z. z ++ g.lender) e1)))))))))
    ∙ eight_parts o (codes "GRNT") g.lender (number_text 10 g.number) g.borrower (number_text 2 (length g.card)) (text_of g.card) (text_of g.date) (number_text 12 g.amount)))
