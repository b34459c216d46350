-- The bytes of a packet are read as it, and the spelling of a message as none.
use Rattle.std.proofs.Common.{◌≡◌, ℕ, zero, suc, ◌+◌, ◌-◌, ◌*◌, ◌/◌, ◌%◌, ◌^◌, ◌<◌, ◌≤◌, List, [], ◌∷◌, ◌++◌, length, take, drop, replicate, Some, None, Bool, true, false, cond, ◌&&◌, nat_le, refl, sym, ap, ◌∙◌, subst, arith, bytes_eq, eqb, leb, ltb, lit<}
use Rattle.std.proofs.lemmas.Bool.{and_parts, and_from, eq-eqb, eqb-true, le-leb, leb-true, ltb-true}
use Rattle.std.proofs.lemmas.List.{take_at, take_all, length-append, length-map, length-replicate}
use Rattle.std.proofs.lemmas.List.Folds.{list_all-append}
use Rattle.std.proofs.lemmas.Option.{same_Some}
use Rattle.std.proofs.Math.Nat.{pow-suc, pow-le-pow_right}
use Rattle.std.specs.Prelude.{⊤, codes}
use Rattle.std.specs.Char.{is_ascii_digit}
use Rattle.std.specs.List.{list_all}
use Rattle.card_digits.specs.Digits.{AreDigits, AreDigitsWithin, digits_of}
use Rattle.card_digits.specs.Numbers.{decimal_from, decimal, pad11}
use Rattle.card_digits.proofs.Decimals.{below_more}
use Rattle.message_elements.specs.declared.kind.Kind.{Kind}
use Rattle.message_elements.specs.declared.kind.Kind.TheVariants.{K0100, K0101, K0110, K0120, K0121, K0130, K0400, K0401, K0410, K0420, K0421, K0430}
use Rattle.iso_message.specs.Fields.{Fields}
use Rattle.message_keys.specs.Keys.{part}
use Rattle.message_elements.specs.Types.{kind_text}
use Rattle.iso_message.specs.Spelling.{spelling}
use Rattle.network_law.specs.Cards.{Bytes, text_of}
use Rattle.network_law.proofs.Ids.{FitsId}
use Rattle.network_law.specs.declared.grant.Grant.{Grant}
use Rattle.network_law.specs.declared.grant.GrantPacket.{GrantPacket}
use Rattle.network_law.specs.declared.grant.GrantPacket.TheVariants as packets
use Rattle.network_law.specs.Grants.{IsPaddedId, IsGrant, IsPacket, number_text, packet_bytes, is_word_and_digits, grant_at, card_size, read_packet}

-- a padded id is one

zeros_digits : (k : ℕ) → list_all is_ascii_digit (replicate k 48) ≡ true
zeros_digits zero = refl
zeros_digits (suc k) = zeros_digits k

pub pad_good : (bs : List ℕ) → FitsId bs → IsPaddedId (pad11 bs)
pad_good bs f =
    let a = length-append (replicate (11 - length bs) 48) bs in
    let b = length-replicate {A = ℕ} (11 - length bs) 48 in
    let c = f.fits in
    record { size = omega (arith, a, b, c); digits = list_all-append is_ascii_digit (replicate (11 - length bs) 48) bs ∙ and_from _ _ (zeros_digits (11 - length bs)) f.digits }

-- digits

digit : (d : ℕ) → d < 10 → is_ascii_digit (48 + d) ≡ true
digit d h = and_from _ _ (le-leb 48 (48 + d) (omega arith)) (le-leb (48 + d) 57 (omega arith))

pub both_digits : (xs ys : List ℕ) → list_all is_ascii_digit xs ≡ true → list_all is_ascii_digit ys ≡ true → list_all is_ascii_digit (xs ++ ys) ≡ true
both_digits xs ys a b = list_all-append is_ascii_digit xs ys ∙ and_from _ _ a b

decimal_append : (n : ℕ) (xs ys : List ℕ) → decimal_from n (xs ++ ys) ≡ decimal_from (decimal_from n xs) ys
decimal_append n [] ys = refl
decimal_append n (x ∷ xs) ys = decimal_append (n * 10 + (x - 48)) xs ys

pub number_length : (w n : ℕ) → length (number_text w n) ≡ w
number_length zero n = refl
number_length (suc w) n =
    let a = length-append (number_text w (n / 10)) ((48 + n % 10) ∷ []) in
    let b = number_length w (n / 10) in
    omega (arith, a, b)

pub number_digits : (w n : ℕ) → list_all is_ascii_digit (number_text w n) ≡ true
number_digits zero n = refl
number_digits (suc w) n = both_digits (number_text w (n / 10)) ((48 + n % 10) ∷ []) (number_digits w (n / 10)) (and_from _ _ (digit (n % 10) (omega arith)) refl)

pub number_read : (w n : ℕ) → n < 10 ^ w → decimal (number_text w n) ≡ n
number_read zero n less = omega (arith, less)
number_read (suc w) n less =
    let a = decimal_append 0 (number_text w (n / 10)) ((48 + n % 10) ∷ []) in
    let p = pow-suc 10 w in
    let b = number_read w (n / 10) (omega (arith, less, p)) in
    let c : decimal (number_text w (n / 10)) * 10 + (48 + n % 10 - 48) ≡ n = omega (arith, b) in
    a ∙ c

text_length : (ds : List ℕ) → length (text_of ds) ≡ length ds
text_length ds = length-map ds (λ d. d + 48)

text_digits : (ds : List ℕ) → AreDigits ds → list_all is_ascii_digit (text_of ds) ≡ true
text_digits [] all = refl
text_digits (d ∷ ds) all =
    let less = all.0 in
    let e : d + 48 ≡ 48 + d = omega arith in
    and_from _ _ (ap is_ascii_digit e ∙ digit d less) (text_digits ds all.1)

text_again : (ds : List ℕ) → digits_of (text_of ds) ≡ ds
text_again [] = refl
text_again (d ∷ ds) = let e : d + 48 - 48 ≡ d = omega arith in ap (λ z. z ∷ digits_of (text_of ds)) e ∙ ap (λ zs. d ∷ zs) (text_again ds)

-- parts

skip : (xs ys : List ℕ) (from : ℕ) → drop (length xs + from) (xs ++ ys) ≡ drop from ys
skip [] ys from = let e : 0 + from ≡ from = omega arith in rw e refl
skip (x ∷ xs) ys from = let e : suc (length xs) + from ≡ suc (length xs + from) = omega arith in rw e (skip xs ys from)

part_skip : (xs ys : List ℕ) (from at count : ℕ) → at ≡ length xs + from → part at count (xs ++ ys) ≡ part from count ys
part_skip xs ys from at count e = ap (λ z. take count (drop z (xs ++ ys))) e ∙ ap (take count) (skip xs ys from)

part_here : (xs ys : List ℕ) (count : ℕ) → length xs ≡ count → part 0 count (xs ++ ys) ≡ xs
part_here xs ys count e = take_at xs ys count e

part_whole : (xs : List ℕ) (count : ℕ) → length xs ≡ count → part 0 count xs ≡ xs
part_whole xs count e = take_all count xs (omega (arith, e))

-- a grant

reads_grant : (bytes : Bytes) (g : Grant) → is_word_and_digits (codes "GACK") 21 bytes ≡ false → is_word_and_digits (codes "GRNT") (50 + card_size bytes) bytes ≡ true → nat_le 8 (card_size bytes) ≡ true → nat_le (card_size bytes) 19 ≡ true → grant_at (card_size bytes) bytes ≡ g → read_packet bytes ≡ Some (packets.Grant g)
unfolding read_packet
reads_grant bytes g a b c d e = rw (a, b, c, d) (ap (λ z. Some (packets.Grant z)) e)

module _ (g : Grant) (is : IsGrant g) where
  size : ℕ
  size = length g.card

  r6 : Bytes
  r6 = text_of g.date ++ number_text 12 g.amount

  r5 : Bytes
  r5 = text_of g.card ++ r6

  r4 : Bytes
  r4 = number_text 2 (length g.card) ++ r5

  r3 : Bytes
  r3 = g.borrower ++ r4

  r2 : Bytes
  r2 = number_text 10 g.number ++ r3

  r1 : Bytes
  r1 = g.lender ++ r2

  bytes : Bytes
  bytes = codes "GRNT" ++ r1

  word : Bytes
  word = codes "GRNT"

  lender_size : length g.lender ≡ 11
  lender_size = is.lender.size

  borrower_size : length g.borrower ≡ 11
  borrower_size = is.borrower.size

  from_word : (from at count : ℕ) → at ≡ 4 + from → part at count bytes ≡ part from count r1
  unfolding bytes
  from_word from at count e = part_skip (codes "GRNT") r1 from at count e

  from_lender : (from at count : ℕ) → at ≡ 15 + from → part at count bytes ≡ part from count r2
  unfolding r1
  from_lender from at count e = let s = lender_size in from_word (11 + from) at count (omega (arith, e)) ∙ part_skip g.lender r2 from (11 + from) count (omega (arith, s))

  from_number : (from at count : ℕ) → at ≡ 25 + from → part at count bytes ≡ part from count r3
  unfolding r2
  from_number from at count e = let s = number_length 10 g.number in from_lender (10 + from) at count (omega (arith, e)) ∙ part_skip (number_text 10 g.number) r3 from (10 + from) count (omega (arith, s))

  from_borrower : (from at count : ℕ) → at ≡ 36 + from → part at count bytes ≡ part from count r4
  unfolding r3
  from_borrower from at count e = let s = borrower_size in from_number (11 + from) at count (omega (arith, e)) ∙ part_skip g.borrower r4 from (11 + from) count (omega (arith, s))

  from_size : (from at count : ℕ) → at ≡ 38 + from → part at count bytes ≡ part from count r5
  unfolding r4
  from_size from at count e = let s = number_length 2 (length g.card) in from_borrower (2 + from) at count (omega (arith, e)) ∙ part_skip (number_text 2 (length g.card)) r5 from (2 + from) count (omega (arith, s))

  from_card : (from at count : ℕ) → at ≡ 38 + size + from → part at count bytes ≡ part from count r6
  unfolding r5 size
  from_card from at count e = let s = text_length g.card in from_size (length g.card + from) at count (omega (arith, e)) ∙ part_skip (text_of g.card) r6 from (length g.card + from) count (omega (arith, s))

  lender_is : part 4 11 bytes ≡ g.lender
  unfolding r1
  lender_is = from_word 0 4 11 refl ∙ part_here g.lender r2 11 lender_size

  number_is : decimal (part 15 10 bytes) ≡ g.number
  unfolding r2
  number_is = ap decimal (from_lender 0 15 10 refl ∙ part_here (number_text 10 g.number) r3 10 (number_length 10 g.number)) ∙ number_read 10 g.number (let n = is.number in omega (arith, n))

  borrower_is : part 25 11 bytes ≡ g.borrower
  unfolding r3
  borrower_is = from_number 0 25 11 refl ∙ part_here g.borrower r4 11 borrower_size

  size_is : card_size bytes ≡ size
  unfolding r4 size
  size_is = ap decimal (from_borrower 0 36 2 refl ∙ part_here (number_text 2 (length g.card)) r5 2 (number_length 2 (length g.card))) ∙ number_read 2 (length g.card) (let few = is.card.not_long in omega (arith, few))

  card_is : digits_of (part 38 size bytes) ≡ g.card
  unfolding r5 size
  card_is = ap digits_of (from_size 0 38 (length g.card) refl ∙ part_here (text_of g.card) r6 (length g.card) (text_length g.card)) ∙ text_again g.card

  date_size : length g.date ≡ 4
  date_size = let a = is.date.not_short in let b = is.date.not_long in omega (arith, a, b)

  date_is : digits_of (part (38 + size) 4 bytes) ≡ g.date
  unfolding r6
  date_is = let s = text_length g.date in let d = date_size in ap digits_of (from_card 0 (38 + size) 4 (omega arith) ∙ part_here (text_of g.date) (number_text 12 g.amount) 4 (omega (arith, s, d))) ∙ text_again g.date

  amount_is : decimal (part (42 + size) 12 bytes) ≡ g.amount
  unfolding r6
  amount_is =
      let s = text_length g.date in
      let d = date_size in
      ap decimal (from_card 4 (42 + size) 12 (omega arith) ∙ (part_skip (text_of g.date) (number_text 12 g.amount) 0 4 12 (omega (arith, s, d)) ∙ part_whole (number_text 12 g.amount) 12 (number_length 12 g.amount))) ∙ number_read 12 g.amount (let n = is.amount in omega (arith, n))

  rest_size : length r1 ≡ 50 + size
  unfolding r1 r2 r3 r4 r5 r6 size
  rest_size =
      let a = length-append g.lender r2 in
      let b = length-append (number_text 10 g.number) r3 in
      let c = length-append g.borrower r4 in
      let d = length-append (number_text 2 (length g.card)) r5 in
      let e = length-append (text_of g.card) r6 in
      let f = length-append (text_of g.date) (number_text 12 g.amount) in
      let x = lender_size in
      let y = number_length 10 g.number in
      let z = borrower_size in
      let u = number_length 2 (length g.card) in
      let v = text_length g.card in
      let w = text_length g.date in
      let k = date_size in
      let m = number_length 12 g.amount in
      omega (arith, a, b, c, d, e, f, x, y, z, u, v, w, k, m)

  rest_digits : list_all is_ascii_digit r1 ≡ true
  unfolding r1 r2 r3 r4 r5 r6
  rest_digits =
      both_digits g.lender r2 is.lender.digits
      (both_digits (number_text 10 g.number) r3 (number_digits 10 g.number)
      (both_digits g.borrower r4 is.borrower.digits
      (both_digits (number_text 2 (length g.card)) r5 (number_digits 2 (length g.card))
      (both_digits (text_of g.card) r6 (text_digits g.card is.card.digits)
      (both_digits (text_of g.date) (number_text 12 g.amount) (text_digits g.date is.date.digits) (number_digits 12 g.amount))))))

  fields_are : grant_at size bytes ≡ g
  fields_are = λ j. record { lender = lender_is j; number = number_is j; borrower = borrower_is j; card = card_is j; date = date_is j; amount = amount_is j }

  word_is : is_word_and_digits (codes "GRNT") (50 + card_size bytes) bytes ≡ true
  unfolding bytes
  word_is =
      let s = size_is in
      let r = rest_size in
      let whole : length bytes ≡ 4 + (50 + card_size bytes) = length-append (codes "GRNT") r1 ∙ omega (arith, r, s) in
      and_from _ _ (and_from _ _ refl (eq-eqb (length bytes) (4 + (50 + card_size bytes)) whole)) rest_digits

  other_word : is_word_and_digits (codes "GACK") 21 bytes ≡ false
  unfolding bytes
  other_word = refl

  pub grant_read : read_packet (packet_bytes (packets.Grant g)) ≡ Some (packets.Grant g)
  unfolding packet_bytes bytes r1 r2 r3 r4 r5 r6 size
  grant_read =
      let least = is.card.not_short in
      let most = is.card.not_long in
      let s = size_is in
      let low : nat_le 8 (card_size bytes) ≡ true = le-leb 8 (card_size bytes) (let z = sized in omega (arith, s, least, z)) in
      let high : nat_le (card_size bytes) 19 ≡ true = le-leb (card_size bytes) 19 (let z = sized in omega (arith, s, most, z)) in
      reads_grant bytes g other_word word_is low high (ap (λ k. grant_at k bytes) size_is ∙ fields_are)
    where
      sized : size ≡ length g.card
      sized = refl

-- an acknowledgement

pub received_read : (lender : Bytes) (number : ℕ) → IsPaddedId lender → number < 10000000000 → read_packet (packet_bytes (packets.Ack lender number)) ≡ Some (packets.Ack lender number)
unfolding read_packet packet_bytes
received_read lender number id less =
    let s = id.size in
    let n = number_length 10 number in
    let rest = length-append lender (number_text 10 number) in
    let bytes : Bytes = codes "GACK" ++ (lender ++ number_text 10 number) in
    let whole : length bytes ≡ 25 = length-append (codes "GACK") (lender ++ number_text 10 number) ∙ omega (arith, s, n, rest) in
    let word : is_word_and_digits (codes "GACK") 21 bytes ≡ true = and_from _ _ (and_from _ _ refl (eq-eqb (length bytes) 25 whole)) (both_digits lender (number_text 10 number) id.digits (number_digits 10 number)) in
    let a : part 4 11 bytes ≡ lender = part_skip (codes "GACK") (lender ++ number_text 10 number) 0 4 11 refl ∙ part_here lender (number_text 10 number) 11 s in
    let b : part 15 10 bytes ≡ number_text 10 number = part_skip (codes "GACK") (lender ++ number_text 10 number) 11 15 10 refl ∙ (part_skip lender (number_text 10 number) 0 11 10 (omega (arith, s)) ∙ part_whole (number_text 10 number) 10 n) in
    let c : decimal (part 15 10 bytes) ≡ number = ap decimal b ∙ number_read 10 number (omega (arith, less)) in
    rw word (λ j. Some (packets.Ack (a j) (c j)))

pub packet_again : (p : GrantPacket) → IsPacket p → read_packet (packet_bytes p) ≡ Some p
packet_again (packets.Grant g) is = grant_read g is
packet_again (packets.Ack lender number) is = received_read lender number is.0 is.1

-- a message is no packet

kind_no_packet : (k : Kind) (rest : Bytes) → read_packet (kind_text k ++ rest) ≡ None
unfolding read_packet
kind_no_packet K0100 rest = refl
kind_no_packet K0101 rest = refl
kind_no_packet K0110 rest = refl
kind_no_packet K0120 rest = refl
kind_no_packet K0121 rest = refl
kind_no_packet K0130 rest = refl
kind_no_packet K0400 rest = refl
kind_no_packet K0401 rest = refl
kind_no_packet K0410 rest = refl
kind_no_packet K0420 rest = refl
kind_no_packet K0421 rest = refl
kind_no_packet K0430 rest = refl

pub message_no_packet : (m : Fields) → read_packet (spelling m) ≡ None
unfolding spelling
message_no_packet m = kind_no_packet m.kind _

-- what is read has a padded id and a number

abbrev pub IsNumbered : GrantPacket → Type 0
IsNumbered (packets.Grant g) = IsPaddedId g.lender × (g.number < 10000000000)
IsNumbered (packets.Ack lender number) = ⊤

pub all_take : (k : ℕ) (xs : List ℕ) → list_all is_ascii_digit xs ≡ true → list_all is_ascii_digit (take k xs) ≡ true
all_take zero xs e = refl
all_take (suc k) [] e = refl
all_take (suc k) (x ∷ xs) e = let p = and_parts (is_ascii_digit x) (list_all is_ascii_digit xs) e in and_from _ _ p.0 (all_take k xs p.1)

pub all_drop : (k : ℕ) (xs : List ℕ) → list_all is_ascii_digit xs ≡ true → list_all is_ascii_digit (drop k xs) ≡ true
all_drop zero xs e = e
all_drop (suc k) [] e = refl
all_drop (suc k) (x ∷ xs) e = all_drop k xs (and_parts (is_ascii_digit x) (list_all is_ascii_digit xs) e).1

pub drop_more : (j k : ℕ) (xs : List ℕ) → drop (j + k) xs ≡ drop k (drop j xs)
drop_more zero k xs = let e : 0 + k ≡ k = omega arith in rw e refl
drop_more (suc j) k [] = let e : suc j + k ≡ suc (j + k) = omega arith in rw e (sym (nothing k))
  where
    nothing : (k : ℕ) → drop {A = ℕ} k [] ≡ []
    nothing zero = refl
    nothing (suc k) = refl
drop_more (suc j) k (x ∷ xs) = let e : suc j + k ≡ suc (j + k) = omega arith in rw e (drop_more j k xs)

pub decimal_below : (n i : ℕ) (xs : List ℕ) → n < 10 ^ i → list_all is_ascii_digit xs ≡ true → decimal_from n xs < 10 ^ (i + length xs)
decimal_below n i [] less e = let z : i + 0 ≡ i = omega arith in rw z less
decimal_below n i (x ∷ xs) less e =
    let p = and_parts (is_ascii_digit x) (list_all is_ascii_digit xs) e in
    let q = and_parts (nat_le 48 x) (nat_le x 57) p.0 in
    let high = leb-true x 57 q.1 in
    let z : i + suc (length xs) ≡ i + 1 + length xs = omega arith in
    rw z (decimal_below (n * 10 + (x - 48)) (i + 1) xs (below_more n (x - 48) i less (omega (arith, high))) p.1)

take_short : (k : ℕ) (xs : List ℕ) → length (take k xs) ≤ k
take_short zero xs = omega arith
take_short (suc k) [] = omega arith
take_short (suc k) (x ∷ xs) = let r = take_short k xs in omega (arith, r)

pub take_full : (k : ℕ) (xs : List ℕ) → k ≤ length xs → length (take k xs) ≡ k
take_full zero xs le = refl
take_full (suc k) [] le = absurd (omega (arith, le))
take_full (suc k) (x ∷ xs) le = ap suc (take_full k xs (omega (arith, le)))

numbered : (bytes : Bytes) → list_all is_ascii_digit (drop 4 bytes) ≡ true → 11 ≤ length (drop 4 bytes) → IsPaddedId (part 4 11 bytes) × (decimal (part 15 10 bytes) < 10000000000)
numbered bytes digits long =
    let a : list_all is_ascii_digit (part 15 10 bytes) ≡ true = ap (λ z. list_all is_ascii_digit (take 10 z)) (drop_more 4 11 bytes) ∙ all_take 10 (drop 11 (drop 4 bytes)) (all_drop 11 (drop 4 bytes) digits) in
    let b = decimal_below 0 0 (part 15 10 bytes) (lit< tt) a in
    let c = take_short 10 (drop 15 bytes) in
    let ten : 0 < 10 = lit< tt in
    let d : 10 ^ (0 + length (part 15 10 bytes)) ≤ 10 ^ 10 = pow-le-pow_right ten {i = 0 + length (part 15 10 bytes)} {j = 10} (omega (arith, c)) in
    (record { size = take_full 11 (drop 4 bytes) long; digits = all_take 11 (drop 4 bytes) digits }, omega (arith, b, d))

pub length_drop : (k : ℕ) (xs : List ℕ) (n : ℕ) → length xs ≡ k + n → length (drop k xs) ≡ n
length_drop zero xs n e = omega (arith, e)
length_drop (suc k) [] n e = absurd (omega (arith, e))
length_drop (suc k) (x ∷ xs) n e = length_drop k xs n (omega (arith, e))

pub packet_numbered : (bytes : Bytes) (p : GrantPacket) → read_packet bytes ≡ Some p → IsNumbered p
unfolding read_packet
packet_numbered bytes p e = first (is_word_and_digits (codes "GACK") 21 bytes) refl e
  where
    test : Bool
    test = is_word_and_digits (codes "GRNT") (50 + card_size bytes) bytes && nat_le 8 (card_size bytes) && nat_le (card_size bytes) 19

    second : (b : Bool) → test ≡ b → cond test (Some (packets.Grant (grant_at (card_size bytes) bytes))) None ≡ Some p → IsNumbered p
    second true at e =
        let q = and_parts (is_word_and_digits (codes "GRNT") (50 + card_size bytes) bytes && nat_le 8 (card_size bytes)) (nat_le (card_size bytes) 19) at in
        let r = and_parts (is_word_and_digits (codes "GRNT") (50 + card_size bytes) bytes) (nat_le 8 (card_size bytes)) q.0 in
        let w = and_parts (bytes_eq (part 0 4 bytes) (codes "GRNT") && eqb (length bytes) (4 + (50 + card_size bytes))) (list_all is_ascii_digit (drop 4 bytes)) r.0 in
        let l = eqb-true (length bytes) (4 + (50 + card_size bytes)) (and_parts (bytes_eq (part 0 4 bytes) (codes "GRNT")) (eqb (length bytes) (4 + (50 + card_size bytes))) w.0).1 in
        let k = length_drop 4 bytes (50 + card_size bytes) l in
        subst IsNumbered (same_Some _ _ (rw at at e)) (numbered bytes w.1 (omega (arith, k)))
    second false at e = absurd (no (rw at at e))
      where
        no : None ≡ Some p → ⊥
        no q = cc

    first : (b : Bool) → is_word_and_digits (codes "GACK") 21 bytes ≡ b → cond (is_word_and_digits (codes "GACK") 21 bytes) (Some (packets.Ack (part 4 11 bytes) (decimal (part 15 10 bytes)))) (cond test (Some (packets.Grant (grant_at (card_size bytes) bytes))) None) ≡ Some p → IsNumbered p
    first true at e = subst IsNumbered (same_Some _ _ (rw at at e)) tt
    first false at e = second test refl (rw at at e)

-- a test of packets

abbrev pub looks_padded : Bytes → Bool
looks_padded bs = eqb (length bs) 11 && list_all is_ascii_digit bs

abbrev pub looks_within : ℕ → ℕ → List ℕ → Bool
looks_within least most ds = leb least (length ds) && leb (length ds) most && list_all (λ d. ltb d 10) ds

unfoldable pub packet_good : GrantPacket → Bool
packet_good (packets.Grant g) = looks_padded g.lender && ltb g.number 10000000000 && looks_padded g.borrower && looks_within 8 19 g.card && looks_within 4 4 g.date && ltb g.amount 1000000000000
packet_good (packets.Ack lender number) = looks_padded lender && ltb number 10000000000

padded_is : (bs : Bytes) → looks_padded bs ≡ true → IsPaddedId bs
padded_is bs e = let p = and_parts (eqb (length bs) 11) (list_all is_ascii_digit bs) e in record { size = eqb-true _ _ p.0; digits = p.1 }

digits_are : (ds : List ℕ) → list_all (λ d. ltb d 10) ds ≡ true → AreDigits ds
digits_are [] e = tt
digits_are (d ∷ ds) e = let p = and_parts (ltb d 10) (list_all (λ d. ltb d 10) ds) e in (ltb-true _ _ p.0, digits_are ds p.1)

pub within_is : (least most : ℕ) (ds : List ℕ) → looks_within least most ds ≡ true → AreDigitsWithin least most ds
within_is least most ds e =
    let p = and_parts (leb least (length ds) && leb (length ds) most) (list_all (λ d. ltb d 10) ds) e in
    let q = and_parts (leb least (length ds)) (leb (length ds) most) p.0 in
    record { not_short = leb-true _ _ q.0; not_long = leb-true _ _ q.1; digits = digits_are ds p.1 }

pub packet_is : (p : GrantPacket) → packet_good p ≡ true → IsPacket p
unfolding packet_good
packet_is (packets.Grant g) e =
    let a = and_parts (looks_padded g.lender && ltb g.number 10000000000 && looks_padded g.borrower && looks_within 8 19 g.card && looks_within 4 4 g.date) (ltb g.amount 1000000000000) e in
    let b = and_parts (looks_padded g.lender && ltb g.number 10000000000 && looks_padded g.borrower && looks_within 8 19 g.card) (looks_within 4 4 g.date) a.0 in
    let c = and_parts (looks_padded g.lender && ltb g.number 10000000000 && looks_padded g.borrower) (looks_within 8 19 g.card) b.0 in
    let d = and_parts (looks_padded g.lender && ltb g.number 10000000000) (looks_padded g.borrower) c.0 in
    let f = and_parts (looks_padded g.lender) (ltb g.number 10000000000) d.0 in
    record { lender = padded_is g.lender f.0; number = ltb-true _ _ f.1; borrower = padded_is g.borrower d.1; card = within_is 8 19 g.card c.1; date = within_is 4 4 g.date b.1; amount = ltb-true _ _ a.1 }
packet_is (packets.Ack lender number) e = let p = and_parts (looks_padded lender) (ltb number 10000000000) e in (padded_is lender p.0, ltb-true _ _ p.1)
