-- What is read as a packet is exactly what it is written as.
use Rattle.std.proofs.Common.{◌≡◌, ℕ, ◌+◌, ◌-◌, ◌*◌, ◌^◌, ◌<◌, ◌≤◌, List, [], ◌∷◌, ◌++◌, length, take, drop, Some, None, Bool, true, false, cond, ◌&&◌, nat_le, refl, sym, ap, ◌∙◌, subst, arith, bytes_eq, eqb, lit<}
use Rattle.std.proofs.lemmas.Bool.{and_parts, eqb-true, leb-true}
use Rattle.std.proofs.lemmas.List.{take-append-drop, take_all, length-map}
use Rattle.std.proofs.lemmas.Option.{same_Some}
use Rattle.std.specs.Prelude.{codes}
use Rattle.std.specs.Char.{is_ascii_digit}
use Rattle.std.specs.List.{list_all}
use Rattle.card_digits.specs.Digits.{digits_of}
use Rattle.card_digits.specs.Numbers.{decimal_from, decimal}
use Rattle.message_keys.specs.Keys.{part}
use Rattle.network_law.specs.Cards.{Bytes, text_of}
use Rattle.network_law.specs.declared.grant.GrantPacket.{GrantPacket}
use Rattle.network_law.specs.declared.grant.GrantPacket.TheVariants as packets
use Rattle.network_law.specs.Grants.{number_text, packet_bytes, is_word_and_digits, grant_at, card_size, read_packet}
use Rattle.network_law.specs.PlainGrants.{PacketsAreExact}
use Rattle.message_keys.proofs.Equality.{bytes_eq_is}
use Rattle.network_law.proofs.Packets.{number_length, number_digits, number_read, all_take, all_drop, drop_more, decimal_below, take_full, length_drop}

-- digits of one length that write one number are the same

record IsByteDigit (b : ℕ) : Type 0 where
  low : 48 ≤ b
  high : b ≤ 57

byte_digit : (b : ℕ) → is_ascii_digit b ≡ true → IsByteDigit b
byte_digit b e = let p = and_parts (nat_le 48 b) (nat_le b 57) e in record { low = leb-true 48 b p.0; high = leb-true b 57 p.1 }

same_digits : (n m : ℕ) (xs ys : List ℕ) → length xs ≡ length ys → list_all is_ascii_digit xs ≡ true → list_all is_ascii_digit ys ≡ true → decimal_from n xs ≡ decimal_from m ys → (n ≡ m) × (xs ≡ ys)
same_digits n m [] [] l a b e = (e, refl)
same_digits n m [] (y ∷ ys) l a b e = absurd (omega (arith, l))
same_digits n m (x ∷ xs) [] l a b e = absurd (omega (arith, l))
same_digits n m (x ∷ xs) (y ∷ ys) l a b e =
    let p = and_parts (is_ascii_digit x) (list_all is_ascii_digit xs) a in
    let q = and_parts (is_ascii_digit y) (list_all is_ascii_digit ys) b in
    let dx = byte_digit x p.0 in
    let dy = byte_digit y q.0 in
    let r = same_digits (n * 10 + (x - 48)) (m * 10 + (y - 48)) xs ys (omega (arith, l)) p.1 q.1 e in
    let f = r.0 in
    let x0 = IsByteDigit.low dx in
    let x1 = IsByteDigit.high dx in
    let y0 = IsByteDigit.low dy in
    let y1 = IsByteDigit.high dy in
    let first : x ≡ y = omega (arith, f, x0, x1, y0, y1) in
    (omega (arith, f, x0, x1, y0, y1), ap (λ z. z ∷ xs) first ∙ ap (λ zs. y ∷ zs) r.1)

number_again : (w : ℕ) (xs : List ℕ) → length xs ≡ w → list_all is_ascii_digit xs ≡ true → number_text w (decimal xs) ≡ xs
number_again w xs l d =
    let below : decimal xs < 10 ^ (0 + length xs) = decimal_below 0 0 xs (lit< tt) d in
    let e : 0 + length xs ≡ w = omega (arith, l) in
    let less : decimal xs < 10 ^ w = subst (λ k. decimal xs < 10 ^ k) e below in
    (same_digits 0 0 (number_text w (decimal xs)) xs (number_length w (decimal xs) ∙ sym l) (number_digits w (decimal xs)) d (number_read w (decimal xs) less)).1

text_again : (xs : List ℕ) → list_all is_ascii_digit xs ≡ true → text_of (digits_of xs) ≡ xs
text_again [] d = refl
text_again (x ∷ xs) d =
    let p = and_parts (is_ascii_digit x) (list_all is_ascii_digit xs) d in
    let low = IsByteDigit.low (byte_digit x p.0) in
    let e : x - 48 + 48 ≡ x = omega (arith, low) in
    ap (λ z. z ∷ text_of (digits_of xs)) e ∙ ap (λ zs. x ∷ zs) (text_again xs p.1)

-- parts

piece_to : (k c next : ℕ) (bs : Bytes) → next ≡ k + c → part k c bs ++ drop next bs ≡ drop k bs
piece_to k c next bs e = ap (λ z. part k c bs ++ drop z bs) e ∙ (ap (λ z. part k c bs ++ z) (drop_more k c bs) ∙ take-append-drop c (drop k bs))

pub digits_part : (at j c : ℕ) (bs : Bytes) → at ≡ 4 + j → list_all is_ascii_digit (drop 4 bs) ≡ true → list_all is_ascii_digit (part at c bs) ≡ true
digits_part at j c bs e d = ap (λ z. list_all is_ascii_digit (take c (drop z bs))) e ∙ (ap (λ z. list_all is_ascii_digit (take c z)) (drop_more 4 j bs) ∙ all_take c (drop j (drop 4 bs)) (all_drop j (drop 4 bs) d))

pub part_long : (k c more : ℕ) (bs : Bytes) → length bs ≡ k + (c + more) → length (part k c bs) ≡ c
part_long k c more bs l = let e = length_drop k bs (c + more) l in take_full c (drop k bs) (omega (arith, e))

last_part : (k c : ℕ) (bs : Bytes) → length bs ≡ k + c → part k c bs ≡ drop k bs
last_part k c bs l = let e = length_drop k bs c l in take_all c (drop k bs) (omega (arith, e))

pub word_parts : (word : Bytes) (count : ℕ) (bs : Bytes) → is_word_and_digits word count bs ≡ true → (part 0 4 bs ≡ word) × (length bs ≡ 4 + count) × (list_all is_ascii_digit (drop 4 bs) ≡ true)
word_parts word count bs e =
    let p = and_parts (bytes_eq (part 0 4 bs) word && eqb (length bs) (4 + count)) (list_all is_ascii_digit (drop 4 bs)) e in
    let q = and_parts (bytes_eq (part 0 4 bs) word) (eqb (length bs) (4 + count)) p.0 in
    (bytes_eq_is (part 0 4 bs) word q.0, eqb-true (length bs) (4 + count) q.1, p.1)

-- what acknowledges a grant

received_exact : (bs : Bytes) → is_word_and_digits (codes "GACK") 21 bs ≡ true → packet_bytes (packets.Ack (part 4 11 bs) (decimal (part 15 10 bs))) ≡ bs
unfolding packet_bytes
received_exact bs e =
    let w = word_parts (codes "GACK") 21 bs e in
    let l = w.1 in
    let number : number_text 10 (decimal (part 15 10 bs)) ≡ drop 15 bs = number_again 10 (part 15 10 bs) (part_long 15 10 0 bs (omega (arith, l))) (digits_part 15 11 10 bs refl w.2) ∙ last_part 15 10 bs (omega (arith, l)) in
    ap (λ z. codes "GACK" ++ (part 4 11 bs ++ z)) number
    ∙ (ap (λ z. codes "GACK" ++ z) (piece_to 4 11 15 bs refl)
    ∙ (ap (λ z. z ++ drop 4 bs) (sym w.0) ∙ piece_to 0 4 4 bs refl))

-- a grant

grant_exact : (bs : Bytes) (size : ℕ) → size ≡ card_size bs → is_word_and_digits (codes "GRNT") (50 + size) bs ≡ true → packet_bytes (packets.Grant (grant_at size bs)) ≡ bs
unfolding packet_bytes
grant_exact bs size same e =
    let w = word_parts (codes "GRNT") (50 + size) bs e in
    let l = w.1 in
    let d = w.2 in
    let card_long : length (part 38 size bs) ≡ size = part_long 38 size 16 bs (omega (arith, l)) in
    let sized : length (digits_of (part 38 size bs)) ≡ decimal (part 36 2 bs) = length-map (part 38 size bs) (λ b. b - 48) ∙ (card_long ∙ same) in
    let amount : number_text 12 (decimal (part (42 + size) 12 bs)) ≡ drop (42 + size) bs = number_again 12 (part (42 + size) 12 bs) (part_long (42 + size) 12 0 bs (omega (arith, l))) (digits_part (42 + size) (38 + size) 12 bs (omega arith) d) ∙ last_part (42 + size) 12 bs (omega (arith, l)) in
    let date : text_of (digits_of (part (38 + size) 4 bs)) ≡ part (38 + size) 4 bs = text_again (part (38 + size) 4 bs) (digits_part (38 + size) (34 + size) 4 bs (omega arith) d) in
    let card : text_of (digits_of (part 38 size bs)) ≡ part 38 size bs = text_again (part 38 size bs) (digits_part 38 34 size bs refl d) in
    let two : number_text 2 (length (digits_of (part 38 size bs))) ≡ part 36 2 bs = ap (number_text 2) sized ∙ number_again 2 (part 36 2 bs) (part_long 36 2 (size + 16) bs (omega (arith, l))) (digits_part 36 32 2 bs refl d) in
    let number : number_text 10 (decimal (part 15 10 bs)) ≡ part 15 10 bs = number_again 10 (part 15 10 bs) (part_long 15 10 (29 + size) bs (omega (arith, l))) (digits_part 15 11 10 bs refl d) in
    let r6 : text_of (digits_of (part (38 + size) 4 bs)) ++ number_text 12 (decimal (part (42 + size) 12 bs)) ≡ drop (38 + size) bs = ap (λ z. z ++ number_text 12 (decimal (part (42 + size) 12 bs))) date ∙ (ap (λ z. part (38 + size) 4 bs ++ z) amount ∙ piece_to (38 + size) 4 (42 + size) bs (omega arith)) in
    let r5 : text_of (digits_of (part 38 size bs)) ++ (text_of (digits_of (part (38 + size) 4 bs)) ++ number_text 12 (decimal (part (42 + size) 12 bs))) ≡ drop 38 bs = ap (λ z. text_of (digits_of (part 38 size bs)) ++ z) r6 ∙ (ap (λ z. z ++ drop (38 + size) bs) card ∙ piece_to 38 size (38 + size) bs refl) in
    ap (λ z. codes "GRNT" ++ (part 4 11 bs ++ (number_text 10 (decimal (part 15 10 bs)) ++ (part 25 11 bs ++ (number_text 2 (length (digits_of (part 38 size bs))) ++ z))))) r5
    ∙ (ap (λ z. codes "GRNT" ++ (part 4 11 bs ++ (number_text 10 (decimal (part 15 10 bs)) ++ (part 25 11 bs ++ (z ++ drop 38 bs))))) two
    ∙ (ap (λ z. codes "GRNT" ++ (part 4 11 bs ++ (number_text 10 (decimal (part 15 10 bs)) ++ (part 25 11 bs ++ z)))) (piece_to 36 2 38 bs refl)
    ∙ (ap (λ z. codes "GRNT" ++ (part 4 11 bs ++ (number_text 10 (decimal (part 15 10 bs)) ++ z))) (piece_to 25 11 36 bs refl)
    ∙ (ap (λ z. codes "GRNT" ++ (part 4 11 bs ++ (z ++ drop 25 bs))) number
    ∙ (ap (λ z. codes "GRNT" ++ (part 4 11 bs ++ z)) (piece_to 15 10 25 bs refl)
    ∙ (ap (λ z. codes "GRNT" ++ z) (piece_to 4 11 15 bs refl)
    ∙ (ap (λ z. z ++ drop 4 bs) (sym w.0) ∙ piece_to 0 4 4 bs refl)))))))

abbrev IsExact : Bytes → GrantPacket → Type 0
IsExact bs p = packet_bytes p ≡ bs

pub packets_are_exact : PacketsAreExact
unfolding read_packet
packets_are_exact bs p e = first (is_word_and_digits (codes "GACK") 21 bs) refl e
  where
    test : Bool
    test = is_word_and_digits (codes "GRNT") (50 + card_size bs) bs && nat_le 8 (card_size bs) && nat_le (card_size bs) 19

    second : (b : Bool) → test ≡ b → cond test (Some (packets.Grant (grant_at (card_size bs) bs))) None ≡ Some p → IsExact bs p
    second true at e =
        let q = and_parts (is_word_and_digits (codes "GRNT") (50 + card_size bs) bs && nat_le 8 (card_size bs)) (nat_le (card_size bs) 19) at in
        let r = and_parts (is_word_and_digits (codes "GRNT") (50 + card_size bs) bs) (nat_le 8 (card_size bs)) q.0 in
        subst (IsExact bs) (same_Some _ _ (rw at at e)) (grant_exact bs (card_size bs) refl r.0)
    second false at e = absurd (no (rw at at e))
      where
        no : None ≡ Some p → ⊥
        no q = cc

    first : (b : Bool) → is_word_and_digits (codes "GACK") 21 bs ≡ b → cond (is_word_and_digits (codes "GACK") 21 bs) (Some (packets.Ack (part 4 11 bs) (decimal (part 15 10 bs)))) (cond test (Some (packets.Grant (grant_at (card_size bs) bs))) None) ≡ Some p → IsExact bs p
    first true at e = subst (IsExact bs) (same_Some _ _ (rw at at e)) (received_exact bs at)
    first false at e = second test refl (rw at at e)
