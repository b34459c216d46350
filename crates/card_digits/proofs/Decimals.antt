-- The number that digits write, read one digit at a time.
use Rattle.std.proofs.Common.{◌≡◌, ℕ, ◌+◌, ◌-◌, ◌*◌, ◌^◌, ◌<◌, ◌≤◌, true, List, [], ◌∷◌, length, drop, get_or, nat_le, zero, suc, add-one, arith, refl, lit<}
use Rattle.std.specs.Char.{is_ascii_digit}
use Rattle.std.specs.List.{list_all}
use Rattle.std.proofs.lemmas.Bool.{and_parts, leb-true}
use Rattle.std.proofs.Math.Nat.{pow-suc, pow-le-pow_right}
use Rattle.std.proofs.Math.Seq.{drop-cons}
use Rattle.card_digits.specs.Numbers.{decimal_from}

pub record IsDigitByte (b : ℕ) : Type 0 where
  pub low : 48 ≤ b
  pub high : b ≤ 57

pub digit_at : (text : List ℕ) (i : ℕ) → list_all is_ascii_digit text ≡ true → i < length text → IsDigitByte (get_or text i 0)
digit_at [] i h lt = absurd (omega arith)
digit_at (b ∷ text) zero h lt =
    let here = and_parts (nat_le 48 b) (nat_le b 57) (and_parts (is_ascii_digit b) (list_all is_ascii_digit text) h).0 in
    record { low = leb-true 48 b here.0; high = leb-true b 57 here.1 }
digit_at (b ∷ text) (suc i) h lt = digit_at text i (and_parts (is_ascii_digit b) (list_all is_ascii_digit text) h).1 (omega arith)

-- one digit more
pub decimal_from-drop : (n i : ℕ) (text : List ℕ) → i < length text → decimal_from n (drop i text) ≡ decimal_from (n * 10 + (get_or text i 0 - 48)) (drop (i + 1) text)
decimal_from-drop n i text lt = rw (add-one, drop-cons text i 0) refl

-- the number has no more digits than were read
pub below_more : (n d i : ℕ) → n < 10 ^ i → d ≤ 9 → n * 10 + d < 10 ^ (i + 1)
below_more n d i lt small = rw (add-one, pow-suc 10 i) (omega arith)

-- of at most 17 digits one more still fits
pub fits_more : (n i : ℕ) → n < 10 ^ i → i < 18 → n < 10 ^ 17
fits_more n i lt few =
    let ten : 0 < 10 = lit< tt in
    let most : 10 ^ i ≤ 10 ^ 17 = pow-le-pow_right ten {i = i} {j = 17} (omega arith) in
    omega arith
