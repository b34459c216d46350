-- The first twelve digits of a card number, as they are read.
use Rattle.std.proofs.Common.{◌≡◌, ℕ, zero, suc, ◌||◌, nat_lt, ◌-◌, ◌<◌, min, Bool, true, false, List, [], ◌∷◌, length, take, length-take, Result, Ok, Err, Option, None, refl, sym, ap, ◌∙◌, arith, inl, inr}
use Rattle.std.specs.Char.{is_ascii_digit}
use Rattle.std.specs.List.{list_all, filter, AllByRecursion}
use Rattle.std.specs.Option.{option_eq}
use Rattle.std.specs.Prelude.{◌==◌}
use Rattle.std.proofs.lemmas.Bool.{cases_Bool, and_parts, ltb-true, le-ltb}
use Rattle.std.proofs.lemmas.List.{take-map, take_min}
use Rattle.std.proofs.Math.Nat.{min_comm}
use Rattle.card_digits.specs.Digits.{AreDigitsWithin, digits_of}
use Rattle.card_digits.specs.Reading.{read_digits}
use Rattle.card_digits.specs.Longest.{longest}
use Rattle.card_digits.specs.declared.card.DigitFault.{DigitFault}
use Rattle.card_digits.specs.declared.card.DigitFault.TheVariants.{Length}
use Rattle.net_rows.proofs.Fronts.{none_is_longest, beyond_all}

all_taken : (k : ℕ) (bytes : List ℕ) → list_all is_ascii_digit bytes ≡ true → list_all is_ascii_digit (take k bytes) ≡ true
all_taken zero bytes h = refl
all_taken (suc k) [] h = refl
all_taken (suc k) (b ∷ bytes) h =
    let parts = and_parts (is_ascii_digit b) (list_all is_ascii_digit bytes) h in
    rw (parts.0) (all_taken k bytes parts.1)

module _ (number : List ℕ) (all : list_all is_ascii_digit number ≡ true) where
  front_is : (k : ℕ) → k ≡ min (length number) 12 → take k number ≡ take 12 number
  front_is k e = ap (λ n. take n number) (e ∙ min_comm (length number) 12) ∙ take_min 12 number

  short : (o : Bool) → nat_lt (length (take 12 number)) 1 ≡ o → (nat_lt (length (take 12 number)) 1 || nat_lt 12 (length (take 12 number))) ≡ o
  short true e = rw e refl
  short false e = rw e (le-ltb 12 (length (take 12 number)) (rw length-take (omega arith)))

  -- what is read are the first twelve digits
  pub some_front : (k : ℕ) (q : List ℕ) → k ≡ min (length number) 12 → Ok q ≡ read_digits 1 12 (take k number) → q ≡ take 12 (digits_of number)
  some_front k q e h = elim (cases_Bool (nat_lt (length (take 12 number)) 1)) [
    | inl few ↦ absurd (let wrong : ◌≡◌ {A = Result (List ℕ) DigitFault} (Ok q) (Err Length) = rw (front_is k e, all_taken 12 number all, short true few) at h in cc)
    | inr some ↦
        let read : ◌≡◌ {A = Result (List ℕ) DigitFault} (Ok q) (Ok (digits_of (take 12 number))) = rw (front_is k e, all_taken 12 number all, short false some) at h in
        let is : q ≡ digits_of (take 12 number) = cc in
        is ∙ sym (take-map (λ b. b - 48) 12 number)
  ]

  -- there is no digit where nothing is read
  pub no_front : (k : ℕ) (fault : DigitFault) → k ≡ min (length number) 12 → Err fault ≡ read_digits 1 12 (take k number) → number ≡ []
  no_front k fault e h = elim (cases_Bool (nat_lt (length (take 12 number)) 1)) [
    | inl few ↦ none number (let lt = ltb-true (length (take 12 number)) 1 few in rw length-take at lt)
    | inr some ↦ absurd (let wrong : ◌≡◌ {A = Result (List ℕ) DigitFault} (Err fault) (Ok (digits_of (take 12 number))) = rw (front_is k e, all_taken 12 number all, short false some) at h in cc)
  ]
    where
      none : (bytes : List ℕ) → min 12 (length bytes) < 1 → bytes ≡ []
      none [] lt = refl
      none (b ∷ bytes) lt = absurd (omega arith)

-- no row is met by no digits
pub none_met : {R : Type 0} (g : R → Option ℕ) (f : R → List ℕ) (n : Option ℕ) (rows : List R) → AllByRecursion (λ r. AreDigitsWithin 1 12 (f r)) rows → longest f (filter (λ r. option_eq ◌==◌ (g r) n) rows) [] ≡ None
none_met g f n rows form = none_is_longest g f n [] rows form (beyond_all g f n [] rows)
