-- The decimal digits of an element's number.
use Rattle.std.proofs.Common.{◌≡◌, ℕ, ◌/◌, ◌%◌, ◌+◌, ◌<◌, ◌≤◌, ◌++◌, List, [], ◌∷◌, Result, Ok, Err, ap, ◌∙◌, arith}
use Rattle.std.specs.Prelude.{decimal, is_ok, OnOk, if◌then◌else◌}
use Rattle.std.proofs.lemmas.Fmt.{decimal_digit, decimal_step}

pub one_digit : (n : ℕ) → n < 10 → decimal n ≡ (48 + n % 10) ∷ []
one_digit n h =
    let same : n ≡ n % 10 = omega (arith, h) in
    decimal_digit n h ∙ ap (λ d. (48 + d) ∷ []) same

pub two_digits : (n : ℕ) → 10 ≤ n → n < 100 → decimal n ≡ (48 + n / 10 % 10) ∷ (48 + n % 10) ∷ []
two_digits n le h = decimal_step n le (omega (arith, h)) ∙ ap (λ ds. ds ++ (48 + n % 10) ∷ []) (one_digit (n / 10) (omega (arith, h)))

pub two_plain : (n : ℕ) → 10 ≤ n → n < 100 → decimal n ≡ (48 + n / 10) ∷ (48 + n % 10) ∷ []
two_plain n le h =
    let same : n / 10 % 10 ≡ n / 10 = omega (arith, h) in
    two_digits n le h ∙ ap (λ d. (48 + d) ∷ (48 + n % 10) ∷ []) same

pub three_digits : (n : ℕ) → 100 ≤ n → n < 256 → decimal n ≡ (48 + n / 100) ∷ (48 + n / 10 % 10) ∷ (48 + n % 10) ∷ []
three_digits n le h =
    let front : n / 10 / 10 % 10 ≡ n / 100 = omega (arith, h) in
    decimal_step n (omega (arith, le)) (omega (arith, h))
    ∙ ap (λ ds. ds ++ (48 + n % 10) ∷ []) (two_digits (n / 10) (omega (arith, le)) (omega (arith, h)))
    ∙ ap (λ d. (48 + d) ∷ (48 + n / 10 % 10) ∷ (48 + n % 10) ∷ []) front

-- what was added where adding succeeded
pub appended : {A E : Type 0} (r : Result A E) (new old more : List ℕ) → new ≡ (if is_ok r then old ++ more else old) → OnOk r (new ≡ old ++ more)
appended (Ok x) new old more e = e
appended (Err x) new old more e = tt
