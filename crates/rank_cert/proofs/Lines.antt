-- The bytes of a line.
use Rattle.std.proofs.Common.{◌≡◌, ℕ, ◌+◌, ◌-◌, ◌/◌, ◌%◌, ◌<◌, ◌≤◌, ◌++◌, List, [], ◌∷◌, length, take, drop, map, refl, sym, ap, ◌∙◌, arith, append_assoc}
use Rattle.std.specs.List.{All}
use Rattle.std.specs.Fmt.{decimal}
use Rattle.std.proofs.lemmas.Fmt.{decimal_digit, decimal_step}
use Rattle.std.proofs.lemmas.List.{take_rest, take-append-drop, map-append}
use Rattle.std.proofs.lemmas.List.Elements.{All-head, All-tail}
use Rattle.card_digits.specs.Digits.{digits_text}

-- no sum with a digit is so large that it wraps
pub none_wraps : (digits : List ℕ) → All (λ d. d < 10) digits → map (λ d. (d + 48) % 256) digits ≡ digits_text digits
none_wraps [] below = refl
none_wraps (d ∷ ds) below =
    let first : d < 10 = All-head (λ (e : ℕ). e < 10) d ds below in
    let here : (d + 48) % 256 ≡ d + 48 = omega (arith, first) in
    rw (here, none_wraps ds (All-tail (λ (e : ℕ). e < 10) d ds below)) refl

-- the first digits, spelled, and those behind them
pub spelled_parts : (before text digits : List ℕ) (n : ℕ) → text ≡ digits_text (take n digits) → (before ++ text) ++ digits_text (take (length digits - n) (drop n digits)) ≡ before ++ digits_text digits
spelled_parts before text digits n is =
    let rest = take (length digits - n) (drop n digits) in
    append_assoc before text (digits_text rest)
    ∙ ap (λ ds. before ++ ds) (ap (λ ds. ds ++ digits_text rest) is ∙ sym (map-append (λ d. d + 48) (take n digits) rest) ∙ ap digits_text (ap (λ ds. take n digits ++ ds) (take_rest digits n) ∙ take-append-drop n digits))

pub two_digits : (n : ℕ) → 10 ≤ n → n < 100 → decimal n ≡ (48 + n / 10) ∷ (48 + n % 10) ∷ []
two_digits n some few = decimal_step n some (omega (arith, few)) ∙ ap (λ ds. ds ++ (48 + n % 10) ∷ []) (decimal_digit (n / 10) (omega (arith, few)))
