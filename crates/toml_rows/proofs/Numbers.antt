-- Digits alone are a value.
use Rattle.std.proofs.Common.{◌≡◌, ℕ, ◌<◌, ◌^◌, true, List, ◌++◌, length, get_or, pos, Some, decimal, FitsSigned, refl, sym, arith}
use Rattle.std.proofs.lemmas.Bool.Decides.{nat_tests}
use Rattle.std.proofs.lemmas.Fmt.{decimal-digits_value}
use Rattle.std.proofs.lemmas.Str.Parse.{numerals_by_value, tells_digits}
use Rattle.std.specs.Int.{w64}
use Rattle.std.specs.Str.Parse.{AllDigits, digits_value}
use Rattle.toml_parser.specs.Lexical.{first}
use Rattle.toml.specs.Data.{integer}
use Rattle.toml.specs.Parse.{val}
use Rattle.toml.proofs.ReadValues.{EndsValue, read_value}

ends_value : (rest : List ℕ) → first rest < 32 → EndsValue rest
ends_value rest stop = ((grind (arith, nat_tests), grind (arith, nat_tests)), (grind (arith, nat_tests), grind (arith, nat_tests)))

-- digits with no 0 before another, at whose end stands a control character or nothing
pub digits_read : (depth : ℕ) (w rest : List ℕ) → AllDigits 10 w → 0 < length w → (get_or w 0 0 ≡ 48 → length w ≡ 1) → digits_value 10 w < 10 ^ 18 → first rest < 32
    → val depth (w ++ rest) ≡ Some (integer (pos (digits_value 10 w)), rest)
digits_read depth w rest digits some lead small stop =
    let n = digits_value 10 w in
    let same : decimal n ≡ w = decimal-digits_value (numerals_by_value _ tells_digits) w digits some lead (omega arith) in
    let fits : FitsSigned w64 (pos n) = omega arith in
    read_value true (integer (pos n)) depth w rest (sym same, fits) (omega arith) refl (ends_value rest stop)
