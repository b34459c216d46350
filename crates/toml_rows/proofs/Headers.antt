-- The header of a row is a line.
use Rattle.std.proofs.Common.{◌≡◌, ℕ, ◌<◌, ◌==◌, true, false, List, [], ◌∷◌, length, drop, slice_index, Some, refl, arith}
use Rattle.std.proofs.lemmas.Bool.Decides.{nat_tests}
use Rattle.toml_parser.specs.Lexical.{first, skip_ws, skip_blank}
use Rattle.toml.specs.Parse.{line, expression, header_key, ends_line}
use Rattle.toml.proofs.Blanks.{skip_within}
use Rattle.toml_rows.specs.Rows.{IsLine, row_line}

not_over : (n : ℕ) (text : List ℕ) → n < length text → (length text == 0) ≡ false
not_over n [] h = absurd (omega arith)
not_over n (c ∷ cs) h = grind (arith, nat_tests)

pub row_header_line : (word text after rest : List ℕ) → (first (skip_blank text) == 91) ≡ true → (slice_index (skip_blank text) 1 == 91) ≡ true
    → length (drop 2 (skip_blank text)) < length (skip_blank text) → header_key (drop 2 (skip_blank text)) ≡ Some (([], word), after)
    → (first after == 93) ≡ true → rest ≡ drop 1 after → ends_line (skip_ws rest) ≡ true → length rest < length (skip_blank text) → IsLine (row_line word) text rest
unfolding line expression
row_header_line word text after rest opens twice inside key closes is ends less = record {
  some = not_over (length (drop 2 (skip_blank text))) (skip_blank text) inside;
  read = rw (opens, twice, key, closes, ← is, ends) refl;
  shorter = omega (arith, less, skip_within text);
}
