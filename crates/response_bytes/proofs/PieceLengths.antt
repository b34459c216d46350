-- How long pieces are, by the bytes that they begin with.
use Rattle.std.proofs.Common.{◌≡◌, ℕ, ◌+◌, ◌*◌, ◌/◌, ◌%◌, ◌<◌, ◌≤◌, List, ◌++◌, length, get_or, Option, Some, None, ap, ◌∙◌, arith}
use Rattle.hex.proofs.HexLemmas.{length-encode_with}
use Rattle.hex.specs.Hex.{upper_digits}
use Rattle.message_elements.specs.declared.form.Form.{Form}
use Rattle.message_elements.specs.declared.form.Form.TheVariants as forms
use Rattle.message_elements.specs.declared.form.FixedForm.{FixedForm}
use Rattle.message_elements.specs.Fixed.{fixed_of}
use Rattle.iso_message.specs.Spelling.{IsGood, piece, two_digits, three_digits}

pub two_there : (n : ℕ) (rest bytes : List ℕ) → bytes ≡ two_digits n ++ rest → 2 ≤ length bytes
two_there n rest bytes e = omega (arith, ap length e)

pub two_read : (n : ℕ) (rest bytes : List ℕ) → n < 100 → bytes ≡ two_digits n ++ rest → 10 * (get_or bytes 0 0 % 16) + get_or bytes 1 0 % 16 ≡ n
two_read n rest bytes h e =
    let a : get_or bytes 0 0 ≡ 48 + n / 10 = ap (λ bs. get_or bs 0 0) e in
    let b : get_or bytes 1 0 ≡ 48 + n % 10 = ap (λ bs. get_or bs 1 0) e in
    rw (a, b) (omega arith)

pub three_there : (n : ℕ) (rest bytes : List ℕ) → bytes ≡ three_digits n ++ rest → 3 ≤ length bytes
three_there n rest bytes e = omega (arith, ap length e)

pub three_read : (n : ℕ) (rest bytes : List ℕ) → n < 1000 → bytes ≡ three_digits n ++ rest → 100 * (get_or bytes 0 0 % 16) + 10 * (get_or bytes 1 0 % 16) + get_or bytes 2 0 % 16 ≡ n
three_read n rest bytes h e =
    let a : get_or bytes 0 0 ≡ 48 + n / 100 = ap (λ bs. get_or bs 0 0) e in
    let b : get_or bytes 1 0 ≡ 48 + n / 10 % 10 = ap (λ bs. get_or bs 1 0) e in
    let c : get_or bytes 2 0 ≡ 48 + n % 10 = ap (λ bs. get_or bs 2 0) e in
    rw (a, b, c) (omega arith)

pub fixed_length : (form : Option Form) (f : FixedForm) (value : List ℕ) → fixed_of form ≡ Some f → IsGood form value → length (piece form value) ≡ f.size
fixed_length None f value e g = absurd g
fixed_length (Some (forms.Fixed class size)) f value e g = let same : size ≡ f.size = cc in g.0 ∙ same
fixed_length (Some (forms.Llvar class most)) f value e g = absurd cc
fixed_length (Some (forms.Lllvar class most)) f value e g = absurd cc
fixed_length (Some forms.Binary) f value e g = absurd cc

pub binary_length : (value : List ℕ) → length value ≡ 8 → length (piece (Some forms.Binary) value) ≡ 16
binary_length value h = omega (arith, length-encode_with upper_digits value)
