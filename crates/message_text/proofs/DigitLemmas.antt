-- Hexadecimal digits with capitals.
use Rattle.std.proofs.Common.{◌≡◌, ℕ, ◌/◌, ◌%◌, List, [], ◌∷◌, map, refl, sym, ap, ◌∙◌}
use Rattle.std.specs.Prelude.{slice_index}
use Rattle.std.specs.Char.{to_ascii_uppercase}
use Rattle.std.proofs.Math.ListN.{get_or-map}
use Rattle.hex.specs.Hex.{encode_with, encode_lower, encode_upper, lower_digits, upper_digits}

capital : (k : ℕ) → to_ascii_uppercase (slice_index lower_digits k) ≡ slice_index upper_digits k
capital k = sym (get_or-map to_ascii_uppercase lower_digits k 0)

pub capitals : (bytes : List ℕ) → map to_ascii_uppercase (encode_lower bytes) ≡ encode_upper bytes
unfolding encode_with
capitals [] = refl
capitals (byte ∷ bytes) =
    ap (λ d. d ∷ map to_ascii_uppercase (slice_index lower_digits (byte % 16) ∷ encode_lower bytes)) (capital (byte / 16))
    ∙ ap (λ d. slice_index upper_digits (byte / 16) ∷ d ∷ map to_ascii_uppercase (encode_lower bytes)) (capital (byte % 16))
    ∙ ap (λ ds. slice_index upper_digits (byte / 16) ∷ slice_index upper_digits (byte % 16) ∷ ds) (capitals bytes)
