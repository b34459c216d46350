-- Padded digits come back from the digits without the padding.
use Rattle.std.specs.Prelude.{◌≡◌, ℕ, ◌-◌, List, ◌++◌, length, take, replicate, refl}
use Rattle.std.proofs.Common.{arith}
use Rattle.std.proofs.lemmas.List.{take-append-drop, length-take}
use Rattle.card_digits.specs.Digits.{IsPadded}
use Rattle.card_digits.specs.declared.short_bytes.ShortBytes.TheInside.{Inside}

pub padded_len : (n len : ℕ) (ds : List ℕ) → IsPadded n len ds → length (take len ds) ≡ len
padded_len n len ds h = omega (arith, length-take len ds, h.fits, h.full)

pub padded_rest : (n len : ℕ) (ds : List ℕ) → IsPadded n len ds → take len ds ++ replicate (n - len) 0 ≡ ds
padded_rest n len ds h = rw (← h.rest) (take-append-drop len ds)

pub padded_again : (n : ℕ) (a : Inside n) → IsPadded n a.len a.bytes
    → record { bytes = take a.len a.bytes ++ replicate (n - length (take a.len a.bytes)) 0; len = length (take a.len a.bytes) } ≡ a
padded_again n a h =
    rw (padded_len n a.len a.bytes h, padded_rest n a.len a.bytes h) refl
