-- Settlement dates that a gate writes.
use Rattle.std.proofs.Common.{◌≡◌, ℕ, ◌+◌, ◌<◌, ◌⊎◌, length, List, [], ◌∷◌, Option, Some, None, true, refl, sym, ◌∙◌, arith, inl, inr}
use Rattle.std.specs.Char.{is_ascii_digit}
use Rattle.std.specs.List.{list_all}
use Rattle.std.proofs.lemmas.Bool.{and_from, le-leb, eq-eqb}
use Rattle.std.proofs.lemmas.List.{length-map}
use Rattle.card_digits.specs.Digits.{AreDigits, IsDateLabel}
use Rattle.message_elements.specs.declared.fault.DecodeFault.{DecodeFault}
use Rattle.message_elements.specs.declared.fault.DecodeFault.TheVariants.{Memory}
use Rattle.message_elements.specs.Values.{set_fault}
use Rattle.network_law.specs.Cards.{text_of}
use Rattle.message_elements.specs.Table.{table, form_of}

digit_written : (d : ℕ) → d < 10 → is_ascii_digit (d + 48) ≡ true
digit_written d h = and_from _ _ (le-leb 48 (d + 48) (omega arith)) (le-leb (d + 48) 57 (omega arith))

all_written : (ds : List ℕ) → AreDigits ds → list_all is_ascii_digit (text_of ds) ≡ true
all_written [] h = refl
all_written (d ∷ ds) h = and_from _ _ (digit_written d h.0) (all_written ds h.1)

-- a settlement date is one that element 15 takes
date_fits : (ds : List ℕ) → IsDateLabel ds → set_fault (form_of 15) 15 (text_of ds) ≡ None
unfolding form_of table
date_fits ds h =
    let four : length (text_of ds) ≡ 4 = length-map ds _ ∙ omega (arith, h.not_short, h.not_long) in
    rw (eq-eqb (length (text_of ds)) 4 four, all_written ds h.digits) refl

pub date_refused : (ds : List ℕ) (fault : DecodeFault) → IsDateLabel ds → (fault ≡ Memory) ⊎ (set_fault (form_of 15) 15 (text_of ds) ≡ Some fault) → fault ≡ Memory
date_refused ds fault h (inl memory) = memory
date_refused ds fault h (inr other) = absurd (let some : Path (Option DecodeFault) None (Some fault) = sym (date_fits ds h) ∙ other in cc)
