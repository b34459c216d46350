-- What texts are, and what bytes are no message.
use Rattle.std.proofs.Common.{◌≡◌, ℕ, zero, suc, ◌<◌, List, [], ◌∷◌, None, Result, nat_le, get_or, arith, sym, ap, inl, inr}
use Rattle.std.specs.Result.{result_ok}
use Rattle.std.specs.Str.{IsUtf8}
use Rattle.std.proofs.lemmas.Bool.{and_parts, leb-true}
use Rattle.std.proofs.lemmas.Str.{IsUtf8-from_ascii}
use Rattle.message_elements.specs.declared.fault.DecodeFault.{DecodeFault}
use Rattle.message_elements.specs.declared.fault.DecodeFault.TheVariants.{Memory}
use Rattle.message_elements.specs.declared.form.Class.TheVariants.{Text}
use Rattle.message_elements.specs.Values.{fits, AreOf}
use Rattle.card_digits.specs.Attempts.{Fails}
use Rattle.iso_message.specs.Messages.{is_memory}
use Rattle.card_digits.proofs.Attempts.{fails_either}
use Rattle.iso_message.proofs.MemoryFault.{memory_is}

-- a fault other than want of memory is that of reading
pub no_message : {X : Type 0} (e : DecodeFault) (read : Result X DecodeFault) → (e ≡ Memory → ⊥) → Fails is_memory e read → None ≡ result_ok read
no_message e read other h = elim (fails_either is_memory e read h) [
  | inl memory ↦ absurd (other (memory_is e memory))
  | inr fails ↦ sym (ap result_ok fails)
]

code_bytes : (bs : List ℕ) → AreOf Text bs → (i : ℕ) → get_or bs i 0 < 128
code_bytes [] h i = omega arith
code_bytes (b ∷ bs) h zero =
    let first = and_parts (fits Text b) _ h in
    let within = leb-true b 126 (and_parts (nat_le 32 b) (nat_le b 126) first.0).1 in
    omega (arith, within)
code_bytes (b ∷ bs) h (suc i) = code_bytes bs (and_parts (fits Text b) _ h).1 i

-- bytes from 0x20 to 0x7E are text
pub code_is_utf8 : (bs : List ℕ) → AreOf Text bs → IsUtf8 bs
code_is_utf8 bs h = IsUtf8-from_ascii bs (code_bytes bs h)
