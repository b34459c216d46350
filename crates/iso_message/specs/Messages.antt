-- Messages, and what is read.
use Rattle.std.specs.Prelude.{◌≡◌, ℕ, zero, suc, ◌-◌, ◌%◌, ◌^◌, ◌==◌, nat_lt, Bool, true, false, List, [], ◌∷◌, length, take, drop, Option, Some, None, Result, Ok, Err, if◌then◌else◌}
use Rattle.std.specs.Int.{w64, from_be_bytes}
use Rattle.hex.specs.Hex.{decode_sized}
use Rattle.hex.specs.declared.error.FromHexError.{FromHexError}
use Rattle.message_elements.specs.declared.kind.Kind.{Kind}
use Rattle.message_elements.specs.declared.fault.DecodeFault.{DecodeFault}
use Rattle.message_elements.specs.declared.fault.DecodeFault.TheVariants as faults
use Rattle.message_elements.specs.Types.{kind_of}
use Rattle.iso_message.specs.Fields.{Fields}
use Rattle.card_digits.specs.Attempts.{◌>>=◌}
use Rattle.iso_message.specs.Elements.{with_all}

-- the numbers of the bits that are set among the k lowest of a map, of which the lowest is that of last
unfoldable pub marks : ℕ → ℕ → ℕ → List ℕ
marks last zero map = []
marks last (suc k) map = if nat_lt map (2 ^ k) then marks last k map else (last - k) ∷ marks last k (map - 2 ^ k)

abbrev pub typed : Option Kind → List ℕ → Result (Kind × List ℕ) DecodeFault
typed None rest = Err faults.BadType
typed (Some kind) rest = Ok (kind, rest)

unfoldable pub kind_at : List ℕ → Result (Kind × List ℕ) DecodeFault
kind_at bytes = if nat_lt (length bytes) 4 then Err faults.Short else typed (kind_of (take 4 bytes)) (drop 4 bytes)

abbrev pub mapped : Result (List ℕ) FromHexError → List ℕ → Result (ℕ × List ℕ) DecodeFault
mapped (Ok bytes) rest = Ok (from_be_bytes w64 bytes, rest)
mapped (Err e) rest = Err faults.BitMap

-- 16 hexadecimal digits
unfoldable pub map_at : List ℕ → Result (ℕ × List ℕ) DecodeFault
map_at bytes = if nat_lt (length bytes) 16 then Err faults.Short else mapped (decode_sized (take 16 bytes) 8) (drop 16 bytes)

-- the second map, where the first bit of the first is set
unfoldable pub second_at : ℕ → List ℕ → Result (ℕ × List ℕ) DecodeFault
second_at first rest = if nat_lt first (2 ^ 63) then Ok (0, rest) else map_at rest

unfoldable pub read : List ℕ → Result Fields DecodeFault
read bytes = do
  kind ← kind_at bytes
  first ← map_at kind.1
  second ← second_at first.0 first.1
  low ← with_all [] (marks 64 64 (first.0 % 2 ^ 63)) second.1
  high ← with_all low.0 (marks 128 64 second.0) low.1
  if length high.1 == 0 then Ok (record { kind = kind.0; elements = high.0 }) else Err faults.Trailing

-- what a function returned is what reading gives
abbrev pub Reads : {X Y : Type 0} → (X → Y) → Result X DecodeFault → Result Y DecodeFault → Type 0
Reads view (Ok x) read = read ≡ Ok (view x)
Reads view (Err e) read = read ≡ Err e

-- the fault of a function that was refused memory
abbrev pub is_memory : DecodeFault → Bool
is_memory faults.Memory = true
is_memory e = false
