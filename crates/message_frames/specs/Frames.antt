-- Frames: a length of two bytes, the high one first, and so many bytes.
use Rattle.std.specs.Prelude.{◌≡◌, ℕ, ◌<◌, ◌≤◌, List, [], ◌∷◌, ◌++◌, length, Option, Some, None, IfSome}
use Rattle.std.specs.Int.{w16, to_be_bytes, from_be_bytes}
use Rattle.std.specs.Io.KnownBytes.{Consumes, IsAtEnd, Keeps}
use Rattle.card_digits.specs.Stream.{AppendsFront, one_more}
use Rattle.message_frames.specs.declared.frame.FrameFault.{FrameFault}
use Rattle.message_frames.specs.declared.frame.FrameFault.TheVariants as faults

abbrev pub frame : List ℕ → List ℕ
frame bytes = to_be_bytes w16 (length bytes) ++ bytes

-- the bytes end inside of a frame
abbrev pub IsCut : List ℕ → Type 0
IsCut [] = ⊥
IsCut (high ∷ []) = Unit {0}
IsCut (high ∷ low ∷ rest) = length rest < from_be_bytes w16 (high ∷ low ∷ [])

-- known bytes that end inside of a frame
abbrev pub EndsInFrame : Option (List ℕ) → Type 0
EndsInFrame None = Unit {0}
EndsInFrame (Some bytes) = IsCut bytes

-- what was read of a reader's bytes, where those are known: the first frame, or their end
abbrev pub ReadsFrame : Option (List ℕ) → Option (List ℕ) → Option (List ℕ) → Type 0
ReadsFrame old new None = IsAtEnd old × IsAtEnd new
ReadsFrame old new (Some bytes) = (length bytes < 65_536) × Consumes old new (frame bytes)

-- when each fault of reading comes; for the reader that failed nothing is said of the bytes
abbrev pub FailsToRead : Option (List ℕ) → FrameFault → Type 0
FailsToRead old faults.Short = EndsInFrame old
FailsToRead old faults.Read = Unit {0}
FailsToRead old faults.Memory = Unit {0}
FailsToRead old faults.Long = ⊥
FailsToRead old faults.Write = ⊥

-- the same behind the two bytes of length
abbrev pub FailsInBody : List ℕ → Option (List ℕ) → FrameFault → Type 0
FailsInBody head old faults.Short = IfSome old (λ bytes. length bytes < from_be_bytes w16 head)
FailsInBody head old faults.Read = Unit {0}
FailsInBody head old faults.Memory = Unit {0}
FailsInBody head old faults.Long = ⊥
FailsInBody head old faults.Write = ⊥

-- when each fault of writing comes, what was written, and how many writes had failed before the call and behind it
abbrev pub FailsToWrite : Option (List ℕ) → Option (List ℕ) → ℕ → ℕ → List ℕ → FrameFault → Type 0
FailsToWrite old new before after bytes faults.Long = (65_536 ≤ length bytes) × Keeps old new × (after ≡ before)
FailsToWrite old new before after bytes faults.Write = (length bytes < 65_536) × AppendsFront old new (frame bytes) × (after ≡ one_more before)
FailsToWrite old new before after bytes _ = ⊥
