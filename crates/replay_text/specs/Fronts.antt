-- What is written, and writers that fail.
use Rattle.std.specs.Prelude.{ℕ, List, ◌++◌, Option}
use Rattle.std.specs.Io.KnownBytes.{Appends}
use Rattle.card_digits.specs.Stream.{AppendsFront}
use Rattle.card_digits.specs.declared.stream.Sink.{Ghosts}
use Rattle.message_text.specs.Printed.{Sends}

-- the writer failed behind a front of what waited and a text
pub record SendsFront (start now : Option (List ℕ)) (old text : List ℕ) : Type 0 where
  pub front : AppendsFront start now (old ++ text)

-- for a writer as it was and as it is: a text was written
abbrev pub AppendsText : {W : Type 0} → Ghosts W → W → W → List ℕ → Type 0
AppendsText sink old new text = Appends (sink.written old) (sink.written new) text

-- a front of it was
abbrev pub AppendsTextFront : {W : Type 0} → Ghosts W → W → W → List ℕ → Type 0
AppendsTextFront sink old new text = AppendsFront (sink.written old) (sink.written new) text

-- it goes there behind what waits: a front of both was sent, and the rest waits
abbrev pub SendsText : {W : Type 0} → Ghosts W → W → W → List ℕ → List ℕ → List ℕ → Type 0
SendsText sink old new waiting text rest = Sends (sink.written old) (sink.written new) waiting text rest

-- the writer failed behind a front of what waited and it
abbrev pub SendsTextFront : {W : Type 0} → Ghosts W → W → W → List ℕ → List ℕ → Type 0
SendsTextFront sink old new waiting text = SendsFront (sink.written old) (sink.written new) waiting text
