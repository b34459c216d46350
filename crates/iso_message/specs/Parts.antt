-- Elements as they are read of a body.
use Rattle.std.specs.Prelude.{◌≡◌, ℕ, ◌<◌, List, ◌++◌, length}
use Rattle.message_elements.specs.Table.{form_of}
use Rattle.iso_message.specs.Spelling.{piece}

-- a body, and the elements so far
pub record Body : Type 0 where
  pub body : List ℕ
  pub elements : List (ℕ × List ℕ)

abbrev pub IsEnd : List ℕ → List ℕ → Type 0
IsEnd end bytes = (front : List ℕ) × (bytes ≡ front ++ end)

-- the bytes begin with the piece of the element, which ends with its content, and begins with few digits
pub record IsPart (n : ℕ) (bytes content rest : List ℕ) : Type 0 where
  pub head : List ℕ
  pub whole : bytes ≡ head ++ (content ++ rest)
  pub spelled : head ++ content ≡ piece (form_of n) content
  pub digits : length head < 4
  pub few : length content < 1_000
