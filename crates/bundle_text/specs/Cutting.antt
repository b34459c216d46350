-- What is found on the way while a text is cut in parts.
use Rattle.std.specs.Prelude.{◌≡◌, ℕ, ◌==◌, ◌<◌, false, List, [], ◌∷◌, ◌++◌, ◌⊎◌, All, length}
use Rattle.card_digits.specs.Cut.{IsCut}
use Rattle.bundle_text.specs.Parts.{parts_of_text}

-- behind it a line begins
abbrev pub EndsLine : List ℕ → Type 0
EndsLine text = (text ≡ []) ⊎ ((front : List ℕ) × (text ≡ front ++ 10 ∷ []))

-- the rest of a text begins with its first line that has a per cent sign
pub record IsFromSign (text rest : List ℕ) : Type 0 where
  pub before : List ℕ
  pub whole : text ≡ before ++ rest
  pub ends : EndsLine before
  pub none : All (λ b. (b == 37) ≡ false) before
  pub some : 0 < length rest

-- the first line of a text, and what stands behind its line feed, which is nothing where it has none
abbrev pub IsFirstLine : List ℕ → List ℕ → List ℕ → Type 0
IsFirstLine text line behind = IsCut 10 text line behind ⊎ (All (λ b. (b == 10) ≡ false) text × (line ≡ text) × (behind ≡ []))

-- the first part of a text, and what stands behind the line that ends it
pub record IsFirstPart (text part behind : List ℕ) : Type 0 where
  pub parts : parts_of_text text ≡ part ∷ parts_of_text behind
  pub shorter : length behind < length text
