-- The frames of an input.
use Rattle.std.specs.Prelude.{◌≡◌, ℕ, ◌<◌, List, [], ◌∷◌, ◌++◌, length, Option, Some, None}
use Rattle.message_frames.specs.Frames.{frame, IsCut}

-- one frame after the other; at the end one that is cut is none of them
abbrev pub AreFrames : List ℕ → List (Option (List ℕ)) → Type 0
AreFrames input [] = input ≡ []
AreFrames input (None ∷ []) = IsCut input
AreFrames input (None ∷ item ∷ items) = ⊥
AreFrames input (Some bytes ∷ items) = (rest : List ℕ) × (input ≡ frame bytes ++ rest) × (length bytes < 65_536) × AreFrames rest items
