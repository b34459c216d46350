-- Bytes cut in two.
use Rattle.std.specs.Prelude.{◌≡◌, ℕ, ◌==◌, false, List, ◌∷◌, ◌++◌, All}

-- the bytes are cut at the first byte of that value
pub record IsCut (end : ℕ) (bytes front behind : List ℕ) : Type 0 where
  pub none : All (λ b. (b == end) ≡ false) front
  pub whole : bytes ≡ front ++ end ∷ behind
