-- Where bytes are cut.
use Rattle.std.proofs.Common.{◌≡◌, ℕ, ◌==◌, false, List}
use Rattle.std.specs.Prelude.{All}

-- no byte of that value
abbrev pub Others : ℕ → List ℕ → Type 0
Others end bytes = All (λ b. (b == end) ≡ false) bytes
