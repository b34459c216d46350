-- Reading step after step, where each step may find nothing.
use Rattle.std.specs.Prelude.{Option, option_and_then}

-- a step, and what comes after it
infixl 10 ◌>>=◌
abbrev pub ◌>>=◌ : {A B : Type 0} → Option A → (A → Option B) → Option B
o >>= f = option_and_then f o
