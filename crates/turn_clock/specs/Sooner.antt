-- What comes first.
use Rattle.std.specs.Prelude.{ℕ, Option, Some, None, min}

-- the sooner of two numbers of turns, of which either may be lacking
abbrev pub sooner : Option ℕ → Option ℕ → Option ℕ
sooner None b = b
sooner (Some a) None = Some a
sooner (Some a) (Some b) = Some (min a b)
