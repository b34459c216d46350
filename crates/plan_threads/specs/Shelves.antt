-- Where something lies that one thread at a time takes out.
use Rattle.std.specs.Prelude.{Bool, Option}

-- what lies there, and whether somebody wanted it while it was taken out
pub record ShelfView (T : Type 0) : Type 0 where
  pub item : Option T
  pub noted : Bool
