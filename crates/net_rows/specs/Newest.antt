-- The prefix that was added last to prefixes in ascending order.
use Rattle.std.specs.Prelude.{◌≡◌, ℕ, List, Option, Some, None}
use Rattle.std.specs.Ordering.{nat_cmp}
use Rattle.std.specs.Cmp.Lexicographic.{slice_cmp}
use Rattle.std.specs.BTreeSet.{insert_key}

-- it is there, so that adding it again changes nothing
abbrev pub HasNewest : List (List ℕ) → Option (List ℕ) → Type 0
HasNewest keys None = Unit {0}
HasNewest keys (Some newest) = insert_key (slice_cmp nat_cmp) keys newest ≡ keys
