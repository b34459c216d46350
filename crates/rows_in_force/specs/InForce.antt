-- The row in force: that of the longest prefix.
use Rattle.std.specs.Prelude.{◌≡◌, ℕ, ◌<◌, ◌≤◌, ◌==◌, List, [], take, Option, None, slice_get, option_and_then, unwrap_or}
use Rattle.std.specs.List.{filter}
use Rattle.card_digits.specs.Longest.{longest}

-- rows, and the digits of the class that was entered last
pub record Entered (R : Type 0) : Type 0 where
  pub rows : List R
  pub class : List ℕ

-- the row at a node's place
abbrev pub row_at : {R : Type 0} → List R → List (Option ℕ) → ℕ → Option R
row_at rows places n = option_and_then (slice_get rows) (unwrap_or (slice_get places n) None)

-- the slot of the places at so many digits
abbrev pub slot_at : List ℕ → ℕ → ℕ
slot_at slots k = unwrap_or (slice_get slots k) 0

module _ {R : Type 0} (node_of : R → ℕ) (prefix_of : R → List ℕ) where
  -- the first of the node's rows with the most digits whose prefix begins these
  abbrev pub in_force : List R → ℕ → List ℕ → Option R
  in_force rows n digits = longest prefix_of (filter (λ r. node_of r == n) rows) digits

  -- each node's place is that of its row
  abbrev pub AreInForce : List R → List ℕ → List (Option ℕ) → Type 0
  AreInForce rows digits places = (n : ℕ) → n < 64 → row_at rows places n ≡ in_force rows n digits

  -- the places at the first digits, as far as so many of them: each front has a slot, and that of no longer front
  abbrev pub AreKnown : List R → List ℕ → ℕ → List ℕ → List (List (Option ℕ)) → Type 0
  AreKnown rows digits len slots fronts = (k : ℕ) → k ≤ len → (slot_at slots k ≤ k) × AreInForce rows (take k digits) (unwrap_or (slice_get fronts (slot_at slots k)) [])
