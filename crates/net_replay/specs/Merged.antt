-- Steps in the order of their lines, from the node of each line and what is left of each trace.
use Rattle.std.specs.Prelude.{ℕ, List, [], ◌∷◌, Option, Some, None, slice_get, slice_set}
use Rattle.network_law.specs.Entries.{Entry}
use Rattle.net_replay.specs.Steps.{Step}

-- the first entry of what is left of a node's trace, in front of what follows once it is taken; nothing where none is left
abbrev pub first_and : List (List Entry) → ℕ → Option (List Entry) → (List (List Entry) → List Step) → List Step
first_and rests n None follow = []
first_and rests n (Some []) follow = []
first_and rests n (Some (e ∷ es)) follow = record { node = n; entry = e } ∷ follow (slice_set rests n es)

-- the steps of these nodes, one after another; of each trace the oldest entry stands first
abbrev pub merged : List (List Entry) → List ℕ → List Step
merged rests [] = []
merged rests (n ∷ ns) = first_and rests n (slice_get rests n) (λ left. merged left ns)
