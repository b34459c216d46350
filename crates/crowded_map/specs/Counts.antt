-- Counts of keys by stretches of a table.
use Rattle.std.specs.Prelude.{ℕ, suc, [], ◌∷◌, ◌≡◌, ◌<◌, ◌+◌, ◌-◌, ◌*◌, ◌/◌, min, Bool, ◌&&◌, nat_lt, List, length, set, slice_get, bit_and, unwrap_or}

-- the stretch of a hash among so many, a power of two
abbrev pub place_in : ℕ → ℕ → ℕ
place_in hash count = bit_and (hash / 16) (count - 1)

-- where keys are counted that share a stretch and the highest six bits of their hashes
abbrev pub alike_in : ℕ → ℕ → ℕ
alike_in hash count = bit_and (hash / 16 * 64 + hash / 67108864) (count - 1)

abbrev pub count_at : List ℕ → ℕ → ℕ
count_at counts i = unwrap_or (slice_get counts i) 0

abbrev pub raised : ℕ → List ℕ → List ℕ
raised i counts = set counts i (min (count_at counts i + 1) 255)

abbrev pub lowered : ℕ → List ℕ → List ℕ
lowered i counts = set counts i (count_at counts i - 1)

-- counts of keys by stretches, by those of a larger table, and by stretches and highest bits
pub record Counts : Type 0 where
  pub stretches : List ℕ
  pub finer : List ℕ
  pub alike : List ℕ

-- whether a stretch takes one more key of a hash
abbrev pub has_room : ℕ → Counts → Bool
has_room hash c = nat_lt (count_at c.stretches (place_in hash (length c.stretches))) 192 && nat_lt (count_at c.alike (alike_in hash (length c.alike))) 15

-- with a key of this hash
abbrev pub with_key : ℕ → Counts → Counts
with_key hash c = record { stretches = raised (place_in hash (length c.stretches)) c.stretches; finer = raised (place_in hash (length c.finer)) c.finer; alike = raised (alike_in hash (length c.alike)) c.alike }

-- without it
abbrev pub without_key : ℕ → Counts → Counts
without_key hash c = record { stretches = lowered (place_in hash (length c.stretches)) c.stretches; finer = lowered (place_in hash (length c.finer)) c.finer; alike = lowered (alike_in hash (length c.alike)) c.alike }

-- how many stretches a table has with room for so many keys
abbrev pub stretches_for : ℕ → ℕ
stretches_for capacity = capacity / 144

-- with a count more at a place
abbrev pub increased : ℕ → ℕ → List ℕ → List ℕ
increased i more counts = set counts i (min (count_at counts i + more) 255)

-- the finer counts from the i-th on are added to those of fewer stretches
abbrev pub poured : ℕ → List ℕ → List ℕ → List ℕ
poured i [] counts = counts
poured i (c ∷ cs) counts = poured (suc i) cs (increased (bit_and i (length counts - 1)) c counts)

-- there are so many counts, each half of the one that counted its keys and others
abbrev pub AreHalved : List ℕ → List ℕ → ℕ → Type 0
AreHalved whole halves n = (length halves ≡ n) × ((i : ℕ) → i < n → count_at halves i ≡ count_at whole (bit_and i (length whole - 1)) / 2)
