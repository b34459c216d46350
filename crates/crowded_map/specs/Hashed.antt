-- Keys beside their hashes.
use Rattle.std.specs.Prelude.{◌≡◌, ℕ, List, [], ◌∷◌}
use Rattle.std.specs.List.{fold}
use Rattle.std.specs.Hash.BuildHasherDefault.{initial_hasher}
use Rattle.std.specs.Hash.FoldHasher.{write, finish}
use Rattle.std.specs.declared.hash.FoldHasher.{FoldHasher}
use Rattle.std.specs.declared.hash.BuildHasherDefault.{BuildHasherDefault}
use Rattle.crowded_map.specs.declared.hashed.HashedKey.{HashedKey}

-- the hash of what a key writes, piece by piece, to a hasher
abbrev pub hash_by : BuildHasherDefault FoldHasher → List (List ℕ) → ℕ
hash_by builder written = finish (fold write (initial_hasher builder) written)

-- the entries by their keys alone
abbrev pub unhashed : {K X : Type 0} → List (HashedKey K × X) → List (K × X)
unhashed [] = []
unhashed (e ∷ es) = (e.0.key, e.1) ∷ unhashed es

-- each key stands beside its own hash
abbrev pub AreHashed : {K X : Type 0} → (K → ℕ) → List (HashedKey K × X) → Type 0
AreHashed h [] = Unit {0}
AreHashed h (e ∷ es) = (e.0.hash ≡ h e.0.key) × AreHashed h es
