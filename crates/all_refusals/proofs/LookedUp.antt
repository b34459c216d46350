-- Ranks that are looked up one after the other.
use Rattle.std.proofs.Common.{◌≡◌, ℕ, zero, suc, List, [], ◌∷◌, refl}
use Rattle.std.specs.Prelude.{replicate, slice_set}
use Rattle.all_refusals.specs.declared.ranks.Lookup.{Lookup}
use Rattle.all_refusals.specs.declared.ranks.Lookup.TheVariants as lookups
use Rattle.all_refusals.specs.Known.{lookup_at}

pub open_at : (k n : ℕ) → lookup_at (replicate k lookups.Open) n ≡ lookups.Open
open_at zero n = refl
open_at (suc k) zero = refl
open_at (suc k) (suc n) = open_at k n

-- one more that was looked up
pub set_each : (P : ℕ → Lookup → Type 0) (found : List Lookup) (i : ℕ) (x : Lookup) → ((n : ℕ) → P n (lookup_at found n)) → P i x → (n : ℕ) → P n (lookup_at (slice_set found i x) n)
set_each P [] i x all is n = all n
set_each P (y ∷ found) zero x all is zero = is
set_each P (y ∷ found) zero x all is (suc n) = all (suc n)
set_each P (y ∷ found) (suc i) x all is zero = all zero
set_each P (y ∷ found) (suc i) x all is (suc n) = set_each (λ m. P (suc m)) found i x (λ m. all (suc m)) is n
