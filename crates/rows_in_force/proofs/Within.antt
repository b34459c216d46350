-- Places of rows that are there.
use Rattle.std.proofs.Common.{◌≡◌, ℕ, zero, suc, ◌<◌, List, [], ◌∷◌, length, get_or, Option, Some, None, subst}
use Rattle.std.specs.Prelude.{slice_get, slice_set, unwrap_or, replicate}
use Rattle.std.proofs.lemmas.Option.{same_Some}
use Rattle.rows_in_force.specs.Kept.{IsWithin, AreWithin, AreAllWithin, nowhere}
use Rattle.rows_in_force.proofs.KnownFronts.{at_place}

pub place_within : (count : ℕ) (places : List (Option ℕ)) (n : ℕ) → AreWithin count places → IsWithin count (unwrap_or (slice_get places n) None)
place_within count [] n h = tt
place_within count (p ∷ ps) zero h = h.0
place_within count (p ∷ ps) (suc n) h = place_within count ps n h.1

pub front_within : (count : ℕ) (fronts : List (List (Option ℕ))) (j : ℕ) (places : List (Option ℕ)) → AreAllWithin count fronts → slice_get fronts j ≡ Some places → AreWithin count places
front_within count [] j places h at = absurd cc
front_within count (ps ∷ fronts) zero places h at = let same : ps ≡ places = same_Some ps places at in subst (AreWithin count) same h.0
front_within count (ps ∷ fronts) (suc j) places h at = front_within count fronts j places h.1 at

pub front_at : (count : ℕ) (fronts : List (List (Option ℕ))) (j : ℕ) (places : List (Option ℕ)) → AreAllWithin count fronts → j < length fronts → places ≡ get_or fronts j places → AreWithin count places
front_at count fronts j places h lt at = front_within count fronts j places h (at_place fronts j places lt at)

pub place_set : (count : ℕ) (places : List (Option ℕ)) (n : ℕ) (p : Option ℕ) → AreWithin count places → IsWithin count p → AreWithin count (slice_set places n p)
place_set count [] n p h one = tt
place_set count (q ∷ ps) zero p h one = (one, h.1)
place_set count (q ∷ ps) (suc n) p h one = (h.0, place_set count ps n p h.1 one)

pub front_set : (count : ℕ) (fronts : List (List (Option ℕ))) (j : ℕ) (places : List (Option ℕ)) → AreAllWithin count fronts → AreWithin count places → AreAllWithin count (slice_set fronts j places)
front_set count [] j places h one = tt
front_set count (ps ∷ fronts) zero places h one = (one, h.1)
front_set count (ps ∷ fronts) (suc j) places h one = (h.0, front_set count fronts j places h.1 one)

none_within : (count k : ℕ) → AreWithin count (replicate k nowhere)
none_within count zero = tt
none_within count (suc k) = (tt, none_within count k)

-- before the first class no place is there
pub start_within : (count j k : ℕ) → AreAllWithin count (replicate j (replicate k nowhere))
start_within count zero k = tt
start_within count (suc j) k = (none_within count k, start_within count j k)
