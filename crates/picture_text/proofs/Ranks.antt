-- How many ranks there are.
use Rattle.std.proofs.Common.{◌≡◌, ℕ, ◌+◌, ◌<◌, ◌≤◌, List, [], ◌∷◌, length, drop, get_or, fold, Option, Some, None, slice_get, unwrap_or, arith, nat_cmp}
use Rattle.std.specs.List.{flat_map}
use Rattle.std.specs.Option.{option_to_list}
use Rattle.std.proofs.lemmas.List.{drop_more}
use Rattle.std.proofs.lemmas.Option.{slice_get-get_or}
use Rattle.std.proofs.lemmas.List.Sums.{fold-append}
use Rattle.std.specs.declared.cmp.Ordering.{Ordering}
use Rattle.std.specs.declared.cmp.Ordering.TheVariants.{Less, Equal, Greater}
use Rattle.std.specs.BTreeSet.{insert_key}
use Rattle.std.specs.Ordering.{match_ordering}

pub one_rank_more : (ks : List ℕ) (k : ℕ) → length (insert_key nat_cmp ks k) ≤ length ks + 1
one_rank_more [] k = omega arith
one_rank_more (x ∷ xs) k = by (nat_cmp k x) (one_rank_more xs k)
  where
    by : (r : Ordering) → length (insert_key nat_cmp xs k) ≤ length xs + 1 → length (match_ordering r (k ∷ x ∷ xs) (x ∷ xs) (x ∷ insert_key nat_cmp xs k)) ≤ length (x ∷ xs) + 1
    by Less h = omega arith
    by Equal h = omega arith
    by Greater h = omega arith

-- the rank of a node more
pub rank_added : (ranks : List (Option ℕ)) (i : ℕ) (r : Option ℕ) (old new all : List ℕ) → i < length ranks → r ≡ unwrap_or (slice_get ranks i) None → new ≡ fold (insert_key nat_cmp) old (option_to_list r)
    → fold (insert_key nat_cmp) old (flat_map option_to_list (drop i ranks)) ≡ all → fold (insert_key nat_cmp) new (flat_map option_to_list (drop (i + 1) ranks)) ≡ all
rank_added ranks i r old new all lt is added so_far =
    let found : slice_get ranks i ≡ Some (get_or ranks i None) = slice_get-get_or ranks i None lt in
    let same : r ≡ get_or ranks i None = rw found at is in
    let step : drop i ranks ≡ r ∷ drop (i + 1) ranks = rw same (drop_more ranks i None lt) in
    rw (added, ← fold-append (insert_key nat_cmp) old (option_to_list r) (flat_map option_to_list (drop (i + 1) ranks))) (rw step at so_far)
