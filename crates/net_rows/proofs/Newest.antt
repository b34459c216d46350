-- A prefix that was added last is there.
use Rattle.std.proofs.Common.{Ordering, Less, Equal, Greater, ◌≡◌, ℕ, List, [], ◌∷◌, refl, ap}
use Rattle.std.specs.Ordering.{nat_cmp}
use Rattle.std.specs.Cmp.Lexicographic.{slice_cmp}
use Rattle.std.specs.BTreeSet.{insert_key}
use Rattle.std.proofs.lemmas.Cmp.{nat_list_cmp_total, tied_itself}

itself : (p : List ℕ) → slice_cmp nat_cmp p p ≡ Equal
itself p = tied_itself nat_list_cmp_total p

-- a second time changes nothing
pub added_twice : (p : List ℕ) (keys : List (List ℕ)) → insert_key (slice_cmp nat_cmp) (insert_key (slice_cmp nat_cmp) keys p) p ≡ insert_key (slice_cmp nat_cmp) keys p
added_twice p [] = rw (itself p) refl
added_twice p (x ∷ keys) = by (slice_cmp nat_cmp p x) refl (added_twice p keys)
  where
    by : (o : Ordering) → slice_cmp nat_cmp p x ≡ o → insert_key (slice_cmp nat_cmp) (insert_key (slice_cmp nat_cmp) keys p) p ≡ insert_key (slice_cmp nat_cmp) keys p → insert_key (slice_cmp nat_cmp) (insert_key (slice_cmp nat_cmp) (x ∷ keys) p) p ≡ insert_key (slice_cmp nat_cmp) (x ∷ keys) p
    by Less is rest = rw (is, itself p) refl
    by Equal is rest = rw (is, is) refl
    by Greater is rest = rw (is, is) (ap (λ ks. x ∷ ks) rest)
