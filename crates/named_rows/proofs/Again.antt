-- A set that takes its own place.
use Rattle.std.proofs.Common.{◌≡◌, ℕ, ◌<◌, zero, suc, true, List, [], ◌∷◌, length, slice_set, Result, Ok, Err, OnErr, refl, ap, ◌∙◌, arith}
use Rattle.std.specs.FinSet as set
use Rattle.named_rows.specs.Rows.{PrefixSet, prefixes_at, taken_in}
use Rattle.named_rows.proofs.Sets.{there_again}

pub set_again : (sets : List PrefixSet) (i : ℕ) → i < length sets → slice_set sets i (prefixes_at sets i) ≡ sets
set_again [] i lt = absurd (omega arith)
set_again (s ∷ sets) zero lt = refl
set_again (s ∷ sets) (suc i) lt = ap (λ ss. s ∷ ss) (set_again sets i (omega arith))

pub on_err : {T E P : Type 0} (r : Result T E) → P → OnErr r P
on_err (Ok x) p = tt
on_err (Err e) p = p

-- a prefix that is there already
pub insert_again : (sets : List PrefixSet) (i : ℕ) (prefix : List ℕ) → i < length sets → (taken_in sets i).has prefix ≡ true → slice_set sets i (set.insert (prefixes_at sets i) prefix) ≡ sets
unfolding taken_in
insert_again sets i prefix lt there = ap (λ s. slice_set sets i s) (there_again (prefixes_at sets i) prefix there) ∙ set_again sets i lt
