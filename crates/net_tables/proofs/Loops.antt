-- A loop over rows reads them all.
use Rattle.std.proofs.Common.{◌≡◌, ℕ, ◌+◌, ◌<◌, ◌≤◌, List, [], ◌∷◌, ◌++◌, map, length, get_or, drop, Result, Ok, Err, refl, sym, subst, ◌∙◌}
use Rattle.std.specs.List.{AllByRecursion}
use Rattle.std.proofs.lemmas.List.{drop_more, drop_all, drop-map}
use Rattle.card_digits.specs.Attempts.{◌>>=◌, Fails}
use Rattle.table_fields.specs.Faults.{is_memory}
use Rattle.card_digits.proofs.Attempts.{fails_bind}
use Rattle.named_rows.specs.Each.{each}
use Rattle.table_fields.specs.declared.fault.TableFault.{TableFault}

turn : {X A R : Type 0} (seen : X → A) (read : List R → A → Result R TableFault) (done : List R) (xs : List X) (i : ℕ) (x : X) → i < length xs → x ≡ get_or xs i x
    → each read done (drop i (map seen xs)) ≡ (read done (seen x) >>= λ r. each read (done ++ r ∷ []) (drop (i + 1) (map seen xs)))
turn seen read done xs i x lt is = rw (drop-map seen i xs, drop-map seen (i + 1) xs, drop_more xs i x, ← is) refl

-- an item that is refused
pub each_fails : {X A R : Type 0} (seen : X → A) (read : List R → A → Result R TableFault) (done : List R) (xs : List X) (i : ℕ) (x : X) (e : TableFault) (all : Result (List R) TableFault) → i < length xs → x ≡ get_or xs i x
    → each read done (drop i (map seen xs)) ≡ all → read done (seen x) ≡ Err e → all ≡ Err e
each_fails seen read done xs i x e all lt is same h = sym same ∙ turn seen read done xs i x lt is ∙ rw h

-- an item that is read
pub each_on : {X A R : Type 0} (seen : X → A) (read : List R → A → Result R TableFault) (done : List R) (xs : List X) (i : ℕ) (x : X) (r : R) (all : Result (List R) TableFault) → i < length xs → x ≡ get_or xs i x
    → each read done (drop i (map seen xs)) ≡ all → read done (seen x) ≡ Ok r → each read (done ++ r ∷ []) (drop (i + 1) (map seen xs)) ≡ all
each_on seen read done xs i x r all lt is same h = sym (sym same ∙ turn seen read done xs i x lt is ∙ rw h)

-- a reader that may run out of memory, at an item
pub each_fails_unless : {X A R : Type 0} (seen : X → A) (read : List R → A → Result R TableFault) (done : List R) (xs : List X) (i : ℕ) (x : X) (e : TableFault) (all : Result (List R) TableFault) → i < length xs → x ≡ get_or xs i x
    → each read done (drop i (map seen xs)) ≡ all → Fails is_memory e (read done (seen x)) → Fails is_memory e all
each_fails_unless seen read done xs i x e all lt is same h =
    subst (Fails is_memory e) (sym (turn seen read done xs i x lt is) ∙ same)
    (fails_bind is_memory e (read done (seen x)) (λ r. each read (done ++ r ∷ []) (drop (i + 1) (map seen xs))) h)

-- after the last item
pub each_end : {X A R : Type 0} (seen : X → A) (read : List R → A → Result R TableFault) (done : List R) (xs : List X) (i : ℕ) (all : Result (List R) TableFault) → length xs ≤ i
    → each read done (drop i (map seen xs)) ≡ all → all ≡ Ok done
each_end seen read done xs i all past same = sym same ∙ rw (drop-map seen i xs, drop_all i xs past) refl

-- what holds of each row holds with a row more
pub all_pushed : {X : Type 0} (P : X → Type 0) (xs : List X) (x : X) → AllByRecursion P xs → P x → AllByRecursion P (xs ++ x ∷ [])
all_pushed P [] x h p = (p, tt)
all_pushed P (y ∷ xs) x h p = (h.0, all_pushed P xs x h.1 p)
