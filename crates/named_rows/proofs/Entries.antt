-- A loop over names reads them all.
use Rattle.std.proofs.Common.{◌≡◌, ℕ, ◌+◌, ◌<◌, List, [], ◌∷◌, ◌++◌, length, get_or, drop, Result, Ok, Err, refl, sym, ◌∙◌}
use Rattle.std.proofs.lemmas.List.{drop_more}
use Rattle.card_digits.specs.Attempts.{◌>>=◌, Fails}
use Rattle.table_fields.specs.Faults.{is_memory}
use Rattle.card_digits.proofs.Attempts.{fails_from}
use Rattle.table_fields.specs.declared.fault.TableFault.{TableFault}
use Rattle.named_rows.specs.Each.{each}

-- a name that is refused
pub entry_fails : {A R : Type 0} (read : List R → A → Result R TableFault) (done : List R) (xs : List A) (i : ℕ) (x : A) (e : TableFault) (all : Result (List R) TableFault) → i < length xs → x ≡ get_or xs i x
    → each read done (drop i xs) ≡ all → read done x ≡ Err e → Fails is_memory e all
entry_fails read done xs i x e all lt is same h =
    let turned : each read done (drop i xs) ≡ (read done x >>= λ r. each read (done ++ r ∷ []) (drop (i + 1) xs)) = rw (drop_more xs i x, ← is) refl in
    fails_from is_memory e all (sym same ∙ turned ∙ rw h)

-- a name that is read
pub entry_on : {A R : Type 0} (read : List R → A → Result R TableFault) (done : List R) (xs : List A) (i : ℕ) (x : A) (r : R) (all : Result (List R) TableFault) → i < length xs → x ≡ get_or xs i x
    → each read done (drop i xs) ≡ all → read done x ≡ Ok r → each read (done ++ r ∷ []) (drop (i + 1) xs) ≡ all
entry_on read done xs i x r all lt is same h =
    let turned : each read done (drop i xs) ≡ (read done x >>= λ r. each read (done ++ r ∷ []) (drop (i + 1) xs)) = rw (drop_more xs i x, ← is) refl in
    sym (sym same ∙ turned ∙ rw h)
