-- A row more of those that come next.
use Rattle.std.proofs.Common.{◌≡◌, ℕ, ◌+◌, List, [], ◌∷◌, ◌++◌, length, Result, Ok, Err, refl}
use Rattle.toml.specs.Data.{Members}
use Rattle.toml_rows.specs.Rows.{AreRows, IsHeaded, row_line}
use Rattle.card_digits.specs.Attempts.{◌>>=◌}
use Rattle.table_fields.specs.Words.{table_word}
use Rattle.table_fields.specs.Fields.{RowText}
use Rattle.table_fields.specs.declared.fault.TableFault.{TableFault}
use Rattle.table_fields.specs.declared.place.Table.{Table}
use Rattle.named_rows.specs.Each.{each}
use Rattle.net_tables.specs.AllRows.{row_at, numbered}
use Rattle.net_tables.specs.InOrder.{AreNext}

rows_more : (word : List ℕ) (rows : List Members) (ms : Members) (text next rest : List ℕ) → AreRows word rows text next → IsHeaded (row_line word) ms next rest → AreRows word (rows ++ ms ∷ []) text rest
rows_more word [] ms text next rest are is = (rest, rw (← are) at is, refl)
rows_more word (m ∷ rows) ms text next rest are is =
    let (after, here, below) = are in
    (after, here, rows_more word rows ms after next rest below is)

same_Ok : {R : Type 0} (a b : List R) → ◌≡◌ {A = Result (List R) TableFault} (Ok a) (Ok b) → a ≡ b
same_Ok a b e = cc

pub each_more : {A R : Type 0} (read : List R → A → Result R TableFault) (done rows : List R) (xs : List A) (x : A) (r : R) → each read done xs ≡ Ok rows → read rows x ≡ Ok r → each read done (xs ++ x ∷ []) ≡ Ok (rows ++ r ∷ [])
each_more read done rows [] x r are is = rw (same_Ok done rows are, is)
each_more {R = R} read done rows (y ∷ xs) x r are is = by_first (read done y) are (λ s more. each_more read (done ++ s ∷ []) rows xs x r more is)
  where
    by_first : (first : Result R TableFault) → (first >>= λ s. each read (done ++ s ∷ []) xs) ≡ Ok rows → ((s : R) → each read (done ++ s ∷ []) xs ≡ Ok rows → each read (done ++ s ∷ []) (xs ++ x ∷ []) ≡ Ok (rows ++ r ∷ []))
        → (first >>= λ s. each read (done ++ s ∷ []) (xs ++ x ∷ [])) ≡ Ok (rows ++ r ∷ [])
    by_first (Ok s) all more = more s all
    by_first (Err e) all more = cc

pub next_more : {R : Type 0} (t : Table) (read : List R → RowText → Result R TableFault) (rows : List R) (r : R) (members : Members) (text next rest : List ℕ) → AreNext t read rows text next
    → IsHeaded (row_line (table_word t)) members next rest → read rows (row_at t (length rows + 1) members) ≡ Ok r → AreNext t read (rows ++ r ∷ []) text rest
next_more t read rows r members text next rest are is here = record {
  members = are.members ++ members ∷ [];
  stand = rows_more (table_word t) are.members members text next rest are.stand is;
  are_read = each_more (numbered t read) [] rows are.members members r are.are_read here;
}
