-- A key that was new, beside the row that took it.
use Rattle.std.proofs.Common.{◌≡◌, ℕ, ◌<◌, ◌==◌, false, List, [], ◌∷◌, ◌++◌, length, map, sym, ap, ◌∙◌, arith}
use Rattle.std.specs.Cmp.Lexicographic.{pointwise}
use Rattle.std.proofs.lemmas.List.{map-append, length-append}
use Rattle.indexmap.specs.IndexSet.{insert_key}
use Rattle.named_rows.specs.Rows.{AreNamed, is_among}

-- the keys of the rows with the new row
pub key_taken : {R : Type 0} (key_of : R → List ℕ) (keys taken : List (List ℕ)) (rows : List R) (row : R) → keys ≡ map key_of rows
    → is_among keys (key_of row) ≡ false → taken ≡ insert_key (pointwise ◌==◌) keys (key_of row) → taken ≡ map key_of (rows ++ row ∷ [])
key_taken key_of keys taken rows row same new put =
    put ∙ (rw new (ap (λ (ks : List (List ℕ)). ks ++ key_of row ∷ []) same ∙ sym (map-append key_of rows (row ∷ []))))

pub name_taken : {R : Type 0} (most : ℕ) (name_of : R → List ℕ) (names taken : List (List ℕ)) (rows : List R) (row : R) → AreNamed most name_of names rows → length rows < most
    → is_among names (name_of row) ≡ false → taken ≡ insert_key (pointwise ◌==◌) names (name_of row) → AreNamed most name_of taken (rows ++ row ∷ [])
name_taken most name_of names taken rows row h room new put = record {
  same = key_taken name_of names taken rows row h.same new put;
  few = omega (arith, length-append rows (row ∷ []));
}
