-- What a root that sections make has at a word.
use Rattle.std.proofs.Common.{◌≡◌, ℕ, Bool, true, not, ◌&&◌, List, [], ◌∷◌, ◌++◌, map, Option, Some, None, refl, ◌∙◌}
use Rattle.std.proofs.lemmas.Bool.{and_parts, not-true}
use Rattle.std.specs.List.{list_all}
use Rattle.toml.specs.Data.{Data, Members, get_member, same_key, array, table}
use Rattle.toml.specs.View.{items_of}
use Rattle.toml_rows.specs.Rows.{Section, with_rows, with_sections}
use Rattle.toml_rows.proofs.Members.{get_put, get_other}
use Rattle.toml_rows.proofs.Documents.{AreNew}

-- the rows of an array of tables, which isn't there without rows
abbrev pub array_of : List Members → Option Data
array_of [] = None
array_of (ms ∷ rows) = Some (array (items_of (map table (ms ∷ rows))))

abbrev pub is_apart : List ℕ → Section → Bool
is_apart word s = not (same_key word s.word)

-- no word stands twice
abbrev pub are_apart : List Section → Bool
are_apart [] = true
are_apart (s ∷ sections) = list_all (λ t. is_apart t.word s) sections && are_apart sections

rows_other : (word : List ℕ) (s : Section) (root : Members) → is_apart word s ≡ true → get_member word (with_rows s.word s.rows root) ≡ get_member word root
rows_other word s root apart = by_rows s.rows
  where
    by_rows : (rows : List Members) → get_member word (with_rows s.word rows root) ≡ get_member word root
    by_rows [] = refl
    by_rows (ms ∷ rows) = get_other word s.word (array (items_of (map table (ms ∷ rows)))) root (not-true (same_key word s.word) apart)

pub sections_other : (word : List ℕ) (sections : List Section) (root : Members) → list_all (is_apart word) sections ≡ true → get_member word (with_sections sections root) ≡ get_member word root
sections_other word [] root apart = refl
sections_other word (s ∷ sections) root apart =
    let (here, later) = and_parts (is_apart word s) (list_all (is_apart word) sections) apart in
    sections_other word sections (with_rows s.word s.rows root) later ∙ rows_other word s root here

rows_there : (word : List ℕ) (rows : List Members) (root : Members) → get_member word root ≡ None → get_member word (with_rows word rows root) ≡ array_of rows
rows_there word [] root none = none
rows_there word (ms ∷ rows) root none = get_put word (array (items_of (map table (ms ∷ rows)))) root

-- the rows of a section among others
pub section_there : (before : List Section) (s : Section) (after : List Section) (root : Members) → list_all (is_apart s.word) before ≡ true → list_all (is_apart s.word) after ≡ true
    → get_member s.word root ≡ None → get_member s.word (with_sections (before ++ s ∷ after) root) ≡ array_of s.rows
section_there [] s after root earlier later none =
    sections_other s.word after (with_rows s.word s.rows root) later ∙ rows_there s.word s.rows root none
section_there (t ∷ before) s after root earlier later none =
    let (here, more) = and_parts (is_apart s.word t) (list_all (is_apart s.word) before) earlier in
    section_there before s after (with_rows t.word t.rows root) more later (rows_other s.word t root here ∙ none)

abbrev pub AreAbsent : List Section → Members → Type 0
AreAbsent [] root = Unit {0}
AreAbsent (s ∷ sections) root = (get_member s.word root ≡ None) × AreAbsent sections root

still_absent : (s : Section) (sections : List Section) (root : Members) → list_all (λ t. is_apart t.word s) sections ≡ true → AreAbsent sections root → AreAbsent sections (with_rows s.word s.rows root)
still_absent s [] root apart absent = tt
still_absent s (t ∷ sections) root apart absent =
    let (here, more) = and_parts (is_apart t.word s) (list_all (λ u. is_apart u.word s) sections) apart in
    (rows_other t.word s root here ∙ absent.0, still_absent s sections root more absent.1)

pub are_new : (sections : List Section) (root : Members) → are_apart sections ≡ true → AreAbsent sections root → AreNew sections root
are_new [] root apart absent = tt
are_new (s ∷ sections) root apart absent =
    let (here, more) = and_parts (list_all (λ t. is_apart t.word s) sections) (are_apart sections) apart in
    (absent.0, are_new sections (with_rows s.word s.rows root) more (still_absent s sections root here absent.1))
