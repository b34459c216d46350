-- Rows and fields that are read where they stand in the text.
use Rattle.std.specs.Prelude.{◌≡◌, ℕ, ◌+◌, nat_le, false, List, map, length, Some, Result, Ok}
use Rattle.toml.specs.Data.{Data, string, Members, get_member}
use Rattle.toml.specs.View.{items_of}
use Rattle.toml_rows.specs.Rows.{IsLine, IsHeaded, row_line, pair_line}
use Rattle.toml_rows.specs.Texts.{texts_data}
use Rattle.net_rows.specs.declared.row.Link.{Link}
use Rattle.named_rows.specs.Rows.{link_names, is_among}
use Rattle.named_rows.specs.Reading.{all_named}
use Rattle.table_fields.specs.Values.{all_names}
use Rattle.table_fields.specs.Words.{key_word, table_word}
use Rattle.table_fields.specs.Fields.{RowText}
use Rattle.table_fields.specs.declared.fault.TableFault.{TableFault}
use Rattle.table_fields.specs.declared.place.Key.{Key}
use Rattle.table_fields.specs.declared.place.Key.TheVariants as key
use Rattle.table_fields.specs.declared.place.Place.{Place}
use Rattle.table_fields.specs.declared.place.Table.{Table}
use Rattle.net_tables.specs.AllRows.{row_at}

-- the next line has this key, and of every row with what stands there the field is read so
pub record IsFieldNext {A : Type 0} (read : RowText → Key → Result A TableFault) (k : Key) (value : A) (text rest : List ℕ) : Type 0 where
  pub written : Data
  pub line : IsLine (pair_line (key_word k, written)) text rest
  pub is_read : (row : RowText) → get_member (key_word k) row.members ≡ Some written → read row k ≡ Ok value

-- these texts are the names of the links at these places
pub record AreFound (links : List Link) (texts : List (List ℕ)) (found : List ℕ) : Type 0 where
  pub names : List (List ℕ)
  pub are_names : all_names (items_of (map string texts)) ≡ Some names
  pub places : (at : Place) → all_named (link_names links) at names ≡ Ok found
  pub one_each : length names ≡ length found

-- the next line has the names of these links
pub record AreLinksNext (links : List Link) (found : List ℕ) (text rest : List ℕ) : Type 0 where
  pub texts : List (List ℕ)
  pub line : IsLine (pair_line (key_word key.Links, texts_data texts)) text rest
  pub are : AreFound links texts found

-- the next row of a text is one of the table, and read so after these rows
pub record IsRowNext {R : Type 0} (t : Table) (read : List R → RowText → Result R TableFault) (done : List R) (row : R) (text rest : List ℕ) : Type 0 where
  pub members : Members
  pub stands : IsHeaded (row_line (table_word t)) members text rest
  pub is_read : read done (row_at t (length done + 1) members) ≡ Ok row

-- the next row of a text is one of the table, and read so after any rows by which its node has room and has not its prefix
pub record IsRowIfNew {R : Type 0} (t : Table) (read : List R → RowText → Result R TableFault) (prefixes : List R → ℕ → List (List ℕ)) (node : ℕ) (prefix : List ℕ) (row : R) (text rest : List ℕ) : Type 0 where
  pub members : Members
  pub stands : IsHeaded (row_line (table_word t)) members text rest
  pub is_read : (done : List R) → nat_le 4096 (length (prefixes done node)) ≡ false → is_among (prefixes done node) prefix ≡ false → read done (row_at t (length done + 1) members) ≡ Ok row
