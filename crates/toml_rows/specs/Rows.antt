-- A document whose lines are a table and then arrays of tables: its rows, row by row, and the tree that they make.
use Rattle.std.specs.Prelude.{◌≡◌, ℕ, ◌<◌, ◌==◌, Bool, true, false, List, [], ◌∷◌, map, length, Option, Some, option_map, option_and_then}
use Rattle.std.specs.Ordering.{nat_cmp, match_ordering}
use Rattle.std.specs.Cmp.Lexicographic.{slice_cmp}
use Rattle.toml_parser.specs.Lexical.{skip_blank}
use Rattle.toml.specs.Data.{Data, array, table, Members, no_members, member}
use Rattle.toml.specs.View.{items_of}
use Rattle.toml.specs.Tables.{Nodes, no_nodes, close, put, Expression, key_value, std_table, array_table}
use Rattle.toml.specs.Parse.{line, skip_bom}

-- nothing but white space and comments is left
abbrev pub is_over : List ℕ → Bool
is_over text = length (skip_blank text) == 0

-- the next line of a text that is not blank, and what follows it
pub record IsLine (e : Expression) (text rest : List ℕ) : Type 0 where
  pub some : is_over text ≡ false
  pub read : line (skip_blank text) ≡ Some (e, rest)
  pub shorter : length rest < length text

-- ---- pairs of a key and a value

abbrev pub Pair : Type 0
Pair = List ℕ × Data

abbrev pub pair_line : Pair → Expression
pair_line p = (([], p.0), key_value p.1)

-- these pairs stand on the next lines
abbrev pub AreLines : List Pair → List ℕ → List ℕ → Type 0
AreLines [] text rest = text ≡ rest
AreLines (p ∷ ps) text rest = (next : List ℕ) × IsLine (pair_line p) text next × AreLines ps next rest

-- what they add, where no key is there yet
abbrev pub with_pairs : List Pair → Nodes → Option Nodes
with_pairs [] ns = Some ns
with_pairs (p ∷ ps) ns = option_and_then (with_pairs ps) (put ([], p.0) p.1 ns)

-- the next lines are pairs that make these members
pub record ArePairs (members : Members) (text rest : List ℕ) : Type 0 where
  pub pairs : List Pair
  pub stand : AreLines pairs text rest
  pub make : option_map close (with_pairs pairs no_nodes) ≡ Some members

-- ---- tables and rows

-- the header of a table, and of a row in an array of tables
abbrev pub table_line : List ℕ → Expression
table_line word = (([], word), std_table)

abbrev pub row_line : List ℕ → Expression
row_line word = (([], word), array_table)

-- a header, and the pairs below it
pub record IsHeaded (header : Expression) (members : Members) (text rest : List ℕ) : Type 0 where
  pub below : List ℕ
  pub headed : IsLine header text below
  pub paired : ArePairs members below rest

-- the next rows of an array of tables
abbrev pub AreRows : List ℕ → List Members → List ℕ → List ℕ → Type 0
AreRows word [] text rest = text ≡ rest
AreRows word (members ∷ rows) text rest = (next : List ℕ) × IsHeaded (row_line word) members text next × AreRows word rows next rest

-- an array of tables
pub record Section : Type 0 where
  pub word : List ℕ
  pub rows : List Members

abbrev pub AreSections : List Section → List ℕ → List ℕ → Type 0
AreSections [] text rest = text ≡ rest
AreSections (s ∷ sections) text rest = (next : List ℕ) × AreRows s.word s.rows text next × AreSections sections next rest

-- ---- the tree

-- the members with one at a key, at its place in the order
abbrev pub with_member : List ℕ → Data → Members → Members
with_member k d no_members = member k d no_members
with_member k d (member l e ms) = match_ordering (slice_cmp nat_cmp k l) (member k d (member l e ms)) (member l d ms) (member l e (with_member k d ms))

-- a root with the rows of an array of tables; without rows there is no array
abbrev pub with_rows : List ℕ → List Members → Members → Members
with_rows word [] root = root
with_rows word (ms ∷ rows) root = with_member word (array (items_of (map table (ms ∷ rows)))) root

abbrev pub with_sections : List Section → Members → Members
with_sections [] root = root
with_sections (s ∷ sections) root = with_sections sections (with_rows s.word s.rows root)

-- the root of a table and of sections
abbrev pub root_of : List ℕ → Members → List Section → Members
root_of word members sections = with_sections sections (member word (table members) no_members)

-- a text that is a table and then sections
pub record IsDocument (word : List ℕ) (members : Members) (sections : List Section) (text : List ℕ) : Type 0 where
  pub after_table : List ℕ
  pub after_sections : List ℕ
  pub begins : IsHeaded (table_line word) members (skip_bom text) after_table
  pub goes_on : AreSections sections after_table after_sections
  pub ends : is_over after_sections ≡ true
