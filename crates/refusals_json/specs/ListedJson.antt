-- All refusals, as JSON.
use Rattle.std.specs.Prelude.{ℕ, ◌+◌, ◌-◌, ◌^◌, List, min, codes}
use Rattle.std.specs.List.{flat_map}
use Rattle.std.specs.Str.Lossy.{utf8_lossy}
use Rattle.card_digits.specs.Digits.{digits_text}
use Rattle.net_rows.specs.Network.{Network}
use Rattle.table_checker.specs.declared.refusal.Refusal.{Refusal}
use Rattle.table_checker.specs.declared.refusal.Refusal.TheVariants as refusals
use Rattle.all_refusals.specs.declared.row.RowRefusal.{RowRefusal}
use Rattle.all_refusals.specs.declared.row.TableRow.{TableRow}
use Rattle.all_refusals.specs.declared.row.TableRow.TheVariants as table
use Rattle.serde_json.specs.Data.{Data, Members, object, no_members, put}
use Rattle.bundle_text.specs.Lines.{Text, node_name, link_name, refusal_text}
use Rattle.refusals_json.specs.Json.{count, json_line, text}

-- the number of a refusal's kind
abbrev pub number_of : Refusal → ℕ
number_of (refusals.NoRank n class) = 1
number_of (refusals.NotLess n class l) = 2
number_of (refusals.NotNamed n class) = 3
number_of (refusals.OverCeiling class sum ceiling) = 4
number_of (refusals.NoIssuer n class) = 5
number_of (refusals.AcquirerTwice id) = 6
number_of (refusals.NodeIdTwice id) = 7
number_of (refusals.TimerTooLong l) = 8
number_of refusals.Memory = 9

-- the words of `check`: ASCII, and bytes that were no text would be replaced
abbrev pub words_of : Network → Refusal → Text
words_of t r = utf8_lossy (refusal_text t r)

-- the table of a row, and its place there
abbrev pub table_name : TableRow → Text
table_name (table.Node place) = codes "node"
table_name (table.Link place) = codes "link"
table_name (table.Acquirer place) = codes "acquirer"
table_name (table.Issuer place) = codes "issuer"
table_name (table.Route place) = codes "route"
table_name (table.StandIn place) = codes "stand_in"

abbrev pub place_of : TableRow → ℕ
place_of (table.Node place) = place
place_of (table.Link place) = place
place_of (table.Acquirer place) = place
place_of (table.Issuer place) = place
place_of (table.Route place) = place
place_of (table.StandIn place) = place

-- a row by its table and its number there, counted from 1 as far as 64 bits go
abbrev pub row_data : TableRow → Data
row_data row = object (put (codes "table") (text (table_name row)) (put (codes "number") (count (min (place_of row + 1) (2 ^ 64 - 1))) no_members))

-- a node at a PAN prefix, behind other fields
abbrev pub with_node : Network → ℕ → List ℕ → Members → Members
with_node t n class fields = put (codes "prefix") (text (digits_text class)) (put (codes "node") (text (node_name t n)) fields)

abbrev pub with_link : Network → ℕ → Members → Members
with_link t l fields = put (codes "link") (text (link_name t l)) fields

-- a PAN prefix, and the sum that is above a ceiling
abbrev pub with_sum : List ℕ → ℕ → ℕ → Members → Members
with_sum class sum ceiling fields = put (codes "ceiling") (count ceiling) (put (codes "sum") (count sum) (put (codes "prefix") (text (digits_text class)) fields))

-- what a refusal speaks of
abbrev pub with_subject : Network → Refusal → Members → Members
with_subject t (refusals.NoRank n class) fields = with_node t n class fields
with_subject t (refusals.NotLess n class l) fields = with_link t l (with_node t n class fields)
with_subject t (refusals.NotNamed n class) fields = with_node t n class fields
with_subject t (refusals.OverCeiling class sum ceiling) fields = with_sum class sum ceiling fields
with_subject t (refusals.NoIssuer n class) fields = with_node t n class fields
with_subject t (refusals.AcquirerTwice id) fields = put (codes "acquirer") (text id) fields
with_subject t (refusals.NodeIdTwice id) fields = put (codes "node_id") (text id) fields
with_subject t (refusals.TimerTooLong l) fields = with_link t l fields
with_subject t refusals.Memory fields = fields

-- a refusal by its number and words, and what it speaks of
abbrev pub told : Network → Refusal → Members
told t r = with_subject t r (put (codes "words") (text (words_of t r)) (put (codes "number") (count (number_of r)) no_members))

-- the same with its row
abbrev pub found_data : Network → RowRefusal → Data
found_data t r = object (put (codes "row") (row_data r.row) (told t r.refusal))

-- an object for each refusal
abbrev pub refusals_json : Network → List RowRefusal → Text
refusals_json t found = flat_map (λ r. json_line (found_data t r)) found

-- the verdict on accepted tables, and that on refused ones with the first refusal
abbrev pub accepted_data : Data
accepted_data = object (put (codes "verdict") (text (codes "accepted")) no_members)

abbrev pub refused_data : Network → Refusal → Data
refused_data t r = object (put (codes "verdict") (text (codes "refused")) (told t r))
