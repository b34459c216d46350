-- Lines that are read row by row, beside what `toml` makes of the text.
use Rattle.std.proofs.Common.{◌≡◌, eqb-true, ℕ, suc, ◌-◌, ◌<◌, ◌≤◌, ◌==◌, List, [], ◌∷◌, ◌++◌, map, length, Option, Some, None, option_map, option_and_then, refl, sym, ap, ◌∙◌, inl, inr, arith, append_assoc, length-drop, slice_index, ◌&&◌}
use Rattle.std.proofs.lemmas.Bool.{cases_Bool}
use Rattle.std.proofs.lemmas.List.{append-nil}
use Rattle.std.proofs.lemmas.Option.{none-some, same_Some}
use Rattle.toml_parser.specs.Lexical.{first, skip_blank}
use Rattle.toml.specs.Data.{Members, no_members, member, get_member, Items, no_items, item, push_item, table}
use Rattle.toml.specs.Tables.{Node, Nodes, no_nodes, open_table, open_array, header, get_node, insert, replace, close, Edit, put, header_node, along_header, std_table, array_table, Document, Expression, define}
use Rattle.toml.specs.Parse.{lines, skip_bom, parse_document}
use Rattle.toml.proofs.Turns.{lines_end, lines_more, at_key_new, at_key_ok, document_some}
use Rattle.toml.proofs.NodeLaws.{get_node-replace, replace-self, replace-replace, get_node-insert, replace-insert}
use Rattle.toml.specs.View.{items_of}
use Rattle.toml_rows.specs.Rows.{Pair, pair_line, AreLines, with_pairs, IsLine, ArePairs, table_line, row_line, AreRows, Section, AreSections, with_rows, with_sections, root_of, IsDocument}
use Rattle.toml_rows.proofs.Members.{close_insert, none_there}

-- reading goes on with another document and less text
abbrev pub Leads : Document → List ℕ → Document → List ℕ → Type 0
Leads doc text new rest = (n : ℕ) → length text < n → (m : ℕ) × (length rest < m) × (lines n doc text ≡ lines m new rest)

pub stays : (doc : Document) (text : List ℕ) → Leads doc text doc text
stays doc text n room = (n, room, refl)

pub then_leads : (a b c : Document) (s t u : List ℕ) → Leads a s b t → Leads b t c u → Leads a s c u
then_leads a b c s t u first second n room =
    let (m, fits, same) = first n room in
    let (k, enough, more) = second m fits in
    (k, enough, same ∙ more)

-- a line
pub line_leads : (e : Expression) (doc new : Document) (text rest : List ℕ) → IsLine e text rest → define doc e ≡ Some new → Leads doc text new rest
line_leads e doc new text rest is step n room =
    let shorter = is.shorter in
    (n - 1, omega arith, lines_more n doc new text e rest (omega arith) is.some is.read step)

-- how a table that is open holds its nodes
abbrev pub Opens : (Nodes → Node) → Type 0
Opens wrap = (edit : Edit) (inner : Nodes) → header_node edit (wrap inner) ≡ option_map wrap (edit inner)

define_pair : (wrap : Nodes → Node) (word : List ℕ) (p : Pair) (inner new ns : Nodes) → Opens wrap → get_node word ns ≡ Some (wrap inner) → put ([], p.0) p.1 inner ≡ Some new
    → define (ns, word ∷ []) (pair_line p) ≡ Some (replace word (wrap new) ns, word ∷ [])
unfolding define along_header
define_pair wrap word p inner new ns opens found step = rw (found, opens (put ([], p.0) p.1) inner, step)

-- pairs below a header
pub pairs_lead : (wrap : Nodes → Node) (word : List ℕ) (ps : List Pair) (inner new ns : Nodes) (text rest : List ℕ) → Opens wrap → get_node word ns ≡ Some (wrap inner)
    → AreLines ps text rest → with_pairs ps inner ≡ Some new → Leads (ns, word ∷ []) text (replace word (wrap new) ns, word ∷ []) rest
pairs_lead wrap word [] inner new ns text rest opens found are make =
    let same : inner ≡ new = same_Some inner new make in
    rw (← are, ← same, replace-self word (wrap inner) ns found) (stays (ns, word ∷ []) text)
pairs_lead wrap word (p ∷ ps) inner new ns text rest opens found are make =
    let (next, here, below) = are in
    pair_then next here (put ([], p.0) p.1 inner) refl make (λ mid here more. pairs_lead wrap word ps mid new (replace word (wrap mid) ns) next rest opens here below more)
  where
    pair_then : (next : List ℕ) → IsLine (pair_line p) text next → (o : Option Nodes) → put ([], p.0) p.1 inner ≡ o → option_and_then (with_pairs ps) o ≡ Some new
        → ((mid : Nodes) → get_node word (replace word (wrap mid) ns) ≡ Some (wrap mid) → with_pairs ps mid ≡ Some new
        → Leads (replace word (wrap mid) ns, word ∷ []) next (replace word (wrap new) (replace word (wrap mid) ns), word ∷ []) rest)
        → Leads (ns, word ∷ []) text (replace word (wrap new) ns, word ∷ []) rest
    pair_then next here None is more others = absurd (none-some new more)
    pair_then next here (Some mid) is more others =
        let after = replace word (wrap mid) ns in
        let first = line_leads (pair_line p) (ns, word ∷ []) (after, word ∷ []) text next here (define_pair wrap word p inner mid ns opens found is) in
        let below = rw (replace-replace word (wrap mid) (wrap new) ns) at (others mid (get_node-replace word (wrap mid) ns (wrap inner) found) more) in
        then_leads (ns, word ∷ []) (after, word ∷ []) (replace word (wrap new) ns, word ∷ []) text next rest first below

-- the nodes whose members these are
pub closed : (o : Option Nodes) (members : Members) → option_map close o ≡ Some members → (ns : Nodes) × (o ≡ Some ns) × (close ns ≡ members)
closed None members h = absurd (none-some members h)
closed (Some ns) members h = (ns, refl, same_Some (close ns) members h)

-- what stands below a header that was just read
pub below_leads : (wrap : Nodes → Node) (word : List ℕ) (members : Members) (root : Nodes) (text rest : List ℕ) → Opens wrap → ArePairs members text rest
    → (new : Nodes) × (close new ≡ members) × Leads (insert word (wrap no_nodes) root, word ∷ []) text (insert word (wrap new) root, word ∷ []) rest
below_leads wrap word members root text rest opens h =
    let (new, made, same) = closed (with_pairs h.pairs no_nodes) members h.make in
    let ns = insert word (wrap no_nodes) root in
    let lead = pairs_lead wrap word h.pairs no_nodes new ns text rest opens (get_node-insert word (wrap no_nodes) root) h.stand made in
    (new, same, rw (replace-insert word (wrap no_nodes) (wrap new) root) at lead)

array_opens : (done : Items) → Opens (open_array done)
array_opens done edit inner = refl

table_opens : Opens (open_table header)
table_opens edit inner = refl

define_table : (word : List ℕ) (root : Nodes) (section : List (List ℕ)) → get_node word root ≡ None → define (root, section) (table_line word) ≡ Some (insert word (open_table header no_nodes) root, word ∷ [])
unfolding define along_header
define_table word root section none = rw (at_key_new word std_table root none)

define_first_row : (word : List ℕ) (root : Nodes) (section : List (List ℕ)) → get_node word root ≡ None → define (root, section) (row_line word) ≡ Some (insert word (open_array no_items no_nodes) root, word ∷ [])
unfolding define along_header
define_first_row word root section none = rw (at_key_new word array_table root none)

define_next_row : (word : List ℕ) (done : Items) (last root : Nodes) (section : List (List ℕ))
    → define (insert word (open_array done last) root, section) (row_line word) ≡ Some (insert word (open_array (push_item done (table (close last))) no_nodes) root, word ∷ [])
unfolding define along_header
define_next_row word done last root section =
    let x = open_array done last in
    let y = open_array (push_item done (table (close last))) no_nodes in
    rw (at_key_ok word array_table (insert word x root) (insert word y root) x y (get_node-insert word x root) refl (sym (replace-insert word x y root)))

-- the rows that an array has, and then one whose pairs are read, as the nodes hold them
abbrev pub rows_so_far : List Members → Nodes → List Members
rows_so_far done last = done ++ close last ∷ []

pushed : (done : List Members) (ms : Members) → push_item (items_of (map table done)) (table ms) ≡ items_of (map table (done ++ ms ∷ []))
pushed [] ms = refl
pushed (m ∷ done) ms = ap (item (table m)) (pushed done ms)

-- more rows of an array of tables that has some
pub more_rows_lead : (word : List ℕ) (rows done : List Members) (last root : Nodes) (text rest : List ℕ) → AreRows word rows text rest
    → (all : List Members) × (end : Nodes) × (rows_so_far all end ≡ rows_so_far done last ++ rows)
    × Leads (insert word (open_array (items_of (map table done)) last) root, word ∷ []) text (insert word (open_array (items_of (map table all)) end) root, word ∷ []) rest
more_rows_lead word [] done last root text rest are = (done, last, sym (append-nil (rows_so_far done last)), rw (← are) (stays _ text))
more_rows_lead word (members ∷ rows) done last root text rest are =
    let (next, here, below) = are in
    let x = open_array (items_of (map table done)) last in
    let so_far = rows_so_far done last in
    let y = open_array (items_of (map table so_far)) no_nodes in
    let step = rw (pushed done (close last)) at (define_next_row word (items_of (map table done)) last root (word ∷ [])) in
    let header_leads = line_leads (row_line word) (insert word x root, word ∷ []) (insert word y root, word ∷ []) text here.below here.headed step in
    let (new, same, row_leads) = below_leads (open_array (items_of (map table so_far))) word members root here.below next (array_opens (items_of (map table so_far))) here.paired in
    let (all, end, they_are, others) = more_rows_lead word rows so_far new root next rest below in
    let z = open_array (items_of (map table so_far)) new in
    let w = open_array (items_of (map table all)) end in
    let row = then_leads (insert word x root, word ∷ []) (insert word y root, word ∷ []) (insert word z root, word ∷ []) text here.below next header_leads row_leads in
    (all, end, they_are ∙ rw same (append_assoc so_far (members ∷ []) rows), then_leads (insert word x root, word ∷ []) (insert word z root, word ∷ []) (insert word w root, word ∷ []) text next rest row others)

-- an array of tables that is new
pub section_leads : (word : List ℕ) (rows : List Members) (root : Nodes) (section : List (List ℕ)) (text rest : List ℕ) → get_member word (close root) ≡ None → AreRows word rows text rest
    → (new : Document) × (close new.0 ≡ with_rows word rows (close root)) × Leads (root, section) text new rest
section_leads word [] root section text rest none are = ((root, section), refl, rw (← are) (stays (root, section) text))
section_leads word (members ∷ rows) root section text rest none are =
    let (next, here, below) = are in
    let y = open_array no_items no_nodes in
    let header_leads = line_leads (row_line word) (root, section) (insert word y root, word ∷ []) text here.below here.headed (define_first_row word root section (none_there word root none)) in
    let (new, same, row_leads) = below_leads (open_array no_items) word members root here.below next (array_opens no_items) here.paired in
    let (all, end, they_are, others) = more_rows_lead word rows [] new root next rest below in
    let z = open_array no_items new in
    let w = open_array (items_of (map table all)) end in
    let row = then_leads (root, section) (insert word y root, word ∷ []) (insert word z root, word ∷ []) text here.below next header_leads row_leads in
    let holds : close (insert word w root) ≡ with_rows word (members ∷ rows) (close root) =
    close_insert word w root ∙ rw (pushed all (close end), they_are, same) in
    ((insert word w root, word ∷ []), holds, then_leads (root, section) (insert word z root, word ∷ []) (insert word w root, word ∷ []) text next rest row others)

-- no word of a section is one of a key that is there before it
abbrev pub AreNew : List Section → Members → Type 0
AreNew [] root = Unit {0}
AreNew (s ∷ sections) root = (get_member s.word root ≡ None) × AreNew sections (with_rows s.word s.rows root)

pub sections_lead : (sections : List Section) (root : Nodes) (section : List (List ℕ)) (text rest : List ℕ) → AreNew sections (close root) → AreSections sections text rest
    → (new : Document) × (close new.0 ≡ with_sections sections (close root)) × Leads (root, section) text new rest
sections_lead [] root section text rest news are = ((root, section), refl, rw (← are) (stays (root, section) text))
sections_lead (s ∷ sections) root section text rest news are =
    let (next, rows, more) = are in
    let (here, holds, leads) = section_leads s.word s.rows root section text next news.0 rows in
    let (end, all, others) = sections_lead sections here.0 here.1 next rest (rw (← holds) at news.1) more in
    (end, all ∙ rw holds, then_leads (root, section) here end text next rest leads others)

bom_within : (text : List ℕ) → length (skip_bom text) ≤ length text
unfolding skip_bom
bom_within text = elim (cases_Bool ((first text == 0xEF && slice_index text 1 == 0xBB) && slice_index text 2 == 0xBF)) [
  | inl bom ↦ rw bom (omega (arith, length-drop 3 text))
  | inr none ↦ rw none (omega arith)
]

-- what `toml` makes of a text that is a table and sections
pub document_is : (word : List ℕ) (members : Members) (sections : List Section) (text : List ℕ) → IsDocument word members sections text → AreNew sections (member word (table members) no_members)
    → parse_document text ≡ Some (root_of word members sections)
document_is word members sections text is news =
    let start = skip_bom text in
    let within = bom_within text in
    let h = is.begins in
    let opened = insert word (open_table header no_nodes) no_nodes in
    let header_leads = line_leads (table_line word) (no_nodes, []) (opened, word ∷ []) start h.below h.headed (define_table word no_nodes [] refl) in
    let (new, same, below) = below_leads (open_table header) word members no_nodes h.below is.after_table table_opens h.paired in
    let filled = insert word (open_table header new) no_nodes in
    let first_leads = then_leads (no_nodes, []) (opened, word ∷ []) (filled, word ∷ []) start h.below is.after_table header_leads below in
    let root_is : close filled ≡ member word (table members) no_members = rw same in
    let (end, all, others) = sections_lead sections filled (word ∷ []) is.after_table is.after_sections (rw (← root_is) at news) is.goes_on in
    let (m, room, loop) = then_leads (no_nodes, []) (filled, word ∷ []) end start is.after_table is.after_sections first_leads others (suc (length text)) (omega arith) in
    document_some text end (loop ∙ lines_end m end is.after_sections (omega arith) (eqb-true (length (skip_blank is.after_sections)) 0 is.ends)) ∙ rw (all, root_is)
