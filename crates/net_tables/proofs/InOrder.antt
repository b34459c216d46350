-- Tables that are read row by row are those of the tree.
use Rattle.std.proofs.Common.{◌≡◌, ℕ, Bool, true, List, [], ◌∷◌, map, Ordering, Less, Equal, Greater, nat_cmp, Some, Result, Ok, refl}
use Rattle.std.proofs.lemmas.Bool.{and_parts}
use Rattle.std.specs.List.{list_all}
use Rattle.std.specs.Ordering.{match_ordering}
use Rattle.std.specs.Cmp.Lexicographic.{slice_cmp}
use Rattle.toml.specs.Data.{Data, Members, no_members, member, get_member, table as table_data}
use Rattle.toml.specs.Parse.{parse_document}
use Rattle.toml.specs.View.{items_of}
use Rattle.toml_rows.specs.Rows.{Section, with_member, with_rows, with_sections, root_of, IsDocument}
use Rattle.toml_rows.proofs.Documents.{document_is}
use Rattle.toml_rows.proofs.Found.{array_of, are_new, AreAbsent, section_there, sections_other}
use Rattle.net_rows.specs.Network.{Network}
use Rattle.table_fields.specs.Words.{table_word}
use Rattle.table_fields.specs.Fields.{RowText, all_keys, is_table}
use Rattle.table_fields.specs.Shapes.{all_tables, rows_at}
use Rattle.table_fields.specs.declared.fault.TableFault.{TableFault}
use Rattle.table_fields.specs.declared.place.Table.{Table}
use Rattle.table_fields.specs.declared.place.Table.TheVariants as table
use Rattle.net_tables.specs.AllRows.{all_rows}
use Rattle.net_tables.specs.Reading.{network_of, all_table_words, base_of, parties_of, rules_of, tables_of, tables_by_tree}
use Rattle.net_tables.specs.InOrder.{AreNext, AreInOrder}

each_a_table : (rows : List Members) → all_tables (items_of (map table_data rows)) ≡ Some rows
each_a_table [] = refl
each_a_table (ms ∷ rows) = rw (each_a_table rows)

rows_found : (t : Table) (root : Members) (rows : List Members) → get_member (table_word t) root ≡ array_of rows → rows_at root t ≡ Ok rows
unfolding rows_at
rows_found t root [] found = rw found
rows_found t root (ms ∷ rows) found = rw (found, each_a_table rows)

read_found : {R : Type 0} (t : Table) (read : List R → RowText → Result R TableFault) (xs : List R) (text rest : List ℕ) (root : Members) (h : AreNext t read xs text rest)
    → get_member (table_word t) root ≡ array_of h.members → all_rows root t read ≡ Ok xs
read_found t read xs text rest root h found = rw (rows_found t root h.members found) h.are_read

keys_put : (test : List ℕ → Bool) (k : List ℕ) (d : Data) (ms : Members) → test k ≡ true → all_keys test ms ≡ true → all_keys test (with_member k d ms) ≡ true
keys_put test k d no_members passes all = rw passes
keys_put test k d (member l e ms) passes all =
    let (here, later) = and_parts (test l) (all_keys test ms) all in
    at_first (slice_cmp nat_cmp k l) (keys_put test k d ms passes later) here later
  where
    at_first : (o : Ordering) → all_keys test (with_member k d ms) ≡ true → test l ≡ true → all_keys test ms ≡ true
        → all_keys test (match_ordering o (member k d (member l e ms)) (member l d ms) (member l e (with_member k d ms))) ≡ true
    at_first Less more here later = rw (passes, here, later)
    at_first Equal more here later = rw (here, later)
    at_first Greater more here later = rw (here, more)

keys_rows : (test : List ℕ → Bool) (word : List ℕ) (rows : List Members) (root : Members) → test word ≡ true → all_keys test root ≡ true → all_keys test (with_rows word rows root) ≡ true
keys_rows test word [] root passes all = all
keys_rows test word (ms ∷ rows) root passes all = keys_put test word _ root passes all

keys_sections : (test : List ℕ → Bool) (sections : List Section) (root : Members) → list_all (λ s. test s.word) sections ≡ true → all_keys test root ≡ true → all_keys test (with_sections sections root) ≡ true
keys_sections test [] root passes all = all
keys_sections test (s ∷ sections) root passes all =
    let (here, later) = and_parts (test s.word) (list_all (λ t. test t.word) sections) passes in
    keys_sections test sections (with_rows s.word s.rows root) later (keys_rows test s.word s.rows root here all)

section : Table → List Members → Section
section t rows = record { word = table_word t; rows = rows }

pub in_order : (n : Network) (text : List ℕ) → AreInOrder n text → tables_by_tree text ≡ Ok n
unfolding tables_of base_of parties_of rules_of network_of section
in_order n text h =
    let settings = h.base.settings_next in
    let nodes = h.base.nodes_next in
    let links = h.base.links_next in
    let acquirers = h.parties.acquirers_next in
    let issuers = h.parties.issuers_next in
    let routes = h.rules.routes_next in
    let stand_ins = h.rules.stand_ins_next in
    let s1 = section table.Node nodes.members in
    let s2 = section table.Link links.members in
    let s3 = section table.Acquirer acquirers.members in
    let s4 = section table.Issuer issuers.members in
    let s5 = section table.Route routes.members in
    let s6 = section table.StandIn stand_ins.members in
    let sections : List Section = s1 ∷ s2 ∷ s3 ∷ s4 ∷ s5 ∷ s6 ∷ [] in
    let first : Members = member (table_word table.Network) (table_data settings.members) no_members in
    let root : Members = root_of (table_word table.Network) settings.members sections in
    let absent : AreAbsent sections first = (refl, (refl, (refl, (refl, (refl, (refl, tt)))))) in
    let document : IsDocument (table_word table.Network) settings.members sections text = record {
      after_table = h.base.after_settings;
      after_sections = h.rules.rest;
      begins = settings.stands;
      goes_on = (h.base.after_nodes, nodes.stand, (h.after_base, links.stand, (h.parties.after_acquirers, acquirers.stand, (h.after_parties, issuers.stand, (h.rules.after_routes, routes.stand, (h.rules.rest, stand_ins.stand, refl))))));
      ends = h.rules.over;
    } in
    let parsed : parse_document text ≡ Some root = document_is (table_word table.Network) settings.members sections text document (are_new sections first refl absent) in
    let network_there : get_member (table_word table.Network) root ≡ Some (table_data settings.members) = sections_other (table_word table.Network) sections first refl in
    let nodes_read = read_found table.Node _ n.nodes _ _ root nodes (section_there [] s1 (s2 ∷ s3 ∷ s4 ∷ s5 ∷ s6 ∷ []) first refl refl refl) in
    let links_read = read_found table.Link _ n.links _ _ root links (section_there (s1 ∷ []) s2 (s3 ∷ s4 ∷ s5 ∷ s6 ∷ []) first refl refl refl) in
    let acquirers_read = read_found table.Acquirer _ n.acquirers _ _ root acquirers (section_there (s1 ∷ s2 ∷ []) s3 (s4 ∷ s5 ∷ s6 ∷ []) first refl refl refl) in
    let issuers_read = read_found table.Issuer _ n.issuers _ _ root issuers (section_there (s1 ∷ s2 ∷ s3 ∷ []) s4 (s5 ∷ s6 ∷ []) first refl refl refl) in
    let routes_read = read_found table.Route _ n.routes _ _ root routes (section_there (s1 ∷ s2 ∷ s3 ∷ s4 ∷ []) s5 (s6 ∷ []) first refl refl refl) in
    let stand_ins_read = read_found table.StandIn _ n.stand_ins _ _ root stand_ins (section_there (s1 ∷ s2 ∷ s3 ∷ s4 ∷ s5 ∷ []) s6 [] first refl refl refl) in
    let keys : all_keys (is_table all_table_words) root ≡ true = keys_sections (is_table all_table_words) sections first refl refl in
    rw (parsed, network_there, settings.is_read, nodes_read, links_read, acquirers_read, issuers_read, routes_read, stand_ins_read, keys) refl
