-- Fields and rows that are read where they stand.
use Rattle.std.proofs.Common.{◌≡◌, ℕ, ◌+◌, ◌≤◌, ◌==◌, ◌&&◌, ◌||◌, not, ℤ, nat_lt, nat_le, true, false, List, [], ◌∷◌, ◌++◌, map, length, Option, Some, None, option_map, option_and_then, Result, Ok, refl, ap, subst, arith}
use Rattle.std.proofs.lemmas.Bool.{and_parts, not-true}
use Rattle.std.proofs.lemmas.Bool.Decides.{nat_tests}
use Rattle.std.proofs.lemmas.List.{length-append}
use Rattle.std.proofs.lemmas.Option.{none-some, same_Some}
use Rattle.std.specs.List.{list_all}
use Rattle.toml.specs.Data.{string, integer, Members, no_members}
use Rattle.toml.specs.View.{items_of}
use Rattle.toml_rows.specs.Rows.{IsLine, ArePairs, row_line, pair_line, with_member}
use Rattle.toml_rows.specs.Texts.{texts_data}
use Rattle.toml_rows.proofs.Pairs.{pair_more}
use Rattle.card_digits.specs.Reading.{name_of, read_digits}
use Rattle.net_rows.specs.declared.row.Link.{Link}
use Rattle.net_rows.specs.Sound.{is_end}
use Rattle.table_fields.specs.Words.{key_word, table_word}
use Rattle.table_fields.specs.Values.{whole, all_names}
use Rattle.table_fields.specs.Fields.{RowText, place_of, field_at, form_at, prefix_at, whole_at}
use Rattle.table_fields.specs.declared.fault.TableFault.{TableFault}
use Rattle.table_fields.specs.declared.place.Key.{Key}
use Rattle.table_fields.specs.declared.place.Key.TheVariants as key
use Rattle.table_fields.specs.declared.place.Table.{Table}
use Rattle.named_rows.specs.Rows.{link_names}
use Rattle.named_rows.specs.Reading.{named_entry, node_at, links_at, is_twice, new_prefix_at}
use Rattle.named_rows.specs.Plain.{IsNamed, IsNewPrefix}
use Rattle.named_rows.specs.Rows.{PrefixSet, Taken, ArePrefixed, taken_in, taken_by, is_among}
use Rattle.net_tables.specs.Rows.{route_prefixes, stand_in_prefixes}
use Rattle.net_tables.specs.AllRows.{row_at}
use Rattle.net_tables.specs.Reading.{route_of, stand_in_of}
use Rattle.net_tables.specs.Plain.{IsFieldNext, AreFound, AreLinksNext, IsRowNext, IsRowIfNew}
use Rattle.net_tables.proofs.NextRows.{each_more}

pub node_next : (nodes : List (List ℕ)) (k : Key) (name text rest : List ℕ) (i : ℕ) → IsLine (pair_line (key_word k, string name)) text rest → IsNamed nodes name i → IsFieldNext (node_at nodes) k i text rest
unfolding node_at form_at field_at
node_next nodes k name text rest i line is = record {
  written = string name;
  line = line;
  is_read = λ row there. rw (there, is.is_name) (is.found (place_of row k));
}

pub prefix_next : (k : Key) (digits prefix text rest : List ℕ) → IsLine (pair_line (key_word k, string digits)) text rest → read_digits 1 12 digits ≡ Ok prefix → IsFieldNext prefix_at k prefix text rest
unfolding form_at field_at
prefix_next k digits prefix text rest line is = record {
  written = string digits;
  line = line;
  is_read = λ row there. rw (there, is) refl;
}

pub amount_next : (k : Key) (z : ℤ) (n : ℕ) (text rest : List ℕ) → IsLine (pair_line (key_word k, integer z)) text rest → whole 0 999_999_999_999 z ≡ Some n → IsFieldNext (whole_at 0 999_999_999_999) k n text rest
unfolding form_at field_at
amount_next k z n text rest line is = record {
  written = integer z;
  line = line;
  is_read = λ row there. rw (there, is) refl;
}

-- ---- the links of a list

names_more : (texts : List (List ℕ)) (names : List (List ℕ)) (t n : List ℕ) → all_names (items_of (map string texts)) ≡ Some names → name_of t ≡ Some n → all_names (items_of (map string (texts ++ t ∷ []))) ≡ Some (names ++ n ∷ [])
names_more [] names t n are is = rw (is, ← same_Some [] names are) refl
names_more (s ∷ texts) names t n are is = at_first (name_of s) are (λ rest more. names_more texts rest t n more is)
  where
    at_rest : (m : List ℕ) (o : Option (List (List ℕ))) → option_map (λ ns. m ∷ ns) o ≡ Some names → ((rest : List (List ℕ)) → o ≡ Some rest → all_names (items_of (map string (texts ++ t ∷ []))) ≡ Some (rest ++ n ∷ []))
        → option_map (λ ns. m ∷ ns) (all_names (items_of (map string (texts ++ t ∷ [])))) ≡ Some (names ++ n ∷ [])
    at_rest m None all more = absurd (none-some names all)
    at_rest m (Some rest) all more = rw (more rest refl, ← same_Some (m ∷ rest) names all) refl

    at_first : (o : Option (List ℕ)) → option_and_then (λ m. option_map (λ ns. m ∷ ns) (all_names (items_of (map string texts)))) o ≡ Some names → ((rest : List (List ℕ)) → all_names (items_of (map string texts)) ≡ Some rest → all_names (items_of (map string (texts ++ t ∷ []))) ≡ Some (rest ++ n ∷ []))
        → option_and_then (λ m. option_map (λ ns. m ∷ ns) (all_names (items_of (map string (texts ++ t ∷ []))))) o ≡ Some (names ++ n ∷ [])
    at_first None all more = absurd (none-some names all)
    at_first (Some m) all more = at_rest m (all_names (items_of (map string texts))) all more

pub found_none : (links : List Link) → AreFound links [] []
found_none links = record { names = []; are_names = refl; places = λ at. refl; one_each = refl }

-- a name more
pub found_more : (links : List Link) (texts : List (List ℕ)) (found : List ℕ) (t : List ℕ) (i : ℕ) → AreFound links texts found → IsNamed (link_names links) t i → AreFound links (texts ++ t ∷ []) (found ++ i ∷ [])
found_more links texts found t i are is = record {
  names = are.names ++ is.name ∷ [];
  are_names = names_more texts are.names t is.name are.are_names is.is_name;
  places = λ at. each_more (named_entry (link_names links) at) [] found are.names is.name i (are.places at) (is.found at);
  one_each = omega (arith, length-append are.names (is.name ∷ []), length-append found (i ∷ []), are.one_each);
}

few : (n : ℕ) → (n == 0) ≡ false → n ≤ 8 → ((n == 0) || nat_lt 8 n) ≡ false
few n some most = grind (arith, nat_tests)

pub links_next : (links : List Link) (node : ℕ) (found text rest : List ℕ) → AreLinksNext links found text rest → (length found == 0) ≡ false → length found ≤ 8
    → (list_all (is_end links node) found && not (is_twice ◌==◌ found)) ≡ true → IsFieldNext (links_at links node) key.Links found text rest
unfolding links_at form_at field_at
links_next links node found text rest are some most own =
    let (there, new) = and_parts (list_all (is_end links node) found) (not (is_twice ◌==◌ found)) own in
    let once : is_twice ◌==◌ found ≡ false = not-true (is_twice ◌==◌ found) new in
    record {
      written = texts_data are.texts;
      line = are.line;
      is_read = λ row here. rw (here, are.are.are_names, are.are.one_each, few (length found) some most, are.are.places (place_of row key.Links), there, once) refl;
    }

-- ---- rows

nothing_yet : (text : List ℕ) → ArePairs no_members text text
nothing_yet text = record { pairs = []; stand = refl; make = refl }

-- what a node has taken is what its rows have
room_left : (count node : ℕ) (sets : List PrefixSet) (prefixes : ℕ → List (List ℕ)) → ArePrefixed count sets prefixes → nat_le 4096 (taken_in sets node).count ≡ false → nat_le 4096 (length (prefixes node)) ≡ false
unfolding taken_by
room_left count node sets prefixes known room = subst (λ (f : ℕ → Taken). nat_le 4096 (f node).count ≡ false) known.same room

still_new : (count node : ℕ) (prefix : List ℕ) (sets : List PrefixSet) (prefixes : ℕ → List (List ℕ)) → ArePrefixed count sets prefixes → (taken_in sets node).has prefix ≡ false → is_among (prefixes node) prefix ≡ false
unfolding taken_by
still_new count node prefix sets prefixes known new = subst (λ (f : ℕ → Taken). (f node).has prefix ≡ false) known.same new

-- a row whose prefix its node takes
pub row_next : {R : Type 0} (t : Table) (read : List R → RowText → Result R TableFault) (prefixes : List R → ℕ → List (List ℕ)) (count node : ℕ) (prefix : List ℕ) (old new : List PrefixSet) (done : List R) (row : R) (text rest : List ℕ)
    → IsRowIfNew t read prefixes node prefix row text rest → ArePrefixed count old (prefixes done) → IsNewPrefix node prefix old new → IsRowNext t read done row text rest
row_next t read prefixes count node prefix old new done row text rest h known fresh = record {
  members = h.members;
  stands = h.stands;
  is_read = h.is_read done (room_left count node old (prefixes done) known fresh.room) (still_new count node prefix old (prefixes done) known fresh.taken.is_new);
}

pub route_next : (t : Table) (nodes : List (List ℕ)) (links : List Link) (node : ℕ) (prefix found text a b c rest : List ℕ)
    → IsLine (row_line (table_word t)) text a → IsFieldNext (node_at nodes) key.Node node a b → IsFieldNext prefix_at key.Prefix prefix b c → IsFieldNext (links_at links node) key.Links found c rest
    → IsRowIfNew t (route_of nodes links) route_prefixes node prefix (record { node = node; prefix = prefix; links = found }) text rest
unfolding route_of new_prefix_at taken_by
route_next t nodes links node prefix found text a b c rest header n p l =
    let with_node : Members = with_member (key_word key.Node) n.written no_members in
    let with_prefix : Members = with_member (key_word key.Prefix) p.written with_node in
    let members : Members = with_member (key_word key.Links) l.written with_prefix in
    let first_pair = pair_more (key_word key.Node, n.written) no_members a a b (nothing_yet a) n.line refl in
    let two_pairs = pair_more (key_word key.Prefix, p.written) with_node a b c first_pair p.line refl in
    record {
      members = members;
      stands = record { below = a; headed = header; paired = pair_more (key_word key.Links, l.written) with_prefix a c rest two_pairs l.line refl };
      is_read = λ done room is_new.
          let row : RowText = row_at t (length done + 1) members in
          rw (n.is_read row refl, room, p.is_read row refl, is_new, l.is_read row refl) refl;
    }

pub stand_in_next : (t : Table) (nodes : List (List ℕ)) (node : ℕ) (prefix : List ℕ) (day single : ℕ) (text a b c d rest : List ℕ)
    → IsLine (row_line (table_word t)) text a → IsFieldNext (node_at nodes) key.Node node a b → IsFieldNext prefix_at key.Prefix prefix b c
    → IsFieldNext (whole_at 0 999_999_999_999) key.Day day c d → IsFieldNext (whole_at 0 999_999_999_999) key.Single single d rest
    → IsRowIfNew t (stand_in_of nodes) stand_in_prefixes node prefix (record { node = node; prefix = prefix; day = day; single = single }) text rest
unfolding stand_in_of new_prefix_at taken_by
stand_in_next t nodes node prefix day single text a b c d rest header n p x y =
    let with_node : Members = with_member (key_word key.Node) n.written no_members in
    let with_prefix : Members = with_member (key_word key.Prefix) p.written with_node in
    let with_day : Members = with_member (key_word key.Day) x.written with_prefix in
    let members : Members = with_member (key_word key.Single) y.written with_day in
    let first_pair = pair_more (key_word key.Node, n.written) no_members a a b (nothing_yet a) n.line refl in
    let two_pairs = pair_more (key_word key.Prefix, p.written) with_node a b c first_pair p.line refl in
    let three_pairs = pair_more (key_word key.Day, x.written) with_prefix a c d two_pairs x.line refl in
    record {
      members = members;
      stands = record { below = a; headed = header; paired = pair_more (key_word key.Single, y.written) with_day a d rest three_pairs y.line refl };
      is_read = λ done room is_new.
          let row : RowText = row_at t (length done + 1) members in
          rw (n.is_read row refl, room, p.is_read row refl, is_new, x.is_read row refl, y.is_read row refl) refl;
    }
