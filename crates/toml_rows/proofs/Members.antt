-- A member more, among the members that nodes make.
use Rattle.std.proofs.Common.{◌≡◌, ℕ, Ordering, Less, Equal, Greater, nat_cmp, is_eq, false, cond, List, [], ◌∷◌, Option, Some, None, option_map, refl, sym, ◌∙◌}
use Rattle.std.proofs.lemmas.Bool.{false≢true}
use Rattle.std.proofs.lemmas.Cmp.{nat_list_cmp_total}
use Rattle.std.proofs.lemmas.Map.Lookups.{exact_bytes}
use Rattle.std.proofs.lemmas.Option.{none-some}
use Rattle.std.specs.Cmp.{tied_itself}
use Rattle.std.specs.Cmp.Lexicographic.{slice_cmp}
use Rattle.std.specs.Ordering.{match_ordering}
use Rattle.std.proofs.Common.{String, Global, string_bytes}
use Rattle.std.specs.BTreeMap.{insert_entry}
use Rattle.std.specs.String.{string_cmp}
use Rattle.toml.specs.declared.value.Value.{Value}
use Rattle.toml.specs.Data.{Data, Members, no_members, member, get_member, same_key}
use Rattle.toml.specs.View.{view, members_view}
use Rattle.toml.specs.Tables.{Node, Nodes, no_nodes, node, get_node, insert, close, close_node}
use Rattle.toml_rows.specs.Rows.{with_member}

match_closed : (o : Ordering) (a b c : Nodes) → close (match_ordering o a b c) ≡ match_ordering o (close a) (close b) (close c)
match_closed Less a b c = refl
match_closed Equal a b c = refl
match_closed Greater a b c = refl

pub close_insert : (k : List ℕ) (x : Node) (ns : Nodes) → close (insert k x ns) ≡ with_member k (close_node x) (close ns)
close_insert k x no_nodes = refl
close_insert k x (node l y ns) = match_closed (slice_cmp nat_cmp k l) _ _ _ ∙ rw (close_insert k x ns)

match_seen : (o : Ordering) (a b c : List (String Global × Value)) → members_view (match_ordering o a b c) ≡ match_ordering o (members_view a) (members_view b) (members_view c)
match_seen Less a b c = refl
match_seen Equal a b c = refl
match_seen Greater a b c = refl

-- what the map of a table holds after an insert
pub insert_seen : (es : List (String Global × Value)) (k : String Global) (v : Value) → members_view (insert_entry string_cmp es k v) ≡ with_member (string_bytes k) (view v) (members_view es)
insert_seen [] k v = refl
insert_seen (e ∷ es) k v = match_seen (string_cmp k e.0) _ _ _ ∙ rw (insert_seen es k v)

found_or : (o : Ordering) (x : Node) (rest : Option Node) (d : Option Data) → d ≡ option_map close_node rest → match_ordering o d (Some (close_node x)) d ≡ option_map close_node (cond (is_eq o) (Some x) rest)
found_or Less x rest d e = e
found_or Equal x rest d e = refl
found_or Greater x rest d e = e

-- what the members have at a key
pub get_close : (k : List ℕ) (ns : Nodes) → get_member k (close ns) ≡ option_map close_node (get_node k ns)
get_close k no_nodes = refl
get_close k (node l x ns) = found_or (slice_cmp nat_cmp k l) x _ _ (get_close k ns)

none_mapped : {A B : Type 0} (f : A → B) (o : Option A) → option_map f o ≡ None → o ≡ None
none_mapped f None h = refl
none_mapped f (Some x) h = absurd (none-some (f x) (sym h))

pub none_there : (k : List ℕ) (ns : Nodes) → get_member k (close ns) ≡ None → get_node k ns ≡ None
none_there k ns h = none_mapped close_node (get_node k ns) (sym (get_close k ns) ∙ h)

skipped : {A : Type 0} (o : Ordering) (a b : A) → is_eq o ≡ false → match_ordering o a b a ≡ a
skipped Less a b h = refl
skipped Equal a b h = absurd (false≢true (sym h))
skipped Greater a b h = refl

-- the key that was put
pub get_put : (k : List ℕ) (d : Data) (ms : Members) → get_member k (with_member k d ms) ≡ Some d
get_put k d no_members = rw (tied_itself nat_list_cmp_total k)
get_put k d (member l e ms) = at_first (slice_cmp nat_cmp k l) refl (get_put k d ms)
  where
    at_first : (o : Ordering) → slice_cmp nat_cmp k l ≡ o → get_member k (with_member k d ms) ≡ Some d → get_member k (match_ordering o (member k d (member l e ms)) (member l d ms) (member l e (with_member k d ms))) ≡ Some d
    at_first Less is later = rw (tied_itself nat_list_cmp_total k)
    at_first Equal is later = rw is
    at_first Greater is later = rw is later

-- another key
pub get_other : (j k : List ℕ) (d : Data) (ms : Members) → same_key j k ≡ false → get_member j (with_member k d ms) ≡ get_member j ms
get_other j k d no_members other = skipped (slice_cmp nat_cmp j k) None (Some d) other
get_other j k d (member l e ms) other = at_first (slice_cmp nat_cmp k l) refl (get_other j k d ms other)
  where
    at_first : (o : Ordering) → slice_cmp nat_cmp k l ≡ o → get_member j (with_member k d ms) ≡ get_member j ms → get_member j (match_ordering o (member k d (member l e ms)) (member l d ms) (member l e (with_member k d ms))) ≡ get_member j (member l e ms)
    at_first Less is later = skipped (slice_cmp nat_cmp j k) (get_member j (member l e ms)) (Some d) other
    at_first Equal is later =
        let same : k ≡ l = exact_bytes k l is in
        let differ : is_eq (slice_cmp nat_cmp j l) ≡ false = rw same at other in
        skipped (slice_cmp nat_cmp j l) (get_member j ms) (Some d) differ ∙ sym (skipped (slice_cmp nat_cmp j l) (get_member j ms) (Some e) differ)
    at_first Greater is later = rw later
