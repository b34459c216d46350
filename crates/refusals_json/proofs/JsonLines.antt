-- Lines of JSON, and that no number in them is a float.
use Rattle.std.proofs.Common.{◌≡◌, ℕ, ◌<◌, ◌+◌, Bool, false, true, List, ◌++◌, take, get_or, length, Ordering, Less, Equal, Greater, nat_cmp, refl}
use Rattle.std.specs.Prelude.{◌||◌, codes}
use Rattle.std.specs.Cmp.Lexicographic.{slice_cmp}
use Rattle.std.specs.Ordering.{match_ordering}
use Rattle.std.proofs.lemmas.List.{take_more, flat_map_more}
use Rattle.serde_json.specs.Data.{Data, Members, no_members, member, put}
use Rattle.serde_json.specs.Written.{has_float, members_have_float}
use Rattle.net_rows.specs.Network.{Network}
use Rattle.table_checker.specs.declared.refusal.Refusal.{Refusal}
use Rattle.table_checker.specs.declared.refusal.Refusal.TheVariants as refusals
use Rattle.all_refusals.specs.declared.row.RowRefusal.{RowRefusal}
use Rattle.card_digits.specs.Digits.{digits_text}
use Rattle.bundle_text.specs.Lines.{link_name, node_name}
use Rattle.refusals_json.specs.Json.{count, json_line, text}
use Rattle.refusals_json.specs.ListedJson.{accepted_data, found_data, number_of, refusals_json, refused_data, row_data, told, with_link, with_node, with_subject, words_of}

-- a field that is no float leaves an object without floats
by_order : (o : Ordering) (a b c : Members) → members_have_float a ≡ false → members_have_float b ≡ false → members_have_float c ≡ false → members_have_float (match_ordering o a b c) ≡ false
by_order Less a b c ha hb hc = ha
by_order Equal a b c ha hb hc = hb
by_order Greater a b c ha hb hc = hc

pub or_false : (a b : Bool) → (a || b) ≡ false → (a ≡ false) × (b ≡ false)
or_false false b h = (refl, h)
or_false true b h = absurd cc

pub put_plain : (k : List ℕ) (d : Data) (fields : Members) → has_float d ≡ false → members_have_float fields ≡ false → members_have_float (put k d fields) ≡ false
put_plain k d no_members plain rest = rw plain refl
put_plain k d (member l e ms) plain rest =
    let (here, more) = or_false (has_float e) (members_have_float ms) rest in
    by_order (slice_cmp nat_cmp k l) (member k d (member l e ms)) (member l d ms) (member l e (put k d ms)) (rw plain rest) (rw plain more) (rw here (put_plain k d ms plain more))

-- what a refusal speaks of

node_plain : (t : Network) (n : ℕ) (class : List ℕ) (fields : Members) → members_have_float fields ≡ false → members_have_float (with_node t n class fields) ≡ false
node_plain t n class fields plain =
    put_plain (codes "prefix") (text (digits_text class)) (put (codes "node") (text (node_name t n)) fields) refl (put_plain (codes "node") (text (node_name t n)) fields refl plain)

link_plain : (t : Network) (l : ℕ) (fields : Members) → members_have_float fields ≡ false → members_have_float (with_link t l fields) ≡ false
link_plain t l fields plain = put_plain (codes "link") (text (link_name t l)) fields refl plain

sum_plain : (class : List ℕ) (sum ceiling : ℕ) (fields : Members) → members_have_float fields ≡ false
    → members_have_float (put (codes "ceiling") (count ceiling) (put (codes "sum") (count sum) (put (codes "prefix") (text (digits_text class)) fields))) ≡ false
sum_plain class sum ceiling fields plain =
    let one = put_plain (codes "prefix") (text (digits_text class)) fields refl plain in
    let two = put_plain (codes "sum") (count sum) (put (codes "prefix") (text (digits_text class)) fields) refl one in
    put_plain (codes "ceiling") (count ceiling) (put (codes "sum") (count sum) (put (codes "prefix") (text (digits_text class)) fields)) refl two

pub subject_plain : (t : Network) (r : Refusal) (fields : Members) → members_have_float fields ≡ false → members_have_float (with_subject t r fields) ≡ false
subject_plain t (refusals.NoRank n class) fields plain = node_plain t n class fields plain
subject_plain t (refusals.NotLess n class l) fields plain = link_plain t l (with_node t n class fields) (node_plain t n class fields plain)
subject_plain t (refusals.NotNamed n class) fields plain = node_plain t n class fields plain
subject_plain t (refusals.OverCeiling class sum ceiling) fields plain = sum_plain class sum ceiling fields plain
subject_plain t (refusals.NoIssuer n class) fields plain = node_plain t n class fields plain
subject_plain t (refusals.AcquirerTwice id) fields plain = put_plain (codes "acquirer") (text id) fields refl plain
subject_plain t (refusals.NodeIdTwice id) fields plain = put_plain (codes "node_id") (text id) fields refl plain
subject_plain t (refusals.TimerTooLong l) fields plain = link_plain t l fields plain
subject_plain t refusals.Memory fields plain = plain

pub told_plain : (t : Network) (r : Refusal) → members_have_float (told t r) ≡ false
told_plain t r =
    let number = put_plain (codes "number") (count (number_of r)) no_members refl refl in
    let both = put_plain (codes "words") (text (words_of t r)) (put (codes "number") (count (number_of r)) no_members) refl number in
    subject_plain t r (put (codes "words") (text (words_of t r)) (put (codes "number") (count (number_of r)) no_members)) both

-- and the objects

pub found_plain : (t : Network) (r : RowRefusal) → has_float (found_data t r) ≡ false
found_plain t r = put_plain (codes "row") (row_data r.row) (told t r.refusal) refl (told_plain t r.refusal)

pub accepted_plain : has_float accepted_data ≡ false
accepted_plain = refl

pub refused_plain : (t : Network) (r : Refusal) → has_float (refused_data t r) ≡ false
refused_plain t r = put_plain (codes "verdict") (text (codes "refused")) (told t r) refl (told_plain t r)

-- a line more
pub json_more : (t : Network) (before : List ℕ) (found : List RowRefusal) (i : ℕ) (r : RowRefusal) → i < length found → r ≡ get_or found i r
    → (before ++ refusals_json t (take i found)) ++ json_line (found_data t r) ≡ before ++ refusals_json t (take (i + 1) found)
json_more t before found i r lt is = rw (take_more found i r, ← is) (flat_map_more (λ (q : RowRefusal). json_line (found_data t q)) before (take i found) r)
