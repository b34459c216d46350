-- What is taken from rings.
use Rattle.std.specs.Prelude.{IsTrue, ◌↔◌}
use Rattle.std.proofs.Common.{◌≡◌, ℕ, zero, suc, Bool, true, false, not, nat_lt, ◌<◌, List, [], ◌∷◌, ◌++◌, length, map, get_or, refl, sym, ap, ◌∙◌, slice_get, Some, arith}
use Rattle.std.proofs.Math.ListN.{set}
use Rattle.std.proofs.lemmas.Bool.{lt-ltb}
use Rattle.std.proofs.lemmas.List.{map-set}
use Rattle.std.proofs.lemmas.Option.{slice_get_read, slice_get-map}
use Rattle.std.proofs.Math.Seq.{map-set_same}
use mathlib.Core.List.{IsPrefix}
use Rattle.rtrb.specs.Ring.{received, known_items}
use Rattle.link_rings.specs.Rings.{PacketView, in_of, links_in, IsEmptyAt, Takes, Looks}
use Rattle.link_rings.specs.declared.incoming.InEnd.{InEnd}
use Rattle.link_rings.specs.Ends.{in_view}

pub found_at : (xs : List InEnd) (k : ℕ) (o : InEnd) → k < length xs → o ≡ get_or xs k o → slice_get (map in_view xs) k ≡ Some (in_view o)
found_at xs k o within read =
    let found : slice_get xs k ≡ Some o = slice_get_read xs (length xs) k o refl within read in
    rw (slice_get-map, found) refl

pub no_items : {X : Type 0} (xs : List X) → length xs ≡ 0 → xs ≡ []
no_items [] e = refl
no_items (x ∷ xs) e = absurd (omega arith)

same_in : (l : ℕ) (a b p q : List PacketView) → a ≡ b → p ≡ q → in_of l a p ≡ in_of l b q
same_in l a b p q e f = rw (e, f) refl

-- a ring that gave nothing is seen as it was
pub empty_at : (xs : List InEnd) (k : ℕ) (o n : InEnd) → k < length xs → o ≡ get_or xs k o → n.link ≡ o.link → received n.ring ≡ received o.ring → known_items n.ring ≡ [] → known_items o.ring ≡ [] → IsEmptyAt k (map in_view xs) (map in_view (set xs k n))
empty_at xs k o n within read link none empty was = record {
  ring = in_view o;
  there = found_at xs k o within read;
  nothing = was;
  same = map-set_same in_view xs k n o (same ∙ ap in_view read);
}
  where
    same : in_view n ≡ in_view o
    same = rw link (same_in o.link (received n.ring) (received o.ring) (known_items n.ring) (known_items o.ring) none (empty ∙ sym was))

-- a ring that gave a packet
pub takes_at : (xs : List InEnd) (k : ℕ) (o n : InEnd) (p : PacketView) → k < length xs → o ≡ get_or xs k o → n.link ≡ o.link → received n.ring ≡ received o.ring ++ p ∷ [] → IsPrefix (known_items o.ring) (p ∷ known_items n.ring) → Takes k (map in_view xs) p (map in_view (set xs k n))
takes_at xs k o n p within read link taken prefix = record {
  ring = in_view o;
  rest = known_items n.ring;
  there = found_at xs k o within read;
  first = prefix;
  taken = rw map-set (ap (set (map in_view xs) k) same);
}
  where
    same : in_view n ≡ in_of o.link (received o.ring ++ p ∷ []) (known_items n.ring)
    same = rw link (same_in o.link (received n.ring) (received o.ring ++ p ∷ []) (known_items n.ring) (known_items n.ring) taken refl)

some_items : (empty : Bool) (n : ℕ) → (IsTrue empty ↔ (n ≡ 0)) → not empty ≡ nat_lt 0 n
some_items true n is = rw (is.0 refl) refl
some_items false zero is =
    let no : false ≡ true = is.1 refl in
    absurd cc
some_items false (suc n) is = sym (lt-ltb 0 (suc n) (omega arith))

-- a ring that was looked at
pub looks_at : (xs : List InEnd) (k : ℕ) (o n : InEnd) (empty : Bool) → k < length xs → o ≡ get_or xs k o → n.link ≡ o.link → received n.ring ≡ received o.ring → IsPrefix (known_items o.ring) (known_items n.ring)
    → (IsTrue empty ↔ (length (known_items n.ring) ≡ 0)) → Looks k (map in_view xs) (not empty) (map in_view (set xs k n))
looks_at xs k o n empty within read link none more value = record {
  ring = in_view o;
  known = known_items n.ring;
  there = found_at xs k o within read;
  more = more;
  seen = rw map-set (ap (set (map in_view xs) k) same);
  some = some_items empty (length (known_items n.ring)) value;
}
  where
    same : in_view n ≡ in_of o.link (received o.ring) (known_items n.ring)
    same = rw link (same_in o.link (received n.ring) (received o.ring) (known_items n.ring) (known_items n.ring) none refl)

-- the link of a ring
pub link_at : (xs : List InEnd) (k : ℕ) (o : InEnd) → k < length xs → o ≡ get_or xs k o → slice_get (links_in (map in_view xs)) k ≡ Some o.link
link_at xs k o within read = rw (slice_get-map, found_at xs k o within read) refl
