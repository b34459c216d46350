-- The corners of boxes are those of the layout.
use Rattle.std.proofs.Common.{◌≡◌, ◌∙◌, ℕ, suc, ◌+◌, List, [], ◌∷◌, ◌++◌, map, length, length-append, Option, slice_get, unwrap_or, refl, ap, sym, subst, append_assoc, arith}
use Rattle.net_rows.specs.Network.{Network}
use Rattle.net_rows.specs.declared.row.Node.{Node}
use Rattle.rank_rows.specs.declared.rank.Rank.{Rank}
use Rattle.all_refusals.specs.declared.row.RowRefusal.{RowRefusal}
use Rattle.picture_text.specs.declared.parts.Corner.{Corner}
use Rattle.picture_text.specs.declared.parts.NodeBox.{NodeBox}
use Rattle.picture_text.specs.Layout.{AreAllApart}
use Rattle.network_picture.specs.Made.{by_place, node_box, boxes_at, no_corner}

at_place : (before rest : List Corner) (c : Corner) → unwrap_or (slice_get (before ++ c ∷ rest) (length before)) no_corner ≡ c
at_place [] rest c = refl
at_place (b ∷ before) rest c = at_place before rest c

-- the corner behind the first ones
corner_behind : (all before rest : List Corner) (c : Corner) (k : ℕ) → before ++ c ∷ rest ≡ all → k ≡ length before → unwrap_or (slice_get all k) no_corner ≡ c
corner_behind all before rest c k parts place = rw (← parts, place) (at_place before rest c)

one_longer : (before : List Corner) (c : Corner) (k : ℕ) → k ≡ length before → k + 1 ≡ length (before ++ c ∷ [])
one_longer before c k place = ap (λ (n : ℕ). n + 1) place ∙ sym (length-append before (c ∷ []))

one_less : (a b : ℕ) → suc a ≡ suc b → a ≡ b
one_less a b same = omega (arith, same)

both_same : (a b : Corner) (xs ys : List Corner) → a ≡ b → xs ≡ ys → a ∷ xs ≡ b ∷ ys
both_same a b xs ys head tail = rw (head, tail) refl

module _ (t : Network) (cert : List Rank) (class : Option (List ℕ)) (found : List RowRefusal) where
  corners_of : (all before cs : List Corner) (k : ℕ) (nodes : List Node) → before ++ cs ≡ all → k ≡ length before → length nodes ≡ length cs
      → map (λ (b : NodeBox). b.corner) (by_place (node_box t cert class found all) k nodes) ≡ cs
  corners_of all before [] k [] parts place same = refl
  corners_of all before [] k (n ∷ nodes) parts place same = absurd (omega (arith, same))
  corners_of all before (c ∷ cs) k [] parts place same = absurd (omega (arith, same))
  corners_of all before (c ∷ cs) k (n ∷ nodes) parts place same =
      let rest = corners_of all (before ++ c ∷ []) cs (k + 1) nodes (append_assoc before (c ∷ []) cs ∙ parts) (one_longer before c k place) (one_less (length nodes) (length cs) same) in
      both_same (unwrap_or (slice_get all k) no_corner) c (map (λ (b : NodeBox). b.corner) (by_place (node_box t cert class found all) (k + 1) nodes)) cs (corner_behind all before cs c k parts place) rest

  -- boxes at the corners of a layout are apart
  pub boxes_apart : (cs : List Corner) (boxes : List NodeBox) → length t.nodes ≡ length cs → boxes ≡ boxes_at t cert class found cs → AreAllApart cs → AreAllApart (map (λ (b : NodeBox). b.corner) boxes)
  boxes_apart cs boxes same is apart =
      let corners : map (λ (b : NodeBox). b.corner) boxes ≡ cs = ap (λ (bs : List NodeBox). map (λ (b : NodeBox). b.corner) bs) is ∙ corners_of cs [] cs 0 t.nodes refl refl same in
      let Apart : List Corner → Type 0 = λ xs. AreAllApart xs in
      subst Apart (sym corners) apart
