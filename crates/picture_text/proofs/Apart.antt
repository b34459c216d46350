-- Boxes of one layout don't meet.
use Rattle.std.proofs.Common.{◌≡◌, ◌∙◌, ℕ, zero, suc, ◌+◌, ◌<◌, ◌≤◌, List, [], ◌∷◌, ◌++◌, take, drop, get_or, length, append_assoc, Some, slice_get, Bool, cond, eqb, refl, ap, sym, subst, inl, inr, arith, add-zero, Option, map}
use Rattle.std.proofs.lemmas.Bool.{eq-eqb, cases_lt}
use Rattle.std.proofs.lemmas.List.{drop_more, drop_all, append-nil}
use Rattle.std.proofs.lemmas.List.Sums.{sum_by-cons}
use Rattle.picture_text.specs.Layout.{column_height, corner_at, corners_from, corners_in, AreApart, AreAllApart}
use Rattle.picture_text.specs.declared.parts.Corner.{Corner}

-- a column counts its first node apart from the others
first_apart : (c x : ℕ) (xs : List ℕ) → column_height (x ∷ xs) c ≡ cond (eqb x c) 1 0 + column_height xs c
first_apart c x xs = sum_by-cons (λ (y : ℕ). cond (eqb y c) 1 0) x xs

own_first : (c x : ℕ) (xs : List ℕ) → x ≡ c → column_height (x ∷ xs) c ≡ 1 + column_height xs c
own_first c x xs same = first_apart c x xs ∙ ap (λ (b : Bool). cond b 1 0 + column_height xs c) (eq-eqb x c same)

at_least_one : (high rest : ℕ) → high ≡ 1 + rest → 0 + 1 ≤ high
at_least_one high rest is = omega (arith, is)

both_more : (k a b high low : ℕ) → high ≡ k + a → low ≡ k + b → a + 1 ≤ b → high + 1 ≤ low
both_more k a b high low first second more = omega (arith, first, second, more)

-- the node at a place counts among those before a later one
counted_before : (all : List ℕ) (i j c : ℕ) → i < j → slice_get all i ≡ Some c → column_height (take i all) c + 1 ≤ column_height (take j all) c
counted_before [] i j c lt found = absurd cc
counted_before (x ∷ all) i zero c lt found = absurd (omega (arith, lt))
counted_before (x ∷ all) zero (suc j) c lt found =
    let same : x ≡ c = cc in
    at_least_one (column_height (x ∷ take j all) c) (column_height (take j all) c) (own_first c x (take j all) same)
counted_before (x ∷ all) (suc i) (suc j) c lt found =
    let more = counted_before all i j c (omega (arith, lt)) found in
    both_more (cond (eqb x c) 1 0) (column_height (take i all) c) (column_height (take j all) c)
    (column_height (x ∷ take i all) c) (column_height (x ∷ take j all) c)
    (first_apart c x (take i all)) (first_apart c x (take j all)) more

-- the corner at a place is that of a node's column
got : (all : List ℕ) (n : ℕ) (cs : List ℕ) (i : ℕ) (a : Corner) → slice_get (corners_from all n cs) i ≡ Some a → (c : ℕ) × (slice_get cs i ≡ Some c) × (a ≡ corner_at all (n + i) c)
got all n [] i a found = absurd cc
got all n (c ∷ cs) zero a found = let is : a ≡ corner_at all n c = cc in (c, refl, rw (add-zero n) is)
got all n (c ∷ cs) (suc i) a found =
    let rest = got all (n + 1) cs i a found in
    let place : (n + 1) + i ≡ n + suc i = omega arith in
    (rest.0, rest.1, rest.2 ∙ ap (λ (m : ℕ). corner_at all m rest.0) place)

one_column : (all : List ℕ) (i j c : ℕ) (a b : Corner) → i < j → slice_get all i ≡ Some c → a ≡ corner_at all i c → b ≡ corner_at all j c → a.top + 62 ≤ b.top
one_column all i j c a b lt found here there =
    let counted = counted_before all i j c lt found in
    let high : a.top ≡ (corner_at all i c).top = ap (λ (x : Corner). x.top) here in
    let low : b.top ≡ (corner_at all j c).top = ap (λ (x : Corner). x.top) there in
    omega (arith, counted, high, low)

apart : (all : List ℕ) (i j c d : ℕ) (a b : Corner) → i < j → slice_get all i ≡ Some c → a ≡ corner_at all i c → b ≡ corner_at all j d → AreApart a b
apart all i j c d a b lt found here there =
    let left : a.left ≡ (corner_at all i c).left = ap (λ (x : Corner). x.left) here in
    let right : b.left ≡ (corner_at all j d).left = ap (λ (x : Corner). x.left) there in
    elim (cases_lt c d) [
      | inl less ↦ inl (omega (arith, left, right, less))
      | inr ge ↦ elim (cases_lt d c) [
        | inl more ↦ inr (inl (omega (arith, left, right, more)))
        | inr le ↦
            let same : d ≡ c = omega (arith, ge, le) in
            let P : ℕ → Type 0 = λ m. b ≡ corner_at all j m in
            inr (inr (inl (one_column all i j c a b lt found here (subst P same there))))
      ]
    ]

-- the same for the first place of all
from_first : (all : List ℕ) (i : ℕ) (a : Corner) → slice_get (corners_in all) i ≡ Some a → (c : ℕ) × (slice_get all i ≡ Some c) × (a ≡ corner_at all i c)
from_first all i a found =
    let corner = got all 0 all i a found in
    let place : 0 + i ≡ i = omega arith in
    (corner.0, corner.1, corner.2 ∙ ap (λ (m : ℕ). corner_at all m corner.0) place)

pub all_apart : (all : List ℕ) (cs : List Corner) → cs ≡ corners_in all → AreAllApart cs
all_apart all cs is i j a b lt first second =
    let p = from_first all i a (rw is at first) in
    let q = from_first all j b (rw is at second) in
    apart all i j p.0 q.0 a b lt p.1 p.2 q.2

-- a corner more
pub corner_more : (cols : List ℕ) (done new : List Corner) (n : ℕ) (x : Corner) (all : List Corner) → n < length cols → x ≡ corner_at cols n (get_or cols n 0) → new ≡ done ++ x ∷ []
    → done ++ corners_from cols n (drop n cols) ≡ all → new ++ corners_from cols (n + 1) (drop (n + 1) cols) ≡ all
corner_more cols done new n x all lt here added so_far =
    let step : drop n cols ≡ get_or cols n 0 ∷ drop (n + 1) cols = drop_more cols n 0 lt in
    let before : done ++ (corner_at cols n (get_or cols n 0) ∷ corners_from cols (n + 1) (drop (n + 1) cols)) ≡ all = rw step at so_far in
    rw (added, here, append_assoc done (corner_at cols n (get_or cols n 0) ∷ []) (corners_from cols (n + 1) (drop (n + 1) cols))) before

-- all corners
pub corners_done : (cols : List ℕ) (done : List Corner) (n : ℕ) (all : List Corner) → length cols ≤ n → done ++ corners_from cols n (drop n cols) ≡ all → done ≡ all
corners_done cols done n all past so_far =
    let none : drop n cols ≡ [] = drop_all n cols past in
    let nothing : done ++ [] ≡ all = rw none at so_far in
    sym (append-nil done) ∙ nothing

count_from : (all : List ℕ) (n : ℕ) (cs : List ℕ) → length (corners_from all n cs) ≡ length cs
count_from all n [] = refl
count_from all n (c ∷ cs) = ap suc (count_from all (n + 1) cs)

count_map : (f : Option ℕ → ℕ) (xs : List (Option ℕ)) → length (map f xs) ≡ length xs
count_map f [] = refl
count_map f (x ∷ xs) = ap suc (count_map f xs)

-- each node has a corner
pub corner_each : (f : Option ℕ → ℕ) (ranks : List (Option ℕ)) (cols : List ℕ) (corners : List Corner) → cols ≡ map f ranks → corners ≡ corners_in cols → length corners ≡ length ranks
corner_each f ranks cols corners placed is = ap length is ∙ (count_from cols 0 cols ∙ (ap length placed ∙ count_map f ranks))
