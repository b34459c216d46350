-- Elements by their places, one after the other.
use Rattle.std.proofs.Common.{◌≡◌, ◌∙◌, ℕ, ◌<◌, ◌≤◌, ◌+◌, List, [], ◌∷◌, ◌++◌, map, drop, get_or, length, append_assoc, refl, ap, sym, Bool}
use Rattle.std.proofs.lemmas.List.{drop_more, drop_all, append-nil}
use Rattle.net_rows.specs.Network.{Network}
use Rattle.picture_text.specs.declared.parts.Arrow.{Arrow}
use Rattle.network_picture.specs.Made.{by_place, arrow}

-- an element more
pub place_more : {A B : Type 0} (f : ℕ → A → B) (done new : List B) (xs : List A) (i : ℕ) (x : A) (y : B) (all : List B) → i < length xs → x ≡ get_or xs i x → y ≡ f i x → new ≡ done ++ y ∷ []
    → done ++ by_place f i (drop i xs) ≡ all → new ++ by_place f (i + 1) (drop (i + 1) xs) ≡ all
place_more f done new xs i x y all lt is here added so_far =
    let step : drop i xs ≡ x ∷ drop (i + 1) xs = rw (drop_more xs i x, ← is) refl in
    let before : done ++ (f i x ∷ by_place f (i + 1) (drop (i + 1) xs)) ≡ all = rw step at so_far in
    rw (added, here, append_assoc done (f i x ∷ []) (by_place f (i + 1) (drop (i + 1) xs))) before

-- all elements
pub places_done : {A B : Type 0} (f : ℕ → A → B) (done : List B) (xs : List A) (i : ℕ) (all : List B) → length xs ≤ i → done ++ by_place f i (drop i xs) ≡ all → done ≡ all
places_done f done xs i all past so_far =
    let none : drop i xs ≡ [] = drop_all i xs past in
    let nothing : done ++ [] ≡ all = rw none at so_far in
    sym (append-nil done) ∙ nothing

-- what is made of elements that have their places
map_places : {A B C : Type 0} (number : ℕ → A → B) (make : B → C) (i : ℕ) (xs : List A) → map make (by_place number i xs) ≡ by_place (λ (n : ℕ) (x : A). make (number n x)) i xs
map_places number make i [] = refl
map_places {A} {B} {C} number make i (x ∷ xs) = ap (λ (ys : List C). make (number i x) ∷ ys) (map_places number make (i + 1) xs)

pub made_of : {A B C : Type 0} (number : ℕ → A → B) (make : B → C) (rows : List B) (xs : List A) (ys : List C) → rows ≡ by_place number 0 xs → ys ≡ map make rows
    → ys ≡ by_place (λ (n : ℕ) (x : A). make (number n x)) 0 xs
made_of {A} {B} {C} number make rows xs ys placed made = made ∙ (ap (λ (rs : List B). map make rs) placed ∙ map_places number make 0 xs)

-- the links of a row, none of which is there yet
pub arrows_start : (t : Network) (a b : Bool) (n : ℕ) (ls ms : List ℕ) (done : List Arrow) → a ≡ b → ls ≡ ms → done ++ by_place (arrow t a n) 0 ls ≡ done ++ by_place (arrow t b n) 0 ms
arrows_start t a b n ls ms done e f = rw (e, f) refl
