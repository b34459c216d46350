-- Lists that are the same at each place.
use Rattle.std.proofs.Common.{◌≡◌, ℕ, suc, ◌<◌, List, [], ◌∷◌, length, get_or, arith, refl}

pub same_below : {X : Type 0} (xs ys : List X) → length xs ≡ length ys → ((k : ℕ) (d : X) → k < length xs → get_or xs k d ≡ get_or ys k d) → xs ≡ ys
same_below [] [] len h = refl
same_below [] (y ∷ ys) len h = absurd (omega arith)
same_below (x ∷ xs) [] len h = absurd (omega arith)
same_below (x ∷ xs) (y ∷ ys) len h =
    let e : x ≡ y = h 0 x (omega arith) in
    let rest : xs ≡ ys = same_below xs ys (omega arith) (λ k d low. h (suc k) d (omega arith)) in
    rw (e, rest) refl
