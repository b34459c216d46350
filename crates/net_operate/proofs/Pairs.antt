-- Two lists, place by place.
use Rattle.std.proofs.Common.{◌≡◌, ℕ, zero, suc, ◌<◌, ◌≤◌, ◌+◌, List, [], ◌∷◌, ◌++◌, length, get_or, take, arith, refl, subst, add-one}
use Rattle.std.specs.List.{AllZip}
use Rattle.std.proofs.lemmas.List.{take_all}

zip_more_suc : {X Y : Type 0} (R : X → Y → Type 0) (xs : List X) (ys : List Y) (i : ℕ) (x : X) (y : Y) → i < length xs → x ≡ get_or xs i x → R x y → AllZip R (take i xs) ys → AllZip R (take (suc i) xs) (ys ++ y ∷ [])
zip_more_suc R [] ys i x y within read here h = absurd (omega arith)
zip_more_suc {X} R (z ∷ xs) [] zero x y within read here h = (let P : X → Type 0 = λ v. R v y in subst P read here, tt)
zip_more_suc R (z ∷ xs) (w ∷ ys) zero x y within read here h = elim h [ ]
zip_more_suc R (z ∷ xs) [] (suc i) x y within read here h = elim h [ ]
zip_more_suc R (z ∷ xs) (w ∷ ys) (suc i) x y within read here h = (h.0, zip_more_suc R xs ys i x y (omega arith) read here h.1)

pub zip_more : {X Y : Type 0} (R : X → Y → Type 0) (xs : List X) (ys : List Y) (i : ℕ) (x : X) (y : Y) → i < length xs → x ≡ get_or xs i x → R x y → AllZip R (take i xs) ys → AllZip R (take (i + 1) xs) (ys ++ y ∷ [])
zip_more R xs ys i x y within read here h = rw add-one (zip_more_suc R xs ys i x y within read here h)

pub zip_end : {X Y : Type 0} (R : X → Y → Type 0) (xs : List X) (ys : List Y) (n : ℕ) → length xs ≤ n → AllZip R (take n xs) ys → AllZip R xs ys
zip_end R xs ys n past h = rw (take_all n xs past) at h

zip_at_suc : {X Y : Type 0} (R : X → Y → Type 0) (xs : List X) (ys : List Y) (i : ℕ) (y : Y) → i < length xs → ((d : X) → R (get_or xs i d) y) → AllZip R (take i xs) ys → AllZip R (take (suc i) xs) (ys ++ y ∷ [])
zip_at_suc R [] ys i y within here h = absurd (omega arith)
zip_at_suc R (z ∷ xs) [] zero y within here h = (here z, tt)
zip_at_suc R (z ∷ xs) (w ∷ ys) zero y within here h = elim h [ ]
zip_at_suc R (z ∷ xs) [] (suc i) y within here h = elim h [ ]
zip_at_suc R (z ∷ xs) (w ∷ ys) (suc i) y within here h = (h.0, zip_at_suc R xs ys i y (omega arith) here h.1)

pub zip_at : {X Y : Type 0} (R : X → Y → Type 0) (xs : List X) (ys : List Y) (i : ℕ) (y : Y) → i < length xs → ((d : X) → R (get_or xs i d) y) → AllZip R (take i xs) ys → AllZip R (take (i + 1) xs) (ys ++ y ∷ [])
zip_at R xs ys i y within here h = rw add-one (zip_at_suc R xs ys i y within here h)
