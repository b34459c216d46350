-- Sums as far as 64 bits count.
use Rattle.std.proofs.Common.{◌≡◌, ℕ, ◌+◌, ◌-◌, ◌^◌, ◌<◌, ◌≤◌, min, List, length, get_or, take, reverse, arith, sym, ap, ◌∙◌}
use Rattle.std.specs.Prelude.{sum_by}
use Rattle.std.proofs.lemmas.List.{take_all}
use Rattle.std.proofs.lemmas.List.Sums.{sum_by_more}
use Rattle.std.proofs.lemmas.List.Sorted.{sum_by-IsPermutation, IsPermutation-reverse}
use Rattle.run_report.specs.Counted.{counted}

pub counted_sum : (a b m n r s : ℕ) → m ≡ counted a → n ≡ counted b → r ≡ min (m + n) (2 ^ 64 - 1) → s ≡ a + b → r ≡ counted s
counted_sum a b m n r s here next sum whole = omega arith

pub counted_more : {X : Type 0} (f : X → ℕ) (xs : List X) (i : ℕ) (x : X) (m n r : ℕ) → i < length xs → x ≡ get_or xs i x → m ≡ counted (sum_by f (take i xs)) → n ≡ counted (f x) → r ≡ min (m + n) (2 ^ 64 - 1) → r ≡ counted (sum_by f (take (i + 1) xs))
counted_more f xs i x m n r within read here next sum =
    counted_sum (sum_by f (take i xs)) (f x) m n r (sum_by f (take (i + 1) xs)) here next sum (sum_by_more f xs i x within ∙ ap (λ y. sum_by f (take i xs) + f y) (sym read))

pub counted_all : {X : Type 0} (f : X → ℕ) (xs : List X) (i m : ℕ) → length xs ≤ i → m ≡ counted (sum_by f (take i xs)) → m ≡ counted (sum_by f xs)
counted_all f xs i m past here = here ∙ ap (λ ys. counted (sum_by f ys)) (take_all i xs past)

pub sum_by-reverse : {X : Type 0} (f : X → ℕ) (xs : List X) → sum_by f (reverse xs) ≡ sum_by f xs
sum_by-reverse f xs = sum_by-IsPermutation f xs (reverse xs) (IsPermutation-reverse xs)
