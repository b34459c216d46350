-- Texts of bytes are ordered as the numbers that they write, the first byte the highest, and as their fronts and ends are, which cover them.
use Rattle.std.specs.Prelude.{◌≡◌, ◌+◌, ◌*◌, ◌-◌, ◌<◌, ◌≤◌, ℕ, zero, suc, List, [], ◌∷◌, length, take, drop, replicate, ◌++◌, refl}
use Rattle.std.proofs.Common.{arith, ◌∙◌, ap, sym, get_or, true≢false, Ordering, Less, Equal, Greater}
use Rattle.std.specs.Int.{w64, from_be_bytes}
use Rattle.std.specs.Ordering.{nat_cmp, ordering_then, is_eq}
use Rattle.std.specs.Cmp.{nat_cmp_is}
use Rattle.std.specs.Cmp.Lexicographic.{slice_cmp}
use Rattle.std.proofs.lemmas.Cmp.{ranked, by_ranked}
use Rattle.std.proofs.lemmas.List.{length-append, length-replicate}
use Rattle.card_digits.specs.Digits.{IsPadded}
use Rattle.card_digits.specs.PaddedBack.{padded_len, padded_rest}
use Rattle.card_digits.proofs.Ends.{ending}

-- how two texts of bytes are ordered
abbrev pub order : List ℕ → List ℕ → Ordering
order = slice_cmp nat_cmp

-- the bytes are below 256
abbrev pub AreBytes : List ℕ → Type 0
AreBytes xs = (i : ℕ) → get_or xs i 0 < 256

-- the number of a number's bytes and those behind them
abbrev number_from : ℕ → List ℕ → ℕ
number_from n [] = n
number_from n (x ∷ xs) = number_from (n * 256 + x) xs

behind_first : (x : ℕ) (xs : List ℕ) → AreBytes (x ∷ xs) → AreBytes xs
behind_first x xs small i = small (suc i)

-- what a lesser number begins is the lesser
stays_less : (m n : ℕ) (xs ys : List ℕ) → AreBytes xs → length xs ≡ length ys → m < n → number_from m xs < number_from n ys
stays_less m n [] [] _ _ less = less
stays_less m n [] (y ∷ ys) _ lengths _ = absurd (omega (arith, lengths))
stays_less m n (x ∷ xs) [] _ lengths _ = absurd (omega (arith, lengths))
stays_less m n (x ∷ xs) (y ∷ ys) small lengths less =
    let first : x < 256 = small 0 in
    stays_less (m * 256 + x) (n * 256 + y) xs ys (behind_first x xs small) (omega (arith, lengths)) (omega (arith, less, first))

numbers_in_order : (n : ℕ) (xs ys : List ℕ) → AreBytes xs → AreBytes ys → length xs ≡ length ys → nat_cmp (number_from n xs) (number_from n ys) ≡ order xs ys
numbers_in_order n [] [] _ _ _ = sym (nat_cmp_is n n Equal refl)
numbers_in_order n [] (y ∷ ys) _ _ lengths = absurd (omega (arith, lengths))
numbers_in_order n (x ∷ xs) [] _ _ lengths = absurd (omega (arith, lengths))
numbers_in_order n (x ∷ xs) (y ∷ ys) small other_small lengths =
    let more : length xs ≡ length ys = omega (arith, lengths) in
    let first = number_from (n * 256 + x) xs in
    let other = number_from (n * 256 + y) ys in
    by_ranked (x < y) (x ≡ y) (y < x) (nat_cmp x y) (ranked x y (nat_cmp x y) refl)
    (λ o less. sym (nat_cmp_is first other Less (stays_less _ _ xs ys (behind_first x xs small) more (omega (arith, less)))) ∙ ap (λ r. ordering_then r (order xs ys)) (sym o))
    (λ o same. ap (λ k. nat_cmp first (number_from (n * 256 + k) ys)) (sym same)
    ∙ numbers_in_order (n * 256 + x) xs ys (behind_first x xs small) (behind_first y ys other_small) more ∙ ap (λ r. ordering_then r (order xs ys)) (sym o))
    (λ o more_than. sym (nat_cmp_is first other Greater (stays_less _ _ ys xs (behind_first y ys other_small) (sym more) (omega (arith, more_than))))
    ∙ ap (λ r. ordering_then r (order xs ys)) (sym o))

eight_bytes : (xs : List ℕ) → length xs ≡ 8 → from_be_bytes w64 xs ≡ number_from 0 xs
eight_bytes (a ∷ b ∷ c ∷ d ∷ e ∷ f ∷ g ∷ h ∷ []) _ = omega arith
eight_bytes (a ∷ b ∷ c ∷ d ∷ e ∷ f ∷ g ∷ h ∷ i ∷ xs) n = absurd (omega (arith, n))
eight_bytes [] n = absurd (omega (arith, n))
eight_bytes (a ∷ []) n = absurd (omega (arith, n))
eight_bytes (a ∷ b ∷ []) n = absurd (omega (arith, n))
eight_bytes (a ∷ b ∷ c ∷ []) n = absurd (omega (arith, n))
eight_bytes (a ∷ b ∷ c ∷ d ∷ []) n = absurd (omega (arith, n))
eight_bytes (a ∷ b ∷ c ∷ d ∷ e ∷ []) n = absurd (omega (arith, n))
eight_bytes (a ∷ b ∷ c ∷ d ∷ e ∷ f ∷ []) n = absurd (omega (arith, n))
eight_bytes (a ∷ b ∷ c ∷ d ∷ e ∷ f ∷ g ∷ []) n = absurd (omega (arith, n))

-- eight bytes are ordered as the numbers that they write
pub words_in_order : (xs ys : List ℕ) → length xs ≡ 8 → length ys ≡ 8 → AreBytes xs → AreBytes ys
    → nat_cmp (from_be_bytes w64 xs) (from_be_bytes w64 ys) ≡ order xs ys
words_in_order xs ys n m small other_small =
    rw (eight_bytes xs n, eight_bytes ys m) (numbers_in_order 0 xs ys small other_small (n ∙ sym m))

-- ---- fronts and ends

tied_parts : (o r : Ordering) → ordering_then o r ≡ Equal → (o ≡ Equal) × (r ≡ Equal)
tied_parts Less r h = absurd (true≢false (sym (ap is_eq h)))
tied_parts Equal r h = (refl, h)
tied_parts Greater r h = absurd (true≢false (sym (ap is_eq h)))

nested : (o f r s : Ordering) → (o ≡ Equal → ordering_then f r ≡ s) → ordering_then (ordering_then o f) r ≡ ordering_then o s
nested Less f r s h = refl
nested Equal f r s h = h refl
nested Greater f r s h = refl

-- behind fronts that are tied, the rest decides
behind_tied : (k w : ℕ) (xs ys : List ℕ) → k ≤ w → length xs ≡ length ys → order (take w xs) (take w ys) ≡ Equal
    → order xs ys ≡ order (drop k xs) (drop k ys)
behind_tied zero w xs ys _ _ _ = refl
behind_tied (suc k) zero xs ys least _ _ = absurd (omega (arith, least))
behind_tied (suc k) (suc w) [] [] _ _ _ = refl
behind_tied (suc k) (suc w) [] (y ∷ ys) _ lengths _ = absurd (omega (arith, lengths))
behind_tied (suc k) (suc w) (x ∷ xs) [] _ lengths _ = absurd (omega (arith, lengths))
behind_tied (suc k) (suc w) (x ∷ xs) (y ∷ ys) least lengths tied =
    let (first, others) = tied_parts (nat_cmp x y) (order (take w xs) (take w ys)) tied in
    ap (λ o. ordering_then o (order xs ys)) first ∙ behind_tied k w xs ys (omega (arith, least)) (omega (arith, lengths)) others

-- the fronts decide, and where they are tied another order that is that of the whole
by_front : (w : ℕ) (xs ys : List ℕ) (r : Ordering) → length xs ≡ length ys → (order (take w xs) (take w ys) ≡ Equal → r ≡ order xs ys)
    → ordering_then (order (take w xs) (take w ys)) r ≡ order xs ys
by_front zero xs ys r _ rest = rest refl
by_front (suc w) [] [] r _ rest = rest refl
by_front (suc w) [] (y ∷ ys) r lengths _ = absurd (omega (arith, lengths))
by_front (suc w) (x ∷ xs) [] r lengths _ = absurd (omega (arith, lengths))
by_front (suc w) (x ∷ xs) (y ∷ ys) r lengths rest =
    nested (nat_cmp x y) (order (take w xs) (take w ys)) r (order xs ys)
    (λ first. by_front w xs ys r (omega (arith, lengths))
    (λ others. rest (ap (λ o. ordering_then o (order (take w xs) (take w ys))) first ∙ others) ∙ ap (λ o. ordering_then o (order xs ys)) first))

-- fronts and ends decide that cover the whole
pub ends_in_order : (w : ℕ) (xs ys : List ℕ) → w ≤ length xs → length xs ≤ w + w → length ys ≡ length xs
    → ordering_then (order (take w xs) (take w ys)) (order (ending w xs) (ending w ys)) ≡ order xs ys
ends_in_order w xs ys least most lengths =
    by_front w xs ys (order (ending w xs) (ending w ys)) (sym lengths)
    (λ tied. ap (λ n. order (ending w xs) (drop (n - w) ys)) lengths ∙ sym (behind_tied (length xs - w) w xs ys (omega (arith, most)) (sym lengths) tied))

-- ---- padding

none_before_more : (n : ℕ) → nat_cmp 0 (suc n) ≡ Less
none_before_more n = sym (nat_cmp_is 0 (suc n) Less (omega arith))

more_behind_none : (n : ℕ) → nat_cmp (suc n) 0 ≡ Greater
more_behind_none n = sym (nat_cmp_is (suc n) 0 Greater (omega arith))

one_more_each : (m n : ℕ) → nat_cmp (suc m) (suc n) ≡ nat_cmp m n
one_more_each m n =
    by_ranked (m < n) (m ≡ n) (n < m) (nat_cmp m n) (ranked m n (nat_cmp m n) refl)
    (λ o less. sym (nat_cmp_is (suc m) (suc n) Less (omega (arith, less))) ∙ sym o)
    (λ o same. sym (nat_cmp_is (suc m) (suc n) Equal (omega (arith, same))) ∙ sym o)
    (λ o more. sym (nat_cmp_is (suc m) (suc n) Greater (omega (arith, more))) ∙ sym o)

zeros_least : (k : ℕ) (ys : List ℕ) → k ≡ length ys → ordering_then (order (replicate k 0) ys) Less ≡ Less
zeros_least zero [] _ = refl
zeros_least zero (y ∷ ys) n = absurd (omega (arith, n))
zeros_least (suc k) [] n = absurd (omega (arith, n))
zeros_least (suc k) (zero ∷ ys) n = zeros_least k ys (omega (arith, n))
zeros_least (suc k) (suc y ∷ ys) n =
    ap (λ o. ordering_then (ordering_then o (order (replicate k 0) ys)) Less) (none_before_more y)

zeros_not_greater : (k : ℕ) (ys : List ℕ) → k ≡ length ys → ordering_then (order ys (replicate k 0)) Greater ≡ Greater
zeros_not_greater zero [] _ = refl
zeros_not_greater zero (y ∷ ys) n = absurd (omega (arith, n))
zeros_not_greater (suc k) [] n = absurd (omega (arith, n))
zeros_not_greater (suc k) (zero ∷ ys) n = zeros_not_greater k ys (omega (arith, n))
zeros_not_greater (suc k) (suc y ∷ ys) n =
    ap (λ o. ordering_then (ordering_then o (order ys (replicate k 0))) Greater) (more_behind_none y)

zeros_behind : (k j : ℕ) (xs ys : List ℕ) → length xs + k ≡ length ys + j
    → ordering_then (order (xs ++ replicate k 0) (ys ++ replicate j 0)) (nat_cmp (length xs) (length ys)) ≡ order xs ys
zeros_behind k j [] [] lengths = ap (λ n. ordering_then (order (replicate k 0) (replicate n 0)) Equal) {x = j} {y = k} (omega (arith, lengths)) ∙ tied k
  where
    tied : (n : ℕ) → ordering_then (order (replicate n 0) (replicate n 0)) Equal ≡ Equal
    tied zero = refl
    tied (suc n) = tied n
zeros_behind k j [] (y ∷ ys) lengths =
    ap (ordering_then (order (replicate k 0) ((y ∷ ys) ++ replicate j 0))) (none_before_more (length ys))
    ∙ zeros_least k ((y ∷ ys) ++ replicate j 0) (omega (arith, lengths, length-append (y ∷ ys) (replicate j 0), length-replicate {A = ℕ} j 0))
zeros_behind k j (x ∷ xs) [] lengths =
    ap (ordering_then (order ((x ∷ xs) ++ replicate k 0) (replicate j 0))) (more_behind_none (length xs))
    ∙ zeros_not_greater j ((x ∷ xs) ++ replicate k 0) (omega (arith, lengths, length-append (x ∷ xs) (replicate k 0), length-replicate {A = ℕ} k 0))
zeros_behind k j (x ∷ xs) (y ∷ ys) lengths =
    ap (ordering_then (order ((x ∷ xs) ++ replicate k 0) ((y ∷ ys) ++ replicate j 0))) (one_more_each (length xs) (length ys))
    ∙ nested (nat_cmp x y) (order (xs ++ replicate k 0) (ys ++ replicate j 0)) (nat_cmp (length xs) (length ys)) (order xs ys)
    (λ _. zeros_behind k j xs ys (omega (arith, lengths)))

-- short bytes are ordered as their arrays, and where these are tied as their lengths
pub padded_in_order : (size m n : ℕ) (bs cs : List ℕ) → IsPadded size m bs → IsPadded size n cs
    → ordering_then (order bs cs) (nat_cmp m n) ≡ order (take m bs) (take n cs)
padded_in_order size m n bs cs h k =
    let used = padded_len size m bs h in
    let other_used = padded_len size n cs k in
    let whole = zeros_behind (size - m) (size - n) (take m bs) (take n cs) (omega (arith, used, other_used, h.fits, k.fits)) in
    ap (λ l. ordering_then (order bs cs) (nat_cmp l n)) (sym used) ∙ ap (λ l. ordering_then (order bs cs) (nat_cmp (length (take m bs)) l)) (sym other_used)
    ∙ ap (λ l. ordering_then (order l cs) (nat_cmp (length (take m bs)) (length (take n cs)))) (sym (padded_rest size m bs h))
    ∙ ap (λ l. ordering_then (order (take m bs ++ replicate (size - m) 0) l) (nat_cmp (length (take m bs)) (length (take n cs)))) (sym (padded_rest size n cs k))
    ∙ whole
