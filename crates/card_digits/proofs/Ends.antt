-- Lists of one length are the same where their fronts and their ends are, which cover them.
use Rattle.std.specs.Prelude.{Bool, ◌≡◌, ◌&&◌, ◌==◌, ◌+◌, ◌-◌, ◌≤◌, ℕ, List, length, take, drop, true, refl}
use Rattle.std.proofs.Common.{arith, ◌∙◌, ap, sym, drop-drop}
use Rattle.std.specs.Cmp.Lexicographic.{pointwise, bytes_decides}
use Rattle.std.proofs.lemmas.Bool.{and_parts}
use Rattle.std.proofs.lemmas.Bool.Decides.{same_from_decides}
use Rattle.std.proofs.lemmas.List.{take-append-drop}

-- so many at the end
abbrev pub ending : ℕ → List ℕ → List ℕ
ending w xs = drop (length xs - w) xs

-- what stands behind the first w is behind so many of the last w
rest_of : (w : ℕ) (xs : List ℕ) → w ≤ length xs → length xs ≤ w + w → drop w xs ≡ drop (w + w - length xs) (ending w xs)
rest_of w xs least most =
    ap (λ n. drop n xs) {x = w} {y = length xs - w + (w + w - length xs)} (omega (arith, least, most)) ∙ sym (drop-drop (w + w - length xs) (length xs - w) xs)

rest_same : (w : ℕ) (xs ys : List ℕ) → w ≤ length xs → length xs ≤ w + w → length ys ≡ length xs → ending w xs ≡ ending w ys → drop w xs ≡ drop w ys
rest_same w xs ys least most lengths ends =
    rest_of w xs least most ∙ ap (drop (w + w - length xs)) ends ∙ ap (λ n. drop (w + w - n) (ending w ys)) (sym lengths)
    ∙ sym (rest_of w ys (omega (arith, least, lengths)) (omega (arith, most, lengths)))

covered : (w : ℕ) (xs ys : List ℕ) → w ≤ length xs → length xs ≤ w + w → length ys ≡ length xs
    → take w xs ≡ take w ys → ending w xs ≡ ending w ys → xs ≡ ys
covered w xs ys least most lengths fronts ends =
    sym (take-append-drop w xs) ∙ rw (fronts, rest_same w xs ys least most lengths ends) refl ∙ take-append-drop w ys

abbrev both : ℕ → List ℕ → List ℕ → Bool
both w xs ys = pointwise ◌==◌ (take w xs) (take w ys) && pointwise ◌==◌ (ending w xs) (ending w ys)

both_same : (w : ℕ) (xs ys : List ℕ) → w ≤ length xs → length xs ≤ w + w → length ys ≡ length xs → both w xs ys ≡ true → xs ≡ ys
both_same w xs ys least most lengths h =
    let (fronts, ends) = and_parts (pointwise ◌==◌ (take w xs) (take w ys)) (pointwise ◌==◌ (ending w xs) (ending w ys)) h in
    covered w xs ys least most lengths ((bytes_decides (take w xs) (take w ys)).0 fronts) ((bytes_decides (ending w xs) (ending w ys)).0 ends)

same_both : (w : ℕ) (xs ys : List ℕ) → xs ≡ ys → both w xs ys ≡ true
same_both w xs ys h = rw (h, (bytes_decides (take w ys) (take w ys)).1 refl, (bytes_decides (ending w ys) (ending w ys)).1 refl) refl

-- fronts and ends decide
pub decided : (w : ℕ) (xs ys : List ℕ) → w ≤ length xs → length xs ≤ w + w → length ys ≡ length xs
    → both w xs ys ≡ pointwise ◌==◌ xs ys
decided w xs ys least most lengths =
    same_from_decides (both w xs ys) (pointwise ◌==◌ xs ys) (both_same w xs ys least most lengths, same_both w xs ys) (bytes_decides xs ys)
