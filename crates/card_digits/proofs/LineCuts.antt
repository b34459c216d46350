-- Where a text is cut, its first line ends.
use Rattle.std.proofs.Common.{◌≡◌, ℕ, ◌<◌, ◌==◌, ◌++◌, false, List, [], ◌∷◌, arith, length, refl}
use Rattle.std.proofs.lemmas.List.Elements.{All-head, All-tail}
use Rattle.card_digits.specs.Cut.{IsCut}
use Rattle.card_digits.specs.Lines.{lines}
use Rattle.card_digits.proofs.Cuts.{Others}

-- nothing of the front ends a line
pub lines-at : (front behind : List ℕ) → Others 10 front → lines (front ++ 10 ∷ behind) ≡ front ∷ lines behind
lines-at [] behind none = refl
lines-at (b ∷ front) behind none =
    rw (All-head (λ c. (c == 10) ≡ false) b front none, lines-at front behind (All-tail (λ c. (c == 10) ≡ false) b front none)) refl

-- a last line without an end
pub lines-last : (b : ℕ) (bs : List ℕ) → Others 10 (b ∷ bs) → lines (b ∷ bs) ≡ (b ∷ bs) ∷ []
lines-last b [] none = rw (All-head (λ c. (c == 10) ≡ false) b [] none) refl
lines-last b (c ∷ bs) none =
    rw (lines-last c bs (All-tail (λ c. (c == 10) ≡ false) b (c ∷ bs) none), All-head (λ c. (c == 10) ≡ false) b (c ∷ bs) none) refl

-- a text is its first line and the lines behind it
pub first_of-cut : (text line behind : List ℕ) → IsCut 10 text line behind → lines text ≡ line ∷ lines behind
first_of-cut text line behind cut = rw cut.whole (lines-at line behind cut.none)

pub first_of-last : (text : List ℕ) → 0 < length text → Others 10 text → lines text ≡ text ∷ []
first_of-last [] some none = absurd (omega arith)
first_of-last (b ∷ bs) some none = lines-last b bs none

pub not_empty : (text : List ℕ) → (length text == 0) ≡ false → 0 < length text
not_empty [] h = cc
not_empty (b ∷ bs) h = omega arith
