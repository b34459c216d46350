-- Short bytes are equal where their numbers of bytes and their whole arrays are.
use Rattle.std.specs.Prelude.{Bool, ◌≡◌, ◌≢◌, ◌&&◌, ◌==◌, ℕ, List, length, take, true, false, refl}
use Rattle.std.proofs.Common.{arith, subst, ◌∙◌}
use Rattle.std.specs.Cmp.Lexicographic.{pointwise, bytes_decides}
use Rattle.std.proofs.lemmas.Bool.{and_parts}
use Rattle.std.proofs.lemmas.Bool.Decides.{same_from_decides, Decides-eqb, nat_tests}
use Rattle.card_digits.specs.Digits.{IsPadded}
use Rattle.card_digits.specs.PaddedBack.{padded_len, padded_rest}

abbrev same_array : (m n : ℕ) (bs cs : List ℕ) → Bool
same_array m n bs cs = (m == n) && pointwise ◌==◌ bs cs

-- the used bytes are the same where the arrays are
used_same : (m n : ℕ) (bs cs : List ℕ) → same_array m n bs cs ≡ true → take m bs ≡ take n cs
used_same m n bs cs h =
    let (lens, arrays) = and_parts (m == n) (pointwise ◌==◌ bs cs) h in
    rw ((Decides-eqb m n).0 lens, (bytes_decides bs cs).0 arrays) refl

-- the arrays are the same where the used bytes are
arrays_same : (size m n : ℕ) (bs cs : List ℕ) → IsPadded size m bs → IsPadded size n cs
    → take m bs ≡ take n cs → same_array m n bs cs ≡ true
arrays_same size m n bs cs h k same =
    let lengths : length (take m bs) ≡ length (take n cs) = rw same refl in
    let lens : m ≡ n = omega (arith, padded_len size m bs h, padded_len size n cs k, lengths) in
    let arrays : bs ≡ cs = rw (← padded_rest size m bs h, ← padded_rest size n cs k, same, lens) refl in
    rw ((Decides-eqb m n).1 lens, (bytes_decides bs cs).1 arrays) refl

pub same_padded : (size m n : ℕ) (bs cs : List ℕ) → IsPadded size m bs → IsPadded size n cs
    → same_array m n bs cs ≡ pointwise ◌==◌ (take m bs) (take n cs)
same_padded size m n bs cs h k =
    same_from_decides (same_array m n bs cs) (pointwise ◌==◌ (take m bs) (take n cs))
    (used_same m n bs cs, arrays_same size m n bs cs h k)
    (bytes_decides (take m bs) (take n cs))

-- with as many bytes, the arrays decide
pub same_bytes : (size m n : ℕ) (bs cs : List ℕ) → IsPadded size m bs → IsPadded size n cs
    → m ≡ n → pointwise ◌==◌ bs cs ≡ pointwise ◌==◌ (take m bs) (take n cs)
same_bytes size m n bs cs h k lens =
    let one : (m == n) ≡ true = (Decides-eqb m n).1 lens in
    let whole : true && pointwise ◌==◌ bs cs ≡ pointwise ◌==◌ (take m bs) (take n cs) =
    subst (λ b. b && pointwise ◌==◌ bs cs ≡ pointwise ◌==◌ (take m bs) (take n cs)) one (same_padded size m n bs cs h k) in
    whole

-- with another number of bytes, nothing more is asked
pub other_len : (size m n : ℕ) (bs cs : List ℕ) → IsPadded size m bs → IsPadded size n cs
    → m ≢ n → (m == n) ≡ pointwise ◌==◌ (take m bs) (take n cs)
other_len size m n bs cs h k lens =
    let none : (m == n) ≡ false = grind (arith, nat_tests) in
    let whole : false && pointwise ◌==◌ bs cs ≡ pointwise ◌==◌ (take m bs) (take n cs) =
    subst (λ b. b && pointwise ◌==◌ bs cs ≡ pointwise ◌==◌ (take m bs) (take n cs)) none (same_padded size m n bs cs h k) in
    none ∙ whole
