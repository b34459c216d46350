-- The set bits of a map, from the highest, and the elements that they name.
use Rattle.std.proofs.Common.{◌≡◌, ℕ, zero, suc, ◌-◌, ◌*◌, ◌^◌, ◌%◌, ◌<◌, ◌≤◌, true, false, ltb, List, [], ◌∷◌, Result, Ok, refl, sym, ap, subst, ◌∙◌, arith, inl, inr}
use Rattle.std.proofs.lemmas.Bool.{cases_lt, lt-ltb, le-ltb}
use Rattle.std.proofs.Math.Nat.{pow-le-pow_right}
use Rattle.std.specs.Int.Count.{count_leading_zeros}
use Rattle.std.proofs.lemmas.Nat.{leading_top, one_shl}
use Rattle.message_elements.specs.declared.fault.DecodeFault.{DecodeFault}
use Rattle.card_digits.specs.Attempts.{Fails}
use Rattle.card_digits.proofs.Attempts.{fails_bind}
use Rattle.iso_message.specs.Elements.{with_next, with_all}
use Rattle.message_elements.specs.Table.{form_of}
use Rattle.iso_message.specs.Messages.{marks, is_memory}

pub marks_down : (last k j map : ℕ) → j ≤ k → map < 2 ^ j → marks last k map ≡ marks last j map
unfolding marks
marks_down last zero j map h lt = let none : j ≡ 0 = omega arith in rw none refl
marks_down last (suc k) j map h lt =
    elim (cases_lt k j) [
      | inl above ↦ let same : j ≡ suc k = omega arith in rw same refl
      | inr le ↦
          let wide : 2 ^ j ≤ 2 ^ k = pow-le-pow_right {n = 2} (omega arith) le in
          let low : ltb map (2 ^ k) ≡ true = lt-ltb map (2 ^ k) (omega arith) in
          rw low (marks_down last k j map le lt)
    ]

pub marks_top : (last j map : ℕ) → 2 ^ j ≤ map → marks last (suc j) map ≡ (last - j) ∷ marks last j (map - 2 ^ j)
unfolding marks
marks_top last j map le = let high : ltb map (2 ^ j) ≡ false = le-ltb map (2 ^ j) le in rw high refl

-- the highest bit first, and then those of the rest
pub marks_step : (last j map : ℕ) → suc j ≤ 64 → 2 ^ j ≤ map → map < 2 ^ suc j → marks last 64 map ≡ (last - j) ∷ marks last 64 (map - 2 ^ j)
marks_step last j map h le lt =
    let twice : 2 ^ suc j ≡ 2 * 2 ^ j = omega arith in
    marks_down last 64 (suc j) map h lt ∙ marks_top last j map le
    ∙ ap (λ (ns : List ℕ). (last - j) ∷ ns) (sym (marks_down last 64 j (map - 2 ^ j) (omega arith) (omega arith)))

pub marks_none : (last : ℕ) → marks last 64 0 ≡ []
unfolding marks
marks_none last = marks_down last 64 0 0 (omega arith) (omega arith) ∙ refl

pub goes_on : (es more : List (ℕ × List ℕ)) (n : ℕ) (ns ms bytes rest : List ℕ) (total : Result (List (ℕ × List ℕ) × List ℕ) DecodeFault) → ms ≡ n ∷ ns → with_next es (form_of n) n bytes ≡ Ok (more, rest)
    → with_all es ms bytes ≡ total → with_all more ns rest ≡ total
unfolding with_all
goes_on es more n ns ms bytes rest total e read so_far =
    let one : with_all es ms bytes ≡ with_all more ns rest = rw (e, read) refl in
    sym one ∙ so_far

pub ends : (fault : DecodeFault) (es : List (ℕ × List ℕ)) (n : ℕ) (ns ms bytes : List ℕ) (total : Result (List (ℕ × List ℕ) × List ℕ) DecodeFault) → ms ≡ n ∷ ns → Fails is_memory fault (with_next es (form_of n) n bytes)
    → with_all es ms bytes ≡ total → Fails is_memory fault total
unfolding with_all
ends fault es n ns ms bytes total e read so_far =
    subst (Fails is_memory fault) (sym (ap (λ ks. with_all es ks bytes) e) ∙ so_far)
    (fails_bind is_memory fault (with_next es (form_of n) n bytes) (λ x. with_all x.0 ns x.1) read)

-- the power of two that a map's highest set bit stands for, as the code shifts it
abbrev pub top_bit : ℕ → ℕ
top_bit left = (1 * 2 ^ (63 - count_leading_zeros 64 left)) % 2 ^ 64

pub top_bit-le : (left : ℕ) → 0 < left → left < 2 ^ 64 → top_bit left ≤ left
top_bit-le left pos lt =
    let t = leading_top 64 left pos lt in
    let place : 63 - count_leading_zeros 64 left ≡ t.0 = omega (arith, t.1) in
    rw (place, one_shl t.0 64 (omega (arith, t.1))) t.2

pub marks_next : (last left : ℕ) → 0 < left → left < 2 ^ 64 → marks last 64 left ≡ (last - (63 - count_leading_zeros 64 left)) ∷ marks last 64 (left - top_bit left)
marks_next last left pos lt =
    let t = leading_top 64 left pos lt in
    let place : 63 - count_leading_zeros 64 left ≡ t.0 = omega (arith, t.1) in
    rw (place, one_shl t.0 64 (omega (arith, t.1))) (marks_step last t.0 left (omega (arith, t.1)) t.2 t.3)
