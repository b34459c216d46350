-- The map of a response.
use Rattle.std.proofs.Common.{◌≡◌, ℕ, ◌+◌, ◌-◌, ◌*◌, ◌/◌, ◌%◌, ◌^◌, ◌<◌, ◌≤◌, true, cond, List, [], ◌∷◌, map, get_or, refl, sym, ap, ◌∙◌, inl, inr, arith, bit_and, bit_or}
use Rattle.std.specs.Int.{bit_at}
use Rattle.std.specs.Int.Bits.{and_zero_l}
use Rattle.std.proofs.Math.Nat.{mod-eq_of_lt}
use Rattle.std.proofs.lemmas.Bool.{cases_Bool, cases_lt, cases_eq, lt-ltb, le-ltb, ne_eqb}
use Rattle.std.proofs.lemmas.Nat.{pow_pos, and_block, and_comm, and_assoc, and_mod, and_le_l, or_disjoint, div-add-mod', mod_below}
use Rattle.std.proofs.lemmas.Nat.Bits.{shr_and_one}
use Rattle.message_elements.proofs.TableLemmas.{numbers_from, get_from}
use Rattle.iso_message.specs.Finding.{put}
use Rattle.iso_message.specs.Made.{is_one_of, kept, response_numbers}
use Rattle.iso_message.specs.Spelling.{Ascends, bits}
use Rattle.iso_message.proofs.Canonical.{marks_bits, weaker}
use Rattle.response_bytes.specs.Taken.{numbers}

abbrev pub carried : ℕ
carried = 8224135876117037056

abbrev bit_here : ℕ → ℕ
bit_here n = bit_at carried (64 - n)

abbrev is_here : ℕ → ℕ
is_here n = cond (is_one_of response_numbers n) 1 0

same_bits : map bit_here (numbers_from 0 65) ≡ map is_here (numbers_from 0 65)
same_bits = refl

-- the bits of these elements, number by number
carried_at : (n : ℕ) → n ≤ 64 → bit_at carried (64 - n) ≡ cond (is_one_of response_numbers n) 1 0
carried_at n h =
    let e : n + 0 ≡ n = omega arith in
    ap bit_here (sym e) ∙ sym (get_from 0 bit_here 65 0 n (omega arith)) ∙ ap (λ bs. get_or bs n 0) same_bits ∙ get_from 0 is_here 65 0 n (omega arith) ∙ ap is_here e

and_step : (k r c : ℕ) → r < 2 ^ k → bit_and (2 ^ k + r) c ≡ bit_at c k * 2 ^ k + bit_and r c
and_step k r c h =
    let one : 2 ^ k + r ≡ 1 * 2 ^ k + r = omega arith in
    let parts : c ≡ c / 2 ^ k * 2 ^ k + c % 2 ^ k = sym (div-add-mod' c (2 ^ k)) in
    let top : bit_and 1 (c / 2 ^ k) ≡ bit_at c k = and_comm 1 (c / 2 ^ k) ∙ shr_and_one c k in
    let few : bit_and r c < 2 ^ k = omega (arith, and_le_l r c) in
    let low : bit_and r (c % 2 ^ k) ≡ bit_and r c = ap (λ x. bit_and x (c % 2 ^ k)) (sym (mod-eq_of_lt h)) ∙ sym (and_mod r c k) ∙ mod-eq_of_lt few in
    ap (λ x. bit_and x c) one ∙ ap (bit_and (1 * 2 ^ k + r)) parts ∙ and_block k 1 (c / 2 ^ k) r (c % 2 ^ k) h (mod_below c (2 ^ k) (pow_pos k))
    ∙ ap (λ x. x * 2 ^ k + bit_and r (c % 2 ^ k)) top ∙ ap (λ x. bit_at c k * 2 ^ k + x) low

-- the map of the elements that are carried on
kept_bits : (low : ℕ) (es : List (ℕ × List ℕ)) → 1 ≤ low → Ascends low 64 (numbers es) → bit_and (bits 64 (numbers es)) carried ≡ bits 64 (numbers (kept response_numbers es))
kept_bits low [] h a = and_zero_l carried
kept_bits low (e ∷ es) h a =
    let k = 64 - e.0 in
    let behind : Ascends (64 - k) 64 (numbers es) = weaker e.0 (64 - k) 64 (numbers es) (omega (arith, a.1)) a.2 in
    let few : bits 64 (numbers es) < 2 ^ k = (marks_bits 64 k (numbers es) (omega arith) behind).1 in
    let ih = kept_bits e.0 es (omega (arith, h, a.0)) a.2 in
    let step : bit_and (2 ^ k + bits 64 (numbers es)) carried ≡ cond (is_one_of response_numbers e.0) 1 0 * 2 ^ k + bits 64 (numbers (kept response_numbers es)) =
    and_step k (bits 64 (numbers es)) carried few ∙ ap (λ x. x * 2 ^ k + bit_and (bits 64 (numbers es)) carried) (carried_at e.0 a.1) ∙ ap (λ x. cond (is_one_of response_numbers e.0) 1 0 * 2 ^ k + x) ih in
    elim (cases_Bool (is_one_of response_numbers e.0)) [
      | inl t ↦ step ∙ rw t (omega arith)
      | inr f ↦ step ∙ rw f (omega arith)
    ]

-- the code's bit is none of them
code_bits : (code : List ℕ) (es : List (ℕ × List ℕ)) → bits 64 (numbers (put 39 code (kept response_numbers es))) ≡ bits 64 (numbers (kept response_numbers es)) + 2 ^ 25
unfolding put
code_bits code [] = refl
code_bits code (e ∷ es) =
    elim (cases_Bool (is_one_of response_numbers e.0)) [
      | inl t ↦
          elim (cases_lt e.0 39) [
            | inl lt ↦ rw (t, lt-ltb _ _ lt) (omega (arith, code_bits code es))
            | inr le ↦
                elim (cases_eq e.0 39) [
                  | inl same ↦ absurd (let wrong : is_one_of response_numbers 39 ≡ true = ap (is_one_of response_numbers) (sym same) ∙ t in cc)
                  | inr other ↦ rw (t, le-ltb _ _ le, ne_eqb _ _ other) (omega arith)
                ]
          ]
      | inr f ↦ rw f (code_bits code es)
    ]

pub response_map : (first : ℕ) (es : List (ℕ × List ℕ)) (code : List ℕ) → Ascends 1 64 (numbers es) → first ≡ bits 64 (numbers es) → bit_or (bit_and first carried) (2 ^ 25) ≡ bits 64 (numbers (put 39 code (kept response_numbers es)))
response_map first es code a e =
    let apart : bit_and (bit_and first carried) (2 ^ 25) ≡ 0 = and_assoc (2 ^ 25) first carried ∙ and_comm first 0 ∙ and_zero_l first in
    or_disjoint (bit_and first carried) (2 ^ 25) apart ∙ ap (λ x. bit_and x carried + 2 ^ 25) e ∙ ap (λ x. x + 2 ^ 25) (kept_bits 1 es (omega arith) a) ∙ sym (code_bits code es)
