-- The table of numbers that are printed.
use Rattle.std.proofs.Common.{◌≡◌, ℕ, ◌+◌, ◌/◌, ◌%◌, ◌<◌, ◌≤◌, ◌++◌, Bool, true, false, List, [], ◌∷◌, cond, ltb, inl, inr, map, get_or, length, take, codes, refl, sym, ap, ◌∙◌, arith}
use Rattle.std.specs.Prelude.{decimal}
use Rattle.std.proofs.lemmas.Bool.{cases_lt, lt-ltb, le-ltb}
use Rattle.std.proofs.lemmas.Fmt.{decimal_digit}
use Rattle.message_text.proofs.LabelLemmas.{two_plain, three_digits}
use Rattle.message_elements.proofs.TableLemmas.{numbers_from, get_from}
use Rattle.message_text.specs.declared.row.TheConstants.{LABELS, LABEL_LENS}
use Rattle.message_text.specs.Labels.{label_len}

-- the digits of a number below 1000
abbrev digits_of : ℕ → List ℕ
digits_of n =
    cond (ltb n 10) ((48 + n) ∷ [])
    (cond (ltb n 100) ((48 + n / 10) ∷ (48 + n % 10) ∷ [])
    ((48 + n / 100) ∷ (48 + n / 10 % 10) ∷ (48 + n % 10) ∷ []))

digits_are : (n : ℕ) → n < 129 → digits_of n ≡ decimal n
digits_are n h =
    elim (cases_lt n 10) [
      | inl one ↦ rw (lt-ltb n 10 one) (sym (decimal_digit n one))
      | inr more ↦ elim (cases_lt n 100) [
        | inl two ↦ rw (le-ltb n 10 more, lt-ltb n 100 two) (sym (two_plain n more two))
        | inr three ↦ rw (le-ltb n 10 more, le-ltb n 100 three) (sym (three_digits n three (omega (arith, h))))
      ]
    ]

-- a number and as many spaces as make four bytes
abbrev padded : ℕ → List ℕ
padded n = take 4 (digits_of n ++ codes "   ")

whole : LABELS ≡ map padded (numbers_from 0 129)
whole = refl

fronts : map (λ n. take (label_len n) (padded n)) (numbers_from 0 129) ≡ map (λ n. digits_of n ++ codes " ") (numbers_from 0 129)
fronts = refl

fours : map (λ n. length (padded n)) (numbers_from 0 129) ≡ map (λ _. 4) (numbers_from 0 129)
fours = refl

at : {A : Type 0} (f : ℕ → A) (n : ℕ) (none : A) → n < 129 → get_or (map f (numbers_from 0 129)) n none ≡ f n
at f n none h = get_from none f 129 0 n h ∙ ap f (omega arith)

padded_is : (n : ℕ) (none : List ℕ) → n < 129 → get_or LABELS n none ≡ padded n
padded_is n none h = ap (λ ls. get_or ls n none) whole ∙ at padded n none h

lens : LABEL_LENS ≡ map label_len (numbers_from 0 129)
lens = refl

pub len_is : (n : ℕ) → n < 129 → get_or LABEL_LENS n 0 ≡ label_len n
len_is n h = ap (λ ls. get_or ls n 0) lens ∙ at label_len n 0 h

pub label_is : (n : ℕ) (none : List ℕ) → n < 129 → take (label_len n) (get_or LABELS n none) ≡ decimal n ++ codes " "
label_is n none h =
    ap (take (label_len n)) (padded_is n none h)
    ∙ sym (at (λ k. take (label_len k) (padded k)) n none h)
    ∙ ap (λ ls. get_or ls n none) fronts
    ∙ at (λ k. digits_of k ++ codes " ") n none h
    ∙ ap (λ ds. ds ++ codes " ") (digits_are n h)

pub four_bytes : (n : ℕ) (none : List ℕ) → n < 129 → length (get_or LABELS n none) ≡ 4
four_bytes n none h = ap length (padded_is n none h) ∙ sym (at (λ k. length (padded k)) n 4 h) ∙ ap (λ ls. get_or ls n 4) fours ∙ at (λ _. 4) n 4 h

pub fits : (n : ℕ) → label_len n ≤ 4
fits n = at_most (ltb n 10) (ltb n 100) where
  at_most : (one two : Bool) → cond one 2 (cond two 3 4) ≤ 4
  at_most true two = omega arith
  at_most false true = omega arith
  at_most false false = omega arith
