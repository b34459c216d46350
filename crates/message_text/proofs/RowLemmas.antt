-- Bytes written in the front of a row.
use Rattle.std.proofs.Common.{◌≡◌, ℕ, ◌+◌, ◌≤◌, List, Option, Some, ◌++◌, length, take, drop, sym, ap, subst, ◌∙◌, append_assoc, length-append, arith}
use Rattle.std.specs.Prelude.{MatchOption}
use Rattle.std.proofs.lemmas.List.{take-append-drop, take-take, take_at, length-take-le}
use Rattle.std.proofs.Math.Seq.{take-append-add}

-- the first n bytes and the last n bytes, which may overlap, are all of them
pub two_words : (old mid new bytes first last : List ℕ) (at r m end n k : ℕ) → take r mid ≡ take at old ++ first → r ≡ at + n → first ≡ take n bytes → n ≤ length bytes
    → take end new ≡ take m mid ++ last → m ≡ at + k → k + n ≡ length bytes → k ≤ n → last ≡ drop k bytes → at ≤ length old → take end new ≡ take at old ++ bytes
two_words old mid new bytes first last at r m end n k front r_is first_is enough whole m_is k_is few last_is within =
    let before = take at old in
    let long : length before ≡ at = length-take-le at old within in
    let word : length first ≡ n = ap length first_is ∙ length-take-le n bytes enough in
    let part : length (take k first) ≡ k = length-take-le k first (omega (arith, word, few)) in
    let split : before ++ first ≡ (before ++ take k first) ++ drop k first = sym (append_assoc before (take k first) (drop k first) ∙ ap (λ z. before ++ z) (take-append-drop k first)) in
    let both : length (before ++ take k first) ≡ m = omega (arith, length-append before (take k first), long, part, m_is) in
    let kept : take m mid ≡ before ++ take k first = sym (take-take m r mid (omega (arith, m_is, r_is, few))) ∙ ap (take m) (front ∙ split) ∙ take_at (before ++ take k first) (drop k first) m both in
    let same : take k first ≡ take k bytes = ap (take k) first_is ∙ take-take k n bytes few in
    whole ∙ ap (λ z. z ++ last) (kept ∙ ap (λ z. before ++ z) same) ∙ append_assoc before (take k bytes) last ∙ ap (λ z. before ++ z) (ap (λ z. take k bytes ++ z) last_is ∙ take-append-drop k bytes)

-- what is said of the value in an option that has one
pub of_some : {A : Type 0} {x : Option A} {a : A} (N : Type 0) (P : A → Type 0) → x ≡ Some a → MatchOption x N P → P a
of_some N P e h = subst (λ y. MatchOption y N P) e h

-- more bytes were written than are meant
pub less_written : (old new bytes : List ℕ) (at n size : ℕ) → take (at + n) new ≡ take at old ++ take n bytes → size ≤ n → at ≤ length old → take (at + size) new ≡ take at old ++ take size bytes
less_written old new bytes at n size written few within =
    let before = take at old in
    let long : length before ≡ at = length-take-le at old within in
    let split : take (at + size) (before ++ take n bytes) ≡ before ++ take size (take n bytes) = ap (λ k. take (k + size) (before ++ take n bytes)) (sym long) ∙ take-append-add before (take n bytes) size in
    sym (take-take (at + size) (at + n) new (omega (arith, few))) ∙ ap (take (at + size)) written ∙ split ∙ ap (λ z. before ++ z) (take-take size n bytes few)
