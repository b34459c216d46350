-- Fronts of what is read and written in parts.
use Rattle.std.proofs.Common.{◌≡◌, ℕ, ◌+◌, ◌-◌, ◌≤◌, List, ◌++◌, length, take, drop, min, refl, sym, ap, ◌∙◌, arith, Option, subst}
use borrow.Rule.Slice.PartMut.{put_mid, post_of}
use Rattle.std.proofs.Math.Seq.{take-add}
use Rattle.std.proofs.lemmas.List.{take_at, drop_at, take-take, length-append, length-take-le, take-append-le, take_min}
use Rattle.std.proofs.lemmas.Slice.{take-put_mid}
use Rattle.std.specs.Io.KnownBytes.{Appends}
use Rattle.card_digits.proofs.Known.{Appends-trans}
use Rattle.card_digits.specs.Stream.{AppendsFront}

take_past : (p q : List ℕ) (a n : ℕ) → length p ≡ a → take (a + n) (p ++ q) ≡ p ++ take n q
take_past p q a n e = take-add a n (p ++ q) ∙ ap (λ xs. xs ++ take n (drop a (p ++ q))) (take_at p q a e) ∙ ap (λ xs. p ++ take n xs) (drop_at p q a e)

-- the front of a buffer whose part from a place on was read into
pub read_part : (done n : ℕ) (buffer part : List ℕ) → done ≤ length buffer → length part ≡ length buffer - done → n ≤ length part
    → take (done + n) (put_mid done (length buffer - done) buffer part) ≡ take done buffer ++ take n part
read_part done n buffer part within len few =
    let k = length buffer - done in
    let whole : take (done + length part) (put_mid done k buffer part) ≡ take done buffer ++ part = take-put_mid done k buffer part (done + length part) refl within in
    let shorter : take (done + n) (take (done + length part) (put_mid done k buffer part)) ≡ take (done + n) (put_mid done k buffer part) = take-take (done + n) (done + length part) (put_mid done k buffer part) (omega arith) in
    sym shorter ∙ ap (take (done + n)) whole ∙ take_past (take done buffer) part done n (length-take-le done buffer within)

-- a front of the first of two parts is one of both
pub first_front : (a b : Option (List ℕ)) (xs ys : List ℕ) → AppendsFront a b xs → AppendsFront a b (xs ++ ys)
first_front a b xs ys h =
    let less : min h.0 (length xs) ≤ length xs = omega arith in
    let same : take (min h.0 (length xs)) (xs ++ ys) ≡ take h.0 xs = take-append-le (min h.0 (length xs)) xs ys less ∙ take_min h.0 xs in
    (min h.0 (length xs), subst (λ (zs : List ℕ). Appends a b zs) (sym same) h.1)

-- the first part and a front of the second are a front of both
pub second_front : (a b c : Option (List ℕ)) (xs ys : List ℕ) → Appends a b xs → AppendsFront b c ys → AppendsFront a c (xs ++ ys)
second_front a b c xs ys h k =
    (length xs + k.0, subst (λ (zs : List ℕ). Appends a c zs) (sym (take_past xs ys (length xs) k.0 refl)) (Appends-trans a b c xs (take k.0 ys) h k.1))

pub part_within : (done n : ℕ) (buffer part : List ℕ) → done ≤ length buffer → n ≤ length part → done + n ≤ length (put_mid done (length buffer - done) buffer part)
part_within done n buffer part within few =
    let k = length buffer - done in
    omega (arith, length-append (take done buffer) (part ++ post_of done k buffer), length-append part (post_of done k buffer), length-take-le done buffer within, few)
