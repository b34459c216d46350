-- The canonical spelling of a message spells it.
use Rattle.std.proofs.Common.{◌≡◌, ℕ, zero, suc, ◌+◌, ◌-◌, ◌/◌, ◌%◌, ◌^◌, ◌<◌, ◌≤◌, true, false, ltb, List, [], ◌∷◌, ◌++◌, length, Option, Some, None, Ok, refl, sym, ap, ◌∙◌, arith, inl, inr}
use Rattle.std.specs.Int.{w64, to_be_bytes}
use Rattle.std.proofs.lemmas.Bool.{cases_lt, lt-ltb, le-ltb, le-leb, lt-leb, and_from}
use Rattle.std.proofs.lemmas.List.Concat.{flat_map-cons}
use Rattle.std.specs.Char.{is_ascii_digit}
use Rattle.std.proofs.Math.Nat.{add-mod_left, mod-eq_of_lt}
use Rattle.std.proofs.lemmas.Nat.{from_be_bytes-to_be_bytes_8}
use Rattle.hex.specs.Hex.{encode_upper, decode_sized, IsBytes}
use Rattle.hex.proofs.HexLemmas.{decode_of-encode_upper, decode_sized-twice, length-encode_with}
use Rattle.hex.specs.Hex.{upper_digits}
use Rattle.message_elements.specs.declared.kind.Kind.{Kind}
use Rattle.message_elements.specs.declared.kind.Kind.TheVariants as kinds
use Rattle.message_elements.specs.declared.form.Form.{Form}
use Rattle.message_elements.specs.declared.form.Form.TheVariants as forms
use Rattle.message_elements.specs.Types.{kind_text}
use Rattle.message_elements.specs.Table.{form_of}
use Rattle.iso_message.specs.Fields.{Fields}
use Rattle.iso_message.specs.Messages.{marks}
use Rattle.iso_message.specs.Grammar.{IsPiece, ArePieces, IsMap, AreMaps, IsKind, Spells, announced, Writes}
use Rattle.iso_message.specs.Spelling.{two_digits, three_digits, piece, bits, map_text, maps_text, low_numbers, high_numbers, numbers_of, pieces, spelling, Ascends, IsGood, AreGood, IsMessage}

mod_lt : (k n : ℕ) → k < n → k % n ≡ k
mod_lt k n h = mod-eq_of_lt h

pub weaker : (low lower high : ℕ) (ns : List ℕ) → lower ≤ low → Ascends low high ns → Ascends lower high ns
weaker low lower high [] h a = tt
weaker low lower high (n ∷ ns) h a = (omega (arith, a.0), a.1, a.2)

-- ---- maps

-- the bits of ascending numbers name them again
pub marks_bits : (last k : ℕ) (ns : List ℕ) → k ≤ last → Ascends (last - k) last ns → (marks last k (bits last ns) ≡ ns) × (bits last ns < 2 ^ k)
unfolding marks
marks_bits last zero [] h a = (refl, omega arith)
marks_bits last zero (n ∷ ns) h a = absurd (omega (arith, a.0, a.1))
marks_bits last (suc k) [] h a =
    let ih = marks_bits last k [] (omega arith) tt in
    (rw (lt-ltb 0 (2 ^ k) ih.1) ih.0, omega (arith, ih.1))
marks_bits last (suc k) (n ∷ ns) h a =
    elim (cases_lt (last - k) n) [
      | inl above ↦
          let ih = marks_bits last k (n ∷ ns) (omega arith) (above, a.1, a.2) in
          (rw (lt-ltb (bits last (n ∷ ns)) (2 ^ k) ih.1) ih.0, omega (arith, ih.1))
      | inr le ↦
          let here : n ≡ last - k = omega (arith, a.0) in
          let place : last - n ≡ k = omega arith in
          let ih = marks_bits last k ns (omega arith) (weaker n (last - k) last ns (omega arith) a.2) in
          let whole : bits last (n ∷ ns) ≡ 2 ^ k + bits last ns = ap (λ j. 2 ^ j + bits last ns) place in
          let high : ltb (2 ^ k + bits last ns) (2 ^ k) ≡ false = le-ltb _ _ (omega arith) in
          let less : 2 ^ k + bits last ns - 2 ^ k ≡ bits last ns = omega arith in
          (ap (marks last (suc k)) whole ∙ rw (high, less) (ap (λ ms. (last - k) ∷ ms) ih.0 ∙ ap (λ j. j ∷ ns) (sym here)), omega (arith, whole, ih.1))
    ]

bytes_cons : (b : ℕ) (bs : List ℕ) → b < 256 → IsBytes bs → IsBytes (b ∷ bs)
bytes_cons b bs h k zero = h
bytes_cons b bs h k (suc i) = k i

hex_again : (bs : List ℕ) → length bs ≡ 8 → IsBytes bs → decode_sized (encode_upper bs) 8 ≡ Ok bs
hex_again bs len h = decode_sized-twice (encode_upper bs) 8 (omega (arith, length-encode_with upper_digits bs)) ∙ decode_of-encode_upper bs h

be_bytes : (n : ℕ) → IsBytes (to_be_bytes w64 n)
be_bytes n zero = omega arith
be_bytes n (suc zero) = omega arith
be_bytes n (suc (suc zero)) = omega arith
be_bytes n (suc (suc (suc zero))) = omega arith
be_bytes n (suc (suc (suc (suc zero)))) = omega arith
be_bytes n (suc (suc (suc (suc (suc zero))))) = omega arith
be_bytes n (suc (suc (suc (suc (suc (suc zero)))))) = omega arith
be_bytes n (suc (suc (suc (suc (suc (suc (suc zero))))))) = omega arith
be_bytes n (suc (suc (suc (suc (suc (suc (suc (suc i)))))))) = omega arith

pub map_again : (n : ℕ) → n < 2 ^ 64 → IsMap n (map_text n)
map_again n h = (to_be_bytes w64 n, hex_again (to_be_bytes w64 n) refl (be_bytes n), from_be_bytes-to_be_bytes_8 n h)

maps_again : (low high : List ℕ) → Ascends 1 64 low → Ascends 64 128 high → (first : ℕ) × (second : ℕ) × AreMaps first second (maps_text low high) × (announced first second ≡ low ++ high)
maps_again low [] a b =
    let narrow = marks_bits 64 63 low (omega arith) a in
    let wide = marks_bits 64 64 low (omega arith) (weaker 1 0 64 low (omega arith) a) in
    let none = marks_bits 128 64 [] (omega arith) tt in
    let same : bits 64 low % 2 ^ 63 ≡ bits 64 low = mod_lt (bits 64 low) (2 ^ 63) narrow.1 in
    (bits 64 low, 0, inl (narrow.1, refl, map_again (bits 64 low) wide.1), ap (λ n. marks 64 64 n ++ marks 128 64 0) same ∙ ap (λ ns. ns ++ marks 128 64 0) wide.0 ∙ ap (λ ns. low ++ ns) none.0)
maps_again low (n ∷ high) a b =
    let narrow = marks_bits 64 63 low (omega arith) a in
    let wide = marks_bits 64 64 low (omega arith) (weaker 1 0 64 low (omega arith) a) in
    let some = marks_bits 128 64 (n ∷ high) (omega arith) b in
    let first = 2 ^ 63 + bits 64 low in
    let same : first % 2 ^ 63 ≡ bits 64 low = add-mod_left (2 ^ 63) (bits 64 low) ∙ mod_lt (bits 64 low) (2 ^ 63) narrow.1 in
    let second = bits 128 (n ∷ high) in
    (first, second, inr (omega arith, map_text first, map_text second, refl, map_again first (omega (arith, narrow.1)), map_again second some.1), ap (λ m. marks 64 64 m ++ marks 128 64 second) same ∙ ap (λ ns. ns ++ marks 128 64 second) wide.0 ∙ ap (λ ns. low ++ ns) some.0)

all_high : (l : ℕ) (ns : List ℕ) → 64 ≤ l → Ascends l 128 ns → (low_numbers ns ≡ []) × (high_numbers ns ≡ ns)
all_high l [] h a = (refl, refl)
all_high l (n ∷ ns) h a =
    let ih = all_high n ns (omega (arith, a.0)) a.2 in
    (rw (lt-leb n 64 (omega (arith, a.0))) ih.0, rw (lt-ltb 64 n (omega (arith, a.0))) (ap (λ ms. n ∷ ms) ih.1))

pub parted : (l : ℕ) (ns : List ℕ) → Ascends l 128 ns → (low_numbers ns ++ high_numbers ns ≡ ns) × Ascends l 64 (low_numbers ns) × Ascends 64 128 (high_numbers ns)
parted l [] a = (refl, tt, tt)
parted l (n ∷ ns) a =
    elim (cases_lt 64 n) [
      | inl above ↦
          let rest = all_high n ns (omega arith) a.2 in
          rw (lt-leb n 64 above, lt-ltb 64 n above, rest.0, rest.1) (refl, tt, (above, a.1, a.2))
      | inr le ↦
          let ih = parted n ns a.2 in
          rw (le-leb n 64 le, le-ltb 64 n le) (ap (λ ms. n ∷ ms) ih.0, (a.0, le, ih.1), ih.2)
    ]

-- ---- pieces

digit : (d : ℕ) → d < 10 → is_ascii_digit (48 + d) ≡ true
digit d h = and_from _ _ (le-leb 48 (48 + d) (omega arith)) (le-leb (48 + d) 57 (omega arith))

two_are : (n : ℕ) → n < 100 → Writes 2 n (two_digits n)
two_are n h = (refl, and_from _ _ (digit (n / 10) (omega arith)) (and_from _ _ (digit (n % 10) (omega arith)) refl), omega arith)

three_are : (n : ℕ) → n < 1000 → Writes 3 n (three_digits n)
three_are n h = (refl, and_from _ _ (digit (n / 100) (omega arith)) (and_from _ _ (digit (n / 10 % 10) (omega arith)) (and_from _ _ (digit (n % 10) (omega arith)) refl)), omega arith)

pub piece_again : (form : Option Form) (v : List ℕ) → IsGood form v → IsPiece form v (piece form v)
piece_again None v g = absurd g
piece_again (Some (forms.Fixed class size)) v g = (refl, g.0, g.1)
piece_again (Some (forms.Llvar class most)) v g = (two_digits (length v), refl, two_are (length v) g.1, g.0, g.2)
piece_again (Some (forms.Lllvar class most)) v g = (three_digits (length v), refl, three_are (length v) g.1, g.0, g.2)
piece_again (Some forms.Binary) v g = hex_again v g.0 g.1

pieces_again : (es : List (ℕ × List ℕ)) → AreGood es → ArePieces es (pieces es)
pieces_again [] g = refl
pieces_again (e ∷ es) g = (piece (form_of e.0) e.1, pieces es, flat_map-cons (λ x. piece (form_of x.0) x.1) e es, piece_again (form_of e.0) e.1 g.0, pieces_again es g.1)

pub kind_again : (k : Kind) → IsKind (kind_text k) k
kind_again kinds.K0100 = (refl, refl)
kind_again kinds.K0101 = (refl, refl)
kind_again kinds.K0110 = (refl, refl)
kind_again kinds.K0120 = (refl, refl)
kind_again kinds.K0121 = (refl, refl)
kind_again kinds.K0130 = (refl, refl)
kind_again kinds.K0400 = (refl, refl)
kind_again kinds.K0401 = (refl, refl)
kind_again kinds.K0410 = (refl, refl)
kind_again kinds.K0420 = (refl, refl)
kind_again kinds.K0421 = (refl, refl)
kind_again kinds.K0430 = (refl, refl)

pub spells : (m : Fields) → IsMessage m → Spells (spelling m) m
unfolding spelling
spells m h =
    let ns = numbers_of m in
    let p = parted 1 ns h.order in
    let maps = maps_again (low_numbers ns) (high_numbers ns) p.1 p.2 in
    record {
      kind = kind_text m.kind;
      maps = maps_text (low_numbers ns) (high_numbers ns);
      body = pieces m.elements;
      first = maps.0;
      second = maps.1;
      whole = refl;
      is_kind = kind_again m.kind;
      are_maps = maps.2;
      numbers = sym (maps.3 ∙ p.0);
      pieces = pieces_again m.elements h.values;
    }
