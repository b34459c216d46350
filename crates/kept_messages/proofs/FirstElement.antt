-- The first element of a message, in its bytes.
use Rattle.std.proofs.Common.{◌≡◌, ℕ, ◌+◌, ◌-◌, ◌<◌, ◌≤◌, ◌^◌, List, [], ◌∷◌, ◌++◌, length, map, drop, Option, Some, None, Ok, Err, refl, sym, ap, subst, ◌∙◌, append_assoc, length-append, arith, true, inl, inr}
use Rattle.std.specs.Borrow.{Bor}
use Rattle.std.specs.Prelude.{unwrap_or, MatchOption}
use Rattle.std.proofs.lemmas.Bool.{cases_lt, le-leb, ne_eqb}
use Rattle.std.proofs.lemmas.List.Concat.{flat_map-cons}
use Rattle.std.specs.Char.{is_ascii_digit}
use Rattle.std.specs.List.{list_all}
use Rattle.card_digits.specs.Digits.{digits_of}
use Rattle.network_law.specs.Cards.{card_of}
use Rattle.message_elements.specs.declared.fault.DecodeFault.{DecodeFault}
use Rattle.message_elements.specs.declared.kind.Kind.{Kind}
use Rattle.message_elements.specs.declared.kind.Kind.TheVariants.{K0100, K0101, K0110, K0120, K0121, K0130, K0400, K0401, K0410, K0420, K0421, K0430}
use Rattle.message_elements.specs.Table.{table, form_of}
use Rattle.message_elements.specs.Types.{kind_text}
use Rattle.iso_message.specs.Fields.{Fields, get, el, as_kind}
use Rattle.iso_message.specs.Finding.{find_element}
use Rattle.iso_message.specs.Messages.{kind_at, map_at}
use Rattle.iso_message.specs.Spelling.{Ascends, AreGood, IsGood, IsMessage, bits, low_numbers, high_numbers, map_text, maps_text, numbers_of, piece, pieces, spelling, two_digits}
use Rattle.iso_message.proofs.Found.{good_found}
use Rattle.iso_message.proofs.Canonical.{kind_again, map_again, marks_bits, parted, weaker}
use Rattle.iso_message.proofs.ReadingLaws as reading
use Rattle.response_bytes.proofs.Whole.{first_of, behind_first, body_is, not_both, same_ok}

-- ---- behind the type

drop_kind : (k : Kind) (rest : List ℕ) → drop 4 (kind_text k ++ rest) ≡ rest
drop_kind K0100 rest = refl
drop_kind K0101 rest = refl
drop_kind K0110 rest = refl
drop_kind K0120 rest = refl
drop_kind K0121 rest = refl
drop_kind K0130 rest = refl
drop_kind K0400 rest = refl
drop_kind K0401 rest = refl
drop_kind K0410 rest = refl
drop_kind K0420 rest = refl
drop_kind K0421 rest = refl
drop_kind K0430 rest = refl

pub behind_is : (bytes behind : List ℕ) (m : Fields) (kind : Kind) → behind ≡ drop 4 bytes → bytes ≡ spelling m → kind_text kind ++ behind ≡ spelling (as_kind kind m)
unfolding spelling
behind_is bytes behind m kind is e = ap (λ xs. kind_text kind ++ xs) (is ∙ ap (drop 4) e ∙ drop_kind m.kind (maps_text (low_numbers (numbers_of m)) (high_numbers (numbers_of m)) ++ pieces m.elements))

-- a spelling has a type
pub not_short : (bytes : List ℕ) (m : Fields) → bytes ≡ spelling m → length bytes < 4 → ⊥
unfolding spelling
not_short bytes m e few =
    let four = (kind_again m.kind).0 in
    let all = ap length e ∙ length-append (kind_text m.kind) (maps_text (low_numbers (numbers_of m)) (high_numbers (numbers_of m)) ++ pieces m.elements) in
    omega (arith, few, four, all)

-- ---- behind the maps

-- what follows the first map and, where it says so, the second
behind_second : (m : Fields) (first : ℕ) (behind : List ℕ) → IsMessage m → 2 ^ 63 ≤ first → first ≡ first_of (low_numbers (numbers_of m)) (high_numbers (numbers_of m)) → behind ≡ behind_first (high_numbers (numbers_of m)) ++ pieces m.elements
    → (second : ℕ) × (first - 2 ^ 63 ≡ bits 64 (low_numbers (numbers_of m))) × (map_at behind ≡ Ok (second, pieces m.elements))
behind_second m first behind h le e b = go (high_numbers (numbers_of m)) (parted 1 (numbers_of m) h.order).2 e b
  where
    few : bits 64 (low_numbers (numbers_of m)) < 2 ^ 63
    few = (marks_bits 64 63 (low_numbers (numbers_of m)) (omega arith) (parted 1 (numbers_of m) h.order).1).1

    go : (high : List ℕ) → Ascends 64 128 high → first ≡ first_of (low_numbers (numbers_of m)) high → behind ≡ behind_first high ++ pieces m.elements → (second : ℕ) × (first - 2 ^ 63 ≡ bits 64 (low_numbers (numbers_of m))) × (map_at behind ≡ Ok (second, pieces m.elements))
    go [] a e b = absurd (omega (arith, le, e, few))
    go (n ∷ high) a e b =
        let second = bits 128 (n ∷ high) in
        let bound = (marks_bits 128 64 (n ∷ high) (omega arith) a).1 in
        (second, omega (arith, e), ap map_at b ∙ reading.map_again second (map_text second) (pieces m.elements) (map_again second bound))

pub low_found : (bytes maps behind : List ℕ) (m : Fields) (kind : Kind) (first : ℕ) → IsMessage m → bytes ≡ spelling m → kind_at bytes ≡ Ok (kind, maps) → map_at maps ≡ Ok (first, behind) → first < 2 ^ 63
    → (first ≡ bits 64 (low_numbers (numbers_of m))) × (behind ≡ pieces m.elements)
low_found bytes maps behind m kind first h e ok map_ok lt = let b = body_is bytes maps behind m kind first h e ok map_ok in go (high_numbers (numbers_of m)) b.0 b.1
  where
    go : (high : List ℕ) → first ≡ first_of (low_numbers (numbers_of m)) high → behind ≡ behind_first high ++ pieces m.elements → (first ≡ bits 64 (low_numbers (numbers_of m))) × (behind ≡ pieces m.elements)
    go [] e b = (e, b)
    go (n ∷ high) e b = absurd (omega (arith, lt, e))

pub high_found : (bytes maps behind elements : List ℕ) (m : Fields) (kind : Kind) (first second : ℕ) → IsMessage m → bytes ≡ spelling m → kind_at bytes ≡ Ok (kind, maps) → map_at maps ≡ Ok (first, behind) → 2 ^ 63 ≤ first → map_at behind ≡ Ok (second, elements)
    → (first - 2 ^ 63 ≡ bits 64 (low_numbers (numbers_of m))) × (elements ≡ pieces m.elements)
high_found bytes maps behind elements m kind first second h e ok map_ok le again =
    let b = body_is bytes maps behind m kind first h e ok map_ok in
    let found = behind_second m first behind h le b.0 b.1 in
    (found.1, ap (λ (p : ℕ × List ℕ). p.1) (same_ok (map_at behind) (second, elements) (found.0, pieces m.elements) again found.2))

pub no_second : (bytes maps behind : List ℕ) (m : Fields) (kind : Kind) (first : ℕ) (fault : DecodeFault) → IsMessage m → bytes ≡ spelling m → kind_at bytes ≡ Ok (kind, maps) → map_at maps ≡ Ok (first, behind) → 2 ^ 63 ≤ first → map_at behind ≡ Err fault → ⊥
no_second bytes maps behind m kind first fault h e ok map_ok le wrong =
    let b = body_is bytes maps behind m kind first h e ok map_ok in
    let found = behind_second m first behind h le b.0 b.1 in
    not_both (map_at behind) (found.0, pieces m.elements) fault found.2 wrong

-- ---- the card number

-- the numbers up to 64 stand in front
low_front : (m : Fields) → IsMessage m → (n : ℕ) (low : List ℕ) → low_numbers (numbers_of m) ≡ n ∷ low → numbers_of m ≡ n ∷ (low ++ high_numbers (numbers_of m))
low_front m h n low e = sym (parted 1 (numbers_of m) h.order).0 ∙ ap (λ ns. ns ++ high_numbers (numbers_of m)) e

-- none of these elements has the number
none_above : (n : ℕ) (es : List (ℕ × List ℕ)) → Ascends n 128 (map (λ e. e.0) es) → find_element n es ≡ None
unfolding find_element
none_above n [] a = refl
none_above n (e ∷ es) a = rw (ne_eqb e.0 n (λ (same : e.0 ≡ n). omega (arith, a.0, same))) (none_above n es (weaker e.0 n 128 (map (λ x. x.0) es) (omega (arith, a.0)) a.2))

above_two : (ns : List ℕ) → Ascends 1 128 ns → bits 64 (low_numbers ns) < 2 ^ 62 → Ascends 2 128 ns
above_two [] a few = tt
above_two (n ∷ ns) a few = elim (cases_lt 2 n) [
  | inl above ↦ (above, a.1, a.2)
  | inr le ↦
      let front : low_numbers (n ∷ ns) ≡ n ∷ low_numbers ns = rw (le-leb n 64 (omega arith)) refl in
      let place : 64 - n ≡ 62 = omega (arith, a.0) in
      let is : bits 64 (low_numbers (n ∷ ns)) ≡ 2 ^ 62 + bits 64 (low_numbers ns) = ap (bits 64) front ∙ ap (λ j. 2 ^ j + bits 64 (low_numbers ns)) place in
      absurd (omega (arith, few, is))
]

two_first : (ns : List ℕ) → Ascends 1 128 ns → 2 ^ 62 ≤ bits 64 (low_numbers ns) → (later : List ℕ) × (ns ≡ 2 ∷ later)
two_first [] a le = absurd (omega (arith, le))
two_first (n ∷ ns) a le = elim (cases_lt 2 n) [
  | inl above ↦
      let low = (parted 2 (n ∷ ns) (above, a.1, a.2)).1 in
      let few = (marks_bits 64 62 (low_numbers (n ∷ ns)) (omega arith) low).1 in
      absurd (omega (arith, le, few))
  | inr at_most ↦
      let here : n ≡ 2 = omega (arith, a.0, at_most) in
      (ns, ap (λ k. k ∷ ns) here)
]

card_first : (es : List (ℕ × List ℕ)) → (later : List ℕ) × (map (λ e. e.0) es ≡ 2 ∷ later) → (value : List ℕ) × (later : List (ℕ × List ℕ)) × (es ≡ (2, value) ∷ later)
card_first [] p = absurd (let wrong : [] ≡ 2 ∷ p.0 = p.1 in cc)
card_first (e ∷ es) p =
    let here : e.0 ≡ 2 = (let same : e.0 ∷ map (λ x. x.0) es ≡ 2 ∷ p.0 = p.1 in cc) in
    (e.1, es, ap (λ k. (k, e.1) ∷ es) here)

-- a message without a card number has no such bit
pub no_card : (m : Fields) → IsMessage m → bits 64 (low_numbers (numbers_of m)) < 2 ^ 62 → [] ≡ el m 2
unfolding el get
no_card m h few = sym (ap (λ o. unwrap_or o []) (none_above 2 m.elements (above_two (numbers_of m) h.order few)))

-- and what two digits tell of the first element of another is its card number
pub card_value : (m : Fields) (values result : List ℕ) → IsMessage m → 2 ^ 62 ≤ bits 64 (low_numbers (numbers_of m)) → values ≡ pieces m.elements
    → ((value rest : List ℕ) → length value < 100 → values ≡ two_digits (length value) ++ (value ++ rest) → result ≡ value) → result ≡ el m 2
unfolding el get find_element form_of table
card_value m values result h le is reads =
    let first = card_first m.elements (two_first (numbers_of m) h.order le) in
    let good : IsGood (form_of 2) first.0 = (subst (λ (es : List (ℕ × List ℕ)). AreGood es) first.2 h.values).0 in
    let of = λ (e : ℕ × List ℕ). piece (form_of e.0) e.1 in
    let text : pieces m.elements ≡ two_digits (length first.0) ++ (first.0 ++ pieces first.1) = ap pieces first.2 ∙ flat_map-cons of (2, first.0) first.1 ∙ append_assoc (two_digits (length first.0)) first.0 (pieces first.1) in
    reads first.0 (pieces first.1) good.1 (is ∙ text) ∙ sym (ap (λ (es : List (ℕ × List ℕ)). unwrap_or (find_element 2 es) []) first.2)

-- the value behind its two digits
pub value_is : (bytes value rest : List ℕ) → bytes ≡ two_digits (length value) ++ (value ++ rest) → drop 2 bytes ≡ value ++ rest
value_is bytes value rest e = ap (drop 2) e

-- digits alone
pub card_has_digits : (m : Fields) → IsMessage m → list_all is_ascii_digit (el m 2) ≡ true
unfolding el form_of table
card_has_digits m g = go (get m 2) refl
  where
    go : (o : Option (List ℕ)) → get m 2 ≡ o → list_all is_ascii_digit (unwrap_or o []) ≡ true
    go None e = refl
    go (Some v) e = (good_found m 2 v g e).2

pub card_is : (m n : Fields) (digits : List ℕ) → digits ≡ el m 2 → m ≡ n → digits_of digits ≡ card_of n
unfolding card_of
card_is m n digits e same = ap digits_of e ∙ ap (λ x. digits_of (el x 2)) same

-- what is found
abbrev IsFound : Fields → ℕ × Bor (List ℕ) → Type 0
IsFound m p = (p.0 ≡ bits 64 (low_numbers (numbers_of m))) × (p.1.now ≡ pieces m.elements)

pub found_some : (m : Fields) (o : Option (ℕ × Bor (List ℕ))) (n : ℕ) (x : Bor (List ℕ)) → o ≡ Some (n, x) → MatchOption o ⊥ (λ (p : ℕ × Bor (List ℕ)). (p.0 ≡ bits 64 (low_numbers (numbers_of m))) × (p.1.now ≡ pieces m.elements)) → (n ≡ bits 64 (low_numbers (numbers_of m))) × (x.now ≡ pieces m.elements)
found_some m o n x e h = subst (λ (z : Option (ℕ × Bor (List ℕ))). MatchOption z ⊥ (IsFound m)) e h
