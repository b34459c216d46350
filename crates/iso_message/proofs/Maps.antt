-- The maps of spans, as a loop adds them.
use Rattle.std.proofs.Common.{◌≡◌, ℕ, ◌+◌, ◌-◌, ◌^◌, ◌<◌, ◌≤◌, List, [], ◌∷◌, ◌++◌, map, false, eqb, append_assoc, length, get_or, drop, refl, ap, subst, ◌∙◌, add-one, drop-cons, arith}
use Rattle.std.proofs.lemmas.Bool.{le-leb, lt-leb, lt-ltb, le-ltb, ne_eqb}
use Rattle.std.proofs.lemmas.Nat.{pow_pos}
use Rattle.message_elements.specs.Types.{kind_text}
use Rattle.iso_message.specs.Fields.{Fields}
use Rattle.iso_message.specs.declared.elements.Span.{Span}
use Rattle.iso_message.specs.Spans.{seen, numbers}
use Rattle.iso_message.specs.Spelling.{Ascends, bits, low_numbers, high_numbers, numbers_of, two_maps, maps_text, pieces, spelling}
use Rattle.iso_message.proofs.Canonical.{marks_bits, parted, weaker}

abbrev pub any : Span
any = record { high = 0; low = 0; len = 0; digits = 0; number = 0 }

pub next : (spans : List Span) (i : ℕ) → i < length spans → drop i spans ≡ get_or spans i any ∷ drop (i + 1) spans
next spans i h = rw (add-one) (drop-cons spans i any h)

pub low_fits : (ns : List ℕ) → Ascends 1 128 ns → bits 64 (low_numbers ns) < 2 ^ 63
low_fits ns h = (marks_bits 64 63 (low_numbers ns) (omega arith) (parted 1 ns h).1).1

pub high_fits : (ns : List ℕ) → Ascends 1 128 ns → bits 128 (high_numbers ns) < 2 ^ 64
high_fits ns h = (marks_bits 128 64 (high_numbers ns) (omega arith) (parted 1 ns h).2).1

-- the number at a place, and the order of those after it
pub order_at : (spans : List Span) (i : ℕ) → i < length spans → Ascends 1 128 (numbers (drop i spans)) → (1 < (get_or spans i any).number) × ((get_or spans i any).number ≤ 128) × Ascends 1 128 (numbers (drop (i + 1) spans))
order_at spans i h a =
    let both : Ascends 1 128 ((get_or spans i any).number ∷ numbers (drop (i + 1) spans)) = subst (λ (ss : List Span). Ascends 1 128 (numbers ss)) (next spans i h) a in
    (both.0, both.1, weaker (get_or spans i any).number 1 128 (numbers (drop (i + 1) spans)) (omega (arith, both.0)) both.2)

pub low_at : (spans : List Span) (i : ℕ) → i < length spans → (get_or spans i any).number ≤ 64
    → (bits 64 (low_numbers (numbers (drop i spans))) ≡ 2 ^ (64 - (get_or spans i any).number) + bits 64 (low_numbers (numbers (drop (i + 1) spans)))) × (high_numbers (numbers (drop i spans)) ≡ high_numbers (numbers (drop (i + 1) spans)))
low_at spans i h le = (rw (next spans i h, le-leb _ _ le) refl, rw (next spans i h, le-ltb _ _ le) refl)

pub high_at : (spans : List Span) (i : ℕ) → i < length spans → 64 < (get_or spans i any).number
    → (bits 128 (high_numbers (numbers (drop i spans))) ≡ 2 ^ (128 - (get_or spans i any).number) + bits 128 (high_numbers (numbers (drop (i + 1) spans)))) × (low_numbers (numbers (drop i spans)) ≡ low_numbers (numbers (drop (i + 1) spans)))
high_at spans i h lt = (rw (next spans i h, lt-ltb _ _ lt) refl, rw (next spans i h, lt-leb _ _ lt) refl)

pub numbers_seen : (values : List ℕ) (spans : List Span) → numbers spans ≡ map (λ e. e.0) (seen values spans)
numbers_seen values [] = refl
numbers_seen values (s ∷ ss) = ap (λ ns. s.number ∷ ns) (numbers_seen values ss)

pub maps_two : (low high : List ℕ) → two_maps (bits 64 low) (bits 128 high) ≡ maps_text low high
maps_two low [] = refl
maps_two low (n ∷ high) =
    let pos : 0 < 2 ^ (128 - n) = pow_pos (128 - n) in
    let some : eqb (bits 128 (n ∷ high)) 0 ≡ false = ne_eqb _ _ (λ e. omega (arith, pos, e)) in
    rw some refl

-- the parts as they are written are the spelling
pub written : (m : Fields) (low high : ℕ) (a b c : List ℕ) → low ≡ bits 64 (low_numbers (numbers_of m)) → high ≡ bits 128 (high_numbers (numbers_of m))
    → a ≡ kind_text m.kind → b ≡ a ++ two_maps low high → c ≡ b ++ pieces m.elements → c ≡ spelling m
unfolding spelling
written m low high a b c l h ea eb ec =
    let maps : two_maps low high ≡ maps_text (low_numbers (numbers_of m)) (high_numbers (numbers_of m)) =
    ap (λ x. two_maps x high) l ∙ ap (two_maps (bits 64 (low_numbers (numbers_of m)))) h ∙ maps_two (low_numbers (numbers_of m)) (high_numbers (numbers_of m)) in
    ec ∙ ap (λ x. x ++ pieces m.elements) (eb ∙ ap (λ x. x ++ two_maps low high) ea ∙ ap (λ x. kind_text m.kind ++ x) maps)
    ∙ append_assoc (kind_text m.kind) (maps_text (low_numbers (numbers_of m)) (high_numbers (numbers_of m))) (pieces m.elements)

-- the same behind other bytes
pub written_behind : (m : Fields) (old : List ℕ) (low high : ℕ) (a b c : List ℕ) → low ≡ bits 64 (low_numbers (numbers_of m)) → high ≡ bits 128 (high_numbers (numbers_of m))
    → a ≡ old ++ kind_text m.kind → b ≡ a ++ two_maps low high → c ≡ b ++ pieces m.elements → c ≡ old ++ spelling m
written_behind m old low high a b c l h ea eb ec =
    let maps = two_maps low high in
    let kind = kind_text m.kind in
    ec ∙ ap (λ x. x ++ pieces m.elements) (eb ∙ ap (λ x. x ++ maps) ea ∙ append_assoc old kind maps) ∙ append_assoc old (kind ++ maps) (pieces m.elements)
    ∙ ap (λ x. old ++ x) (written m low high kind (kind ++ maps) ((kind ++ maps) ++ pieces m.elements) l h refl refl refl)
