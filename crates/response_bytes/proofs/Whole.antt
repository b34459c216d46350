-- The parts of a spelling, and those of the spelling of its response.
use Rattle.std.proofs.Common.{◌≡◌, ℕ, ◌+◌, ◌<◌, ◌≤◌, ◌^◌, true, List, [], ◌∷◌, ◌++◌, length, Result, Ok, Err, refl, sym, length-append, ap, subst, ◌∙◌, append_assoc, arith, inl, inr}
use Rattle.std.proofs.lemmas.Bool.{cases_Bool, lt-ltb, le-ltb, le-leb, ne_eqb}
use Rattle.std.proofs.lemmas.List.{append-nil}
use Rattle.std.proofs.lemmas.List.Concat.{flat_map-cons}
use Rattle.std.proofs.lemmas.Grind.{flat_map-append}
use Rattle.hex.proofs.HexLemmas.{decode_sized-ok}
use Rattle.message_elements.specs.declared.fault.DecodeFault.{DecodeFault}
use Rattle.message_elements.specs.declared.kind.Kind.{Kind}
use Rattle.message_elements.specs.Groups.{response_kind}
use Rattle.message_elements.specs.Table.{table, form_of}
use Rattle.message_elements.specs.Types.{kind_text}
use Rattle.iso_message.specs.Fields.{Fields, set_element}
use Rattle.iso_message.specs.Finding.{put}
use Rattle.iso_message.specs.Made.{is_one_of, kept, response, response_numbers}
use Rattle.iso_message.specs.Messages.{marks, kind_at, map_at}
use Rattle.iso_message.specs.Spelling.{Ascends, IsMessage, bits, map_text, maps_text, low_numbers, high_numbers, numbers_of, piece, pieces, spelling}
use Rattle.iso_message.proofs.Canonical as canonical
use Rattle.iso_message.proofs.Good.{marks_ascend}
use Rattle.iso_message.proofs.MessageLemmas.{ascends_kept, ascends_put}
use Rattle.iso_message.proofs.ReadingLaws as reading
use Rattle.iso_message.proofs.Steps.{marks_down, marks_none}
use Rattle.response_bytes.specs.Taken.{Elements, AreUpTo, IsTaken, numbers}

-- ---- the code between the elements before it and those behind

put_behind : (code : List ℕ) (es : Elements) → Ascends 38 64 (numbers es) → put 39 code (kept response_numbers es) ≡ (39, code) ∷ kept response_numbers es
unfolding put
put_behind code [] a = refl
put_behind code (e ∷ es) a =
    elim (cases_Bool (is_one_of response_numbers e.0)) [
      | inl t ↦
          let other : e.0 ≡ 39 → ⊥ = λ same. let wrong : is_one_of response_numbers 39 ≡ true = ap (is_one_of response_numbers) (sym same) ∙ t in cc in
          rw (t, le-ltb e.0 39 (omega (arith, a.0)), ne_eqb e.0 39 other) refl
      | inr f ↦ rw f (put_behind code es (canonical.weaker e.0 38 64 (numbers es) (omega (arith, a.0)) a.2))
    ]

put_between : (code : List ℕ) (taken later : Elements) → AreUpTo 38 taken → Ascends 38 64 (numbers later) → put 39 code (kept response_numbers (taken ++ later)) ≡ kept response_numbers taken ++ (39, code) ∷ kept response_numbers later
unfolding put
put_between code [] later b a = put_behind code later a
put_between code (e ∷ es) later b a =
    let ih = put_between code es later b.1 a in
    elim (cases_Bool (is_one_of response_numbers e.0)) [
      | inl t ↦ rw (t, lt-ltb e.0 39 (omega (arith, b.0))) (ap (λ xs. e ∷ xs) ih)
      | inr f ↦ rw f ih
    ]

code_piece : (code : List ℕ) → piece (form_of 39) code ≡ code
unfolding form_of table
code_piece code = refl

pieces_between : (code : List ℕ) (taken later : Elements) → AreUpTo 38 taken → Ascends 38 64 (numbers later)
    → pieces (put 39 code (kept response_numbers (taken ++ later))) ≡ pieces (kept response_numbers taken) ++ (code ++ pieces (kept response_numbers later))
pieces_between code taken later b a =
    let of = λ (e : ℕ × List ℕ). piece (form_of e.0) e.1 in
    ap pieces (put_between code taken later b a) ∙ flat_map-append of (kept response_numbers taken) ((39, code) ∷ kept response_numbers later)
    ∙ ap (λ xs. pieces (kept response_numbers taken) ++ xs) (flat_map-cons of (39, code) (kept response_numbers later) ∙ ap (λ xs. xs ++ pieces (kept response_numbers later)) (code_piece code))

-- the marks of a map's lowest bits
later_ascend : (left : ℕ) (later : Elements) → left < 2 ^ 26 → numbers later ≡ marks 64 64 left → Ascends 38 64 (numbers later)
later_ascend left later few is = subst (λ (ns : List ℕ). Ascends 38 64 ns) (sym (is ∙ marks_down 64 64 26 left (omega arith) few)) (marks_ascend 64 26 left (omega arith))

none_left : (left : ℕ) (later : Elements) → left < 2 ^ 0 → numbers later ≡ marks 64 64 left → later ≡ []
none_left left [] few is = refl
none_left left (e ∷ es) few is = absurd (let zero_left : left ≡ 0 = omega (arith, few) in let none : e.0 ∷ numbers es ≡ [] = is ∙ ap (marks 64 64) zero_left ∙ marks_none 64 in cc)

-- the elements up to 38 were taken, the code added, and the others taken
pub both_taken : (es : Elements) (left last : ℕ) (rest end old one two three code : List ℕ) (first : IsTaken 38 es left rest old one) → two ≡ one ++ code → IsTaken 64 (IsTaken.later first) last end two three
    → three ≡ old ++ pieces (put 39 code (kept response_numbers es))
both_taken es left last rest end old one two three code first added second =
    let before = IsTaken.taken first in
    let behind = IsTaken.later first in
    let none : IsTaken.later second ≡ [] = none_left last (IsTaken.later second) (IsTaken.few second) (IsTaken.numbers second) in
    let all : behind ≡ IsTaken.taken second = IsTaken.whole second ∙ ap (λ xs. IsTaken.taken second ++ xs) none ∙ append-nil (IsTaken.taken second) in
    let a : Ascends 38 64 (numbers behind) = later_ascend left behind (IsTaken.few first) (IsTaken.numbers first) in
    let ps = pieces (kept response_numbers before) in
    let qs = pieces (kept response_numbers behind) in
    IsTaken.pushed second ∙ ap (λ xs. two ++ pieces (kept response_numbers xs)) (sym all) ∙ ap (λ xs. xs ++ qs) (added ∙ ap (λ xs. xs ++ code) (IsTaken.pushed first))
    ∙ append_assoc (old ++ ps) code qs ∙ append_assoc old ps (code ++ qs) ∙ ap (λ xs. old ++ xs) (sym (pieces_between code before behind (IsTaken.below first) a) ∙ ap (λ xs. pieces (put 39 code (kept response_numbers xs))) (sym (IsTaken.whole first)))

-- ---- the head

all_low : (low : ℕ) (ns : List ℕ) → Ascends low 64 ns → (low_numbers ns ≡ ns) × (high_numbers ns ≡ [])
all_low low [] a = (refl, refl)
all_low low (n ∷ ns) a =
    let rest = all_low n ns a.2 in
    (rw (le-leb n 64 a.1) (ap (λ xs. n ∷ xs) rest.0), rw (le-ltb 64 n a.1) rest.1)

-- a message with no number above 64
record IsLow (m : Fields) : Type 0 where
  order : Ascends 1 64 (numbers_of m)
  numbers : low_numbers (numbers_of m) ≡ numbers_of m

is_low : (m : Fields) → IsMessage m → high_numbers (numbers_of m) ≡ [] → IsLow m
is_low m h none =
    let p = canonical.parted 1 (numbers_of m) h.order in
    let whole : low_numbers (numbers_of m) ≡ numbers_of m = sym (append-nil (low_numbers (numbers_of m))) ∙ ap (λ xs. low_numbers (numbers_of m) ++ xs) (sym none) ∙ p.0 in
    record { order = subst (λ (ns : List ℕ). Ascends 1 64 ns) whole p.1; numbers = whole }

pub low_order : (m : Fields) → IsMessage m → high_numbers (numbers_of m) ≡ [] → Ascends 1 64 (numbers_of m)
low_order m h none = (is_low m h none).order

pub low_marks : (m : Fields) (first : ℕ) → IsMessage m → high_numbers (numbers_of m) ≡ [] → first ≡ bits 64 (numbers_of m) → numbers_of m ≡ marks 64 64 first
low_marks m first h none e =
    let low = is_low m h none in
    sym (ap (marks 64 64) e ∙ (canonical.marks_bits 64 64 (numbers_of m) (omega arith) (canonical.weaker 1 0 64 (numbers_of m) (omega arith) low.order)).0)

-- the response's spelling by its parts
pub response_is : (m : Fields) (code : List ℕ) → IsMessage m → high_numbers (numbers_of m) ≡ []
    → spelling (response m code) ≡ kind_text (response_kind m.kind) ++ (map_text (bits 64 (numbers (put 39 code (kept response_numbers m.elements)))) ++ pieces (put 39 code (kept response_numbers m.elements)))
unfolding spelling response set_element
response_is m code h none =
    let es = put 39 code (kept response_numbers m.elements) in
    let a : Ascends 1 64 (numbers es) = ascends_put 1 64 39 code (kept response_numbers m.elements) (omega arith) (omega arith) (ascends_kept 1 64 (λ e. is_one_of response_numbers e.0) m.elements (low_order m h none)) in
    let low = all_low 1 (numbers es) a in
    let maps : maps_text (low_numbers (numbers es)) (high_numbers (numbers es)) ≡ map_text (bits 64 (numbers es)) = ap (λ ns. maps_text (low_numbers (numbers es)) ns) low.1 ∙ ap (λ ns. map_text (bits 64 ns)) low.0 in
    ap (λ xs. kind_text (response_kind m.kind) ++ (xs ++ pieces es)) maps

-- what is read of a spelling's head
pub kind_read : (bytes : List ℕ) (m : Fields) → bytes ≡ spelling m → kind_at bytes ≡ Ok (m.kind, maps_text (low_numbers (numbers_of m)) (high_numbers (numbers_of m)) ++ pieces m.elements)
unfolding spelling
kind_read bytes m e =
    let k = canonical.kind_again m.kind in
    ap kind_at e ∙ reading.kind_again (kind_text m.kind) (maps_text (low_numbers (numbers_of m)) (high_numbers (numbers_of m)) ++ pieces m.elements) m.kind k.0 k.1

abbrev pub first_of : List ℕ → List ℕ → ℕ
first_of low [] = bits 64 low
first_of low (n ∷ high) = 2 ^ 63 + bits 64 low

abbrev pub behind_first : List ℕ → List ℕ
behind_first [] = []
behind_first (n ∷ high) = map_text (bits 128 (n ∷ high))

pub map_read : (m : Fields) → IsMessage m → map_at (maps_text (low_numbers (numbers_of m)) (high_numbers (numbers_of m)) ++ pieces m.elements) ≡ Ok (first_of (low_numbers (numbers_of m)) (high_numbers (numbers_of m)), behind_first (high_numbers (numbers_of m)) ++ pieces m.elements)
map_read m h = go (low_numbers (numbers_of m)) (high_numbers (numbers_of m)) (canonical.parted 1 (numbers_of m) h.order).1
  where
    go : (low high : List ℕ) → Ascends 1 64 low → map_at (maps_text low high ++ pieces m.elements) ≡ Ok (first_of low high, behind_first high ++ pieces m.elements)
    go low [] a =
        let few = (canonical.marks_bits 64 63 low (omega arith) a).1 in
        reading.map_again (bits 64 low) (map_text (bits 64 low)) (pieces m.elements) (canonical.map_again (bits 64 low) (omega (arith, few)))
    go low (n ∷ high) a =
        let few = (canonical.marks_bits 64 63 low (omega arith) a).1 in
        let first = 2 ^ 63 + bits 64 low in
        ap map_at (append_assoc (map_text first) (map_text (bits 128 (n ∷ high))) (pieces m.elements)) ∙ reading.map_again first (map_text first) (map_text (bits 128 (n ∷ high)) ++ pieces m.elements) (canonical.map_again first (omega (arith, few)))

pub not_both : {A E : Type 0} (r : Result A E) (x : A) (e : E) → r ≡ Ok x → r ≡ Err e → ⊥
not_both {A = A} {E = E} r x e ok err = let wrong : Path (Result A E) (Ok x) (Err e) = sym ok ∙ err in absurd cc

pub same_ok : {A E : Type 0} (r : Result A E) (x y : A) → r ≡ Ok x → r ≡ Ok y → x ≡ y
same_ok {A = A} {E = E} r x y a b = let both : Path (Result A E) (Ok x) (Ok y) = sym a ∙ b in cc

abbrev behind_kind : Fields → List ℕ
behind_kind m = maps_text (low_numbers (numbers_of m)) (high_numbers (numbers_of m)) ++ pieces m.elements

-- what is read of a spelling has no fault
pub no_kind : (bytes : List ℕ) (m : Fields) (fault : DecodeFault) → bytes ≡ spelling m → kind_at bytes ≡ Err fault → ⊥
no_kind bytes m fault e err = not_both (kind_at bytes) (m.kind, behind_kind m) fault (kind_read bytes m e) err

rest_is : (bytes rest : List ℕ) (m : Fields) (kind : Kind) → bytes ≡ spelling m → kind_at bytes ≡ Ok (kind, rest) → (kind ≡ m.kind) × (rest ≡ behind_kind m)
rest_is bytes rest m kind e ok =
    let same = same_ok (kind_at bytes) (kind, rest) (m.kind, behind_kind m) ok (kind_read bytes m e) in
    (ap (λ (p : Kind × List ℕ). p.0) same, ap (λ (p : Kind × List ℕ). p.1) same)

pub no_map : (bytes rest : List ℕ) (m : Fields) (kind : Kind) (fault : DecodeFault) → IsMessage m → bytes ≡ spelling m → kind_at bytes ≡ Ok (kind, rest) → map_at rest ≡ Err fault → ⊥
no_map bytes rest m kind fault h e ok err =
    let is : rest ≡ behind_kind m = (rest_is bytes rest m kind e ok).1 in
    not_both (map_at rest) (first_of (low_numbers (numbers_of m)) (high_numbers (numbers_of m)), behind_first (high_numbers (numbers_of m)) ++ pieces m.elements) fault (ap map_at is ∙ map_read m h) err

pub body_is : (bytes rest body : List ℕ) (m : Fields) (kind : Kind) (first : ℕ) → IsMessage m → bytes ≡ spelling m → kind_at bytes ≡ Ok (kind, rest) → map_at rest ≡ Ok (first, body)
    → (first ≡ first_of (low_numbers (numbers_of m)) (high_numbers (numbers_of m))) × (body ≡ behind_first (high_numbers (numbers_of m)) ++ pieces m.elements)
body_is bytes rest body m kind first h e ok map_ok =
    let is : rest ≡ behind_kind m = (rest_is bytes rest m kind e ok).1 in
    let found : ℕ × List ℕ = (first_of (low_numbers (numbers_of m)) (high_numbers (numbers_of m)), behind_first (high_numbers (numbers_of m)) ++ pieces m.elements) in
    let same = same_ok (map_at rest) (first, body) found map_ok (ap map_at is ∙ map_read m h) in
    (ap (λ (p : ℕ × List ℕ). p.0) same, ap (λ (p : ℕ × List ℕ). p.1) same)

-- a first map below the bit of the second is that of a message with no number above 64
pub low_first : (m : Fields) (first : ℕ) (body : List ℕ) → IsMessage m → first < 2 ^ 63 → first ≡ first_of (low_numbers (numbers_of m)) (high_numbers (numbers_of m)) → body ≡ behind_first (high_numbers (numbers_of m)) ++ pieces m.elements
    → (high_numbers (numbers_of m) ≡ []) × (first ≡ bits 64 (numbers_of m)) × (body ≡ pieces m.elements)
low_first m first body h lt e b = go (high_numbers (numbers_of m)) refl e b
  where
    go : (high : List ℕ) → high_numbers (numbers_of m) ≡ high → first ≡ first_of (low_numbers (numbers_of m)) high → body ≡ behind_first high ++ pieces m.elements → (high_numbers (numbers_of m) ≡ []) × (first ≡ bits 64 (numbers_of m)) × (body ≡ pieces m.elements)
    go [] none e b = (none, e ∙ ap (bits 64) (is_low m h none).numbers, b)
    go (n ∷ high) some e b = absurd (omega (arith, lt, e))

-- a spelling whose first map is so low is that of a message with no number above 64, and its parts are those of that message
pub low_head : (bytes rest body : List ℕ) (m : Fields) (kind : Kind) (first : ℕ) → IsMessage m → bytes ≡ spelling m → kind_at bytes ≡ Ok (kind, rest) → map_at rest ≡ Ok (first, body) → first < 2 ^ 63
    → (high_numbers (numbers_of m) ≡ []) × (kind ≡ m.kind) × (first ≡ bits 64 (numbers_of m)) × (body ≡ pieces m.elements)
low_head bytes rest body m kind first h e ok map_ok lt =
    let b = body_is bytes rest body m kind first h e ok map_ok in
    let low = low_first m first body h lt b.0 b.1 in
    (low.0, (rest_is bytes rest m kind e ok).0, low.1, low.2)

-- and one whose first map isn't is that of another message
pub high_head : (bytes rest body : List ℕ) (m : Fields) (kind : Kind) (first : ℕ) → IsMessage m → bytes ≡ spelling m → kind_at bytes ≡ Ok (kind, rest) → map_at rest ≡ Ok (first, body) → 2 ^ 63 ≤ first → high_numbers (numbers_of m) ≡ [] → ⊥
high_head bytes rest body m kind first h e ok map_ok le none =
    let b = body_is bytes rest body m kind first h e ok map_ok in
    let low = is_low m h none in
    let few = (canonical.marks_bits 64 63 (numbers_of m) (omega arith) low.order).1 in
    let is : first ≡ bits 64 (numbers_of m) = b.0 ∙ ap (first_of (low_numbers (numbers_of m))) none ∙ ap (bits 64) low.numbers in
    omega (arith, le, is, few)

-- the parts as they are written are the response's spelling
pub parts_whole : (m : Fields) (code old one two : List ℕ) → IsMessage m → high_numbers (numbers_of m) ≡ [] → one ≡ old ++ kind_text (response_kind m.kind) → two ≡ one ++ map_text (bits 64 (numbers (put 39 code (kept response_numbers m.elements))))
    → two ++ pieces (put 39 code (kept response_numbers m.elements)) ≡ old ++ spelling (response m code)
parts_whole m code old one two h none a b =
    let kind = kind_text (response_kind m.kind) in
    let es = put 39 code (kept response_numbers m.elements) in
    let first = map_text (bits 64 (numbers es)) in
    ap (λ xs. xs ++ pieces es) (b ∙ ap (λ xs. xs ++ first) a) ∙ append_assoc (old ++ kind) first (pieces es) ∙ append_assoc old kind (first ++ pieces es) ∙ ap (λ xs. old ++ xs) (sym (response_is m code h none))

-- the body has twenty bytes less
pub head_length : (bytes rest body : List ℕ) (kind : Kind) (first : ℕ) → kind_at bytes ≡ Ok (kind, rest) → map_at rest ≡ Ok (first, body) → length bytes ≡ length body + 20
head_length bytes rest body kind first ok map_ok =
    let k = reading.kind_takes bytes (kind, rest) ok in
    let p = reading.map_takes rest (first, body) map_ok in
    let sixteen : length p.0 ≡ 16 = decode_sized-ok p.0 8 p.2.0 p.2.1 in
    omega (arith, ap length k.1, length-append k.0 rest, k.2, ap length p.1, length-append p.0 body, sixteen)
