-- Pieces that stand in the buffer one behind the other are written together.
use Rattle.std.proofs.Common.{◌≡◌, ℕ, ◌+◌, ◌-◌, ◌<◌, ◌≤◌, false, List, ◌++◌, length, get_or, take, drop, refl, sym, ap, ◌∙◌, append_assoc, arith}
use Rattle.std.specs.Prelude.{slice_range}
use Rattle.std.proofs.lemmas.List.{take-append-drop, take-take, drop-take, drop-drop, drop_more}
use Rattle.iso_message.specs.declared.elements.Span.{Span}
use Rattle.message_elements.specs.Table.{form_of}
use Rattle.iso_message.specs.Spans.{text_of, start_of, end_of, seen, IsWithin}
use Rattle.iso_message.specs.Spelling.{is_binary, piece, pieces}
use Rattle.iso_message.proofs.MessageLemmas.{any}

abbrev pub piece_of : List ℕ → Span → List ℕ
piece_of values s = piece (form_of s.number) (slice_range values (start_of s) (end_of s))

pub pieces_at : (values : List ℕ) (spans : List Span) (i : ℕ) → i < length spans → pieces (seen values (drop i spans)) ≡ piece_of values (get_or spans i any) ++ pieces (seen values (drop (i + 1) spans))
pieces_at values spans i h = rw (drop_more spans i any h) refl

take_parts : (n m : ℕ) (xs : List ℕ) → take n xs ++ take m (drop n xs) ≡ take (n + m) xs
take_parts n m xs =
    ap (λ ys. ys ++ take m (drop n xs)) (sym (take-take n (n + m) xs (omega arith))) ∙ ap (λ ys. take n (take (n + m) xs) ++ ys) (sym (drop-take n m xs)) ∙ take-append-drop n (take (n + m) xs)

pub ranges_join : (values : List ℕ) (a b c : ℕ) → a ≤ b → b ≤ c → slice_range values a b ++ slice_range values b c ≡ slice_range values a c
ranges_join values a b c h k =
    let at : drop b values ≡ drop (b - a) (drop a values) = let n : b ≡ a + (b - a) = omega arith in ap (λ j. drop j values) n ∙ sym (drop-drop (b - a) a values) in
    let n : (b - a) + (c - b) ≡ c - a = omega arith in
    ap (λ xs. slice_range values a b ++ take (c - b) xs) at ∙ take_parts (b - a) (c - b) (drop a values) ∙ ap (λ j. take j (drop a values)) n

-- a piece waits behind others
pub waits_too : (values out : List ℕ) (from : ℕ) (s : Span) (later all : List ℕ) → IsWithin values s → is_binary (form_of s.number) ≡ false → from ≤ text_of s → out ++ (slice_range values from (text_of s) ++ (piece_of values s ++ later)) ≡ all
    → out ++ (slice_range values from (end_of s) ++ later) ≡ all
waits_too values out from s later all w other le e =
    ap (λ xs. out ++ (xs ++ later)) (sym (ranges_join values from (text_of s) (end_of s) le (omega arith)))
    ∙ ap (λ xs. out ++ xs) (append_assoc (slice_range values from (text_of s)) (slice_range values (text_of s) (end_of s)) later)
    ∙ ap (λ p. out ++ (slice_range values from (text_of s) ++ (p ++ later))) (w.spelled other)
    ∙ e
