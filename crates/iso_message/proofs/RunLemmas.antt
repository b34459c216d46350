-- Elements in a copied part of a buffer.
use Rattle.std.proofs.Common.{◌≡◌, ℕ, zero, suc, false, Some, None, ◌+◌, ◌-◌, ◌<◌, ◌≤◌, length, get_or, List, ◌++◌, [], ◌∷◌, take, drop, refl, sym, ap, subst, ◌∙◌, arith}
use Rattle.std.specs.Prelude.{slice_range, slice_get}
use Rattle.std.proofs.lemmas.List.{drop-drop, take-take, drop-take}
use Rattle.iso_message.specs.declared.elements.Span.{Span}
use Rattle.iso_message.specs.declared.elements.Run.{Run}
use Rattle.message_elements.specs.Table.{form_of}
use Rattle.iso_message.specs.Spelling.{IsGood, AreGood, is_binary, piece, pieces}
use Rattle.iso_message.proofs.Together.{piece_of, pieces_at, waits_too}
use Rattle.iso_message.proofs.MessageLemmas.{any}
use Rattle.iso_message.specs.Spans.{text_of, start_of, end_of, shown, seen, IsWithin, AreWithin, IsInRun, moved, moved_place, IsCopied}

-- a part of a part is a part
part_of_part : (xs : List ℕ) (k n a m : ℕ) → a + m ≤ n → take m (drop a (take n (drop k xs))) ≡ take m (drop (k + a) xs)
part_of_part xs k n a m le =
    let split : n ≡ a + (n - a) = omega (arith, le) in
    ap (λ z. take m (drop a (take z (drop k xs)))) split
    ∙ ap (take m) (drop-take a (n - a) (drop k xs))
    ∙ take-take m (n - a) (drop a (drop k xs)) (omega (arith, le))
    ∙ ap (take m) (drop-drop a k xs)

pub moved_range : (values copies : List ℕ) (run : Run) (i j : ℕ) → IsCopied values copies run → run.from ≤ i → i ≤ j → j ≤ run.to → slice_range copies (moved_place run i) (moved_place run j) ≡ slice_range values i j
moved_range values copies run i j c at order to =
    let n = run.to - run.from in
    let a = i - run.from in
    let m = j - i in
    let size : moved_place run run.to - run.copy ≡ n = omega arith in
    let same : take n (drop run.copy copies) ≡ take n (drop run.from values) = ap (λ z. take z (drop run.copy copies)) (sym size) ∙ IsCopied.same c in
    let few : a + m ≤ n = omega (arith, at, order, to) in
    let long : moved_place run j - moved_place run i ≡ m = omega (arith, at, order) in
    let back : run.from + a ≡ i = omega (arith, at) in
    ap (λ z. take z (drop (moved_place run i) copies)) long
    ∙ sym (part_of_part copies run.copy n a m few)
    ∙ ap (λ z. take m (drop a z)) same
    ∙ part_of_part values run.from n a m few
    ∙ ap (λ z. take m (drop z values)) back

-- the copy of what stands from a place of an element to its end
moved_from : (values copies : List ℕ) (run : Run) (s : Span) (i : ℕ) → IsCopied values copies run → IsInRun run s → run.from ≤ i → i ≤ end_of s → slice_range copies (moved_place run i) (end_of (moved run s)) ≡ slice_range values i (end_of s)
moved_from values copies run s i c r at order =
    let to : end_of (moved run s) ≡ moved_place run (end_of s) = omega (arith, IsInRun.text r) in
    ap (slice_range copies (moved_place run i)) to ∙ moved_range values copies run i (end_of s) c at order (IsInRun.end r)

moved_bytes : (values copies : List ℕ) (run : Run) (s : Span) → IsCopied values copies run → IsInRun run s → slice_range copies (start_of (moved run s)) (end_of (moved run s)) ≡ slice_range values (start_of s) (end_of s)
moved_bytes values copies run s c r =
    let from : start_of (moved run s) ≡ moved_place run (start_of s) = omega (arith, IsInRun.text r) in
    ap (λ i. slice_range copies i (end_of (moved run s))) from ∙ moved_from values copies run s (start_of s) c r (omega (arith, IsInRun.text r)) (omega arith)

pub moved_shows : (values copies : List ℕ) (run : Run) (s : Span) → IsCopied values copies run → IsInRun run s → shown copies (moved run s) ≡ shown values s
moved_shows values copies run s c r = ap (λ (v : List ℕ). (s.number, v)) (moved_bytes values copies run s c r)

pub moved_within : (values copies : List ℕ) (run : Run) (s : Span) → IsCopied values copies run → IsInRun run s → IsWithin values s → IsWithin copies (moved run s)
moved_within values copies run s c r w = let text : text_of (moved run s) ≡ moved_place run (text_of s) = omega arith in record {
  inside = omega (arith, IsInRun.end r, IsInRun.text r, IsCopied.there c, IsCopied.order c);
  spelled = λ other. ap (λ i. slice_range copies i (end_of (moved run s))) text ∙ moved_from values copies run s (text_of s) c r (IsInRun.text r) (omega arith) ∙ IsWithin.spelled w other ∙ ap (piece (form_of s.number)) (sym (moved_bytes values copies run s c r));
}

pub within_got : (values : List ℕ) (spans : List Span) (i : ℕ) (s : Span) → AreWithin values spans → slice_get spans i ≡ Some s → IsWithin values s
within_got values [] i s w e = absurd (let wrong : None ≡ Some s = e in cc)
within_got values (x ∷ xs) zero s w e = let same : x ≡ s = cc in subst (IsWithin values) same w.0
within_got values (x ∷ xs) (suc i) s w e = within_got values xs i s w.1 e

pub good_got : (values : List ℕ) (spans : List Span) (i : ℕ) (s : Span) → AreGood (seen values spans) → slice_get spans i ≡ Some s → IsGood (form_of s.number) (slice_range values (start_of s) (end_of s))
good_got values [] i s g e = absurd (let wrong : None ≡ Some s = e in cc)
good_got values (x ∷ xs) zero s g e = let same : x ≡ s = cc in subst (λ (t : Span). IsGood (form_of t.number) (slice_range values (start_of t) (end_of t))) same g.0
good_got values (x ∷ xs) (suc i) s g e = good_got values xs i s g.1 e

pub got_is : (spans : List Span) (i : ℕ) (s : Span) → slice_get spans i ≡ Some s → get_or spans i any ≡ s
got_is [] i s e = absurd (let wrong : None ≡ Some s = e in cc)
got_is (x ∷ xs) zero s e = cc
got_is (x ∷ xs) (suc i) s e = got_is xs i s e

pub got_below : (spans : List Span) (i : ℕ) (s : Span) → slice_get spans i ≡ Some s → i < length spans
got_below [] i s e = absurd (let wrong : None ≡ Some s = e in cc)
got_below (x ∷ xs) zero s e = omega arith
got_below (x ∷ xs) (suc i) s e = omega (arith, got_below xs i s e)

-- the pieces from a place on begin with that of the element there
pub pieces_got : (values : List ℕ) (spans : List Span) (i : ℕ) (s : Span) → slice_get spans i ≡ Some s → pieces (seen values (drop i spans)) ≡ piece_of values s ++ pieces (seen values (drop (i + 1) spans))
pieces_got values spans i s e = pieces_at values spans i (got_below spans i s e) ∙ ap (λ t. piece_of values t ++ pieces (seen values (drop (i + 1) spans))) (got_is spans i s e)

-- an element whose piece stands in the buffer, before others
pub spelled_first : (values : List ℕ) (spans : List Span) (i : ℕ) (s : Span) → AreWithin values spans → slice_get spans i ≡ Some s → is_binary (form_of s.number) ≡ false → slice_range values (text_of s) (end_of s) ++ pieces (seen values (drop (i + 1) spans)) ≡ pieces (seen values (drop i spans))
spelled_first values spans i s w e other =
    ap (λ p. p ++ pieces (seen values (drop (i + 1) spans))) (IsWithin.spelled (within_got values spans i s w e) other) ∙ sym (pieces_got values spans i s e)

pub within_there : (values : List ℕ) (spans : List Span) (i : ℕ) → i < length spans → AreWithin values spans → IsWithin values (get_or spans i any)
within_there values [] i h w = absurd (omega (arith, h))
within_there values (x ∷ xs) zero h w = w.0
within_there values (x ∷ xs) (suc i) h w = within_there values xs i (omega (arith, h)) w.1

-- an element whose piece stands in the buffer behind others that begin at a place
pub spelled_behind : (values : List ℕ) (spans : List Span) (i from : ℕ) (all : List ℕ) → i < length spans → AreWithin values spans → is_binary (form_of (get_or spans i any).number) ≡ false → from ≤ text_of (get_or spans i any)
    → slice_range values from (text_of (get_or spans i any)) ++ pieces (seen values (drop i spans)) ≡ all
    → slice_range values from (end_of (get_or spans i any)) ++ pieces (seen values (drop (i + 1) spans)) ≡ all
spelled_behind values spans i from all h w other le e =
    let s = get_or spans i any in
    let later = pieces (seen values (drop (i + 1) spans)) in
    waits_too values [] from s later all (within_there values spans i h w) other le (ap (λ ps. slice_range values from (text_of s) ++ ps) (sym (pieces_at values spans i h)) ∙ e)

pub got_there : (spans : List Span) (i : ℕ) → i < length spans → slice_get spans i ≡ Some (get_or spans i any)
got_there [] i h = absurd (omega (arith, h))
got_there (x ∷ xs) zero h = refl
got_there (x ∷ xs) (suc i) h = got_there xs i (omega (arith, h))
