-- Where a text is cut into its parts.
use Rattle.std.proofs.Common.{◌≡◌, ℕ, ◌-◌, ◌<◌, ◌==◌, true, false, List, [], ◌∷◌, ◌++◌, ◌⊎◌, length, take, refl, sym, ap, ◌∙◌, append_assoc, inl, inr, arith}
use Rattle.std.specs.List.{AllByRecursion}
use Rattle.std.proofs.Math.Seq.{take-append_seam}
use Rattle.std.proofs.lemmas.Bool.{cases_Bool}
use Rattle.std.proofs.lemmas.List.{append-nil, length-append}
use Rattle.std.proofs.lemmas.List.Elements.{All-head, All-from_recursion}
use Rattle.std.proofs.lemmas.List.Splits.{join_with_byte-slice_split, slice_split_at, slice_split_none}
use Rattle.card_digits.proofs.Cuts.{Others}
use Rattle.bundle_text.specs.Parts.{separates, between_feeds, parts_of_lines, parts_of_text}
use Rattle.bundle_text.specs.Cutting.{EndsLine, IsFromSign, IsFirstLine, IsFirstPart}
use Rattle.bundle_text.proofs.Lacking.{Lack, lines_lack, split_has}

-- no line separates
abbrev pub GoOn : List (List ℕ) → Type 0
GoOn lines = AllByRecursion (λ line. separates line ≡ false) lines

goes_on : (line : List ℕ) → Others 37 line → separates line ≡ false
goes_on [] none = refl
goes_on (b ∷ line) none = rw (All-head (λ x. (x == 37) ≡ false) b line none) refl

all_go_on : (lines : List (List ℕ)) → Lack 37 lines → GoOn lines
all_go_on [] h = tt
all_go_on (line ∷ lines) h = (goes_on line h.0, all_go_on lines h.1)

go_on_both : (xs ys : List (List ℕ)) → GoOn xs → GoOn ys → GoOn (xs ++ ys)
go_on_both [] ys h k = k
go_on_both (x ∷ xs) ys h k = (h.0, go_on_both xs ys h.1 k)

go_on_front : (xs ys : List (List ℕ)) → GoOn (xs ++ ys) → GoOn xs
go_on_front [] ys h = tt
go_on_front (x ∷ xs) ys h = (h.0, go_on_front xs ys h.1)

-- the lines before a line feed, and those behind it
split_both : (a b : List ℕ) → between_feeds (a ++ 10 ∷ b) ≡ between_feeds a ++ between_feeds b
split_both [] b = refl
split_both (c ∷ a) b =
    let more = split_has (λ x. x == 10) a in
    elim (cases_Bool (c == 10)) [
      | inl ends ↦ rw ends (ap (λ (ls : List (List ℕ)). [] ∷ ls) (split_both a b))
      | inr goes ↦ rw (goes, split_both a b, more.is) refl
    ]

ends_both : (x y : List ℕ) → EndsLine x → EndsLine y → EndsLine (x ++ y)
ends_both x y h (inl none) = rw (none, append-nil x) h
ends_both x y h (inr w) = inr (x ++ w.0, ap (λ (t : List ℕ). x ++ t) w.1 ∙ sym (append_assoc x w.0 (10 ∷ [])))

-- the lines of a text that ends a line, and those of the text behind it
go_on_more : (x y : List ℕ) → EndsLine x → GoOn (between_feeds x) → GoOn (between_feeds y) → GoOn (between_feeds (x ++ y))
go_on_more x y (inl none) h k = rw none k
go_on_more x y (inr w) h k =
    let front : GoOn (between_feeds w.0) = go_on_front (between_feeds w.0) ([] ∷ []) (rw (w.1, split_both w.0 []) at h) in
    rw (w.1, append_assoc w.0 (10 ∷ []) y, split_both w.0 y) (go_on_both (between_feeds w.0) (between_feeds y) front k)

-- no line that was seen separates, and what is left begins a line or is nothing
pub record IsOn (text rest : List ℕ) : Type 0 where
  pub seen : List ℕ
  pub whole : text ≡ seen ++ rest
  pub ends : EndsLine seen ⊎ (rest ≡ [])
  pub on : GoOn (between_feeds seen)

one_part : (text : List ℕ) → GoOn (between_feeds text) → parts_of_text text ≡ text ∷ []
one_part text on =
    let go_on = All-from_recursion (λ line. separates line ≡ false) (between_feeds text) on in
    rw (slice_split_none separates (between_feeds text) go_on) (ap (λ (part : List ℕ). part ∷ []) (join_with_byte-slice_split 10 text))

-- no sign is left
pub none_left : (text rest : List ℕ) → IsOn text rest → Others 37 rest → parts_of_text text ≡ text ∷ []
none_left text rest h none = one_part text (rw h.whole (elim h.ends [
  | inl ends ↦ go_on_more h.seen rest ends h.on (all_go_on (between_feeds rest) (lines_lack 37 rest none))
  | inr empty ↦ rw (empty, append-nil h.seen) h.on
]))

-- a line with a sign begins what is left, and no line before it separates
pub record IsAtSign (text tail : List ℕ) : Type 0 where
  pub before : List ℕ
  pub whole : text ≡ before ++ tail
  pub ends : EndsLine before
  pub on : GoOn (between_feeds before)
  pub some : 0 < length tail

pub at_sign : (text rest tail : List ℕ) → IsOn text rest → IsFromSign rest tail → IsAtSign text tail
at_sign text rest tail h s =
    let ends : EndsLine h.seen = elim h.ends [
      | inl ends ↦ ends
      | inr empty ↦ absurd (omega (arith, s.some, ap length (sym empty ∙ s.whole), length-append s.before tail))
    ] in
    record {
      before = h.seen ++ s.before;
      whole = h.whole ∙ ap (λ (t : List ℕ). h.seen ++ t) s.whole ∙ sym (append_assoc h.seen s.before tail);
      ends = ends_both h.seen s.before ends s.ends;
      on = go_on_more h.seen s.before ends h.on (all_go_on (between_feeds s.before) (lines_lack 37 s.before s.none));
      some = s.some;
    }

split_line : (line behind : List ℕ) → Others 10 line → between_feeds (line ++ 10 ∷ behind) ≡ line ∷ between_feeds behind
split_line line behind none = slice_split_at (λ b. b == 10) line 10 behind none refl

split_last : (line : List ℕ) → Others 10 line → between_feeds line ≡ line ∷ []
split_last line none = slice_split_none (λ b. b == 10) line none

-- the line with the sign doesn't separate
pub line_on : (text tail line behind : List ℕ) → IsAtSign text tail → IsFirstLine tail line behind → separates line ≡ false → IsOn text behind
line_on text tail line behind h (inl cut) no' = record {
  seen = h.before ++ (line ++ 10 ∷ []);
  whole = h.whole ∙ ap (λ (t : List ℕ). h.before ++ t) (cut.whole ∙ sym (append_assoc line (10 ∷ []) behind)) ∙ sym (append_assoc h.before (line ++ 10 ∷ []) behind);
  ends = inl (ends_both h.before (line ++ 10 ∷ []) h.ends (inr (line, refl)));
  on = go_on_more h.before (line ++ 10 ∷ []) h.ends h.on (rw (split_line line [] cut.none) (no', (refl, tt)));
}
line_on text tail line behind h (inr last) no' = record {
  seen = h.before ++ tail;
  whole = h.whole ∙ sym (append-nil (h.before ++ tail)) ∙ ap (λ (t : List ℕ). (h.before ++ tail) ++ t) (sym last.2);
  ends = inr last.2;
  on = go_on_more h.before tail h.ends h.on (rw (split_last tail last.0) (rw last.1 at no', tt));
}

behind_shorter : (tail line behind : List ℕ) → 0 < length tail → IsFirstLine tail line behind → length behind < length tail
behind_shorter tail line behind some (inl cut) = omega (arith, ap length cut.whole, length-append line (10 ∷ behind))
behind_shorter tail line behind some (inr last) = omega (arith, some, ap length last.2)

-- the lines behind the first one, which have the parts of what stands behind it
record LinesBehind (tail line behind : List ℕ) : Type 0 where
  lines : List (List ℕ)
  is : between_feeds tail ≡ line ∷ lines
  parts : parts_of_lines lines ≡ parts_of_text behind

lines_behind : (tail line behind : List ℕ) → IsFirstLine tail line behind → LinesBehind tail line behind
lines_behind tail line behind (inl cut) = record { lines = between_feeds behind; is = ap between_feeds cut.whole ∙ split_line line behind cut.none; parts = refl }
lines_behind tail line behind (inr last) = record { lines = []; is = split_last tail last.0 ∙ ap (λ (l : List ℕ). l ∷ []) (sym last.1); parts = rw last.2 refl }

without_feed : (front : List ℕ) → take (length (front ++ 10 ∷ []) - 1) (front ++ 10 ∷ []) ≡ front
without_feed front =
    let n : length (front ++ 10 ∷ []) - 1 ≡ length front = omega (arith, length-append front (10 ∷ [])) in
    rw n (take-append_seam front (10 ∷ []))

part_ends : (before tail line : List ℕ) (lines : List (List ℕ)) → EndsLine before → GoOn (between_feeds before) → between_feeds tail ≡ line ∷ lines → separates line ≡ true
    → parts_of_text (before ++ tail) ≡ take (length before - 1) before ∷ parts_of_lines lines
part_ends before tail line lines (inl none) on is does = rw (none, is, does) refl
part_ends before tail line lines (inr w) on is does =
    let front : GoOn (between_feeds w.0) = go_on_front (between_feeds w.0) ([] ∷ []) (rw (w.1, split_both w.0 []) at on) in
    let cut = slice_split_at separates (between_feeds w.0) line lines (All-from_recursion (λ l. separates l ≡ false) (between_feeds w.0) front) does in
    rw (w.1, append_assoc w.0 (10 ∷ []) tail, split_both w.0 tail, is, cut, without_feed w.0, join_with_byte-slice_split 10 w.0) refl

taken : (text tail before : List ℕ) → text ≡ before ++ tail → take (length text - length tail) text ≡ before
taken text tail before whole =
    let n : length text - length tail ≡ length before = omega (arith, ap length whole, length-append before tail) in
    rw (n, whole) (take-append_seam before tail)

-- the line with the sign separates
pub part_at : (text tail line behind before part : List ℕ) → IsAtSign text tail → IsFirstLine tail line behind → separates line ≡ true
    → before ≡ take (length text - length tail) text → part ≡ take (length before - 1) before → IsFirstPart text part behind
part_at text tail line behind before part h is does front last =
    let more = lines_behind tail line behind is in
    let same : before ≡ h.before = front ∙ taken text tail h.before h.whole in
    record {
      parts = ap parts_of_text h.whole ∙ part_ends h.before tail line more.lines h.ends h.on more.is does
          ∙ rw (more.parts, last, same) refl;
      shorter = omega (arith, behind_shorter tail line behind h.some is, ap length h.whole, length-append h.before tail);
    }
