-- A text is made of an input, without the carriage returns before line feeds.
use Rattle.std.proofs.Common.{◌≡◌, ℕ, zero, suc, ◌-◌, ◌==◌, Bool, true, false, List, [], ◌∷◌, ◌++◌, length, take, get_or, Option, Some, None, refl, sym, ap, ◌∙◌, append_assoc, inl, inr, arith}
use Rattle.std.specs.Prelude.{slice_get, if◌then◌else◌}
use Rattle.std.specs.Option.{option_map_or}
use Rattle.std.proofs.lemmas.Bool.{cases_Bool}
use Rattle.std.proofs.lemmas.List.Elements.{All-head, All-tail, All-take, All-from_get_or}
use Rattle.std.proofs.lemmas.List.Splits.{slice_split_at, slice_split_none}
use Rattle.memchr.specs.Find.{IsFirstByte, is_byte}
use Rattle.card_digits.specs.Cut.{IsCut}
use Rattle.card_digits.proofs.Cuts.{Others}
use Rattle.bundle_text.specs.Parts.{without_return, trimmed, between_feeds, lines_of}
use Rattle.bundle_text.proofs.Lacking.{Lack, lines_lack, split_has}

same_at : (xs ys zs : List ℕ) (i : ℕ) → Others 13 xs → option_map_or (λ b. if b == 13 then ys else zs) (slice_get xs i) zs ≡ zs
same_at [] ys zs i none = refl
same_at (x ∷ xs) ys zs zero none = rw (All-head (λ b. (b == 13) ≡ false) x xs none) refl
same_at (x ∷ xs) ys zs (suc i) none = same_at xs ys zs i (All-tail (λ b. (b == 13) ≡ false) x xs none)

trimmed_same : (lines : List (List ℕ)) → Lack 13 lines → trimmed lines ≡ lines
trimmed_same [] h = refl
trimmed_same (line ∷ []) h = refl
trimmed_same (line ∷ next ∷ lines) h = rw (same_at line (take (length line - 1) line) line (length line - 1) h.0, trimmed_same (next ∷ lines) h.1) refl

not_true : (a : Bool) → (a ≡ true → ⊥) → a ≡ false
not_true true h = absurd (h refl)
not_true false h = refl

-- where a search finds no carriage return
pub no_returns : (input : List ℕ) → IsFirstByte (is_byte 13) input None → between_feeds input ≡ lines_of input
no_returns input none =
    let lacks = All-from_get_or (λ b. (b == 13) ≡ false) input 0 (λ k lt. not_true (get_or input k 0 == 13) (none k (omega arith) lt)) in
    sym (trimmed_same (between_feeds input) (lines_lack 13 input lacks))

either_way : (P : List ℕ → Type 0) (o : Option ℕ) (xs ys : List ℕ) → P xs → P ys → P (option_map_or (λ b. if b == 13 then xs else ys) o ys)
either_way P None xs ys h k = k
either_way P (Some b) xs ys h k = elim (cases_Bool (b == 13)) [
  | inl is ↦ rw is h
  | inr no' ↦ rw no' k
]

others_without : (line : List ℕ) → Others 10 line → Others 10 (without_return line)
others_without line none = either_way (Others 10) (slice_get line (length line - 1)) (take (length line - 1) line) line (All-take (λ b. (b == 10) ≡ false) (length line - 1) line none) none

-- the first line of what is left
lines-cut : (rest line behind : List ℕ) → IsCut 10 rest line behind → lines_of rest ≡ without_return line ∷ lines_of behind
lines-cut rest line behind cut =
    let more = split_has (λ b. b == 10) behind in
    rw (cut.whole, slice_split_at (λ b. b == 10) line 10 behind cut.none refl, more.is) refl

-- the text so far has whole lines, which are the first of the input
pub record IsSoFar (text rest input : List ℕ) : Type 0 where
  pub lines : List (List ℕ)
  pub whole : (tail : List ℕ) → between_feeds (text ++ tail) ≡ lines ++ between_feeds tail
  pub all : lines ++ lines_of rest ≡ lines_of input

pub line_on : (text rest input line behind : List ℕ) → IsSoFar text rest input → IsCut 10 rest line behind → IsSoFar ((text ++ without_return line) ++ 10 ∷ []) behind input
line_on text rest input line behind h cut =
    let kept = without_return line in
    record {
      lines = h.lines ++ kept ∷ [];
      whole = λ tail. ap between_feeds (append_assoc (text ++ kept) (10 ∷ []) tail ∙ append_assoc text kept (10 ∷ tail))
          ∙ h.whole (kept ++ 10 ∷ tail)
          ∙ ap (λ (ls : List (List ℕ)). h.lines ++ ls) (slice_split_at (λ b. b == 10) kept 10 tail (others_without line cut.none) refl)
          ∙ sym (append_assoc h.lines (kept ∷ []) (between_feeds tail));
      all = append_assoc h.lines (kept ∷ []) (lines_of behind) ∙ ap (λ (ls : List (List ℕ)). h.lines ++ ls) (sym (lines-cut rest line behind cut)) ∙ h.all;
    }

pub finished : (text rest input : List ℕ) → IsSoFar text rest input → Others 10 rest → between_feeds (text ++ rest) ≡ lines_of input
finished text rest input h none =
    let last = slice_split_none (λ b. b == 10) rest none in
    h.whole rest ∙ ap (λ (ls : List (List ℕ)). h.lines ++ ls) (last ∙ sym (ap trimmed last)) ∙ h.all
