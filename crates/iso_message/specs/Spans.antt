-- What spans of a buffer show.
use Rattle.std.specs.Prelude.{◌≡◌, ℕ, ◌+◌, ◌-◌, ◌*◌, ◌/◌, ◌%◌, ◌^◌, ◌≤◌, ◌==◌, nat_lt, false, if◌then◌else◌, List, [], ◌∷◌, ◌++◌, length, slice_range, map}
use Rattle.std.specs.List.{AllByRecursion}
use Rattle.iso_message.specs.declared.elements.Span.{Span}
use Rattle.iso_message.specs.declared.elements.Run.{Run}
use Rattle.message_elements.specs.Table.{form_of}
use Rattle.iso_message.specs.Spelling.{is_binary, piece}

-- where an element's piece begins
abbrev pub text_of : Span → ℕ
text_of s = s.high * 2 ^ 32 + s.low

-- the span of an element whose piece begins there
abbrev pub span_at : ℕ → ℕ → ℕ → ℕ → Span
span_at number text digits len = record { high = text / 2 ^ 32; low = text % 2 ^ 32; len = len; digits = digits; number = number }

-- where an element's bytes begin and end
abbrev pub start_of : Span → ℕ
start_of s = text_of s + s.digits

abbrev pub end_of : Span → ℕ
end_of s = text_of s + s.digits + s.len

abbrev pub shown : List ℕ → Span → ℕ × List ℕ
shown values s = (s.number, slice_range values (start_of s) (end_of s))

abbrev pub seen : List ℕ → List Span → List (ℕ × List ℕ)
seen values spans = map (shown values) spans

pub record IsWithin (values : List ℕ) (s : Span) : Type 0 where
  pub inside : end_of s ≤ length values
  pub spelled : is_binary (form_of s.number) ≡ false → slice_range values (text_of s) (end_of s) ≡ piece (form_of s.number) (slice_range values (start_of s) (end_of s))

abbrev pub AreWithin : List ℕ → List Span → Type 0
AreWithin values spans = AllByRecursion (IsWithin values) spans

-- bytes were added behind a buffer's
pub record IsLonger (old new : List ℕ) : Type 0 where
  pub more : List ℕ
  pub is : new ≡ old ++ more

-- with the span in its place, instead of one of its number
unfoldable pub placed : Span → List Span → List Span
placed s [] = s ∷ []
placed s (x ∷ xs) = if nat_lt x.number s.number then x ∷ placed s xs else if x.number == s.number then s ∷ xs else s ∷ x ∷ xs

abbrev pub numbers : List Span → List ℕ
numbers spans = map (λ s. s.number) spans

-- the element stands in a part of a buffer
pub record IsInRun (run : Run) (s : Span) : Type 0 where
  pub text : run.from ≤ text_of s
  pub end : end_of s ≤ run.to

-- where a place of the part stands in its copy
abbrev pub moved_place : Run → ℕ → ℕ
moved_place run place = run.copy + (place - run.from)

abbrev pub moved : Run → Span → Span
moved run s = span_at s.number (moved_place run (text_of s)) s.digits s.len

-- the part of the first buffer stands in the second, too
pub record IsCopied (values copies : List ℕ) (run : Run) : Type 0 where
  pub order : run.from ≤ run.to
  pub inside : run.to ≤ length values
  pub there : moved_place run run.to ≤ length copies
  pub same : slice_range copies run.copy (moved_place run run.to) ≡ slice_range values run.from run.to
