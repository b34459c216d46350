-- The parts of an input.
use Rattle.std.specs.Prelude.{ℕ, ◌==◌, Bool, List, [], ◌∷◌, ◌-◌, length, take, map, codes, slice_get, if◌then◌else◌}
use Rattle.std.specs.Option.{option_map_or}
use Rattle.std.specs.List.{slice_split, join_with_byte}
use Rattle.std.specs.Cmp.Lexicographic.{pointwise}

-- without a carriage return at its end
abbrev pub without_return : List ℕ → List ℕ
without_return line = option_map_or (λ b. if b == 13 then take (length line - 1) line else line) (slice_get line (length line - 1)) line

-- each line but the last, which no line feed ends, loses one carriage return
abbrev pub trimmed : List (List ℕ) → List (List ℕ)
trimmed [] = []
trimmed (line ∷ []) = line ∷ []
trimmed (line ∷ next ∷ lines) = without_return line ∷ trimmed (next ∷ lines)

-- what stands before, between and behind the line feeds of a text
abbrev pub between_feeds : List ℕ → List (List ℕ)
between_feeds text = slice_split (λ b. b == 10) text

-- the lines of an input, without their line feeds
abbrev pub lines_of : List ℕ → List (List ℕ)
lines_of input = trimmed (between_feeds input)

-- a line that separates parts
abbrev pub separates : List ℕ → Bool
separates line = pointwise ◌==◌ line (codes "%%")

-- the lines between lines that separate, with line feeds between them
abbrev pub parts_of_lines : List (List ℕ) → List (List ℕ)
parts_of_lines lines = map (join_with_byte 10) (slice_split separates lines)

abbrev pub parts_of : List ℕ → List (List ℕ)
parts_of input = parts_of_lines (lines_of input)

-- the parts of a text of which no line loses a carriage return
abbrev pub parts_of_text : List ℕ → List (List ℕ)
parts_of_text text = parts_of_lines (between_feeds text)
