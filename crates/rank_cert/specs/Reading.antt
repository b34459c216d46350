-- What the text of a certificate says, or the first fault in it.
use Rattle.std.specs.Prelude.{ℕ, ◌+◌, ◌==◌, ◌||◌, nat_lt, not, Bool, true, false, List, [], ◌∷◌, ◌++◌, length, codes, Option, Some, None, is_some, Result, Ok, Err, if◌then◌else◌}
use Rattle.std.specs.List.{list_all, slice_split}
use Rattle.std.specs.Result.{result_ok}
use Rattle.std.specs.Char.{is_ascii_digit}
use Rattle.std.specs.Cmp.Lexicographic.{pointwise}
use Rattle.card_digits.specs.Lines.{lines}
use Rattle.card_digits.specs.Numbers.{decimal}
use Rattle.card_digits.specs.Reading.{name_of, read_digits}
use Rattle.card_digits.specs.Steps.{◌>>=◌}
use Rattle.rank_rows.specs.declared.rank.Rank.{Rank}
use Rattle.rank_cert.specs.declared.fault.CertFault.{CertFault}
use Rattle.rank_cert.specs.declared.fault.CertFault.TheVariants.{Header, Line, Twice, NoEnd, AfterEnd, Memory}
use Rattle.rank_rows.specs.Ranks.{rank_of}

-- the parts of a line round its spaces
abbrev pub fields : List ℕ → List (List ℕ)
fields line = slice_split (λ b. b == 32) line

-- one to five digits of a number below 65,536
abbrev pub number_of : List ℕ → Option ℕ
number_of text =
    if (length text == 0 || nat_lt 5 (length text)) || not (list_all is_ascii_digit text) then None
    else if nat_lt 65535 (decimal text) then None
    else Some (decimal text)

-- the fields, where there are three
abbrev pub three : List (List ℕ) → Option (List ℕ × List ℕ × List ℕ)
three (name ∷ prefix ∷ rank ∷ []) = Some (name, prefix, rank)
three _ = None

-- the prefix that digits write
abbrev pub prefix_of : List ℕ → Option (List ℕ)
prefix_of text = result_ok (read_digits 1 12 text)

-- a name, a prefix and a rank
abbrev pub row_of : List ℕ → Option Rank
row_of line = do
  parts ← three (fields line)
  node ← name_of parts.0
  prefix ← prefix_of parts.1
  rank ← number_of parts.2
  Some (record { node = node; prefix = prefix; rank = rank })

abbrev pub is_line : List ℕ → List ℕ → Bool
is_line line word = pointwise ◌==◌ line word

-- the number of the line behind the header and these rows
abbrev pub line_behind : List Rank → ℕ
line_behind done = length done + 2

-- a row that stands behind others
abbrev pub new_row : List Rank → Option Rank → Result Rank CertFault
new_row done None = Err (Line (line_behind done))
new_row done (Some r) = if is_some (rank_of done r.node r.prefix) then Err (Twice (line_behind done)) else Ok r

-- the rows, where nothing stands behind the end
abbrev pub ended : List Rank → List (List ℕ) → Result (List Rank) CertFault
ended done [] = Ok done
ended done (line ∷ rest) = Err AfterEnd

abbrev pub then_rows : Result Rank CertFault → (Rank → Result (List Rank) CertFault) → Result (List Rank) CertFault
then_rows (Err e) more = Err e
then_rows (Ok r) more = more r

-- the rows of the lines up to the end, behind those that are done
abbrev pub rows_in : List Rank → List (List ℕ) → Result (List Rank) CertFault
rows_in done [] = Err NoEnd
rows_in done (line ∷ rest) =
    if is_line line (codes "END") then ended done rest
    else then_rows (new_row done (row_of line)) (λ r. rows_in (done ++ r ∷ []) rest)

-- the rows behind the header
abbrev pub rows_behind : List (List ℕ) → Result (List Rank) CertFault
rows_behind [] = Err Header
rows_behind (line ∷ rest) = if is_line line (codes "RANKS 1") then rows_in [] rest else Err Header

-- the rows that a text has, or its first fault
abbrev pub cert_in : List ℕ → Result (List Rank) CertFault
cert_in text = rows_behind (lines text)

-- the fault of a function that was refused memory
abbrev pub is_memory : CertFault → Bool
is_memory Memory = true
is_memory e = false

-- the rows of the next line and of the lines up to the end, behind those that are done
abbrev pub rows_with : List Rank → Option Rank → List (List ℕ) → Result (List Rank) CertFault
rows_with done next rest = then_rows (new_row done next) (λ r. rows_in (done ++ r ∷ []) rest)
