use Rattle.std.proofs.Common.{◌≡◌, [], length}
use Rattle.card_digits.specs.Lines.{lines}
use Rattle.rank_cert.specs.Reading.{rows_in}
use Rattle.rank_cert.proofs.read.read_rows.Given as goal

abbrev pub invariant-loop-line : goal.invariant-loop-line
invariant-loop-line l = rows_in l.cert (lines l.rest) ≡ rows_in [] (lines l.text)

abbrev pub decreases-loop-line : goal.decreases-loop-line
decreases-loop-line l = length l.rest
