use Rattle.std.proofs.Common.{◌≡◌, ◌++◌, map, length}
use Rattle.card_digits.specs.Lines.{lines}
use Rattle.trace_view.proofs.inputs.lines_of.Given as goal

-- the lines so far, and those that are left
abbrev pub invariant-loop-line : goal.invariant-loop-line
invariant-loop-line l = map (λ line. line.now) l.all.items ++ lines l.rest ≡ lines l.text

abbrev pub decreases-loop-line : goal.decreases-loop-line
decreases-loop-line l = length l.rest
