use Rattle.std.proofs.Common.{◌≡◌, ◌+◌, ◌<◌, ◌^◌, length}
use Rattle.card_digits.specs.Lines.{lines}
use Rattle.run_plan.specs.Plans.{add_lines}
use Rattle.run_plan.proofs.read.add_lines.Given as goal

-- what the lines that are left add is what all add
abbrev pub invariant-loop-line : goal.invariant-loop-line
invariant-loop-line l = record {
  same : add_lines l.tables l.draft l.number (lines l.rest) ≡ add_lines l.tables l.initial.draft 4 (lines l.fn.text);
  count : l.number + length l.rest < 2 ^ 64;
}

abbrev pub decreases-loop-line : goal.decreases-loop-line
decreases-loop-line l = length l.rest
