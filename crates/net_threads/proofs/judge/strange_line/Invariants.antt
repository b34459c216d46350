use Rattle.std.proofs.Common.{take, All}
use Rattle.net_threads.specs.Verdicts.{IsGiven}
use Rattle.net_threads.proofs.judge.strange_line.Given as goal

abbrev pub invariant-loop-j : goal.invariant-loop-j
invariant-loop-j l = All (IsGiven l.stations l.session.node) (take l.j l.session.lines.items)
