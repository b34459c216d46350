use Rattle.std.proofs.Common.{take}
use Rattle.std.specs.List.{AllZip}
use Rattle.net_operate.specs.Sessions.{LineFits}
use Rattle.net_operate.proofs.session_ends.fitted_lines.Given as goal

abbrev pub invariant-loop-k : goal.invariant-loop-k
invariant-loop-k l = AllZip (λ x. LineFits x.now) (take l.k l.lines) l.all.items
