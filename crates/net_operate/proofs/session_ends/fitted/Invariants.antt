use Rattle.std.proofs.Common.{take}
use Rattle.std.specs.List.{AllZip}
use Rattle.net_operate.specs.Sessions.{SessionFits}
use Rattle.net_operate.proofs.session_ends.fitted.Given as goal

abbrev pub invariant-loop-session : goal.invariant-loop-session
invariant-loop-session l = AllZip SessionFits (take l.session-index l.sessions) l.all.items
