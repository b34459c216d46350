use Rattle.std.proofs.Common.{◌≡◌, [], List, length}
use Rattle.card_digits.specs.Lines.{lines}
use Rattle.net_replay.specs.declared.fault.ReplayFault.{ReplayFault}
use Rattle.net_replay.specs.Steps.{Step}
use Rattle.net_replay.specs.Running.{IsStanding}
use Rattle.net_replay.specs.Replays.{Leads, Fails}
use Rattle.net_replay.proofs.run.run_lines.Given as goal

abbrev pub invariant-loop-line : goal.invariant-loop-line
invariant-loop-line l =
    (steps : List Step) × IsStanding l.running steps × (l.running.tables.now ≡ l.tables) × (l.number ≡ l.unread.number)
    × ((last : List Step) → Leads l.tables steps l.unread.lines last → Leads l.tables [] (lines l.script) last)
    × ((f : ReplayFault) → Fails l.tables steps l.unread.number l.unread.lines f → Fails l.tables [] 1 (lines l.script) f)

abbrev pub decreases-loop-line : goal.decreases-loop-line
decreases-loop-line l = length l.unread.lines
