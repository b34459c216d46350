use Rattle.std.proofs.Common.{◌≤◌, ◌-◌, length}
use Rattle.message_elements.specs.Values.{fits}
use Rattle.message_bytes.specs.Known.{PassBetween}
use Rattle.message_bytes.proofs.runs.short_run.Given as goal

abbrev pub invariant-loop-done : goal.invariant-loop-done
invariant-loop-done l = record {
  bound : l.done ≤ length l.bytes;
  passes : PassBetween (fits l.class) l.bytes 0 l.done;
}

abbrev pub decreases-loop-done : goal.decreases-loop-done
decreases-loop-done l = length l.bytes - l.done
