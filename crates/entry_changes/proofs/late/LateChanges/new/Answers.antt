use Rattle.std.proofs.Common.{true}
use Rattle.entry_changes.proofs.Lately.{nothing_late}
use Rattle.entry_changes.proofs.late.LateChanges.new.Goals as goal

pub returns : goal.returns
returns c = nothing_late (record { moves = c.new.result; advices = c.new-2.result; plain = true }) c.new.ensures c.new-2.ensures
