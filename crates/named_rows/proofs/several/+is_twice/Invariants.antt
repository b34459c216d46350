use Rattle.std.proofs.Common.{length}
use Rattle.named_rows.proofs.several.+is_twice.Given as goal

abbrev pub decreases-is_twice : goal.decreases-is_twice
decreases-is_twice g l = length l.items.now
