use Rattle.std.proofs.Common.{take}
use Rattle.prefix_trie.proofs.Same.{IsOnTheWay}
use Rattle.prefix_trie.proofs.branch.branch_at.Given as goal

abbrev pub invariant-loop-digit : goal.invariant-loop-digit
invariant-loop-digit l = IsOnTheWay l.fn.branches.items l.branches.items (take l.digit-index l.digits) l.at
