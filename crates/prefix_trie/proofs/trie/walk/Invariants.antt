use Rattle.prefix_trie.proofs.Walking.{IsWalked}
use Rattle.prefix_trie.proofs.trie.walk.Given as goal

abbrev pub invariant-loop-digit : goal.invariant-loop-digit
invariant-loop-digit g l = IsWalked l.rows l.branches l.digits l.digit-index l.at l.found l.looked
