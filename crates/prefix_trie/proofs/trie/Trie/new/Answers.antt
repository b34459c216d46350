use Rattle.prefix_trie.proofs.Rows.{indexed_none}
use Rattle.prefix_trie.proofs.trie.Trie.new.Goals as goal

pub invariant_of-result : goal.invariant_of-result
invariant_of-result g c = rw (c.new.ensures.items, c.new-2.ensures.items) indexed_none
