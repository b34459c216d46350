use Rattle.prefix_trie.proofs.Rows.{indexed_none}
use Rattle.prefix_trie.proofs.trie.Trie.with_room.Goals as goal

pub invariant_of-result : goal.invariant_of-result
invariant_of-result g c = rw (c.in_ok-with_capacity.ensures.items, c.in_ok-with_capacity-2.ensures.items) indexed_none
