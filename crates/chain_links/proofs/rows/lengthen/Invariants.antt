use Rattle.std.proofs.Common.{◌≡◌, ◌++◌, ◌+◌, ◌-◌, ◌≤◌, replicate}
use Rattle.std.specs.Vec.{vec_len, vec_capacity}
use Rattle.chain_links.proofs.rows.lengthen.Given as goal

abbrev pub invariant-loop : goal.invariant-loop
invariant-loop g l = record {
  items : l.rows.items ≡ l.initial.rows.items ++ replicate l.counter l.blank;
  room : vec_len l.rows + (l.more - l.counter) ≤ vec_capacity l.rows;
}
