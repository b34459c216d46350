-- Steps, one after another, at the nodes of a network.
use Rattle.std.specs.Prelude.{ℕ, ◌==◌, List, [], ◌∷◌, ◌++◌, if◌then◌else◌}
use Rattle.network_law.specs.Cards.{Bytes}
use Rattle.network_law.specs.Entries.{Entry, Output, Put, Answer, Ask, Post}

-- an entry of a node's trace
pub record Step : Type 0 where
  pub node : ℕ
  pub entry : Entry

-- the trace of a node, where these steps were made; of both the newest stands first
abbrev pub entries_at : ℕ → List Step → List Entry
entries_at n [] = []
entries_at n (s ∷ steps) = if s.node == n then s.entry ∷ entries_at n steps else entries_at n steps

-- the packets that a node put on a link, in order

abbrev pub packets_in : ℕ → List Output → List Bytes
packets_in l [] = []
packets_in l (Put k s bytes ∷ os) = if k == l then bytes ∷ packets_in l os else packets_in l os
packets_in l (Answer bytes ∷ os) = packets_in l os
packets_in l (Ask a bytes ∷ os) = packets_in l os
packets_in l (Post bytes ∷ os) = packets_in l os

abbrev pub packets : ℕ → List Entry → List Bytes
packets l [] = []
packets l (e ∷ trace) = packets l trace ++ packets_in l e.outputs
