-- The rules at what is at hand.
use Rattle.std.specs.Prelude.{ℕ, List}
use Rattle.net_rows.specs.Network.{Network}
use Rattle.rank_rows.specs.declared.rank.Rank.{Rank}
use Rattle.table_checker.specs.declared.class.At.{At}

-- a rule at the tables, the ranks and the class that are at hand
abbrev pub here : {B : Type 0} → At → (Network → List Rank → List ℕ → B) → B
here at rule = rule at.tables.now at.cert.now at.class
