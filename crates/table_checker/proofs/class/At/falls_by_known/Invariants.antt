use Rattle.std.proofs.Common.{◌≡◌, ℕ, drop, nat_lt}
use Rattle.std.specs.List.{list_all}
use Rattle.net_rows.specs.Network.{other_end}
use Rattle.table_checker.specs.Known.{code_at}
use Rattle.table_checker.proofs.class.At.falls_by_known.Given as goal

abbrev pub invariant-loop-link : goal.invariant-loop-link
invariant-loop-link l =
    let f = λ (link : ℕ). nat_lt (code_at l.ranks (other_end l.self.tables.now l.node link)) (code_at l.ranks l.node) in
    list_all f (drop l.link-index l.links) ≡ list_all f l.links
