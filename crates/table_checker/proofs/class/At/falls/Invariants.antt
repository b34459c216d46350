use Rattle.std.proofs.Common.{◌≡◌, drop}
use Rattle.table_checker.specs.Search.{first_some}
use Rattle.table_checker.specs.Rules.{unranked_over, not_less_over}
use Rattle.table_checker.specs.Known.{IsKept}
use Rattle.table_checker.proofs.class.At.falls.Given as goal

abbrev pub invariant-loop-link : goal.invariant-loop-link
invariant-loop-link l =
    let f = unranked_over l.self.tables.now l.self.cert.now l.self.class l.node in
    let g = not_less_over l.self.tables.now l.self.cert.now l.self.class l.node in
    record {
      known : IsKept l.self l.known;
      no_rank : first_some f (drop l.link-index l.links) ≡ first_some f l.links;
      not_less : first_some g (drop l.link-index l.links) ≡ first_some g l.links;
    }
