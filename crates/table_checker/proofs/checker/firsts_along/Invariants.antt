use Rattle.std.proofs.Common.{◌≡◌, drop}
use Rattle.std.specs.Option.{option_or}
use Rattle.table_checker.specs.declared.refusal.Kind.{Kind}
use Rattle.table_checker.specs.Search.{first_some}
use Rattle.table_checker.specs.Rules.{refusal_at}
use Rattle.table_checker.specs.Firsts.{of_kind}
use Rattle.table_checker.specs.Known.{AreFalling}
use Rattle.table_checker.proofs.checker.firsts_along.Given as goal

abbrev pub invariant-loop-class : goal.invariant-loop-class
invariant-loop-class l = record {
  routes : l.routes.rows ≡ l.tables.routes;
  stand_ins : l.stand_ins.rows ≡ l.tables.stand_ins;
  falling : AreFalling l.tables l.known.ranks l.known.falling;
  firsts : (kind : Kind) →
      let f = refusal_at l.tables l.cert kind in
      option_or (of_kind l.firsts kind) (first_some f (drop l.class-index l.all)) ≡ first_some f l.all;
}
