use Rattle.std.proofs.Common.{◌∙◌, ◌≤◌, length, arith}
use Rattle.table_checker.specs.Rules.{refusal_at}
use Rattle.table_checker.specs.Firsts.{of_kind}
use Rattle.table_checker.proofs.Searching.{first_some_next, first_some_end}
use Rattle.table_checker.proofs.checker.firsts_along.Goals as goal

pub loop-class-preserved : goal.loop-class-preserved
loop-class-preserved c = record {
  routes = c.enter.ensures.rows ∙ c.loop-class.invariant.routes;
  stand_ins = c.enter-in-loop-class.ensures.rows ∙ c.loop-class.invariant.stand_ins;
  falling = c.add.ensures.falling;
  firsts = λ kind.
      first_some_next (refusal_at c.args.tables.now c.args.cert.now kind) c.args.all.now c.loop-class.class-index c.class-item.result (of_kind c.loop-class.firsts kind) (of_kind c.add.new.self kind)
      c.loop-class-test.true c.class-item.is (c.add.ensures.firsts kind)
      ∙ c.loop-class.invariant.firsts kind;
}

pub returns : goal.returns
returns c = λ kind.
    let done : length c.args.all.now ≤ c.loop-class.class-index = omega arith in
    first_some_end (refusal_at c.args.tables.now c.args.cert.now kind) c.args.all.now c.loop-class.class-index (of_kind c.loop-class.firsts kind) _ done (c.loop-class.invariant.firsts kind)
