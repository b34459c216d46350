use Rattle.std.proofs.Common.{◌≤◌, length, sym, ◌∙◌, arith, refl}
use Rattle.rank_maker.proofs.Around.{goes_on_more, same_ends}
use Rattle.rank_maker.proofs.circle.is_circle.Goals as goal

pub loop-i-preserved : goal.loop-i-preserved
loop-i-preserved c =
    goes_on_more c.args.tables.now c.args.class.now c.args.nodes.now c.loop-i.i c.index-nodes-i.result c.index-nodes-i-in-loop-i.result
    c.loop-i.auto.i c.index-nodes-i.is c.index-nodes-i-in-loop-i.is (omega arith) (c.goes_on.ensures.0 c.if-not-goes_on.false) c.loop-i.invariant

pub returns : goal.returns
returns c =
    let whole : 2 ≤ length c.args.nodes.now = omega arith in (
      λ _. record {
        two = whole;
        closed = same_ends c.args.nodes.now c.index-nodes-0.result c.index-nodes-nodes.result whole c.index-nodes-0.is c.index-nodes-nodes.is (sym c.ne.ensures ∙ c.if-ne.false);
        goes_on = λ k lt. c.loop-i.invariant k (omega arith);
      },
      λ _. refl,
    )
