use Rattle.std.proofs.Common.{arith, rules}
use Rattle.picture_text.proofs.Ranks.{rank_added}
use Rattle.picture_text.proofs.layout.each_rank.Goals as goal

pub loop-place-preserved : goal.loop-place-preserved
loop-place-preserved c = record {
  all = rank_added c.args.ranks.now c.loop-place.place c.rank_at-rank.result c.loop-place.set.keys c.add.new.set.keys _ (search rules) c.rank_at-rank.ensures c.in_ok-add.ensures.keys c.loop-place.invariant.all;
  few = omega (arith, c.in_ok-add.ensures.few, c.loop-place.invariant.few);
}
