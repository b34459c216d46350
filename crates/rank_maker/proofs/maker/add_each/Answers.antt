use Rattle.std.proofs.Common.{refl}
use Rattle.rank_maker.proofs.Added.{one_added}
use Rattle.rank_maker.proofs.maker.add_each.Goals as goal

pub loop-i-preserved : goal.loop-i-preserved
loop-i-preserved c =
    one_added c.args.class.now c.loop-i.i c.args.cert.now c.loop-i.cert c.add_rank.new.self _ c.loop-i.invariant (c.in_ok-add_rank.ensures.yes (rw c.if-not-branch.false refl)) refl
