use Rattle.rank_maker.proofs.walk.Walk.+rank_anew.Given as goal

abbrev pub decreases-rank_anew : goal.decreases-rank_anew
decreases-rank_anew l = l.depth
