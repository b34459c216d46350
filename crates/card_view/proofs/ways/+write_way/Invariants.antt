use Rattle.card_view.proofs.ways.+write_way.Given as goal

abbrev pub decreases-write_way : goal.decreases-write_way
decreases-write_way g l = l.left
