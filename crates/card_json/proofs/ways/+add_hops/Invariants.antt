use Rattle.card_json.proofs.ways.+add_hops.Given as goal

abbrev pub decreases-add_hops : goal.decreases-add_hops
decreases-add_hops l = l.left
