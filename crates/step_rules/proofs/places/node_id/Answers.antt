use Rattle.step_rules.proofs.Values.{id_fits, no_id_fits, no_node}
use Rattle.step_rules.proofs.places.node_id.Goals as goal

pub returns-in-Some-clause-fits : goal.returns-in-Some-clause-fits
returns-in-Some-clause-fits c = id_fits c.as_slice.result.now c.as_slice.ensures.form

pub returns-in-None-clause-id : goal.returns-in-None-clause-id
returns-in-None-clause-id c = no_node c.args.tables.now c.args.node (rw (← c.nodes.ensures.nodes, ← c.place.ensures.place) c.in-None.ensures.lookup.3)

pub returns-in-None-clause-fits : goal.returns-in-None-clause-fits
returns-in-None-clause-fits c = no_id_fits
