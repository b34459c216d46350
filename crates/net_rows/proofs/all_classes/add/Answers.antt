use Rattle.net_rows.proofs.Newest.{added_twice}
use Rattle.net_rows.proofs.all_classes.add.Goals as goal

pub returns-clause-newest : goal.returns-clause-newest
returns-clause-newest c = rw c.in_ok-insert.ensures.keys (added_twice c.args.prefix c.args.classes.now.keys)
