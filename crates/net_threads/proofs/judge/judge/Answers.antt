use Rattle.net_threads.proofs.Standing.{are_run}
use Rattle.net_threads.proofs.judge.judge.Goals as goal

pub returns : goal.returns
returns c =
    (are_run c.args.tables.now c.args.stations.now c.requires.whole c.requires.legal c.in_default.ensures c.in_default-strange_link.ensures, c.in_default-strange_answer.ensures, c.in_default.ensures)
