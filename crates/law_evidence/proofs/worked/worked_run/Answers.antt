use Rattle.law_evidence.proofs.worked.worked_run.Goals as goal
use Rattle.law_evidence.proofs.WorkedRun.{base_ranked, base_run, lenders_ranked, lenders_bounded, lent_is_run}

pub returns-clause-ranked : goal.returns-clause-ranked
returns-clause-ranked c = base_ranked

pub returns-clause-run : goal.returns-clause-run
returns-clause-run c = base_run

pub returns-clause-lent_run : goal.returns-clause-lent_run
returns-clause-lent_run c = lent_is_run

pub returns-clause-lenders_ranked : goal.returns-clause-lenders_ranked
returns-clause-lenders_ranked c = lenders_ranked

pub returns-clause-lenders_bounded : goal.returns-clause-lenders_bounded
returns-clause-lenders_bounded c = lenders_bounded
