use Rattle.std.proofs.Common.{refl}
use Rattle.network_law.specs.Traces.{used}
use Rattle.network_law.specs.Entries.{read_history}
use Rattle.law_evidence.proofs.TwoHops.{hops_ranked, hops_bounded, hops_are_run}
use Rattle.law_evidence.proofs.worked.worked_two_hops.Goals as goal

pub returns-clause-ranked : goal.returns-clause-ranked
returns-clause-ranked c = hops_ranked

pub returns-clause-bounded : goal.returns-clause-bounded
returns-clause-bounded c = hops_bounded

pub returns-clause-run : goal.returns-clause-run
returns-clause-run c = hops_are_run

pub returns-clause-used : goal.returns-clause-used
unfolding used read_history
returns-clause-used c = refl

pub returns-clause-freed : goal.returns-clause-freed
unfolding used read_history
returns-clause-freed c = refl
