use Rattle.std.proofs.Common.{refl}
use Rattle.rank_rows.proofs.ByName.{names_set, value_other, put_here, put_old, put_err}
use Rattle.rank_rows.proofs.found.put_in.Goals as goal

pub returns-clause-old : goal.returns-clause-old
returns-clause-old c = put_old c.args.names.now.items c.args.at c.index_mut.result.now c.args.prefix c.put_found.result c.requires c.index_mut.ensures.value c.put_found.ensures.old

pub returns-clause-names : goal.returns-clause-names
returns-clause-names c = names_set c.args.names.now.items c.args.at c.index_mut.result.now _ c.requires c.index_mut.ensures.value refl

pub returns-clause-here : goal.returns-clause-here
returns-clause-here c = put_here c.args.names.now.items c.args.at c.index_mut.result.now _ c.args.prefix c.args.found c.put_found.result c.requires c.index_mut.ensures.value c.put_found.ensures.updates

pub returns-clause-others : goal.returns-clause-others
returns-clause-others c = λ i q other. value_other c.args.names.now.items c.args.at _ i q other

pub returns-clause-err : goal.returns-clause-err
returns-clause-err c = put_err c.args.names.now.items c.args.at c.index_mut.result.now _ c.put_found.result c.requires c.index_mut.ensures.value c.put_found.ensures.err
