use Rattle.rank_maker.specs.Adding.{AddsOf}
use Rattle.rank_maker.proofs.maker.add_each.Given as goal

abbrev pub invariant-loop-i : goal.invariant-loop-i
invariant-loop-i l = AddsOf l.class l.i l.fn.cert l.cert
