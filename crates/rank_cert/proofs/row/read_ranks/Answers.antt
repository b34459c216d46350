use Rattle.std.proofs.Common.{◌<◌, refl, length, ◌∙◌, rules, arith}
use Rattle.std.proofs.lemmas.List.{get_or-set_other}
use Rattle.rank_cert.proofs.Fresh.{none_yet, one_read}
use Rattle.rank_cert.proofs.row.read_ranks.Goals as goal

pub loop-i-init : goal.loop-i-init
loop-i-init c = record {
  first = refl;
  like = rw (none_yet c.args.run.now c.args.spelled.now c.args.ranks.now) refl;
}

pub loop-i-preserved : goal.loop-i-preserved
loop-i-preserved c =
    let i = c.loop-i.i in
    let run = c.args.run.now in
    let ranks = c.loop-i.ranks in
    let some : 0 < i = search rules in
    let within : i < length run = search rules in
    let room : i < length ranks = search rules in
    record {
      first = get_or-set_other ranks i 0 c.in-Some.rank 0 (λ same. omega (arith, same, some)) ∙ c.loop-i.invariant.first;
      like = one_read c.args.text.now c.loop-i.rest.now c.in-Some.behind.now run c.args.spelled.now ranks i c.in-Some.rank c.index-run-i.result some within room c.loop-i.invariant.like c.in-Some.ensures;
    }
