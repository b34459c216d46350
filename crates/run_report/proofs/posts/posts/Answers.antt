use Rattle.std.proofs.Common.{◌∙◌, ap, subst}
use Rattle.net_rows.specs.Sound.{IsSound}
use Rattle.run_report.specs.Counted.{counted}
use Rattle.run_report.proofs.OwnLaw.{posts_are_lawful}
use Rattle.run_report.proofs.posts.posts.Goals as goal

pub returns : goal.returns
returns c =
    let s = c.args.station.now in
    let sound = subst IsSound c.tables.ensures c.nodes.ensures.sound in
    c.posts_in_trace.ensures ∙ ap counted (posts_are_lawful s.t s.n s.trace sound c.trace.ensures.legal)
