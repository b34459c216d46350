use Rattle.std.proofs.Common.{arith, ap, sym, ◌∙◌}
use Rattle.std.specs.Prelude.{count_by}
use Rattle.network_law.specs.Entries.{Entry}
use Rattle.run_report.specs.Counted.{counted}
use Rattle.run_report.specs.Own.{is_post, posts_of}
use Rattle.run_report.proofs.Counting.{counted_all, sum_by-reverse}
use Rattle.run_report.proofs.posts.posts_in_trace.Goals as goal

pub returns : goal.returns
returns c =
    let posts = λ (e : Entry). count_by is_post e.outputs in
    counted_all posts c.trace-trace.result.now c.loop-entry.entry-index c.loop-entry.posts (omega arith) c.loop-entry.invariant
    ∙ ap counted (sym (sum_by-reverse posts c.trace-trace.result.now) ∙ ap posts_of c.trace-trace.ensures.trace)
