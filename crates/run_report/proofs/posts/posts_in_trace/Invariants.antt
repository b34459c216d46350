use Rattle.std.proofs.Common.{◌≡◌, take}
use Rattle.std.specs.Prelude.{sum_by, count_by}
use Rattle.run_report.specs.Counted.{counted}
use Rattle.run_report.specs.Own.{is_post}
use Rattle.run_report.proofs.posts.posts_in_trace.Given as goal

abbrev pub invariant-loop-entry : goal.invariant-loop-entry
invariant-loop-entry l = l.posts ≡ counted (sum_by (λ e. count_by is_post e.outputs) (take l.entry-index l.trace))
