use Rattle.std.proofs.Common.{◌≡◌, take}
use Rattle.std.specs.Prelude.{sum_by}
use Rattle.run_report.specs.Counted.{counted}
use Rattle.run_report.specs.Stations.{posts}
use Rattle.run_report.proofs.posts.posts_total.Given as goal

abbrev pub invariant-loop-station : goal.invariant-loop-station
invariant-loop-station l = l.posted ≡ counted (sum_by posts (take l.station-index l.stations))
