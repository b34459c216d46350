use Rattle.std.proofs.Common.{◌≡◌, take}
use Rattle.std.specs.Prelude.{sum_by}
use Rattle.run_report.specs.Counted.{counted}
use Rattle.run_report.specs.Stations.{own_approvals}
use Rattle.run_report.proofs.approvals.own_total.Given as goal

abbrev pub invariant-loop-station : goal.invariant-loop-station
invariant-loop-station l = l.own ≡ counted (sum_by own_approvals (take l.station-index l.stations))
