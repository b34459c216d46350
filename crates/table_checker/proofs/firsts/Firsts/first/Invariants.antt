use Rattle.std.proofs.Common.{◌≡◌, drop}
use Rattle.table_checker.specs.Search.{first_some}
use Rattle.table_checker.specs.Rules.{kinds}
use Rattle.table_checker.specs.Firsts.{of_kind}
use Rattle.table_checker.proofs.firsts.Firsts.first.Given as goal

abbrev pub invariant-loop-kind : goal.invariant-loop-kind
invariant-loop-kind l = first_some (of_kind l.self) (drop l.kind-index l.kind-items) ≡ first_some (of_kind l.self) kinds
