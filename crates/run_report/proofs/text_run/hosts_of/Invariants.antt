use Rattle.std.proofs.Common.{◌≡◌, map, take}
use Rattle.run_report.proofs.text_run.hosts_of.Given as goal

abbrev pub invariant-loop-amount : goal.invariant-loop-amount
invariant-loop-amount l = map (λ h. h.amount) l.hosts.items ≡ take l.amount-index l.plan.limits.items
