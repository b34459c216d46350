-- The printed lines of the faults of a plan and of its run.
use Rattle.std.specs.Prelude.{◌++◌, codes}
use Rattle.std.specs.Fmt.{decimal}
use Rattle.run_plan.specs.declared.fault.PlanFault.{PlanFault}
use Rattle.run_plan.specs.declared.fault.PlanFault.TheVariants as plan
use Rattle.run_report.specs.declared.text_run.RunFault.{RunFault}
use Rattle.run_report.specs.declared.text_run.RunFault.TheVariants as run
use Rattle.bundle_text.specs.Lines.{Text, line_feed}

abbrev pub plan_fault_line : PlanFault → Text
plan_fault_line (plan.Line n) = codes "fault plan 1 line " ++ decimal n ++ line_feed
plan_fault_line (plan.Acquirer n) = codes "fault plan 2 acquirer " ++ decimal n ++ line_feed
plan_fault_line plan.NoEnd = codes "fault plan 3 no end\n"
plan_fault_line plan.Memory = codes "fault plan 4 memory\n"

abbrev pub run_fault_line : RunFault → Text
run_fault_line (run.Plan f) = plan_fault_line f
run_fault_line run.Threads = codes "fault run 1 threads\n"
run_fault_line run.Memory = codes "fault run 2 memory\n"
