-- The numbers of refusals.
use Rattle.std.specs.Prelude.{ℕ}
use Rattle.network_law.specs.declared.fault.StepFault.{StepFault}
use Rattle.network_law.specs.declared.fault.StepFault.TheVariants as faults

-- the number of a refusal, as it is printed
abbrev pub refusal_number : StepFault → ℕ
refusal_number (faults.Decode fault) = 1
refusal_number faults.ForeignAcquirer = 2
refusal_number (faults.Missing element) = 3
refusal_number faults.TypeNotForGate = 4
refusal_number faults.UnknownAsk = 5
refusal_number faults.Replacement = 6
refusal_number faults.HistoryFull = 7
refusal_number faults.Memory = 8
refusal_number faults.NoPlace = 9
refusal_number faults.NotLent = 10
