-- The printed lines of a trace's faults.
use Rattle.std.specs.Prelude.{Bool, true, false, ◌++◌, codes, Option, Some, None, Result, Ok, Err}
use Rattle.std.specs.Fmt.{decimal}
use Rattle.bundle_text.specs.Lines.{Text, line_feed}
use Rattle.trace_view.specs.declared.fault.LineFault.{LineFault}
use Rattle.trace_view.specs.declared.fault.LineFault.TheVariants as fault
use Rattle.trace_view.specs.declared.fault.TraceFault.{TraceFault}

-- the number of a line's fault, and what it is
abbrev pub line_fault_text : LineFault → Text
line_fault_text fault.Malformed = codes "1 malformed"
line_fault_text fault.UnknownNode = codes "2 unknown node"
line_fault_text fault.UnknownLink = codes "3 unknown link"
line_fault_text fault.NoNode = codes "4 no node"
line_fault_text fault.NoMessage = codes "5 no message"
line_fault_text fault.NotInScript = codes "6 not in script"
line_fault_text fault.Memory = codes "7 memory"

-- and at which line of the trace
abbrev pub trace_fault_text : TraceFault → Text
trace_fault_text f = line_fault_text f.fault ++ codes " line " ++ decimal f.line

abbrev pub trace_fault_line : TraceFault → Text
trace_fault_line f = codes "fault trace " ++ trace_fault_text f ++ line_feed

-- the fault of a function that was refused memory
abbrev pub is_memory : LineFault → Bool
is_memory fault.Memory = true
is_memory e = false

abbrev pub names_memory : TraceFault → Bool
names_memory f = is_memory f.fault

-- the value that is there, or else the fault
abbrev pub ok_or : {A : Type 0} → Option A → LineFault → Result A LineFault
ok_or None e = Err e
ok_or (Some x) e = Ok x
