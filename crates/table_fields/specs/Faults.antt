-- Steps that read, each of which may end with a fault.
use Rattle.std.specs.Prelude.{Bool, true, false, Option, Some, None, Result, Ok, Err, if◌then◌else◌}
use Rattle.table_fields.specs.declared.fault.TableFault.{TableFault}
use Rattle.table_fields.specs.declared.fault.TableFault.TheVariants.{Memory}

abbrev pub ok_or : {A : Type 0} → Option A → TableFault → Result A TableFault
ok_or None e = Err e
ok_or (Some x) e = Ok x

-- a fault where the test holds
abbrev pub refuse : Bool → TableFault → Result (Unit {0}) TableFault
refuse test e = if test then Err e else Ok tt

-- the fault of a function that was refused memory
abbrev pub is_memory : TableFault → Bool
is_memory Memory = true
is_memory e = false
