-- What bad links do with packets.
use Rattle.std.specs.Prelude.{ℕ, ◌%◌, ◌==◌, ◌&&◌, Bool, false, not, if◌then◌else◌, List, slice_index_or, Option, Some, None}
use Rattle.run_plan.specs.declared.faults.Delay.{Delay}
use Rattle.run_plan.specs.declared.faults.LinkFaults.{LinkFaults}
use Rattle.run_plan.specs.declared.faults.Fate.{Fate}
use Rattle.run_plan.specs.declared.faults.Fate.TheVariants.{Lost, Held, Taken}

-- the serial is a multiple of the number, which isn't 0
abbrev pub is_multiple : ℕ → Option ℕ → Bool
is_multiple serial None = false
is_multiple serial (Some n) = not (n == 0) && serial % n == 0

abbrev held_or_taken : ℕ → Option Delay → Fate
held_or_taken serial None = Taken
held_or_taken serial (Some d) = if is_multiple serial (Some d.every) then Held d.turns else Taken

-- a lost packet is lost, whatever else fits it
abbrev pub fate : LinkFaults → ℕ → Fate
fate f serial = if is_multiple serial f.lose then Lost else held_or_taken serial f.delay

-- a packet that isn't lost is taken twice
abbrev pub is_repeated : LinkFaults → ℕ → Bool
is_repeated f serial = is_multiple serial f.repeat

abbrev pub sound : LinkFaults
sound = record { lose = None; delay = None; repeat = None }

abbrev pub faults_of : List LinkFaults → ℕ → LinkFaults
faults_of links l = slice_index_or links l sound
