-- What pumps do.
use Rattle.std.specs.Prelude.{◌≡◌, ℕ, zero, suc, Bool, true, false, List, [], length, Option, Some, None, Result, slice_get}
use Rattle.network_law.specs.Entries.{Take}
use Rattle.link_rings.specs.Rings.{PacketView, InView, Pops, Looks, links_in}
use Rattle.link_rings.specs.Held.{HeldView, due_packet, without_due, with_held}
use Rattle.run_plan.specs.declared.faults.LinkFaults.{LinkFaults}
use Rattle.run_plan.specs.declared.faults.Fate.{Fate}
use Rattle.run_plan.specs.declared.faults.Fate.TheVariants.{Lost, Held, Taken}
use Rattle.run_plan.specs.Faults.{fate, is_repeated, faults_of}
use Rattle.net_threads.specs.declared.fault.StationFault.{StationFault}
use Rattle.net_threads.specs.Station.{StationView, Does}

-- the take of a packet was applied
pub record TakesOnce (link : ℕ) (p : PacketView) (old new : StationView) : Type 0 where
  pub answer : Result (Unit {0}) StationFault
  pub does : Does old (Take link p.serial p.bytes) answer new

-- once, or twice
abbrev pub TakesTimes : Bool → ℕ → PacketView → StationView → StationView → Type 0
TakesTimes false link p old new = TakesOnce link p old new
TakesTimes true link p old new = (between : StationView) × TakesOnce link p old between × TakesOnce link p between new

-- as often as the link's faults have it
abbrev pub TakesBy : LinkFaults → ℕ → PacketView → StationView → StationView → Type 0
TakesBy f link p old new = TakesTimes (is_repeated f p.serial) link p old new

abbrev pub TakesIf : LinkFaults → ℕ → Option PacketView → StationView → StationView → Type 0
TakesIf f link None old new = new ≡ old
TakesIf f link (Some p) old new = TakesBy f link p old new

-- the packet that was held back until now was taken
pub record TakesDue (k link : ℕ) (f : LinkFaults) (old : StationView) (held : HeldView) (new : StationView) (held' : HeldView) : Type 0 where
  pub taken : TakesIf f link (due_packet k held) old new
  pub rest : held' ≡ without_due k held

abbrev pub with_ins : StationView → List InView → StationView
with_ins s ins = record { t = s.t; n = s.n; trace = s.trace; outs = s.outs; ins = ins }

-- a packet that was popped is lost, held back unless 64 of its ring are, or taken
abbrev pub IsDealt : Fate → ℕ → ℕ → LinkFaults → PacketView → StationView → HeldView → StationView → HeldView → Type 0
IsDealt Lost k link f p old held new held' = (new ≡ old) × (held' ≡ held)
IsDealt (Held turns) k link f p old held new held' = (new ≡ old) × (held' ≡ with_held k turns p held)
IsDealt Taken k link f p old held new held' = TakesBy f link p old new × (held' ≡ held)

abbrev pub IsDealtIf : Option PacketView → ℕ → ℕ → LinkFaults → StationView → HeldView → StationView → HeldView → Type 0
IsDealtIf None k link f old held new held' = (new ≡ old) × (held' ≡ held)
IsDealtIf (Some p) k link f old held new held' = IsDealt (fate f p.serial) k link f p old held new held'

-- at most one packet was popped
pub record TakesNext (k link : ℕ) (f : LinkFaults) (old : StationView) (held : HeldView) (new : StationView) (held' : HeldView) : Type 0 where
  pub popped : Option PacketView
  pub ins : List InView
  pub pops : Pops k old.ins popped ins
  pub dealt : IsDealtIf popped k link f (with_ins old ins) held new held'

-- one ring: what was held back until now, and then what is popped
pub record PumpsRing (faults : List LinkFaults) (k : ℕ) (old : StationView) (held : HeldView) (new : StationView) (held' : HeldView) : Type 0 where
  pub link : ℕ
  pub is_link : slice_get (links_in old.ins) k ≡ Some link
  pub between : StationView
  pub left : HeldView
  pub due : TakesDue k link (faults_of faults link) old held between left
  pub next : TakesNext k link (faults_of faults link) between left new held'

-- the first n rings, in their order
abbrev pub PumpsRings : List LinkFaults → ℕ → StationView → HeldView → StationView → HeldView → Type 0
PumpsRings faults zero old held new held' = (new ≡ old) × (held' ≡ held)
PumpsRings faults (suc n) old held new held' = (s : StationView) × (h : HeldView) × PumpsRings faults n old held s h × PumpsRing faults n s h new held'

-- one turn
pub record PumpsBy (faults : List LinkFaults) (old : StationView) (held : HeldView) (new : StationView) (held' : HeldView) : Type 0 where
  pub turn : HeldView
  pub same : turn.rings ≡ held.rings
  pub rings : PumpsRings faults (length old.ins) old turn new held'

-- one turn over links without faults, with nothing held back
pub record PumpsSound (old new : StationView) : Type 0 where
  pub held : HeldView
  pub pumps : PumpsBy [] old (record { turn = 0; rings = [] }) new held

-- the first n rings were looked at, in their order, and nothing lay there
abbrev pub SeesNone : ℕ → List InView → List InView → Type 0
SeesNone zero old new = new ≡ old
SeesNone (suc n) old new = (between : List InView) × SeesNone n old between × Looks n between false new

-- the rings were looked at in their order: all of them, or up to the first on which a packet lay
abbrev pub SeesPackets : Bool → List InView → List InView → Type 0
SeesPackets false old new = SeesNone (length old) old new
SeesPackets true old new = (n : ℕ) × (between : List InView) × SeesNone n old between × Looks n between true new
