-- What pumps leave of the incoming rings.
use Rattle.std.proofs.Common.{◌≡◌, ℕ, List, length, Option, Some, None, Bool, true, false, Result, Ok, Err, ap, ◌∙◌}
use Rattle.std.proofs.Math.ListN.{length-set}
use Rattle.network_law.specs.Entries.{Input, Take}
use Rattle.link_rings.specs.Rings.{PacketView, InView, Pops}
use Rattle.link_rings.specs.Held.{HeldView}
use Rattle.run_plan.specs.declared.faults.LinkFaults.{LinkFaults}
use Rattle.run_plan.specs.declared.faults.Fate.{Fate}
use Rattle.run_plan.specs.declared.faults.Fate.TheVariants.{Lost, Held, Taken}
use Rattle.run_plan.specs.Faults.{fate, is_repeated, faults_of}
use Rattle.net_threads.specs.declared.fault.StationFault.{StationFault}
use Rattle.net_threads.specs.Station.{StationView, Does}
use Rattle.net_threads.specs.Pumping.{TakesOnce, TakesTimes, TakesIf, IsDealt, IsDealtIf, PumpsRing}

does_ins : (old : StationView) (i : Input) (r : Result (Unit {0}) StationFault) (new : StationView) → Does old i r new → new.ins ≡ old.ins
does_ins old i (Ok x) new h = h.ins
does_ins old i (Err f) new h = ap (λ s. s.ins) h.0

once_ins : (link : ℕ) (p : PacketView) (old new : StationView) → TakesOnce link p old new → new.ins ≡ old.ins
once_ins link p old new h = does_ins old (Take link p.serial p.bytes) h.answer new h.does

times_ins : (b : Bool) (link : ℕ) (p : PacketView) (old new : StationView) → TakesTimes b link p old new → new.ins ≡ old.ins
times_ins false link p old new h = once_ins link p old new h
times_ins true link p old new h = once_ins link p h.0 new h.2 ∙ once_ins link p old h.0 h.1

if_ins : (f : LinkFaults) (link : ℕ) (o : Option PacketView) (old new : StationView) → TakesIf f link o old new → new.ins ≡ old.ins
if_ins f link None old new h = ap (λ s. s.ins) h
if_ins f link (Some p) old new h = times_ins (is_repeated f p.serial) link p old new h

dealt_ins : (x : Fate) (k link : ℕ) (f : LinkFaults) (p : PacketView) (old : StationView) (held : HeldView) (new : StationView) (held' : HeldView) → IsDealt x k link f p old held new held' → new.ins ≡ old.ins
dealt_ins Lost k link f p old held new held' h = ap (λ s. s.ins) h.0
dealt_ins (Held t) k link f p old held new held' h = ap (λ s. s.ins) h.0
dealt_ins Taken k link f p old held new held' h = times_ins (is_repeated f p.serial) link p old new h.0

dealt_if_ins : (o : Option PacketView) (k link : ℕ) (f : LinkFaults) (old : StationView) (held : HeldView) (new : StationView) (held' : HeldView) → IsDealtIf o k link f old held new held' → new.ins ≡ old.ins
dealt_if_ins None k link f old held new held' h = ap (λ s. s.ins) h.0
dealt_if_ins (Some p) k link f old held new held' h = dealt_ins (fate f p.serial) k link f p old held new held' h

pops_count : (k : ℕ) (old : List InView) (o : Option PacketView) (new : List InView) → Pops k old o new → length new ≡ length old
pops_count k old None new h = ap length h.same
pops_count k old (Some p) new h = ap length h.taken ∙ length-set old k _

-- a turn of one ring leaves as many rings
pub ring_count : (faults : List LinkFaults) (k : ℕ) (old : StationView) (held : HeldView) (new : StationView) (held' : HeldView) → PumpsRing faults k old held new held' → length new.ins ≡ length old.ins
ring_count faults k old held new held' h =
    ap length (dealt_if_ins h.next.popped k h.link (faults_of faults h.link) _ h.left new held' h.next.dealt)
    ∙ (pops_count k h.between.ins h.next.popped h.next.ins h.next.pops
    ∙ ap length (if_ins (faults_of faults h.link) h.link _ old h.between h.due.taken))
