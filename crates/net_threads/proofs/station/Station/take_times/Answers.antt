use Rattle.std.proofs.Common.{arith, ◌≡◌, inl, refl, sym, subst, Err}
use Rattle.std.proofs.lemmas.Grind.{common_steps}
use Rattle.network_law.specs.declared.fault.StepFault.TheVariants.{Memory}
use Rattle.net_threads.specs.declared.fault.StationFault.TheVariants.{Step}
use Rattle.net_threads.specs.Pumping.{TakesOnce, TakesTimes}
use Rattle.net_threads.proofs.station.Station.take_times.Goals as goal
use Rattle.net_threads.proofs.station.Station.take_times.Goals.{then-twice+in-Ok, then-twice+in_default, else-twice}

pub returns : goal.returns
returns c =
    let link = c.args.link in
    let p = c.args.packet in
    let old = c.args.self.now in
    let new = c.take_once-2.new.self in
    elim c.if-twice.branch [
      | then-twice+in-Ok w ↦
          let same : w.in-Ok.again ≡ p = grind (arith, common_steps) in
          let first : TakesOnce link p old c.if-twice.self = subst (λ z. TakesOnce link z old c.if-twice.self) same (subst (λ z. TakesOnce link w.in-Ok.again old z) (sym w.self-is) w.take_once.ensures) in
          subst (λ b. TakesTimes b link p old new) (sym w.if-twice.true) (c.if-twice.self, first, c.take_once-2.ensures)
      | then-twice+in_default w ↦
          let second : TakesOnce link p old new = subst (λ z. TakesOnce link p z new) w.self-is c.take_once-2.ensures in
          subst (λ b. TakesTimes b link p old new) (sym w.if-twice.true) (old, record { answer = Err (Step Memory); does = (refl, inl refl) }, second)
      | else-twice w ↦
          let once : TakesOnce link p old new = subst (λ z. TakesOnce link p z new) w.self-is c.take_once-2.ensures in
          subst (λ b. TakesTimes b link p old new) (sym w.if-twice.false) once
    ]
