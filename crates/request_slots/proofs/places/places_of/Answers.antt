use Rattle.std.proofs.Common.{rules, ◌≡◌, ◌++◌, ◌∷◌, [], ap, sym, ◌∙◌, append-nil, Some, None}
use Rattle.request_slots.specs.Kept.{place_in}
use Rattle.request_slots.proofs.Found.{more_places, one_place, no_more}
use Rattle.request_slots.proofs.places.places_of.Goals as goal
use Rattle.request_slots.proofs.places.places_of.Goals.{in-Some+in_ok-push, in_default}

pub loop-slot-preserved : goal.loop-slot-preserved
loop-slot-preserved c =
    let s = c.args.wheel.now.slots in
    let more = more_places (place_in s) c.args.slots.now c.loop-slot.slot-index c.slot-item.result c.loop-slot-test.true c.slot-item.is in
    elim c.match-get.branch [
      | in-Some+in_ok-push w ↦
          let here : Some w.in-Some.wait.now.place ≡ place_in s c.slot-item.result = search rules in
          let grown : w.push.new.self.items ≡ c.loop-slot.places.items ++ w.in-Some.wait.now.place ∷ [] = search rules in
          let inv = c.loop-slot.invariant in
          rw (w.places-is, grown, more, one_place (place_in s) c.slot-item.result w.in-Some.wait.now.place here) (ap (λ ks. ks ++ w.in-Some.wait.now.place ∷ []) inv)
      | in_default w ↦
          let none : None ≡ place_in s c.slot-item.result = search rules in
          let inv = c.loop-slot.invariant in
          rw (w.places-is, more, no_more (place_in s) c.slot-item.result none) (inv ∙ sym (append-nil _))
    ]
