use Rattle.std.proofs.Common.{rules, ◌≡◌, ◌++◌, ◌∷◌, [], ap, sym, ◌∙◌, append-nil, Some, None}
use Rattle.request_slots.specs.Kept.{place_if}
use Rattle.request_slots.specs.Waits.{is_of}
use Rattle.request_slots.proofs.Found.{more_places, one_place, no_more}
use Rattle.request_slots.proofs.places.places_of_card.Goals as goal
use Rattle.request_slots.proofs.places.places_of_card.Goals.{in-Some+then-is_of+in_ok-push, in-Some+else-is_of, in_default}

pub loop-slot-preserved : goal.loop-slot-preserved
loop-slot-preserved c =
    let f = place_if (is_of c.args.card.now) c.args.wheel.now.slots in
    let more = more_places f c.args.slots.now c.loop-slot.slot-index c.slot-item.result c.loop-slot-test.true c.slot-item.is in
    let inv = c.loop-slot.invariant in
    elim c.match-get.branch [
      | in-Some+then-is_of+in_ok-push w ↦
          let here : Some w.in-Some.wait.now.place ≡ f c.slot-item.result = search rules in
          let grown : w.push.new.self.items ≡ c.loop-slot.places.items ++ w.in-Some.wait.now.place ∷ [] = search rules in
          rw (w.places-is, grown, more, one_place f c.slot-item.result w.in-Some.wait.now.place here) (ap (λ ks. ks ++ w.in-Some.wait.now.place ∷ []) inv)
      | in-Some+else-is_of w ↦
          let none : None ≡ f c.slot-item.result = search rules in
          rw (w.places-is, more, no_more f c.slot-item.result none) (inv ∙ sym (append-nil _))
      | in_default w ↦
          let none : None ≡ f c.slot-item.result = search rules in
          rw (w.places-is, more, no_more f c.slot-item.result none) (inv ∙ sym (append-nil _))
    ]
