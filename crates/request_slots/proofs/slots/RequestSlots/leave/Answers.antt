use Rattle.std.proofs.Common.{rules, ◌≡◌, ℕ, ◌+◌, ◌<◌, ◌≤◌, List, Option, Some, None, ap, sym, ◌∙◌, length, subst, refl}
use Rattle.std.specs.Prelude.{slice_set}
use Rattle.slab.specs.Slab.{Slab, Updates, slab_len}
use Rattle.chain_links.specs.Lists.{LinksView, unlinked}
use Rattle.tick_wheel.specs.Wheel.{WheelView, disarmed}
use Rattle.request_slots.specs.declared.wait.Wait.{Wait}
use Rattle.request_slots.specs.Kept.{slot_at, IsKept}
use Rattle.request_slots.specs.Waits.{SlotsView, held_waits, with_wait}
use Rattle.request_slots.proofs.Waiting.{held_at, kept_leave, kept_roomier, slot_there, unlinked_length, waits_leave, waits_length, waits_stay}
use Rattle.request_slots.proofs.slots.RequestSlots.leave.Goals as goal

pub returns-in_default : goal.returns-in_default
returns-in_default c =
    let i = c.self.inside in
    let seen : c.args.place < length (held_waits i.wheel.slots i.slots.items) = subst (λ (v : SlotsView). c.args.place < length v.waits) (sym c.self.view_is) c.requires in
    let within : c.args.place < length i.slots.items = subst (λ (n : ℕ). c.args.place < n) (waits_length i.wheel.slots i.slots.items) seen in
    let none : slot_at i.slots.items c.args.place ≡ None = search rules in
    let B : List (Option Wait) → SlotsView = λ ws. record { waits = ws; count = i.count; visits = i.wheel.visits; room = i.room } in
    let done : B (held_waits i.wheel.slots i.slots.items) ≡ B (with_wait (held_waits i.wheel.slots i.slots.items) c.args.place None) = ap B (waits_stay i.wheel.slots i.slots.items c.args.place none within) in
    rw (← c.self.view_is) done

pub take-requires-clause-held : goal.take-requires-clause-held
take-requires-clause-held c =
    let i = c.self.inside in
    let k = c.self.invariant.0 in
    let slot = c.in-Some.slot in
    let seen : c.args.place < length (held_waits i.wheel.slots i.slots.items) = subst (λ (v : SlotsView). c.args.place < length v.waits) (sym c.self.view_is) c.requires in
    let within : c.args.place < length i.slots.items = subst (λ (n : ℕ). c.args.place < n) (waits_length i.wheel.slots i.slots.items) seen in
    let at : slot_at i.slots.items c.args.place ≡ Some slot = slot_there i.slots.items c.args.place c.index.result.now c.index.result.now within c.index.ensures ∙ c.in-Some.is in
    let same : c.leave_link.new.wheel.slots ≡ i.wheel.slots = ap (λ (v : WheelView Wait). v.slots) c.leave_link.ensures.wheel ∙ (ap (λ (v : WheelView Wait). v.slots) c.leave_card.ensures.wheel ∙ ap (λ (v : WheelView Wait). v.slots) c.leave_tick.ensures.wheel) in
    rw same (held_at i.wheel.slots i.slots.items c.args.place slot k.slots_held at)

pub invariant_of-self : goal.invariant_of-self
invariant_of-self c =
    let i = c.self.inside in
    let k = c.self.invariant.0 in
    let h = c.self.invariant.1 in
    let slot = c.in-Some.slot in
    let place = c.args.place in
    let new = c.take.new.self in
    let left = c.leave_link.new.wheel in
    let mid : WheelView Wait = record left { slots = new.slots } in
    let e1 = c.leave_tick.ensures.wheel in
    let e2 = c.leave_card.ensures.wheel in
    let e3 = c.leave_link.ensures.wheel in
    let e4 = c.take.ensures.lists in
    let seen : place < length (held_waits i.wheel.slots i.slots.items) = subst (λ (v : SlotsView). place < length v.waits) (sym c.self.view_is) c.requires in
    let within : place < length i.slots.items = subst (λ (n : ℕ). place < n) (waits_length i.wheel.slots i.slots.items) seen in
    let at : slot_at i.slots.items place ≡ Some slot = slot_there i.slots.items place c.index.result.now c.index.result.now within c.index.ensures ∙ c.in-Some.is in
    let before : left.slots ≡ i.wheel.slots = ap (λ (v : WheelView Wait). v.slots) e3 ∙ (ap (λ (v : WheelView Wait). v.slots) e2 ∙ ap (λ (v : WheelView Wait). v.slots) e1) in
    let up : Updates i.wheel.slots new.slots slot None = subst (λ (s : Slab Wait). Updates s new.slots slot None) before c.take.ensures.slots in
    let waiting : mid.waiting ≡ (disarmed i.wheel slot).waiting = ap (λ (v : WheelView Wait). v.waiting) e3 ∙ (ap (λ (v : WheelView Wait). v.waiting) e2 ∙ ap (λ (v : WheelView Wait). v.waiting) e1) in
    let link : mid.link ≡ unlinked i.wheel.link slot = ap (λ (v : WheelView Wait). v.link) e3 ∙ (ap (λ (v : WheelView Wait). unlinked v.link slot) e2 ∙ ap (λ (v : WheelView Wait). unlinked v.link slot) e1) in
    let card : mid.card ≡ unlinked i.wheel.card slot = ap (λ (v : WheelView Wait). v.card) e3 ∙ (ap (λ (v : WheelView Wait). v.card) e2 ∙ ap (λ (v : WheelView Wait). unlinked v.card slot) e1) in
    let kept_mid = kept_leave i.wheel mid i.slots.items i.count place slot k at within up waiting link card in
    let kept : IsKept new (slice_set i.slots.items place None) i.count =
    subst (λ (w : WheelView Wait). IsKept w (slice_set i.slots.items place None) i.count) (sym e4) (kept_roomier mid new.slots (slice_set i.slots.items place None) i.count (λ key. refl) kept_mid) in
    let few : slab_len left.slots + i.room ≤ left.slots.capacity = subst (λ (s : Slab Wait). slab_len s + i.room ≤ s.capacity) (sym before) h.in_wheel in (
      kept,
      record {
        in_wheel = c.take.ensures.room i.room few;
        in_slots = h.in_slots;
        all_links = ap (λ (v : WheelView Wait). length v.link.lists) e4 ∙ (ap (λ (l : LinksView). length l.lists) link ∙ (unlinked_length i.wheel.link slot ∙ h.all_links));
        all_endings = ap (λ (v : WheelView Wait). length v.card.lists) e4 ∙ (ap (λ (l : LinksView). length l.lists) card ∙ (unlinked_length i.wheel.card slot ∙ h.all_endings));
      },
    )

pub returns : goal.returns
returns c =
    let i = c.self.inside in
    let k = c.self.invariant.0 in
    let slot = c.in-Some.slot in
    let place = c.args.place in
    let new = c.take.new.self in
    let e1 = c.leave_tick.ensures.wheel in
    let e2 = c.leave_card.ensures.wheel in
    let e3 = c.leave_link.ensures.wheel in
    let e4 = c.take.ensures.lists in
    let seen : place < length (held_waits i.wheel.slots i.slots.items) = subst (λ (v : SlotsView). place < length v.waits) (sym c.self.view_is) c.requires in
    let within : place < length i.slots.items = subst (λ (n : ℕ). place < n) (waits_length i.wheel.slots i.slots.items) seen in
    let at : slot_at i.slots.items place ≡ Some slot = slot_there i.slots.items place c.index.result.now c.index.result.now within c.index.ensures ∙ c.in-Some.is in
    let before : c.leave_link.new.wheel.slots ≡ i.wheel.slots = ap (λ (v : WheelView Wait). v.slots) e3 ∙ (ap (λ (v : WheelView Wait). v.slots) e2 ∙ ap (λ (v : WheelView Wait). v.slots) e1) in
    let up : Updates i.wheel.slots new.slots slot None = subst (λ (s : Slab Wait). Updates s new.slots slot None) before c.take.ensures.slots in
    let all : held_waits new.slots (slice_set i.slots.items place None) ≡ with_wait (held_waits i.wheel.slots i.slots.items) place None = waits_leave i.wheel.slots new.slots i.slots.items place slot k.slots_held at up within in
    let visits : new.visits ≡ i.wheel.visits = ap (λ (v : WheelView Wait). v.visits) e4 ∙ (ap (λ (v : WheelView Wait). v.visits) e3 ∙ (ap (λ (v : WheelView Wait). v.visits) e2 ∙ ap (λ (v : WheelView Wait). v.visits) e1)) in
    let B : List (Option Wait) → ℕ → SlotsView = λ ws n. record { waits = ws; count = i.count; visits = n; room = i.room } in
    let done : B (held_waits new.slots (slice_set i.slots.items place None)) new.visits ≡ B (with_wait (held_waits i.wheel.slots i.slots.items) place None) i.wheel.visits =
    ap (λ ws. B ws new.visits) all ∙ ap (λ n. B (with_wait (held_waits i.wheel.slots i.slots.items) place None) n) visits in
    rw (← c.self.view_is) done
