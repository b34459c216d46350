use Rattle.std.proofs.Common.{arith, length, is_some, ap, sym, ◌≡◌}
use Rattle.slab.specs.Slab.{slab_len}
use Rattle.std.specs.List.{count_by}
use Rattle.slot_chains.proofs.Held.{kept_wider}
use Rattle.slot_chains.proofs.Chains.room.Goals as goal

pub invariant_of-self-in_err-widen : goal.invariant_of-self-in_err-widen
invariant_of-self-in_err-widen g c =
    let k = c.self.invariant in
    let w = c.widen.ensures in
    let fewer = w.fewer in
    let b = k.sound.buckets in
    let d = k.sound.cards in
    let l = k.sound.links in
    let count : c.held_count-self-inside.result ≡ slab_len c.self.inside.slots = rw (← c.self.view_is) at c.held_count-self-inside.ensures in
    kept_wider c.self.inside.slots c.self.inside.capacity c.self.inside.limit c.self.inside.bucket c.self.inside.card c.self.inside.link c.self.invariant c.reserve.new.self c.held_count-self-inside.result c.self.inside.limit c.widen.new.bucket c.widen.new.card c.widen.new.link (ap (λ s. s.slots) c.reserve.ensures.rest_kept) w.buckets w.cards w.links (omega (arith, fewer.0, b)) (omega (arith, fewer.1, d)) (omega (arith, fewer.2, l)) k.within (omega (arith, count)) (omega (arith, count, k.fits, k.few)) k.small (λ lt. absurd (omega (arith, count, lt)))

pub invariant_of-self-2 : goal.invariant_of-self-2
invariant_of-self-2 g c =
    let k = c.self.invariant in
    let w = c.widen.ensures in
    let at : c.capacity-all.result ≡ c.reserve.new.self.capacity = c.capacity-all.ensures.value in
    let same = ap (λ s. s.slots) c.reserve.ensures.rest_kept in
    let enough = c.in_ok-widen.ensures.enough in
    kept_wider c.self.inside.slots c.self.inside.capacity c.self.inside.limit c.self.inside.bucket c.self.inside.card c.self.inside.link c.self.invariant c.reserve.new.self c.capacity-all.result c.capacity-all.result c.widen.new.bucket c.widen.new.card c.widen.new.link same w.buckets w.cards w.links enough.0 enough.1 enough.2 (omega (arith, at, c.capacity-all.ensures.slots, c.capacity-all.ensures.value, ap length same)) (omega (arith, at, c.capacity-all.ensures.holds_all, c.capacity-all.ensures.value, ap (λ xs. count_by is_some xs) same)) (omega arith) (let most = c.if-all-gt-MOST.false in omega (arith, most)) (λ lt. sym at)
