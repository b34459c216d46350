use Rattle.std.proofs.Common.{◌<◌, sym, ◌∙◌, length, arith}
use Rattle.rows_in_force.proofs.Chain.{none_of}
use Rattle.rows_in_force.proofs.KnownFronts.{added_own, added_none, slot_few}
use Rattle.rows_in_force.proofs.Within.{front_at, front_set}
use Rattle.rows_in_force.proofs.fronts.Fronts.add.Goals as goal

pub returns-then-has-clause-known : goal.returns-then-has-clause-known
returns-then-has-clause-known g c =
    let some = rw c.digits-len.ensures.digits at c.digits-len.ensures.form.not_short in
    let few = rw c.digits-len.ensures.digits at c.digits-len.ensures.form.not_long in
    let slots = c.requires.fronts.slots_count in
    let places = c.requires.fronts.places_count in
    rw c.digits-len.ensures.digits
    (added_own g.R.Placed.node_of g.R.Placed.prefix_of c.args.rows.now c.args.front.now c.args.self.now.slots.items c.args.self.now.places.items c.index-slot.result.now c.index.result.now c.put.new.places
    some (omega arith) (omega arith) c.requires.known (rw c.digits-len.ensures.digits at c.index-slot.ensures) c.index.ensures c.put.ensures.rows)

pub returns-else-has-clause-known : goal.returns-else-has-clause-known
returns-else-has-clause-known g c =
    let some = rw c.digits-len.ensures.digits at c.digits-len.ensures.form.not_short in
    let few = rw c.digits-len.ensures.digits at c.digits-len.ensures.form.not_long in
    let slots = c.requires.fronts.slots_count in
    let places = c.requires.fronts.places_count in
    rw c.digits-len.ensures.digits
    (added_none g.R.Placed.node_of g.R.Placed.prefix_of c.args.rows.now c.args.front.now c.args.self.now.slots.items c.args.self.now.places.items c.index-slot.result.now
    some (omega arith) (omega arith) c.requires.known (rw c.digits-len.ensures.digits at c.index-slot.ensures) (λ n. none_of g.R.Placed.node_of g.R.Placed.prefix_of c.args.rows.now n c.args.front.now c.args.own.now.last.entries (c.requires.chained.last_of c.args.front.now) (sym c.has.ensures ∙ c.if-has.false)))

pub returns-then-has-clause-within : goal.returns-then-has-clause-within
returns-then-has-clause-within g c =
    let some = rw c.digits-len.ensures.digits at c.digits-len.ensures.form.not_short in
    let few = rw c.digits-len.ensures.digits at c.digits-len.ensures.form.not_long in
    let slots = c.requires.fronts.slots_count in
    let places = c.requires.fronts.places_count in
    let fronts = c.args.self.now.places.items in
    let slot = c.index-slot.result.now in
    let less : slot < length c.args.front.now = slot_few g.R.Placed.node_of g.R.Placed.prefix_of c.args.rows.now c.args.front.now c.args.self.now.slots.items fronts slot
    some (omega arith) c.requires.known (rw c.digits-len.ensures.digits at c.index-slot.ensures) in
    front_set (length c.args.rows.now) fronts _ c.put.new.places c.requires.within
    (c.put.ensures.within (front_at (length c.args.rows.now) fronts slot c.index.result.now c.requires.within (omega arith) c.index.ensures))
