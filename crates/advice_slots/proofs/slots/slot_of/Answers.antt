use Rattle.std.proofs.Common.{rules, ◌≡◌, ℕ, Option, Some, None, true, false, option_and_then, ap, sym, ◌∙◌}
use Rattle.slab.specs.Slab.{get}
use Rattle.advice_slots.specs.Kept.{items_of, wants, wants_at}
use Rattle.advice_slots.proofs.Items.{none_placed, one_placed, other_placed}
use Rattle.advice_slots.proofs.Looking.{none_found}
use Rattle.advice_slots.proofs.Changed.{found_if, slot_found}
use Rattle.advice_slots.proofs.slots.slot_of.Goals as goal

pub returns-then-several-clause-found : goal.returns-then-several-clause-found
returns-then-several-clause-found c = found_if c.args.wanted c.args.held.now c.find.result c.find.ensures.found

pub returns-in_err-slot-clause-none : goal.returns-in_err-slot-clause-none
returns-in_err-slot-clause-none c =
    let v = c.args.held.now in
    let a = c.requires c.if-several.false in
    let none : c.find-2.result ≡ None = search rules in
    let e = rw c.name.ensures at c.find-2.ensures in
    λ same. none_placed v c.args.places.now.slots.entries a c.args.wanted (sym e ∙ none)

pub returns-in_err-slot-clause-oldest : goal.returns-in_err-slot-clause-oldest
returns-in_err-slot-clause-oldest c =
    let v = c.args.held.now in
    let a = c.requires c.if-several.false in
    let none : c.find-2.result ≡ None = search rules in
    let e = rw c.name.ensures at c.find-2.ensures in
    let gone : c.from_residual.result ≡ None = search rules in
    ap (λ (o : Option ℕ). option_and_then (get v.slots) o) gone
    ∙ sym (none_found (wants c.args.wanted) (items_of v) (none_placed v c.args.places.now.slots.entries a c.args.wanted (sym e ∙ none)))

pub returns-then-is_wanted-clause-found : goal.returns-then-is_wanted-clause-found
returns-then-is_wanted-clause-found c =
    let v = c.args.held.now in
    let a = c.requires c.if-several.false in
    let some : c.find-2.result ≡ Some c.in_ok-slot.slot = search rules in
    let e = rw c.name.ensures at c.find-2.ensures in
    let yes : wants_at c.args.wanted (get v.slots c.in_ok-slot.slot) ≡ true = search rules in
    one_placed v c.args.places.now.slots.entries a c.args.wanted c.in_ok-slot.slot (sym e ∙ some) yes

pub returns-then-is_wanted-clause-oldest : goal.returns-then-is_wanted-clause-oldest
returns-then-is_wanted-clause-oldest c =
    let v = c.args.held.now in
    let a = c.requires c.if-several.false in
    let some : c.find-2.result ≡ Some c.in_ok-slot.slot = search rules in
    let e = rw c.name.ensures at c.find-2.ensures in
    let yes : wants_at c.args.wanted (get v.slots c.in_ok-slot.slot) ≡ true = search rules in
    slot_found v c.args.places.now.slots.entries a c.args.wanted c.in_ok-slot.slot (sym e ∙ some) yes

pub returns-else-is_wanted-clause-none : goal.returns-else-is_wanted-clause-none
returns-else-is_wanted-clause-none c =
    let v = c.args.held.now in
    let a = c.requires c.if-several.false in
    let some : c.find-2.result ≡ Some c.in_ok-slot.slot = search rules in
    let e = rw c.name.ensures at c.find-2.ensures in
    let no : wants_at c.args.wanted (get v.slots c.in_ok-slot.slot) ≡ false = search rules in
    λ same. other_placed v c.args.places.now.slots.entries a c.args.wanted c.in_ok-slot.slot (sym e ∙ some) no

pub returns-else-is_wanted-clause-oldest : goal.returns-else-is_wanted-clause-oldest
returns-else-is_wanted-clause-oldest c =
    let v = c.args.held.now in
    let a = c.requires c.if-several.false in
    let some : c.find-2.result ≡ Some c.in_ok-slot.slot = search rules in
    let e = rw c.name.ensures at c.find-2.ensures in
    let no : wants_at c.args.wanted (get v.slots c.in_ok-slot.slot) ≡ false = search rules in
    sym (none_found (wants c.args.wanted) (items_of v) (other_placed v c.args.places.now.slots.entries a c.args.wanted c.in_ok-slot.slot (sym e ∙ some) no))
