use Rattle.std.proofs.Common.{rules, ◌≡◌, Option, ℕ, Some, None, true, false, length, option_and_then, ap, sym, ◌∙◌, subst}
use Rattle.slab.specs.Slab.{get}
use Rattle.advice_slots.specs.Kept.{IsLooked, items_in, order, wants, wants_at}
use Rattle.advice_slots.proofs.Looking.{looked_all, looked_end, looked_here, looked_oldest, looked_step, none_found}
use Rattle.advice_slots.proofs.wheel.find_in.Goals as goal

pub returns-then-is_wanted-clause-found : goal.returns-then-is_wanted-clause-found
returns-then-is_wanted-clause-found c =
    let w = c.args.wheel.now in
    let slot = c.in_ok-slot.slot in
    let at : c.loop.cursor ≡ Some slot = search rules in
    let yes : wants_at c.args.wanted (get w.slots slot) ≡ true = search rules in
    looked_here c.args.wanted w.slots (order w) c.loop.counter slot (subst (λ (o : Option ℕ). IsLooked c.args.wanted w.slots (order w) c.loop.counter o) at c.loop.invariant) yes

pub loop-preserved : goal.loop-preserved
loop-preserved c =
    let w = c.args.wheel.now in
    let slot = c.in_ok-slot.slot in
    let at : c.loop.cursor ≡ Some slot = search rules in
    let no : wants_at c.args.wanted (get w.slots slot) ≡ false = search rules in
    looked_step c.args.wanted w.slots (order w) c.loop.counter slot c.next-cursor.result (subst (λ (o : Option ℕ). IsLooked c.args.wanted w.slots (order w) c.loop.counter o) at c.loop.invariant) no (λ ls rs e. c.next-cursor.ensures.after 0 ls rs e)

pub returns-then-is_wanted-clause-oldest : goal.returns-then-is_wanted-clause-oldest
returns-then-is_wanted-clause-oldest c =
    let w = c.args.wheel.now in
    let slot = c.in_ok-slot.slot in
    let at : c.loop.cursor ≡ Some slot = search rules in
    let yes : wants_at c.args.wanted (get w.slots slot) ≡ true = search rules in
    looked_oldest c.args.wanted w.slots (order w) c.loop.counter slot (subst (λ (o : Option ℕ). IsLooked c.args.wanted w.slots (order w) c.loop.counter o) at c.loop.invariant) yes

pub returns-in_err-slot-clause-oldest : goal.returns-in_err-slot-clause-oldest
returns-in_err-slot-clause-oldest c =
    let w = c.args.wheel.now in
    let at : c.loop.cursor ≡ None = search rules in
    let gone : c.from_residual.result ≡ None = search rules in
    ap (λ (o : Option ℕ). option_and_then (get w.slots) o) gone
    ∙ sym (none_found (wants c.args.wanted) (items_in w.slots (order w)) (looked_end c.args.wanted w.slots (order w) c.loop.counter c.loop.cursor c.loop.invariant at))

pub returns-clause-oldest : goal.returns-clause-oldest
returns-clause-oldest c =
    let w = c.args.wheel.now in
    let all : c.loop.counter ≡ length (order w) = search rules in
    sym (none_found (wants c.args.wanted) (items_in w.slots (order w)) (looked_all c.args.wanted w.slots (order w) c.loop.counter c.loop.cursor c.loop.invariant all))
