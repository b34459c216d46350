use Rattle.std.proofs.Common.{arith, ap, ◌∙◌, ◌≡◌, length, subst, List}
use Rattle.node_machine.specs.Lists.{Take, give_back_to}
use Rattle.standin_book.specs.Approvals.{used_on}
use Rattle.standin_book.specs.Sums.{AreSums}
use Rattle.standin_book.proofs.Lessened.{lessened_whole, placed_lessened}
use Rattle.standin_book.proofs.standin.StandInBook.give_back.Goals as goal

pub invariant_of-self : goal.invariant_of-self
invariant_of-self c =
    let i = c.self.inside in
    let h = c.self.invariant in
    let l : i.takes.len ≡ length i.takes.items = (let e = i.takes.ok.0 in omega (arith, e)) in
    let e : c.lessen_in.new.takes ≡ give_back_to c.args.key c.args.actual i.takes.items = c.lessen_in.ensures.takes ∙ ap (give_back_to c.args.key c.args.actual) c.as_mut_slice.ensures.value in
    let whole = lessened_whole c.lessen_in.new.takes i.takes.items c.args.key c.args.actual i.takes.len e l in
    let S : List Take → Type 0 = λ xs. AreSums used_on xs c.lessen_in.new.sums.amounts.entries in
    rw whole (record {
      placed = placed_lessened i.takes.items c.args.key c.args.actual i.places.places.entries h.placed;
      summed = subst S e c.lessen_in.ensures.sums;
      in_takes = h.in_takes;
      in_places = h.in_places;
      in_sums = (let e = c.lessen_in.ensures.room in let b = h.in_sums in omega (arith, e, b));
    })
