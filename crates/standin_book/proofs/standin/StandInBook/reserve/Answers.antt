use Rattle.std.proofs.Common.{arith}
use Rattle.standin_book.specs.Approvals.{used_on}
use Rattle.standin_book.proofs.Lessened.{placed_again}
use Rattle.standin_book.proofs.Sums.{sums_again}
use Rattle.standin_book.proofs.standin.StandInBook.reserve.Goals as goal

pub invariant_of-self-in_err-reserve-2 : goal.invariant_of-self-in_err-reserve-2
invariant_of-self-in_err-reserve-2 c =
    let i = c.self.invariant in
    let r = c.in_ok-reserve.ensures.ok in
    rw c.reserve.ensures.items (record {
      placed = placed_again c.self.inside.takes.items c.self.inside.places.places.entries c.reserve-2.new.self.places.entries c.reserve-2.ensures.found i.placed;
      summed = i.summed;
      in_takes = omega (arith, r);
      in_places = omega arith;
      in_sums = omega arith;
    })

pub invariant_of-self-in_err-reserve-3 : goal.invariant_of-self-in_err-reserve-3
invariant_of-self-in_err-reserve-3 c =
    let i = c.self.invariant in
    let r = c.in_ok-reserve.ensures.ok in
    rw c.reserve.ensures.items (record {
      placed = placed_again c.self.inside.takes.items c.self.inside.places.places.entries c.reserve-2.new.self.places.entries c.reserve-2.ensures.found i.placed;
      summed = sums_again used_on c.self.inside.takes.items c.self.inside.sums.amounts.entries c.reserve-3.new.self.amounts.entries c.reserve-3.ensures.sums i.summed;
      in_takes = omega (arith, r);
      in_places = omega arith;
      in_sums = omega arith;
    })

pub invariant_of-self-2 : goal.invariant_of-self-2
invariant_of-self-2 c =
    let i = c.self.invariant in
    let r = c.in_ok-reserve.ensures.ok in
    rw c.reserve.ensures.items (record {
      placed = placed_again c.self.inside.takes.items c.self.inside.places.places.entries c.reserve-2.new.self.places.entries c.reserve-2.ensures.found i.placed;
      summed = sums_again used_on c.self.inside.takes.items c.self.inside.sums.amounts.entries c.reserve-3.new.self.amounts.entries c.reserve-3.ensures.sums i.summed;
      in_takes = omega (arith, r);
      in_places = c.in_ok-reserve-2.ensures.room;
      in_sums = c.in_ok-reserve-3.ensures.room;
    })
