use Rattle.std.proofs.Common.{arith}
use Rattle.standin_book.specs.Lending.{lent_on, borrowed_on}
use Rattle.standin_book.proofs.Sums.{sums_again}
use Rattle.standin_book.proofs.Taken.{numbered_again}
use Rattle.standin_book.proofs.lending.LendingBook.reserve.Goals as goal

pub invariant_of-self-in_err-reserve-5 : goal.invariant_of-self-in_err-reserve-5
invariant_of-self-in_err-reserve-5 c =
    let i = c.self.inside in
    let h = c.self.invariant.0 in
    let a = c.in_ok-reserve.ensures.ok in
    let b = c.in_ok-reserve-2.ensures.ok in
    rw (c.reserve.ensures.items, c.reserve-2.ensures.items) (
      record {
        lent_sums = sums_again lent_on i.loans.items i.lent_sums.amounts.entries c.reserve-3.new.self.amounts.entries c.reserve-3.ensures.sums h.lent_sums;
        owed_sums = sums_again borrowed_on i.borrowed.items i.borrowed_sums.amounts.entries c.reserve-4.new.self.amounts.entries c.reserve-4.ensures.sums h.owed_sums;
        numbered = numbered_again i.taken.keys c.reserve-5.new.self.keys i.borrowed.items c.reserve-5.ensures.keys h.numbered;
      },
      record {
        in_loans = omega (arith, a);
        in_borrowed = omega (arith, b);
        in_lent = omega arith;
        in_owed = omega arith;
        in_numbers = omega arith;
      },
    )

pub invariant_of-self-2 : goal.invariant_of-self-2
invariant_of-self-2 c =
    let i = c.self.inside in
    let h = c.self.invariant.0 in
    let a = c.in_ok-reserve.ensures.ok in
    let b = c.in_ok-reserve-2.ensures.ok in
    rw (c.reserve.ensures.items, c.reserve-2.ensures.items) (
      record {
        lent_sums = sums_again lent_on i.loans.items i.lent_sums.amounts.entries c.reserve-3.new.self.amounts.entries c.reserve-3.ensures.sums h.lent_sums;
        owed_sums = sums_again borrowed_on i.borrowed.items i.borrowed_sums.amounts.entries c.reserve-4.new.self.amounts.entries c.reserve-4.ensures.sums h.owed_sums;
        numbered = numbered_again i.taken.keys c.reserve-5.new.self.keys i.borrowed.items c.reserve-5.ensures.keys h.numbered;
      },
      record {
        in_loans = omega (arith, a);
        in_borrowed = omega (arith, b);
        in_lent = c.in_ok-reserve-3.ensures.room;
        in_owed = c.in_ok-reserve-4.ensures.room;
        in_numbers = c.in_ok-reserve-5.ensures.room;
      },
    )
