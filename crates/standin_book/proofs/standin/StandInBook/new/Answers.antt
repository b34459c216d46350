use Rattle.std.proofs.Common.{arith, refl}
use Rattle.standin_book.specs.Approvals.{used_on}
use Rattle.standin_book.proofs.Sums.{no_sums}
use Rattle.standin_book.proofs.standin.StandInBook.new.Goals as goal

pub invariant_of-result : goal.invariant_of-result
invariant_of-result c =
    let items = c.new.ensures.items in
    let len = c.new.ensures.len in
    rw items (record {
      placed = λ k. rw (c.new-2.ensures k) (λ i. refl);
      summed = no_sums used_on c.new-3.result.amounts.entries c.new-3.ensures;
      in_takes = omega (arith, len);
      in_places = omega arith;
      in_sums = omega arith;
    })
