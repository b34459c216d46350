use Rattle.std.proofs.Common.{◌≡◌, ◌++◌, take, drop, map}
use Rattle.crowded_map.specs.Values.{spare}
use Rattle.standin_book.specs.Approvals.{lessened, used_on}
use Rattle.standin_book.specs.Sums.{AreSums}
use Rattle.standin_book.proofs.standin.lessen_all.Given as goal

abbrev pub invariant-loop-i : goal.invariant-loop-i
invariant-loop-i l = record {
  takes : l.takes ≡ map (lessened l.key l.actual) (take l.i l.fn.takes) ++ drop l.i l.fn.takes;
  sums : AreSums used_on l.takes l.sums.amounts.entries;
  room : spare l.sums.amounts ≡ spare l.fn.sums.amounts;
}
