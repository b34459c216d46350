use Rattle.std.proofs.Common.{◌≡◌, drop}
use Rattle.rank_rows.specs.Marks.{place_of, place_from}
use Rattle.rank_rows.proofs.marks.place_of.Given as goal

abbrev pub invariant-loop-byte : goal.invariant-loop-byte
invariant-loop-byte l = place_from l.place (drop l.byte-index l.name) ≡ place_of l.name
