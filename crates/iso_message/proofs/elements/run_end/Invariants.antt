use Rattle.std.proofs.Common.{◌≤◌, length, drop}
use Rattle.iso_message.specs.Spans.{end_of, AreWithin}
use Rattle.iso_message.proofs.elements.run_end.Given as goal

abbrev pub invariant-loop-i : goal.invariant-loop-i
invariant-loop-i l = record {
  end : end_of l.fn.first ≤ l.end;
  inside : l.end ≤ length l.values;
  later : AreWithin l.values (drop l.i l.spans);
}
