use Rattle.std.proofs.Common.{◌≡◌, ◌++◌, drop}
use Rattle.iso_message.specs.Made.{kept}
use Rattle.iso_message.specs.Carried.{carried_numbers}
use Rattle.iso_message.specs.Spans.{seen, AreWithin, IsCopied}
use Rattle.iso_message.proofs.elements.copy_kept.Given as goal

abbrev pub invariant-loop-place : goal.invariant-loop-place
invariant-loop-place l = record {
  later : AreWithin l.values (drop l.place l.spans);
  copied : IsCopied l.values l.copies.items l.run;
  within : AreWithin l.copies.items l.kept_spans.items;
  so_far : seen l.copies.items l.kept_spans.items ++ kept (carried_numbers l.carried) (seen l.values (drop l.place l.spans)) ≡ kept (carried_numbers l.carried) (seen l.values l.spans);
}
