use Rattle.std.proofs.Common.{◌≡◌, suc, filter}
use Rattle.std.specs.Vec.Iter.{into_iter_items}
use Rattle.node_machine.specs.Machine as machine
use Rattle.node_machine.specs.Steps as steps
use Rattle.node_books.specs.Effects.{progress}
use Rattle.step_draft.specs.Used.{IsQuiet}
use Rattle.step_draft.proofs.draft.Draft.send_all.Given as goal

abbrev pub invariant-loop-item : goal.invariant-loop-item
invariant-loop-item l = record {
  base : l.self.base ≡ l.fn.self.base;
  quiet : IsQuiet l.fn.self.base (progress l.self).lists;
  rest : steps.send_all l.tables l.node (into_iter_items l.item-iterator) (progress l.self) ≡ steps.send_all l.tables l.node (filter (machine.is_due l.tables.settings.advice_ticks (suc l.fn.self.base.count)) l.fn.self.base.store) (progress l.fn.self);
}
