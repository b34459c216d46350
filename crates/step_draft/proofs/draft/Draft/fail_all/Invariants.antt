use Rattle.std.proofs.Common.{◌≡◌, drop}
use Rattle.node_machine.specs.Lists.{view}
use Rattle.node_machine.specs.Steps as steps
use Rattle.node_books.specs.Effects.{progress}
use Rattle.step_draft.specs.Failures.{keys_at}
use Rattle.step_draft.specs.Used.{IsQuiet}
use Rattle.step_draft.proofs.draft.Draft.fail_all.Given as goal

abbrev pub invariant-loop-i : goal.invariant-loop-i
invariant-loop-i l = record {
  base : l.self.base ≡ l.initial.self.base;
  quiet : IsQuiet l.initial.self.base (progress l.self).lists;
  rest : steps.fail_all l.tables l.node (view l.tables l.node l.initial.self.base) (keys_at l.initial.self.base.rows (drop l.i l.places.items)) (progress l.self) ≡ steps.fail_all l.tables l.node (view l.tables l.node l.initial.self.base) (keys_at l.initial.self.base.rows l.places.items) (progress l.initial.self);
}
