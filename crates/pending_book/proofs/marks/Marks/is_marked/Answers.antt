use Rattle.std.proofs.Common.{◌∙◌}
use Rattle.pending_book.proofs.marks.Marks.is_marked.Goals as goal

pub returns-then-not-is_empty : goal.returns-then-not-is_empty
returns-then-not-is_empty c = rw (← c.self.view_is) (c.contains_key.ensures ∙ c.self.invariant.0.marked c.args.key)
