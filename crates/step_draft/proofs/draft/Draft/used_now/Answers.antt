use Rattle.entry_changes.specs.Late.{few}
use Rattle.step_draft.proofs.Takings.{used_parts}
use Rattle.step_draft.proofs.draft.Draft.used_now.Goals as goal

pub returns : goal.returns
returns c =
    let quiet = rw (← c.self.view_is) at c.requires.quiet in
    let left = rw (← c.self.view_is) at c.requires.left in
    let day = c.args.day.now in
    record {
      used = λ t n. rw (c.used.ensures.used, c.approved_total-first.ensures.sum, c.first.ensures, c.late_used.ensures.sum, c.as_slice.ensures, c.as_slice-2.ensures, ← c.self.view_is) (used_parts t n few c.self.inside.effects c.self.inside.books.lists day.card day.date quiet left);
    }
