use Rattle.step_draft.proofs.draft.Draft.reply_kept.Goals as goal

pub returns-in-Some-clause-ok : goal.returns-in-Some-clause-ok
returns-in-Some-clause-ok c = rw c.in-Some.is c.put_kept.ensures.ok
