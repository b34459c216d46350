use Rattle.message_steps.proofs.Few.{date_refused}
use Rattle.message_steps.proofs.incoming.prepare.Goals as goal

pub unreachable-requires : goal.unreachable-requires
unreachable-requires c =
    let refused = rw c.date_text-text.ensures.text at c.in-Err.ensures.fault in
    c.in_default.not-Memory (date_refused c.date.result c.in-Err.fault c.date_text-text.ensures.form refused)
