use Rattle.std.proofs.Common.{sym, ◌∙◌}
use Rattle.std.proofs.lemmas.Bool.{le-leb}
use Rattle.message_bytes.proofs.KnownLemmas.{front_known}
use Rattle.message_bytes.proofs.runs.Known.is_front.Goals as goal

pub returns-then-left-after-clause-value : goal.returns-then-left-after-clause-value
returns-then-left-after-clause-value c =
    let le = c.if-left-after.true in
    le-leb _ _ le ∙ sym (front_known c.args.class c.left-left.result c.args.size c.args.bytes.now c.requires.size le c.left-left.ensures.value)
