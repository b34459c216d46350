use Rattle.std.proofs.Common.{ap, sym, ◌∙◌}
use Rattle.node_machine.specs.Lists.{Lists, of_key}
use Rattle.node_books.specs.Effects.{progress}
use Rattle.pending_book.specs.Rows.{source_of}
use Rattle.step_draft.proofs.SoFar.{found_key}
use Rattle.message_steps.proofs.Parts.{both_ok}
use Rattle.message_steps.proofs.Requested.{repeat_steps}
use Rattle.message_steps.proofs.requests.on_repeat.Goals as goal

pub repeat-requires-clause-key : goal.repeat-requires-clause-key
repeat-requires-clause-key c = c.key-own.ensures.key ∙ (found_key c.args.key c.books.result.now.lists.rows c.in-Some.row.now (sym c.in-Some.ensures) ∙ c.requires.key.key_is)

pub returns-clause-ok : goal.returns-clause-ok
returns-clause-ok c =
    let t = c.args.tables.now in
    let n = c.args.node in
    let x = c.args.draft.now.base in
    let found = c.in-Some.ensures ∙ ap (λ (y : Lists). of_key c.args.key y.rows) c.books.ensures in
    both_ok c.repeat.result (λ e f. repeat_steps t n x c.args.m.now (source_of c.args.source) c.args.key c.in-Some.row.now c.in_ok-same.same c.in_ok-answer.answer (progress c.args.draft.now) (progress c.repeat.new.draft) c.requires.key.key_is found c.in_ok-same.ensures c.in_ok-answer.ensures.answer (e t n) (f t n)) c.repeat.ensures.same c.repeat.ensures.other
