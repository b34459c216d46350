use Rattle.std.proofs.Common.{◌≡◌, ◌∙◌, ap, subst, get_or}
use Rattle.node_machine.specs.Lists.{Lists}
use Rattle.node_books.specs.Effects.{Drafted, progress}
use Rattle.pending_book.specs.Rows.{IsUnique, source_of}
use Rattle.step_draft.proofs.Parts.{fails_at}
use Rattle.step_draft.proofs.draft.Draft.fail_at.Goals as goal

pub returns-clause-ok : goal.returns-clause-ok
returns-clause-ok c =
    let t = c.args.tables.now in
    let x = c.args.self.now.base in
    let r = c.index-rows-place.result in
    let same : c.self.inside.books.lists ≡ x = ap (λ (d : Drafted). d.base) c.self.view_is in
    let rows : c.rows.result.now ≡ x.rows = c.rows.ensures.rows ∙ ap (λ (z : Lists). z.rows) same in
    let is : r ≡ get_or x.rows c.args.place r = c.index-rows-place.is ∙ ap (λ rs. get_or rs c.args.place r) rows in
    fails_at t c.args.node x c.args.place r c.in_ok-request.request (source_of c.source-source.result) (progress c.args.self.now) (progress c.fail_request.new.self) c.fail_request.result (subst (λ (z : Lists). IsUnique z.rows) same c.rows.ensures.unique) c.requires.place is (c.in_ok-request.ensures ∙ c.message.ensures) c.source-source.ensures c.fail_request.ensures.ok
