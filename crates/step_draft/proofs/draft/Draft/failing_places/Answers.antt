use Rattle.std.proofs.Common.{ap}
use Rattle.node_books.specs.Effects.{Drafted}
use Rattle.pending_book.proofs.Found.{if_same}
use Rattle.step_draft.proofs.FailingPlaces.{over_same}
use Rattle.step_draft.proofs.draft.Draft.failing_places.Goals as goal

pub returns-in-Tick : goal.returns-in-Tick
returns-in-Tick c =
    let t = c.args.tables.now in
    let x = c.args.self.now.base in
    let y = c.self.inside.books.lists in
    rw c.in-Tick.is (record { exact = if_same (λ v. v.items) c.over.result (over_same t c.links.result.now c.settings.result.now.host_ticks x y c.links.ensures.links (ap (λ s. s.host_ticks) c.settings.ensures) (ap (λ (d : Drafted). d.base) c.self.view_is)) c.over.ensures.exact })
