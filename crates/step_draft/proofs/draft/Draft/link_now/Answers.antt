use Rattle.std.proofs.Common.{◌≡◌, ◌<◌, length, get_or, refl, ap, ◌∙◌, arith}
use Rattle.step_draft.proofs.Drafts.{link_found}
use Rattle.step_draft.proofs.draft.Draft.link_now.Goals as goal

pub returns-clause-state : goal.returns-clause-state
returns-clause-state c =
    let h = rw (c.is_up.ensures, c.serial.ensures.serial) at c.link_after.ensures.state in
    let less : c.args.link < length c.self.inside.books.lists.links = omega (arith, ap length c.links-links.ensures.links, c.place-place.ensures) in
    let found : c.index-links-place.result ≡ get_or c.self.inside.books.lists.links c.args.link c.index-links-place.result = rw (c.links-links.ensures.links, c.place-place.ensures) at c.index-links-place.is in
    rw (← c.self.view_is) (h ∙ link_found c.self.inside.effects c.self.inside.books.lists c.args.link c.index-links-place.result c.index-links-place.result less found refl)
