use Rattle.std.proofs.Common.{◌≡◌, ◌==◌, ◌∙◌, false, length, sym, arith}
use Rattle.std.proofs.lemmas.Grind.{common_steps}
use Rattle.net_tables.proofs.PlainRows.{links_next}
use Rattle.net_tables.proofs.plain.plain_links.Goals as goal

pub returns-clause-field : goal.returns-clause-field
returns-clause-field c =
    let some : (length c.in_ok-found.found == 0) ≡ false = grind (arith, common_steps) in
    links_next c.args.links.now c.args.node c.in_ok-found.found c.args.text.now c.in_ok-found.rest.now c.in_ok-found.ensures.named some c.in_ok-found.ensures.few (sym c.are_own.ensures ∙ c.if-not-are_own.false)
