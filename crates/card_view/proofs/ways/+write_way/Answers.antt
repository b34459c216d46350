use Rattle.std.proofs.Common.{rules, List, ℕ, ◌++◌, ◌-◌, codes, ◌∙◌, sym}
use Rattle.std.proofs.lemmas.Grind.{put_two}
use Rattle.card_view.specs.View.{hops_text, way_text}
use Rattle.card_view.proofs.WayText.{way_goes}
use Rattle.card_view.proofs.ways.+write_way.Goals as goal

pub returns : goal.returns
returns g t c =
    let tables = c.args.tables.now in
    let card = c.args.card.now in
    let hops : List ℕ = hops_text tables c.args.node c.links_of-links.result.now ++ codes ";" in
    let rest : List ℕ = way_text tables card (c.args.left - 1) c.other_end.result in
    λ plain fine. put_two g.W.Write.write_str_gives c.args.f.now c.write.new.self c.write_way.new.f hops rest _ (search rules) (search rules)
    (rw c.other_end.ensures (way_goes tables card c.args.left c.args.node c.in-Some.first.now c.links_of-links.result.now c.if-left-eq0.false (sym c.is_home.ensures ∙ c.if-is_home.false) c.links_of-links.ensures (sym c.in-Some.ensures.value)))
