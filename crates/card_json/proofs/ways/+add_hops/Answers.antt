use Rattle.std.proofs.Common.{rules, ◌≡◌, ◌≢◌, ◌∙◌, ℕ, ◌-◌, false, List, [], ◌∷◌, ◌++◌, map, Some, ap}
use Rattle.std.specs.Prelude.{slice_get}
use Rattle.std.proofs.lemmas.Result.{on_ok_weaker}
use Rattle.net_rows.specs.Network.{issuer, route, other_end}
use Rattle.serde_json.specs.Data.{Data}
use Rattle.serde_json.specs.View.{view}
use Rattle.card_view.specs.View.{is_home, links_of}
use Rattle.card_json.specs.CardJson.{hop_data, way_hops}
use Rattle.card_json.proofs.Hops.{hops_go}
use Rattle.card_json.proofs.Values.{pushed_view}
use Rattle.card_json.proofs.ways.+add_hops.Goals as goal

pub returns-clause-hops : goal.returns-clause-hops
returns-clause-hops measure c =
    let t = c.args.tables.now in
    let card = c.args.card.now in
    let links = c.links_of-links.result.now in
    let first = c.in-Some.first.now in
    let before = map view c.args.hops.now.items in
    let hop = hop_data t c.args.node links in
    let items : c.push.new.self.items ≡ c.args.hops.now.items ++ c.in_ok-hop.hop ∷ [] = search rules in
    let pushed = pushed_view c.args.hops.now.items c.push.new.self.items c.in_ok-hop.hop hop items c.in_ok-hop.ensures in
    let some : c.args.left ≢ 0 = search rules in
    let away : is_home (issuer t card) c.args.node ≡ false = search rules in
    let is : links ≡ links_of (route t c.args.node card) = search rules in
    let at : slice_get links 0 ≡ Some first = search rules in
    let far : c.other_end.result ≡ other_end t c.args.node first = search rules in
    let go = hops_go t card c.args.left c.args.node first links before some away is at in
    on_ok_weaker c.add_hops.result
    (λ more.
    more
    ∙ ap (λ (ds : List Data). ds ++ way_hops t card (c.args.left - 1) c.other_end.result) pushed
    ∙ ap (λ (n : ℕ). (before ++ hop ∷ []) ++ way_hops t card (c.args.left - 1) n) far
    ∙ go)
    c.add_hops.ensures.hops
