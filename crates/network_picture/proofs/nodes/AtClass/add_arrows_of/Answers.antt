use Rattle.std.proofs.Common.{rules, arith}
use Rattle.network_picture.specs.Made.{arrow}
use Rattle.network_picture.proofs.Places.{place_more, places_done, arrows_start}
use Rattle.network_picture.proofs.nodes.AtClass.add_arrows_of.Goals as goal

pub loop-place-preserved : goal.loop-place-preserved
loop-place-preserved c =
    place_more (arrow c.args.self.now.tables.now c.has_route-is_refused.result c.args.node) c.loop-place.arrows.items _ c.as_slice-links.result.now c.loop-place.place c.index-links-place.result c.arrow-next.result _ c.loop-place-test.true c.index-links-place.is c.arrow-next.ensures (search rules) c.loop-place.invariant

pub loop-place-init : goal.loop-place-init
loop-place-init c = arrows_start c.args.self.now.tables.now _ _ c.args.node _ _ _ c.has_route-is_refused.ensures c.as_slice-links.ensures

pub returns : goal.returns
returns c =
    places_done (arrow c.args.self.now.tables.now c.has_route-is_refused.result c.args.node) c.loop-place.arrows.items c.as_slice-links.result.now c.loop-place.place _ (omega (arith, c.loop-place-test.false)) c.loop-place.invariant
