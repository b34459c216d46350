use Rattle.std.proofs.Common.{rules, arith}
use Rattle.network_picture.specs.Made.{link_line}
use Rattle.network_picture.proofs.Places.{place_more, places_done}
use Rattle.network_picture.proofs.nodes.AtClass.links.Goals as goal

pub loop-place-preserved : goal.loop-place-preserved
loop-place-preserved c =
    place_more (link_line c.args.self.now.found.now) c.loop-place.links.items _ c.links-rows.result.now c.loop-place.place c.index-rows-place.result c.link_line-next.result _ c.loop-place-test.true c.index-rows-place.is c.link_line-next.ensures (search rules) c.loop-place.invariant

pub returns : goal.returns
returns c =
    places_done (link_line c.args.self.now.found.now) c.loop-place.links.items c.links-rows.result.now c.loop-place.place _ (omega (arith, c.loop-place-test.false)) c.loop-place.invariant
