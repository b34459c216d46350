use Rattle.std.proofs.Common.{rules, arith}
use Rattle.network_picture.specs.Made.{numbered}
use Rattle.network_picture.proofs.Places.{place_more, places_done}
use Rattle.network_picture.proofs.nodes.numbered_nodes.Goals as goal

pub loop-place-preserved : goal.loop-place-preserved
loop-place-preserved c =
    place_more numbered c.loop-place.nodes.items _ c.nodes-rows.result.now c.loop-place.place c.index-rows-place.result c.numbered-next.result _ c.loop-place-test.true c.index-rows-place.is c.numbered-next.ensures (search rules) c.loop-place.invariant

pub returns : goal.returns
returns c = places_done numbered c.loop-place.nodes.items c.nodes-rows.result.now c.loop-place.place _ (omega (arith, c.loop-place-test.false)) c.loop-place.invariant
