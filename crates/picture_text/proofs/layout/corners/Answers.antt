use Rattle.std.proofs.Common.{◌≡◌, rules, arith}
use Rattle.picture_text.specs.Layout.{corners_in}
use Rattle.picture_text.proofs.Apart.{corner_more, corners_done, all_apart}
use Rattle.picture_text.proofs.layout.corners.Goals as goal

pub loop-place-preserved : goal.loop-place-preserved
loop-place-preserved c =
    corner_more c.args.columns.now c.loop-place.corners.items _ c.loop-place.place c.corner_at-next.result _ c.loop-place-test.true c.corner_at-next.ensures (search rules) c.loop-place.invariant

pub returns-clause-corners : goal.returns-clause-corners
returns-clause-corners c = corners_done c.args.columns.now c.loop-place.corners.items c.loop-place.place _ (omega (arith, c.loop-place-test.false)) c.loop-place.invariant

pub returns-clause-apart : goal.returns-clause-apart
returns-clause-apart c =
    let all : c.loop-place.corners.items ≡ corners_in c.args.columns.now = corners_done c.args.columns.now c.loop-place.corners.items c.loop-place.place _ (omega (arith, c.loop-place-test.false)) c.loop-place.invariant in
    all_apart c.args.columns.now c.loop-place.corners.items all
