use Rattle.std.proofs.Common.{rules, ◌≡◌, length}
use Rattle.network_picture.specs.Made.{boxes_at}
use Rattle.network_picture.proofs.Corners.{boxes_apart}
use Rattle.network_picture.proofs.made.picture_of.Goals as goal

pub returns-clause-apart : goal.returns-clause-apart
returns-clause-apart c =
    let t = c.args.tables.now in
    let cert = c.args.cert.now in
    let class = c.args.class.now in
    let found = c.args.found.now in
    let cs = c.in_ok-layout.layout.corners.items in
    let same : length t.nodes ≡ length cs = search rules in
    let boxes : c.new.result.boxes ≡ boxes_at t cert class found cs = search rules in
    boxes_apart t cert class found cs c.new.result.boxes same boxes c.in_ok-layout.ensures.apart
