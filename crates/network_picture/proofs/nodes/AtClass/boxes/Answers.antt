use Rattle.std.proofs.Common.{rules, ◌≡◌}
use Rattle.std.proofs.lemmas.Result.{IfOk-weaker}
use Rattle.network_picture.specs.Made.{by_place, numbered, node_box}
use Rattle.network_picture.specs.declared.nodes.NumberedNode.{NumberedNode}
use Rattle.network_picture.proofs.Places.{made_of}
use Rattle.network_picture.proofs.nodes.AtClass.boxes.Goals as goal

pub returns : goal.returns
returns c =
    let at = c.args.self.now in
    let placed : c.deref.result.now ≡ by_place numbered 0 at.tables.now.nodes = search rules in
    IfOk-weaker c.boxes_of.result _ _
    (λ v is. made_of numbered (λ (n : NumberedNode). node_box at.tables.now at.cert.now at.class.now at.found.now c.args.corners.now n.node n.row) c.deref.result.now at.tables.now.nodes v.items placed is)
    c.boxes_of.ensures
