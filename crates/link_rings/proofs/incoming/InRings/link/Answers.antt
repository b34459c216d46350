use Rattle.std.proofs.Common.{ap, ◌∙◌, sym, slice_get, length, ◌<◌, arith}
use Rattle.std.proofs.lemmas.List.{length-map}
use Rattle.link_rings.specs.Rings.{links_in}
use Rattle.link_rings.specs.Ends.{in_view}
use Rattle.link_rings.proofs.Popping.{link_at}
use Rattle.link_rings.proofs.incoming.InRings.link.Goals as goal

pub returns : goal.returns
returns c =
    let within : c.args.k < length c.self.inside.ends.items = omega (arith, length-map c.self.inside.ends.items in_view, ap length c.self.view_is, c.requires) in
    ap (λ v. slice_get (links_in v) c.args.k) (sym c.self.view_is) ∙ link_at c.self.inside.ends.items c.args.k c.index.result.now within c.index.ensures
