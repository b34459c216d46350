use Rattle.std.proofs.Common.{◌<◌, nat_le, length, ap, ◌∙◌, arith}
use Rattle.named_rows.specs.Masks.{sets_from}
use Rattle.named_rows.specs.Rows.{taken_in}
use Rattle.named_rows.proofs.Masks.{sets_length, counted_at}
use Rattle.named_rows.proofs.node_prefixes.NodePrefixes.is_full.Goals as goal

pub index-requires : goal.index-requires
index-requires c =
    let i = c.self.inside in
    let len = sets_length i.masks.entries 0 i.counts.items in
    let node : c.args.node < length (sets_from i.masks.entries 0 i.counts.items) = rw (← c.self.view_is) at c.requires in
    let place = c.place.ensures.place in
    omega arith

pub returns : goal.returns
unfolding taken_in
returns c =
    let i = c.self.inside in
    let len = sets_length i.masks.entries 0 i.counts.items in
    let node : c.args.node < length (sets_from i.masks.entries 0 i.counts.items) = rw (← c.self.view_is) at c.requires in
    let within : c.args.node < length i.counts.items = omega arith in
    rw (← c.self.view_is) (ap (nat_le 4096) (rw c.place.ensures.place at c.index.ensures ∙ counted_at i.masks.entries i.counts.items c.args.node c.index.result.now c.self.invariant within))
