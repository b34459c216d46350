use Rattle.link_rings.proofs.Popping.{looks_at}
use Rattle.std.proofs.Common.{refl}
use Rattle.link_rings.proofs.incoming.has_at.Goals as goal

pub returns-clause-looked : goal.returns-clause-looked
returns-clause-looked c =
    let o = c.index_mut-end.result.now in
    looks_at c.args.ends.now.items c.args.k o (record { link = o.link; ring = c.is_empty.new.self }) c.is_empty.result c.requires c.index_mut-end.ensures.value refl c.is_empty.ensures.looked.1 c.is_empty.ensures.looked.2 c.is_empty.ensures.value
