use Rattle.std.proofs.Common.{arith, sym, ◌∙◌}
use Rattle.chain_links.proofs.Seen.{heads_seen}
use Rattle.chain_links.proofs.Links.head_count.Goals as goal

pub returns : goal.returns
returns c = let i = c.self.inside.rows in let ok = i.heads.ok in omega (arith, heads_seen i.slots.items i.heads.items c.args.self.now c.self.view_is, c.len.ensures)
