use Rattle.std.proofs.Common.{ap, ◌∙◌, append-nil}
use Rattle.chain_links.specs.Lists.{LinksView, with_heads}
use Rattle.tick_wheel.proofs.Wheel.new.Goals as goal

pub returns-clause-waiting : goal.returns-clause-waiting
returns-clause-waiting g c =
    append-nil c.grow_heads.new.self.bucket.lists
    ∙ (ap (λ v. v.bucket.lists) c.in_ok-grow_heads.ensures.ok
    ∙ ap (λ (l : LinksView). (with_heads l 4096).lists) c.new-chains.ensures.lists.0)
