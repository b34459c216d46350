use Rattle.std.proofs.Common.{arith, ◌≡◌, ◌∷◌, [], ◌++◌, refl}
use Rattle.std.proofs.lemmas.Grind.{common_steps}
use mathlib.Core.List.{IsPrefix}
use Rattle.rtrb.specs.Ring.{received, known_items}
use Rattle.link_rings.proofs.Popping.{empty_at, takes_at, no_items}
use Rattle.link_rings.proofs.incoming.pop_at.Goals as goal

pub returns-in-Err-clause-popped : goal.returns-in-Err-clause-popped
returns-in-Err-clause-popped c =
    let o = c.index_mut-end.result.now in
    let none : received c.pop.new.self ≡ received o.ring = grind (arith, common_steps) in
    let empty : known_items c.pop.new.self ≡ [] = grind (arith, common_steps) in
    let was : known_items o.ring ≡ [] = no_items (known_items o.ring) (grind (arith, common_steps)) in
    empty_at c.args.ends.now.items c.args.k o (record { link = o.link; ring = c.pop.new.self }) c.requires c.index_mut-end.ensures.value refl none empty was

pub returns-in-Ok-clause-popped : goal.returns-in-Ok-clause-popped
returns-in-Ok-clause-popped c =
    let o = c.index_mut-end.result.now in
    let taken : received c.pop.new.self ≡ received o.ring ++ c.in-Ok.packet ∷ [] = grind (arith, common_steps) in
    let prefix : IsPrefix (known_items o.ring) (c.in-Ok.packet ∷ known_items c.pop.new.self) = c.in-Ok.ensures.ok.1 in
    takes_at c.args.ends.now.items c.args.k o (record { link = o.link; ring = c.pop.new.self }) c.in-Ok.packet c.requires c.index_mut-end.ensures.value refl taken prefix
