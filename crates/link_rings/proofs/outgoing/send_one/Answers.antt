use Rattle.std.proofs.Common.{rules, arith, ◌≡◌, ◌⊎◌, ◌∷◌, [], ◌++◌, refl}
use Rattle.std.proofs.lemmas.Grind.{common_steps}
use Rattle.rtrb.specs.Ring.{sent}
use Rattle.link_rings.proofs.Parts.{sends_same, sends_at, sends_put}
use Rattle.link_rings.proofs.outgoing.send_one.Goals as goal

pub returns-in-Some : goal.returns-in-Some
returns-in-Some c =
    let o = c.index_mut-end.result.now in
    let went : (sent c.push.new.self ≡ sent o.ring) ⊎ (sent c.push.new.self ≡ sent o.ring ++ c.args.packet ∷ []) = grind (arith, common_steps) in
    sends_at
    _
    c.args.ends.now.items
    c.in-Some.k
    o
    (record { link = o.link; ring = c.push.new.self })
    (search rules)
    c.index_mut-end.ensures.value
    (sends_put c.args.link c.args.packet _ _ (grind (arith, common_steps)) refl went)

pub returns-in_default : goal.returns-in_default
returns-in_default c = sends_same _ _
