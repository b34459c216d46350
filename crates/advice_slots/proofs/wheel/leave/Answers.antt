use Rattle.std.proofs.Common.{◌≡◌, ap, ◌∙◌, map}
use Rattle.chain_links.specs.Lists.{without, unlinked}
use Rattle.advice_slots.proofs.Loose.{left_unarmed, left_loose}
use Rattle.advice_slots.proofs.wheel.leave.Goals as goal

pub take-requires-clause-unarmed : goal.take-requires-clause-unarmed
take-requires-clause-unarmed c =
    let w = c.args.wheel.now in
    let e : c.unlink-2.new.self.waiting ≡ map (without c.args.slot) w.waiting = ap (λ v. v.waiting) c.unlink-2.ensures ∙ (ap (λ v. v.waiting) c.unlink.ensures ∙ ap (λ v. v.waiting) c.disarm.ensures) in
    left_unarmed w c.unlink-2.new.self c.args.slot e

pub take-requires-clause-loose : goal.take-requires-clause-loose
take-requires-clause-loose c =
    let w = c.args.wheel.now in
    let e : c.unlink-2.new.self.card ≡ unlinked w.card c.args.slot = ap (λ v. v.card) c.unlink-2.ensures ∙ (ap (λ v. v.card) c.unlink.ensures ∙ ap (λ v. unlinked v.card c.args.slot) c.disarm.ensures) in
    let f : c.unlink-2.new.self.link ≡ unlinked w.link c.args.slot = ap (λ v. v.link) c.unlink-2.ensures ∙ (ap (λ v. unlinked v.link c.args.slot) c.unlink.ensures ∙ ap (λ v. unlinked v.link c.args.slot) c.disarm.ensures) in
    left_loose w c.unlink-2.new.self c.args.slot e f
