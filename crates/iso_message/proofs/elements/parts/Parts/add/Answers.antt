use Rattle.std.proofs.Common.{◌≡◌, ◌++◌, ◌∷◌, [], length, ◌-◌, take, arith, rules, ap, refl, ◌∙◌}
use Rattle.iso_message.specs.Spans.{span_at, text_of, seen}
use Rattle.iso_message.specs.Parts.{Body}
use Rattle.iso_message.proofs.PartLemmas.{within_part, seen_part, added}
use Rattle.iso_message.proofs.elements.parts.Parts.add.Goals as goal

pub invariant_of-self-2 : goal.invariant_of-self-2
invariant_of-self-2 c =
    let k = c.self.inside.size in
    let s = span_at c.args.number (k - length c.args.bytes.now) (length c.args.bytes.now - length c.args.rest.now - length c.args.content.now) (length c.args.content.now) in
    let text : text_of s ≡ k - length c.args.bytes.now = omega arith in
    let spans : c.push.new.self.items ≡ c.self.inside.spans.items ++ s ∷ [] = search rules in
    (c.self.invariant.0, rw spans (within_part c.self.inside.values.items c.self.inside.spans.items s k c.args.self.now.body c.args.bytes.now c.args.content.now c.args.rest.now c.self.invariant.0 (ap (λ (b : Body). b.body) c.self.view_is) c.requires.end c.requires.part text refl refl c.self.invariant.1))

pub returns : goal.returns
returns c =
    let k = c.self.inside.size in
    let s = span_at c.args.number (k - length c.args.bytes.now) (length c.args.bytes.now - length c.args.rest.now - length c.args.content.now) (length c.args.content.now) in
    let text : text_of s ≡ k - length c.args.bytes.now = omega arith in
    let spans : c.push.new.self.items ≡ c.self.inside.spans.items ++ s ∷ [] = search rules in
    let body = ap (λ (b : Body). b.body) c.self.view_is in
    let shown : seen c.self.inside.values.items (c.self.inside.spans.items ++ s ∷ []) ≡ seen c.self.inside.values.items c.self.inside.spans.items ++ (c.args.number, c.args.content.now) ∷ [] =
    seen_part c.self.inside.values.items c.self.inside.spans.items s k c.args.self.now.body c.args.bytes.now c.args.content.now c.args.rest.now c.self.invariant.0 body c.requires.end c.requires.part text refl refl in
    added c.self.inside.values.items (take k c.self.inside.values.items) c.self.inside.spans.items c.push.new.self.items c.args.self.now c.args.number c.args.content.now body (ap (λ (b : Body). b.elements) c.self.view_is) (ap (seen c.self.inside.values.items) spans ∙ shown)
