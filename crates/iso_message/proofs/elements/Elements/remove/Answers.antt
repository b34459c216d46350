use Rattle.std.proofs.Common.{◌≡◌, rules, filter, not, eqb, ap, ◌∙◌}
use Rattle.std.proofs.lemmas.Fn.{filter_same}
use Rattle.iso_message.specs.declared.elements.Span.{Span}
use Rattle.iso_message.specs.Spans.{seen}
use Rattle.iso_message.specs.Finding.{without}
use Rattle.iso_message.proofs.MessageLemmas.{within_kept, seen_without}
use Rattle.iso_message.proofs.elements.Elements.remove.Goals as goal

pub invariant_of-self : goal.invariant_of-self
invariant_of-self c =
    let e : c.retain.new.self.items ≡ filter (λ (s : Span). not (eqb s.number c.args.number)) c.self.inside.spans.items = filter_same _ _ _ (λ x b f' k. search rules) _ _ c.retain.ensures.filtered in
    rw e (within_kept (λ (s : Span). not (eqb s.number c.args.number)) c.self.inside.values.items c.self.inside.spans.items c.self.invariant)

pub returns : goal.returns
returns c =
    let e : c.retain.new.self.items ≡ filter (λ (s : Span). not (eqb s.number c.args.number)) c.self.inside.spans.items = filter_same _ _ _ (λ x b f' k. search rules) _ _ c.retain.ensures.filtered in
    ap (seen c.self.inside.values.items) e ∙ seen_without c.args.number c.self.inside.values.items c.self.inside.spans.items ∙ ap (without c.args.number) c.self.view_is
