use Rattle.std.proofs.Common.{◌≡◌, ◌≤◌, ◌++◌, ◌∷◌, [], length, take, rules, ap, ◌∙◌, arith, length-append}
use Rattle.std.proofs.lemmas.List.{take-append-le}
use Rattle.iso_message.specs.declared.elements.Span.{Span}
use Rattle.iso_message.specs.Parts.{Body}
use Rattle.iso_message.specs.Spans.{span_at, text_of, start_of}
use Rattle.iso_message.specs.Spelling.{is_binary}
use Rattle.message_elements.specs.Table.{form_of}
use Rattle.iso_message.proofs.SpansMore.{within_more, within_pushed, seen_pushed}
use Rattle.iso_message.proofs.PartLemmas.{added_behind}
use Rattle.iso_message.proofs.elements.parts.Parts.add_binary.Goals as goal

pub invariant_of-self-in_err-push : goal.invariant_of-self-in_err-push
invariant_of-self-in_err-push c =
    let values : c.extend_from_slice.new.self.items ≡ c.self.inside.values.items ++ c.args.value.now = search rules in
    let spans : c.push.new.self.items ≡ c.self.inside.spans.items = search rules in
    let room : c.self.inside.size ≤ length c.extend_from_slice.new.self.items = rw values (omega (arith, c.self.invariant.0, length-append c.self.inside.values.items c.args.value.now)) in
    (room, rw (values, spans) (within_more c.self.inside.values.items c.args.value.now c.self.inside.spans.items c.self.invariant.1))

pub invariant_of-self-2 : goal.invariant_of-self-2
invariant_of-self-2 c =
    let s = c.at-span.result in
    let is : s ≡ span_at c.args.number c.len.result 0 8 = c.at-span.ensures in
    let values : c.extend_from_slice.new.self.items ≡ c.self.inside.values.items ++ c.args.value.now = search rules in
    let text : text_of s ≡ length c.self.inside.values.items = omega (arith, ap text_of is, c.len.ensures) in
    let start : start_of s ≡ length c.self.inside.values.items = omega (arith, text, ap (λ (x : Span). x.digits) is) in
    let len : s.len ≡ length c.args.value.now = omega (arith, ap (λ (x : Span). x.len) is) in
    let spans : c.push.new.self.items ≡ c.self.inside.spans.items ++ s ∷ [] = search rules in
    let room : c.self.inside.size ≤ length c.extend_from_slice.new.self.items = rw values (omega (arith, c.self.invariant.0, length-append c.self.inside.values.items c.args.value.now)) in
    (room, rw (values, spans) (within_pushed c.self.inside.values.items c.args.value.now c.self.inside.spans.items s c.self.invariant.1 start len (ap (λ n. is_binary (form_of n)) (ap (λ (x : Span). x.number) is) ∙ c.requires)))

pub returns : goal.returns
returns c =
    let s = c.at-span.result in
    let is : s ≡ span_at c.args.number c.len.result 0 8 = c.at-span.ensures in
    let number : s.number ≡ c.args.number = ap (λ (x : Span). x.number) is in
    let values : c.extend_from_slice.new.self.items ≡ c.self.inside.values.items ++ c.args.value.now = search rules in
    let text : text_of s ≡ length c.self.inside.values.items = omega (arith, ap text_of is, c.len.ensures) in
    let start : start_of s ≡ length c.self.inside.values.items = omega (arith, text, ap (λ (x : Span). x.digits) is) in
    let len : s.len ≡ length c.args.value.now = omega (arith, ap (λ (x : Span). x.len) is) in
    let spans : c.push.new.self.items ≡ c.self.inside.spans.items ++ s ∷ [] = search rules in
    let shown = seen_pushed c.self.inside.values.items c.args.value.now c.self.inside.spans.items s c.self.invariant.1 start len in
    let body : take c.self.inside.size (c.self.inside.values.items ++ c.args.value.now) ≡ take c.self.inside.size c.self.inside.values.items = take-append-le c.self.inside.size c.self.inside.values.items c.args.value.now c.self.invariant.0 in
    rw (values, spans, ← number) (added_behind c.self.inside.values.items c.args.value.now c.self.inside.spans.items s c.self.inside.size c.args.self.now (body ∙ ap (λ (b : Body). b.body) c.self.view_is) (ap (λ (b : Body). b.elements) c.self.view_is) shown)
