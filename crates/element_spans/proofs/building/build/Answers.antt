use Rattle.std.proofs.Common.{◌≡◌, ◌⊎◌, ℕ, List, [], ◌∷◌, ◌++◌, take, get_or, sym, ap, subst, ◌∙◌, inl, inr, ⊎_elim}
use Rattle.std.proofs.lemmas.List.{take_more}
use Rattle.std.proofs.lemmas.Result.{err_from_is_err_and}
use Rattle.message_elements.specs.declared.fault.DecodeFault.{DecodeFault}
use Rattle.message_elements.specs.declared.fault.DecodeFault.TheVariants.{Memory}
use Rattle.message_elements.specs.Table.{form_of}
use Rattle.iso_message.specs.Fields.{Fields, set_element}
use Rattle.element_spans.specs.Spans.{Locates, WritesValue, text_at}
use Rattle.element_spans.specs.Building.{SetsText, IsTextFault, IsFirstFault}
use Rattle.element_spans.proofs.SpanLemmas.{any}
use Rattle.element_spans.proofs.BuildLemmas.{first_fault, located_more, with_more}
use Rattle.element_spans.proofs.building.build.Goals as goal

pub returns-in_err-text-clause-fault : goal.returns-in_err-text-clause-fault
returns-in_err-text-clause-fault c =
    let p = err_from_is_err_and c.from_residual.result c.from_residual.ensures.1 in
    let before = c.loop-span.invariant in
    rw (p.1, p.2) (inr (first_fault c.args.bytes.now c.args.spans.now c.loop-span.span-index before.elements c.in_err-text.field-0.0 c.loop-span-test.true before.located (inl c.in_err-text.ensures.err)))

pub returns-in_err-set_text-clause-fault : goal.returns-in_err-set_text-clause-fault
returns-in_err-set_text-clause-fault c =
    let p = err_from_is_err_and c.from_residual-in_err-set_text.result c.from_residual-in_err-set_text.ensures.1 in
    let before = c.loop-span.invariant in
    let bytes = c.args.bytes.now in
    let spans = c.args.spans.now in
    let i = c.loop-span.span-index in
    let s = get_or spans i any in
    let fault : DecodeFault = c.in_err-set_text.field-0.0 in
    let wrong : IsTextFault (form_of s.number) s.number c.in_ok-text.text.now fault → IsFirstFault bytes spans fault =
    λ t. first_fault bytes spans i before.elements fault c.loop-span-test.true before.located (inr (subst (λ (x : List ℕ). IsTextFault (form_of s.number) s.number x fault) c.in_ok-text.ensures.ok t)) in
    let one : (fault ≡ Memory) ⊎ IsFirstFault bytes spans fault = ⊎_elim (λ m. inl m) (λ t. inr (wrong t)) c.in_err-set_text.ensures.err in
    rw (p.1, p.2) one

pub loop-span-preserved : goal.loop-span-preserved
loop-span-preserved c =
    let before = c.loop-span.invariant in
    let bytes = c.args.bytes.now in
    let spans = c.args.spans.now in
    let i = c.loop-span.span-index in
    let s = get_or spans i any in
    let set : SetsText s.number c.in_ok-text.text.now c.loop-span.message c.set_text.new.message = c.in_ok-set_text.ensures.ok in
    let value = SetsText.value set in
    let written : WritesValue (form_of s.number) (text_at bytes s) value = subst (λ (t : List ℕ). WritesValue (form_of s.number) t value) c.in_ok-text.ensures.ok (SetsText.written set) in
    record {
      elements = before.elements ++ (s.number, value) ∷ [];
      located = subst (Locates bytes (before.elements ++ (s.number, value) ∷ [])) (sym (take_more spans i any c.loop-span-test.true)) (located_more bytes before.elements (take i spans) s value before.located written);
      is = SetsText.is set ∙ ap (λ (m : Fields). set_element m s.number value) before.is ∙ sym (with_more (record { kind = c.args.kind; elements = [] }) before.elements (s.number, value));
    }
