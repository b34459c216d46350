use Rattle.std.proofs.Common.{◌≡◌, ℕ, ◌+◌, ◌<◌, ◌≤◌, List, [], ◌∷◌, ◌++◌, eqb, length, take, refl, sym, ap, subst, ◌∙◌, length-append, arith}
use Rattle.std.proofs.lemmas.List.{take_more_set}
use Rattle.std.proofs.lemmas.Result.{err_from_is_err_and}
use Rattle.message_elements.specs.declared.kind.Kind.{Kind}
use Rattle.iso_message.specs.Unread.{read_on}
use Rattle.iso_message.specs.Spelling.{Ascends}
use Rattle.iso_message.proofs.Canonical.{weaker}
use Rattle.iso_message.proofs.ReadOn.{on_element, on_fault, at_end, left_over}
use Rattle.message_text.specs.Room.{lines_room}
use Rattle.message_text.proofs.RoomLemmas.{few_lines}
use Rattle.element_spans.specs.Spans.{TakesElement, span_at, end_of, spans_from, end_from}
use Rattle.element_spans.proofs.SpanLemmas.{spans_more, end_more}
use Rattle.element_spans.proofs.finding.take_all.Goals as goal
use Rattle.element_spans.proofs.finding.take_all.Goals.{then-count-spans, else-count-spans}

pub loop-number-init : goal.loop-number-init
loop-number-init c = record { so_far = []; same = λ kind. refl; counted = refl; ended = refl; laid = λ few. refl; order = c.requires; fits = omega (arith, few_lines c.args.unread.numbers c.requires) }

pub loop-number-preserved : goal.loop-number-preserved
loop-number-preserved c =
    let n = c.in-Some.number in
    let s = c.in_ok-span.span in
    let before = c.loop-number.invariant in
    let taken : TakesElement n c.loop-number.end c.next_number.new.self.bytes c.take_next.new.left.bytes s = c.in_ok-span.ensures.span in
    let e : ℕ × List ℕ = (n, TakesElement.value taken) in
    let order = subst (λ (ns : List ℕ). Ascends 1 128 ns) c.in-Some.ensures.numbers before.order in
    let behind : Ascends 1 128 c.next_number.new.self.numbers = weaker n 1 128 c.next_number.new.self.numbers (omega (arith, order.0)) order.2 in
    let placed : span_at (end_from 0 before.so_far) e ≡ s = ap (λ k. span_at k e) (sym before.ended) ∙ sym (TakesElement.is taken) in
    let same : (kind : Kind) → read_on kind [] c.args.unread ≡ read_on kind (before.so_far ++ e ∷ []) c.take_next.new.left = λ kind. before.same kind ∙ on_element kind before.so_far n (TakesElement.value taken) c.loop-number.left c.next_number.new.self c.take_next.new.left c.in-Some.ensures.numbers c.in-Some.ensures.bytes c.in_ok-span.ensures.numbers (TakesElement.found taken) in
    let ended : end_of s ≡ end_from 0 (before.so_far ++ e ∷ []) = sym (end_more 0 before.so_far e ∙ ap end_of placed) in
    let ordered : Ascends 1 128 c.take_next.new.left.numbers = subst (λ (ns : List ℕ). Ascends 1 128 ns) (sym c.in_ok-span.ensures.numbers) behind in
    let counted : c.loop-number.count + 1 ≡ length (before.so_far ++ e ∷ []) = omega (arith, before.counted, length-append before.so_far (e ∷ [])) in
    let fits : c.loop-number.count + 1 + end_of s + lines_room c.take_next.new.left.numbers ≤ 14000 = omega (arith, before.fits, ap lines_room c.in-Some.ensures.numbers, ap lines_room c.in_ok-span.ensures.numbers, c.in_ok-span.ensures.end) in
    elim c.if-count-spans.branch [
      | then-count-spans w ↦
          let low : c.loop-number.count < length c.loop-number.spans = w.if-count-spans.true in
          let front : take c.loop-number.count c.loop-number.spans ≡ spans_from 0 before.so_far = before.laid (omega (arith, low)) in
          let more : spans_from 0 before.so_far ++ s ∷ [] ≡ spans_from 0 (before.so_far ++ e ∷ []) = ap (λ z. spans_from 0 before.so_far ++ z ∷ []) (sym placed) ∙ sym (spans_more 0 before.so_far e) in
          record {
            so_far = before.so_far ++ e ∷ [];
            same = same;
            counted = counted;
            ended = ended;
            laid = λ few. rw (w.spans-is) (take_more_set c.loop-number.spans c.loop-number.count s low ∙ ap (λ z. z ++ s ∷ []) front ∙ more);
            order = ordered;
            fits = fits;
          }
      | else-count-spans w ↦
          record {
            so_far = before.so_far ++ e ∷ [];
            same = same;
            counted = counted;
            ended = ended;
            laid = λ few. absurd (omega (arith, few, ap length w.spans-is, w.if-count-spans.false));
            order = ordered;
            fits = fits;
          }
    ]

pub returns-in_err-span-clause-fault : goal.returns-in_err-span-clause-fault
returns-in_err-span-clause-fault c =
    let p = err_from_is_err_and c.from_residual.result c.from_residual.ensures.1 in
    let before = c.loop-number.invariant in
    rw (p.1, p.2) (λ kind. before.same kind ∙ on_fault kind before.so_far c.in-Some.number c.in_err-span.field-0.0 c.loop-number.left c.next_number.new.self c.in-Some.ensures.numbers c.in-Some.ensures.bytes c.in_err-span.ensures.fault)

pub returns-then-not-is_at_end-clause-fault : goal.returns-then-not-is_at_end-clause-fault
returns-then-not-is_at_end-clause-fault c =
    let before = c.loop-number.invariant in
    λ kind. before.same kind ∙ left_over kind before.so_far c.loop-number.left c.in_default.ensures.numbers (ap (λ bs. eqb (length bs) 0) (sym c.in_default.ensures.bytes) ∙ sym c.is_at_end.ensures ∙ c.if-not-is_at_end.true)

pub returns-clause-laid : goal.returns-clause-laid
returns-clause-laid c =
    let before = c.loop-number.invariant in
    record {
      elements = before.so_far;
      found = λ kind. before.same kind ∙ at_end kind before.so_far c.loop-number.left c.in_default.ensures.numbers (ap (λ bs. eqb (length bs) 0) (sym c.in_default.ensures.bytes) ∙ sym c.is_at_end.ensures ∙ c.if-not-is_at_end.false);
      counted = before.counted;
      ended = before.ended;
      laid = before.laid;
    }
