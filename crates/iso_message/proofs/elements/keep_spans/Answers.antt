use Rattle.std.proofs.Common.{◌≡◌, [], ◌∷◌, ◌++◌, ◌+◌, arith, sym, ap, ◌∙◌, append_assoc, get_or, drop, rules}
use Rattle.iso_message.specs.Spans.{shown, seen}
use Rattle.iso_message.specs.Made.{kept}
use Rattle.iso_message.specs.Carried.{carried_numbers}
use Rattle.iso_message.proofs.Finding.{within_at}
use Rattle.iso_message.proofs.SpansMore.{within_push, seen_push}
use Rattle.iso_message.proofs.MessageLemmas.{any, kept_at, passed_at}
use Rattle.iso_message.proofs.elements.keep_spans.Goals as goal
use Rattle.iso_message.proofs.elements.keep_spans.Goals.{then-has, else-has}

pub loop-span-preserved : goal.loop-span-preserved
loop-span-preserved c =
    let i = c.loop-span.span-index in
    let spans = c.args.spans.now in
    let values = c.args.values.now in
    let numbers = carried_numbers c.args.carried in
    let s = get_or spans i any in
    let so_far = c.loop-span.kept_spans.items in
    let later = kept numbers (seen values (drop (i + 1) spans)) in
    let within = within_at values spans i c.loop-span-test.true c.loop-span.invariant.later in
    elim c.if-has.branch [
      | then-has w ↦
          let at = kept_at numbers values spans i c.loop-span-test.true (sym c.has.ensures ∙ w.if-has.true) in
          let pushed : w.push_reserved.new.self.items ≡ so_far ++ s ∷ [] = search rules in
          record {
            later = within.1;
            few = rw (w.kept_spans-is) (omega (arith, w.push_reserved.ensures.len, c.loop-span.invariant.few));
            room = rw (w.kept_spans-is) (omega (arith, w.push_reserved.ensures.capacity, c.loop-span.invariant.room));
            within = rw (w.kept_spans-is, pushed) (within_push values so_far s c.loop-span.invariant.within within.0);
            so_far = rw (w.kept_spans-is, pushed, seen_push values so_far s)
                (append_assoc (seen values so_far) (shown values s ∷ []) later ∙ ap (λ es. seen values so_far ++ es) (sym at) ∙ c.loop-span.invariant.so_far);
          }
      | else-has w ↦
          let at = passed_at numbers values spans i c.loop-span-test.true (sym c.has.ensures ∙ w.if-has.false) in
          record {
            later = within.1;
            few = rw (w.kept_spans-is) (omega (arith, c.loop-span.invariant.few));
            room = rw (w.kept_spans-is) c.loop-span.invariant.room;
            within = rw (w.kept_spans-is) c.loop-span.invariant.within;
            so_far = rw (w.kept_spans-is) (ap (λ es. seen values so_far ++ es) (sym at) ∙ c.loop-span.invariant.so_far);
          }
    ]
