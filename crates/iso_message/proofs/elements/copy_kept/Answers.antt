use Rattle.std.proofs.Common.{◌≡◌, [], ◌∷◌, ◌++◌, ◌+◌, sym, ap, ◌∙◌, append_assoc, get_or, drop, rules}
use Rattle.iso_message.specs.Spans.{shown, seen, moved}
use Rattle.iso_message.specs.Made.{kept}
use Rattle.iso_message.specs.Carried.{carried_numbers}
use Rattle.iso_message.proofs.Finding.{within_at, longer_within, longer_seen}
use Rattle.iso_message.proofs.SpansMore.{within_push, seen_push}
use Rattle.iso_message.proofs.MessageLemmas.{any, kept_at, passed_at}
use Rattle.iso_message.proofs.RunLemmas.{moved_shows, moved_within}
use Rattle.iso_message.proofs.elements.copy_kept.Goals as goal
use Rattle.iso_message.proofs.elements.copy_kept.Goals.{then-has+in_ok-found+in_ok-push, else-has}

pub loop-place-preserved : goal.loop-place-preserved
loop-place-preserved c =
    let i = c.loop-place.place in
    let spans = c.args.spans.now in
    let values = c.args.values.now in
    let numbers = carried_numbers c.args.carried in
    let s = get_or spans i any in
    let old = c.loop-place.copies.items in
    let so_far = c.loop-place.kept_spans.items in
    let later = kept numbers (seen values (drop (i + 1) spans)) in
    let within = within_at values spans i c.loop-place-test.true c.loop-place.invariant.later in
    elim c.if-has.branch [
      | then-has+in_ok-found+in_ok-push w ↦
          let new = w.run_with.new.copies.items in
          let run = w.in_ok-found.found in
          let copied = w.in_ok-found.ensures.copied in
          let longer = w.in_ok-found.ensures.more in
          let at = kept_at numbers values spans i c.loop-place-test.true (sym c.has.ensures ∙ w.if-has.true) in
          let pushed : w.push.new.self.items ≡ so_far ++ moved run s ∷ [] = search rules in
          let shows = moved_shows values new run s copied w.in_ok-found.ensures.has in
          let inside = moved_within values new run s copied w.in_ok-found.ensures.has within.0 in
          let stays : seen new so_far ≡ seen old so_far = longer_seen old new so_far longer c.loop-place.invariant.within in
          let now : seen new (so_far ++ moved run s ∷ []) ≡ seen old so_far ++ shown values s ∷ [] = seen_push new so_far (moved run s) ∙ ap (λ x. seen new so_far ++ x ∷ []) shows ∙ ap (λ xs. xs ++ shown values s ∷ []) stays in
          record {
            later = within.1;
            copied = rw (w.copies-is, w.run-is) copied;
            within = rw (w.copies-is, w.kept_spans-is, pushed) (within_push new so_far (moved run s) (longer_within old new so_far longer c.loop-place.invariant.within) inside);
            so_far = rw (w.copies-is, w.kept_spans-is, pushed, now)
                (append_assoc (seen old so_far) (shown values s ∷ []) later ∙ ap (λ es. seen old so_far ++ es) (sym at) ∙ c.loop-place.invariant.so_far);
          }
      | else-has w ↦
          let at = passed_at numbers values spans i c.loop-place-test.true (sym c.has.ensures ∙ w.if-has.false) in
          record {
            later = within.1;
            copied = rw (w.copies-is, w.run-is) c.loop-place.invariant.copied;
            within = rw (w.copies-is, w.kept_spans-is) c.loop-place.invariant.within;
            so_far = rw (w.copies-is, w.kept_spans-is) (ap (λ es. seen old so_far ++ es) (sym at) ∙ c.loop-place.invariant.so_far);
          }
    ]
