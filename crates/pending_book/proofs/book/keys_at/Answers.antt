use Rattle.std.proofs.Common.{rules, ◌≡◌, ◌++◌, ◌∷◌, [], ap, sym, ◌∙◌, append-nil, get_or, Some, None}
use Rattle.pending_book.specs.Kept.{key_at}
use Rattle.pending_book.proofs.Waiting.{key_got, more_keys, one_key, no_key}
use Rattle.pending_book.proofs.book.keys_at.Goals as goal
use Rattle.pending_book.proofs.book.keys_at.Goals.{in-Some+in_ok-push, in_default}

pub loop-place-preserved : goal.loop-place-preserved
loop-place-preserved c =
    let f = key_at c.args.opened.now in
    let place = get_or c.args.places.now c.loop-place.place-index 0 in
    let more = more_keys f c.args.places.now c.loop-place.place-index 0 c.loop-place-test.true in
    let got = key_got c.args.opened.now place c.get.result c.get.ensures.lookup.1 c.get.ensures.lookup.3 in
    elim c.match-get.branch [
      | in-Some+in_ok-push w ↦
          let here : Some w.in-Some.request.now.key ≡ f place = search rules in
          let grown : w.push.new.self.items ≡ c.loop-place.keys.items ++ w.in-Some.request.now.key ∷ [] = search rules in
          let inv = c.loop-place.invariant in
          rw (w.keys-is, grown, more, one_key f place w.in-Some.request.now.key here) (ap (λ ks. ks ++ w.in-Some.request.now.key ∷ []) inv)
      | in_default w ↦
          let none : None ≡ f place = search rules in
          let inv = c.loop-place.invariant in
          rw (w.keys-is, more, no_key f place none) (inv ∙ sym (append-nil _))
    ]
