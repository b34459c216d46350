use Rattle.std.proofs.Common.{rules, ◌≡◌, ◌+◌, ◌<◌, ◌++◌, ◌∷◌, [], ℕ, Bool, List, true, false, Some, slice_get, sym, ap, ◌∙◌, subst, arith, cond, length, append-nil}
use Rattle.std.specs.Prelude.{filter}
use Rattle.std.specs.List.{range_with_len}
use Rattle.std.specs.Option.{option_map_or}
use Rattle.node_machine.specs.Lists.{Row}
use Rattle.pending_book.specs.Rows.{Pending}
use Rattle.pending_book.specs.Waits.{is_over}
use Rattle.pending_book.proofs.At.{at_got}
use Rattle.pending_book.proofs.Found.{one_more}
use Rattle.pending_book.proofs.node.NodeRequests.over.Goals as goal
use Rattle.pending_book.proofs.node.NodeRequests.over.Goals.{then-is_over+in_ok-push, else-is_over}

pub loop-place-preserved : goal.loop-place-preserved
loop-place-preserved c =
    let i = c.self.inside in
    let x = c.args.self.now.rows in
    let n = c.loop-place.place in
    let r = c.index.result.now in
    let p : Row → Bool = is_over c.args.waits.now (c.count-count.result + 1) in
    let ok = i.rows.ok.0 in
    let less = c.loop-place-test.true in
    let end = c.len-place-end.ensures in
    let lt : n < length i.rows.items = omega (arith, ok, less, end) in
    let here : slice_get i.rows.items n ≡ Some r = at_got i.rows.items n r lt ∙ ap Some (sym c.index.ensures) in
    let at : slice_get x n ≡ Some r = subst (λ (v : Pending). slice_get v.rows n ≡ Some r) c.self.view_is here in
    let more = one_more p x n r at in
    let found : List ℕ = filter (λ k. option_map_or p (slice_get x k) false) (range_with_len 0 n) in
    let inv : c.loop-place.places.items ≡ found = c.loop-place.invariant in
    elim c.if-is_over.branch [
      | then-is_over+in_ok-push w ↦
          let passes : p r ≡ true = sym c.is_over.ensures ∙ w.if-is_over.true in
          let grown : w.push.new.self.items ≡ c.loop-place.places.items ++ n ∷ [] = search rules in
          rw w.places-is (grown ∙ (ap (λ ks. ks ++ n ∷ []) inv ∙ sym (more ∙ ap (λ b. found ++ cond b (n ∷ []) []) passes)))
      | else-is_over w ↦
          let fails : p r ≡ false = sym c.is_over.ensures ∙ w.if-is_over.false in
          rw w.places-is (inv ∙ (sym (append-nil found) ∙ sym (more ∙ ap (λ b. found ++ cond b (n ∷ []) []) fails)))
    ]
