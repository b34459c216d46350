use Rattle.std.proofs.Common.{◌∙◌, ◌≡◌, ◌≤◌, ap, arith, refl, sym, subst, true, List}
use Rattle.network_law.specs.Traces.{added}
use Rattle.card_digits.specs.declared.key.Key.{Key}
use Rattle.node_machine.specs.Lists.{Take}
use Rattle.book_index.specs.Found.{found, holds_at, Tells}
use Rattle.message_keys.specs.Keys.{key_eq}
use Rattle.book_index.proofs.Holding.{holds_within}
use Rattle.standin_book.specs.Approvals.{Approvals, day_of, is_of, skips, times, used_on, without}
use Rattle.standin_book.specs.Sums.{AreSums}
use Rattle.standin_book.proofs.Lessened.{own_part}
use Rattle.standin_book.proofs.Sums.{sums_without}
use Rattle.standin_book.proofs.Removed.{gap_opens, once_any, once_filtered}
use Rattle.standin_book.proofs.standin.StandInBook.untake.Goals as goal

pub newest_place-place-requires : goal.newest_place-place-requires
newest_place-place-requires c =
    let once : times c.args.key c.self.inside.takes.items ≡ 1 = ap (λ (v : Approvals). times c.args.key v.takes) c.self.view_is ∙ c.requires in
    rw c.as_slice.ensures.value (once_any (is_of c.args.key) c.self.inside.takes.items once)

pub remove-approval-requires : goal.remove-approval-requires
remove-approval-requires c =
    let H : List Take → Type 0 = λ xs. holds_at (is_of c.args.key) xs c.newest_place-place.result ≡ true in
    let here = subst H c.as_slice.ensures.value c.newest_place-place.ensures in
    let w = holds_within (is_of c.args.key) c.self.inside.takes.items c.newest_place-place.result here in
    let o = c.self.inside.takes.ok.0 in
    omega (arith, w, o)

pub lessen-requires : goal.lessen-requires
lessen-requires c =
    let i = c.self.inside.takes.items in
    let H : List Take → Type 0 = λ xs. holds_at (is_of c.args.key) xs c.newest_place-place.result ≡ true in
    let here = subst H c.as_slice.ensures.value c.newest_place-place.ensures in
    let less = holds_within (is_of c.args.key) i c.newest_place-place.result here in
    let x = c.remove-approval.result in
    let F : Take → Type 0 = λ z. z.left ≤ added (used_on (day_of z)) i in
    let part : x.left ≤ added (used_on (day_of x)) i = subst F (sym c.remove-approval.ensures.value) (own_part i c.newest_place-place.result x less) in
    let n : c.value.result ≡ x.left = c.value.ensures.value ∙ c.left.ensures in
    rw (c.day.ensures, c.self.invariant.summed.exact (day_of x)) (omega (arith, n, part))

pub close_gap-requires-clause-places : goal.close_gap-requires-clause-places
close_gap-requires-clause-places c =
    let i = c.self.inside in
    let at = c.newest_place-place.result in
    let once : times c.args.key i.takes.items ≡ 1 = ap (λ (v : Approvals). times c.args.key v.takes) c.self.view_is ∙ c.requires in
    let H : List Take → Type 0 = λ xs. holds_at (is_of c.args.key) xs at ≡ true in
    let here = subst H c.as_slice.ensures.value c.newest_place-place.ensures in
    let G : List Take → Type 0 = λ xs. (k : Key) → Tells (found (key_eq k) c.remove.new.self.places.entries) (skips at (holds_at (is_of k) xs)) in
    subst G (sym (c.as_slice-2.ensures.value ∙ c.remove-approval.ensures.items)) (gap_opens i.takes.items c.args.key at c.remove-approval.result i.places.places.entries c.remove.new.self.places.entries here once c.remove.ensures.found c.self.invariant.placed)

pub invariant_of-self : goal.invariant_of-self
invariant_of-self c =
    let i = c.self.inside in
    let h = c.self.invariant in
    let at = c.newest_place-place.result in
    let x = c.remove-approval.result in
    let r = c.remove-approval.ensures in
    let H : List Take → Type 0 = λ xs. holds_at (is_of c.args.key) xs at ≡ true in
    let here = subst H c.as_slice.ensures.value c.newest_place-place.ensures in
    let less = holds_within (is_of c.args.key) i.takes.items at here in
    let n : c.value.result ≡ x.left = c.value.ensures.value ∙ c.left.ensures in
    let P : List Take → Type 0 = λ xs. (k : Key) → Tells (found (key_eq k) c.close_gap.new.places.places.entries) (holds_at (is_of k) xs) in
    let S : List Take → Type 0 = λ xs. AreSums used_on xs c.lessen.new.self.amounts.entries in
    let len = r.len in
    let cap = r.capacity in
    let moved = c.close_gap.ensures.room in
    let removed = c.remove.ensures.room in
    let kept = c.lessen.ensures.room in
    let ht = h.in_takes in
    let hp = h.in_places in
    let hs = h.in_sums in
    record {
      placed = subst P c.as_slice-2.ensures.value c.close_gap.ensures.places;
      summed = subst S (sym r.items) (sums_without used_on i.takes.items at x (day_of x) x.left i.sums.amounts.entries c.lessen.new.self.amounts.entries less (λ q. ap (used_on q) r.value) (λ q. c.lessen.ensures.sums q ∙ rw (c.day.ensures, n) refl) h.summed);
      in_takes = omega (arith, len, cap, ht);
      in_places = omega (arith, moved, removed, hp);
      in_sums = omega (arith, kept, hs);
    }

pub returns : goal.returns
returns c =
    let i = c.self.inside in
    let at = c.newest_place-place.result in
    let once : times c.args.key i.takes.items ≡ 1 = ap (λ (v : Approvals). times c.args.key v.takes) c.self.view_is ∙ c.requires in
    let H : List Take → Type 0 = λ xs. holds_at (is_of c.args.key) xs at ≡ true in
    let here = subst H c.as_slice.ensures.value c.newest_place-place.ensures in
    let F : List Take → Approvals = λ xs. record { takes = xs; room = i.room } in
    let G : Approvals → Approvals = λ v. record { takes = without c.args.key v.takes; room = v.room } in
    ap F (c.remove-approval.ensures.items ∙ sym (once_filtered (is_of c.args.key) i.takes.items at here once)) ∙ ap G c.self.view_is
