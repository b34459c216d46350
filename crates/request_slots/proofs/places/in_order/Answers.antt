use Rattle.std.proofs.Common.{◌≡◌, ◌++◌, ◌∙◌, sym, length, take, drop}
use Rattle.std.proofs.lemmas.List.Sorted.{IsNonDecreasingBy-from_sort}
use Rattle.request_slots.proofs.Found.{seam}
use Rattle.request_slots.proofs.places.in_order.Goals as goal

pub returns-clause-same : goal.returns-clause-same
returns-clause-same c =
    let new = c.sort_unstable.new.self in
    let old = c.args.places.items in
    let all : take c.args.places.len (new ++ drop (length new) old) ≡ new = seam new (drop (length new) old) c.args.places.len (sym (c.sort_unstable.ensures.len ∙ c.as_mut_slice.ensures.len)) in
    let moved = rw c.as_mut_slice.ensures.value at c.sort_unstable.ensures.permutation in
    rw all moved

pub returns-clause-sorted : goal.returns-clause-sorted
returns-clause-sorted c =
    let new = c.sort_unstable.new.self in
    let old = c.args.places.items in
    let all : take c.args.places.len (new ++ drop (length new) old) ≡ new = seam new (drop (length new) old) c.args.places.len (sym (c.sort_unstable.ensures.len ∙ c.as_mut_slice.ensures.len)) in
    rw all (IsNonDecreasingBy-from_sort (λ x. x) new c.sort_unstable.ensures.sorted)
