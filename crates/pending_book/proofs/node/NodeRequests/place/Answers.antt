use Rattle.std.proofs.Common.{◌≡◌, ◌-◌, ◌<◌, true, sym, ap, ◌∙◌, length, get_or, arith, Vec, Global}
use Rattle.std.specs.Vec.{vec_len}
use Rattle.card_digits.specs.declared.key.Key.{Key}
use Rattle.message_keys.specs.Keys.{key_eq}
use Rattle.node_machine.specs.Lists as lists
use Rattle.node_machine.specs.Lists.{row_has}
use Rattle.pending_book.specs.declared.row.Row.{Row}
use Rattle.pending_book.proofs.NodePlaces.{place_found}
use Rattle.pending_book.proofs.node.NodeRequests.place.Goals as goal

len_is : (v : Vec Row Global) → vec_len v ≡ length v.items
len_is v = let e = v.ok.0 in omega (arith, e)

pub returns-then-same_key : goal.returns-then-same_key
returns-then-same_key c =
    let rows = c.self.inside.rows.items in
    let place = c.len-count.result - 1 in
    let d = c.index.result.now in
    let n : c.len-count.result ≡ length rows = c.len-count.ensures ∙ len_is c.self.inside.rows in
    let some : 0 < c.len-count.result = c.if-count-gt0.true in
    let lt : place < length rows = omega (arith, n, some) in
    let has : row_has c.args.key (get_or rows place d) ≡ true = ap (λ (r : lists.Row). row_has c.args.key r) (sym c.index.ensures) ∙ (ap (λ (k : Key). key_eq k c.args.key) (sym c.key.ensures.key) ∙ (sym c.same_key.ensures ∙ c.if-same_key.true)) in
    let at = place_found c.args.key rows place d c.self.invariant.0.unique lt has in
    rw (← c.self.view_is) (sym at)
