use Rattle.std.proofs.Common.{rules, ◌≡◌, Some, None, true, ◌&&◌, ◌≢◌, ◌++◌, ◌∷◌, [], sym, ap, ◌∙◌, cond, length, arith, Vec, Global, ℕ}
use Rattle.std.specs.Vec.{vec_len}
use Rattle.pending_book.specs.declared.row.Row.{Row}
use Rattle.std.specs.Prelude.{is_some}
use Rattle.std.specs.Map.{lookup}
use Rattle.card_digits.specs.declared.key.Key.{Key}
use Rattle.node_machine.specs.Lists.{row_key}
use Rattle.message_keys.specs.Keys.{key_eq}
use Rattle.request_slots.specs.Waits.{SlotsView, wait_at}
use Rattle.pending_book.specs.NodeKept.{place_of, HasWait}
use Rattle.pending_book.proofs.NodePlaces.{opened_new, opened_there, not_there}
use Rattle.pending_book.proofs.NodeWaiting.{kept_opened, waiting_opened}
use Rattle.pending_book.proofs.node.NodeRequests.open.Goals as goal
use Rattle.pending_book.proofs.node.NodeRequests.open.Goals.{then-self, else-self}

len_is : (v : Vec Row Global) → vec_len v ≡ length v.items
len_is v = let e = v.ok.0 in omega (arith, e)

there : (c : goal.Joined-row) → is_some (place_of (row_key c.args.row) c.self.inside.rows.items) ≡ true
there c = ap is_some (sym (c.self.invariant.0.keyed (row_key c.args.row))) ∙ (ap (λ (k : Key). is_some (lookup (key_eq k) c.self.inside.places.entries)) (sym c.key.ensures.key) ∙ (sym c.put_new.ensures.had ∙ c.if-put_new.true))

absent : (c : goal.After-push_reserved) → place_of (row_key c.args.row) c.self.inside.rows.items ≡ None
absent c = not_there (row_key c.args.row) c.self.inside.rows.items (ap is_some (sym (c.self.invariant.0.keyed (row_key c.args.row))) ∙ (ap (λ (k : Key). is_some (lookup (key_eq k) c.self.inside.places.entries)) (sym c.key.ensures.key) ∙ (sym c.put_new.ensures.had ∙ c.if-put_new.false)))

pub returns-then-put_new : goal.returns-then-put_new
returns-then-put_new c =
    let same = opened_there c.args.row c.self.inside.rows.items (there c) in
    rw (← c.self.view_is, same) (search rules)

pub invariant_of-self-2 : goal.invariant_of-self-2
invariant_of-self-2 c =
    let i = c.self.inside in
    let at : c.len-place.result ≡ length i.rows.items = c.len-place.ensures ∙ len_is i.rows in
    let v : (k : Key) → lookup (key_eq k) c.put_new.new.places.entries ≡ cond (key_eq (row_key c.args.row) k) (Some (length i.rows.items)) (lookup (key_eq k) i.places.entries) = rw (c.key.ensures.key, at) at (c.put_new.ensures.new c.if-put_new.false) in
    let known = c.settle-is_known.result in
    let e = c.settle-is_known.ensures in
    let w = c.add_place.new.self in
    let new = c.settle-is_known.new.waiting in
    let count : new.count ≡ i.waiting.count = e.count ∙ ap (λ (s : SlotsView). s.count) c.add_place.ensures in
    let before : w.waits ≡ i.waiting.waits ++ None ∷ [] = ap (λ (s : SlotsView). s.waits) c.add_place.ensures in
    let here : HasWait i.waits i.waiting.count known c.args.row (wait_at new.waits (length i.rows.items)) = rw (ap (λ (s : SlotsView). s.count) c.add_place.ensures, at) at e.here in
    let others : (k : ℕ) → k ≢ length i.rows.items → wait_at new.waits k ≡ wait_at (i.waiting.waits ++ None ∷ []) k = λ k ne. rw (at, before) at e.others k ne in
    let places : length new.waits ≡ length (i.waiting.waits ++ None ∷ []) = e.places ∙ ap (λ ws. length ws) before in
    let waiting = waiting_opened i.waits i.waiting.count i.is_timely known i.rows.items c.args.row i.waiting.waits new.waits c.self.invariant.0.waiting here others places in
    let both : c.if-self.self ≡ (i.is_timely && known) = elim c.if-self.branch [
      | then-self w ↦ w.self-is ∙ sym (ap (λ b. b && known) w.if-self.true)
      | else-self w ↦ w.self-is ∙ (w.if-self.false ∙ sym (ap (λ b. b && known) w.if-self.false))
    ] in
    let kept = kept_opened i.rows.items c.args.row i.places.entries c.put_new.new.places.entries i.pending i.waits i.waiting new i.is_timely known c.self.invariant.0 (absent c) v (rw count waiting) in
    (rw (c.push_reserved.ensures.items, c.more-self-inside.ensures, both) kept, search rules)

pub returns : goal.returns
returns c =
    let same = opened_new c.args.row c.self.inside.rows.items (absent c) in
    rw (← c.self.view_is, same) (search rules)
