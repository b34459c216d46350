-- The rows and the view after `push_back` and after `unlink`.
use Rattle.std.proofs.Common.{◌≡◌, ◌≢◌, ℕ, ◌+◌, ◌-◌, ◌<◌, ◌≤◌, List, length, map, get_or, arith, refl, ap, ◌∙◌}
use Rattle.std.proofs.Math.ListN.{set}
use Rattle.std.proofs.lemmas.List.{length-set, get_or_read}
use Rattle.std.specs.List.{range_with_len}
use Rattle.chain_links.specs.declared.rows.Slot.{Slot}
use Rattle.chain_links.specs.declared.rows.Head.{Head}
use Rattle.chain_links.specs.Lists.{LinksView, AreLinked, AreRows, none, loose, bare, slot_at, head_at, home_of, count_of, before, after, with_next, with_prev, with_first, with_last, list_of, pushed, unlinked}
use Rattle.chain_links.proofs.Pushed.{Pushes, IsPushed, small_p, p_not_x, count_fits, push_linked, push_lists}
use Rattle.chain_links.proofs.Dropped.{Drops, IsDropped, slot_small, count_positive, drop_linked, drop_lists}
use Rattle.chain_links.proofs.Dropped as dropped
use Rattle.chain_links.proofs.Written.{next_length, first_length, first_count, prev_length, last_length, last_count}
use Rattle.chain_links.proofs.PushedRows.{pushed_rows}
use Rattle.chain_links.proofs.DroppedRows.{dropped_rows, slots_length, heads_length}
use Rattle.chain_links.proofs.Seen.{seen}

rows_of : (s : List Slot) (t : List Head) (n m : ℕ) → length s ≡ n → length t ≡ m → AreLinked (before s t) (after s t) (home_of s) (count_of t) n m → n ≤ none → m ≤ none → AreRows s t
rows_of s t n m en em l few_s few_t = record { linked = rw (en, em) l; few_slots = rw en few_s; few_heads = rw em few_t }

view_of : (s : List Slot) (t : List Head) (n m : ℕ) (ls : List (List ℕ)) → length s ≡ n → length t ≡ m → map (list_of s t) (range_with_len 0 m) ≡ ls → seen s t ≡ record { slots = n; lists = ls }
view_of s t n m ls en em e = rw (en, em, e) refl

-- `set_next` keeps the lengths
pub push_length : (s : List Slot) (t : List Head) (s1 : List Slot) (t1 : List Head) (h x : ℕ) (d : Head) → Pushes (before s t) (after s t) (home_of s) (count_of t) (length s) (length t) h x d.last
    → s1 ≡ with_next s d.last x → t1 ≡ with_first t h d.last x → (length s1 ≡ length s) × (length t1 ≡ length t)
push_length s t s1 t1 h x d f slots heads =
    let small : d.last ≢ none → d.last < length s = λ ne. small_p _ _ _ _ _ _ _ _ _ f ne in
    (ap length slots ∙ next_length s t h d.last x f.head small, ap length heads ∙ first_length s t h d.last x f.head small)

-- what `push_back` leaves, where d are the ends of the head at first and r after `set_next`
module _ (s : List Slot) (t : List Head) (s1 : List Slot) (t1 : List Head) (h x : ℕ) (d r : Head) (v : LinksView) (e : seen s t ≡ v)
    (f : Pushes (before s t) (after s t) (home_of s) (count_of t) (length s) (length t) h x d.last)
    (slots : s1 ≡ with_next s d.last x) (heads : t1 ≡ with_first t h d.last x) (read : r ≡ get_or t1 h r) where
  abbrev row : Slot
  row = record { prev = d.last; next = none; home = h }

  abbrev ends : Head
  ends = record { first = r.first; last = x; count = r.count + 1 }

  small : d.last ≢ none → d.last < length s
  small ne = small_p _ _ _ _ _ _ _ _ _ f ne

  pub push_read : r ≡ head_at (with_first t h d.last x) h
  push_read = get_or_read t1 h r (let lt = f.head in omega (arith, ap length heads, first_length s t h d.last x f.head small)) read bare ∙ ap (λ z. head_at z h) heads

  pub push_fits : r.count < none
  push_fits =
      let few = f.few_slots in
      omega (arith, ap (λ z. z.count) push_read, first_count s t h d.last x f.head small h, count_fits _ _ _ _ _ _ _ _ _ f)

  written : IsPushed (before s t) (after s t) (home_of s) (count_of t) (before (set (with_next s d.last x) x row) (set (with_first t h d.last x) h ends)) (after (set (with_next s d.last x) x row) (set (with_first t h d.last x) h ends)) (home_of (set (with_next s d.last x) x row)) (count_of (set (with_first t h d.last x) h ends)) h x d.last
  written =
      pushed_rows
      s
      t
      h
      x
      d.last
      ends
      f.head
      small
      f.slot
      f.few_slots
      (p_not_x _ _ _ _ _ _ _ _ _ f)
      (ap (λ z. z.first) push_read)
      (ap (λ z. z + 1) (ap (λ z. z.count) push_read ∙ first_count s t h d.last x f.head small h))
      refl

  slots_length_p : length (set (with_next s d.last x) x row) ≡ length s
  slots_length_p = length-set (with_next s d.last x) x row ∙ next_length s t h d.last x f.head small

  heads_length_p : length (set (with_first t h d.last x) h ends) ≡ length t
  heads_length_p = length-set (with_first t h d.last x) h ends ∙ first_length s t h d.last x f.head small

  pub push_rows : AreRows (set s1 x row) (set t1 h ends)
  push_rows =
      rw (slots, heads) (rows_of
      (set (with_next s d.last x) x row)
      (set (with_first t h d.last x) h ends)
      (length s)
      (length t)
      slots_length_p
      heads_length_p
      (push_linked _ _ _ _ _ _ _ _ _ f _ _ _ _ written)
      f.few_slots
      f.few_heads)

  pub push_view : seen (set s1 x row) (set t1 h ends) ≡ pushed v h x
  push_view =
      rw (slots, heads) (view_of
      (set (with_next s d.last x) x row)
      (set (with_first t h d.last x) h ends)
      (length s)
      (length t)
      _
      slots_length_p
      heads_length_p
      (push_lists _ _ _ _ _ _ _ _ _ f _ _ _ _ written))
      ∙ ap (λ w. pushed w h x) e

-- `set_next` and `set_prev` keep the lengths
module _ (s : List Slot) (t : List Head) (s1 : List Slot) (t1 : List Head) (x : ℕ) (d : Slot)
    (f : Drops (before s t) (after s t) (home_of s) (count_of t) (length s) (length t) d.home x d.prev d.next)
    (slots1 : s1 ≡ with_next s d.prev d.next) (heads1 : t1 ≡ with_first t d.home d.prev d.next) where
  small_before : d.prev ≢ none → d.prev < length s
  small_before ne = dropped.small_p _ _ _ _ _ _ _ _ _ _ f ne

  pub drop_length_1 : (length s1 ≡ length s) × (length t1 ≡ length t)
  drop_length_1 = (ap length slots1 ∙ next_length s t d.home d.prev d.next f.head small_before, ap length heads1 ∙ first_length s t d.home d.prev d.next f.head small_before)

  module _ (s2 : List Slot) (t2 : List Head) (slots2 : s2 ≡ with_prev s1 d.next d.prev) (heads2 : t2 ≡ with_last t1 d.home d.next d.prev) where
    lt_1 : d.home < length t1
    lt_1 = let lt = f.head in omega (arith, drop_length_1.1)

    small_1 : d.next ≢ none → d.next < length s1
    small_1 ne = let lt = dropped.small_q _ _ _ _ _ _ _ _ _ _ f ne in omega (arith, drop_length_1.0)

    pub drop_length_2 : (length s2 ≡ length s) × (length t2 ≡ length t)
    drop_length_2 = (
      ap length slots2 ∙ (prev_length s1 t1 d.home d.next d.prev lt_1 small_1 ∙ drop_length_1.0),
      ap length heads2 ∙ (last_length s1 t1 d.home d.next d.prev lt_1 small_1 ∙ drop_length_1.1),
    )

-- what `unlink` leaves, where d is the row of the slot at first, and g that row and r the ends of its head after both neighbors were told
module _ (s : List Slot) (t : List Head) (s1 : List Slot) (t1 : List Head) (s2 : List Slot) (t2 : List Head) (x : ℕ) (d g : Slot) (r : Head) (v : LinksView) (e : seen s t ≡ v)
    (f : Drops (before s t) (after s t) (home_of s) (count_of t) (length s) (length t) d.home x d.prev d.next)
    (slots1 : s1 ≡ with_next s d.prev d.next) (heads1 : t1 ≡ with_first t d.home d.prev d.next)
    (slots2 : s2 ≡ with_prev s1 d.next d.prev) (heads2 : t2 ≡ with_last t1 d.home d.next d.prev)
    (read_slot : g ≡ get_or s2 x g) (read_head : r ≡ get_or t2 d.home r) where
  abbrev s2' : List Slot
  s2' = with_prev (with_next s d.prev d.next) d.next d.prev

  abbrev t2' : List Head
  t2' = with_last (with_first t d.home d.prev d.next) d.home d.next d.prev

  small_p' : d.prev ≢ none → d.prev < length s
  small_p' ne = dropped.small_p _ _ _ _ _ _ _ _ _ _ f ne

  small_q' : d.next ≢ none → d.next < length s
  small_q' ne = dropped.small_q _ _ _ _ _ _ _ _ _ _ f ne

  same_slots : s2 ≡ s2'
  same_slots = slots2 ∙ ap (λ z. with_prev z d.next d.prev) slots1

  same_heads : t2 ≡ t2'
  same_heads = heads2 ∙ ap (λ z. with_last z d.home d.next d.prev) heads1

  lt1 : d.home < length (with_first t d.home d.prev d.next)
  lt1 = let lt = f.head in omega (arith, first_length s t d.home d.prev d.next f.head small_p')

  small1 : d.next ≢ none → d.next < length (with_next s d.prev d.next)
  small1 ne = let lt = small_q' ne in omega (arith, next_length s t d.home d.prev d.next f.head small_p')

  lengths : (length s2 ≡ length s) × (length t2 ≡ length t)
  lengths = drop_length_2 s t s1 t1 x d f slots1 heads1 s2 t2 slots2 heads2

  row_read : g ≡ slot_at s2' x
  row_read = get_or_read s2 x g (let lt = slot_small _ _ _ _ _ _ _ _ _ _ f in omega (arith, lengths.0)) read_slot loose ∙ ap (λ z. slot_at z x) same_slots

  head_read : r ≡ head_at t2' d.home
  head_read = get_or_read t2 d.home r (let lt = f.head in omega (arith, lengths.1)) read_head bare ∙ ap (λ z. head_at z d.home) same_heads

  count_read : r.count ≡ count_of t d.home
  count_read = ap (λ z. z.count) head_read ∙ (last_count _ _ d.home d.next d.prev lt1 small1 d.home ∙ first_count s t d.home d.prev d.next f.head small_p' d.home)

  pub drop_positive : 1 ≤ r.count
  drop_positive = omega (arith, count_read, count_positive _ _ _ _ _ _ _ _ _ _ f)

  abbrev free_row : Slot
  free_row = record { prev = g.prev; next = g.next; home = none }

  abbrev fewer : Head
  fewer = record { first = r.first; last = r.last; count = r.count - 1 }

  row_is : free_row ≡ record (slot_at s2' x) { home = none }
  row_is = ap (λ (z : Slot). record z { home = none }) row_read

  ends_is : fewer ≡ record (head_at t2' d.home) { count = count_of t d.home - 1 }
  ends_is = ap (λ (z : Head). record z { count = r.count - 1 }) head_read ∙ ap (λ k. record (head_at t2' d.home) { count = k - 1 }) count_read

  written' : IsDropped (before s t) (after s t) (home_of s) (count_of t) (before (set s2' x free_row) (set t2' d.home fewer)) (after (set s2' x free_row) (set t2' d.home fewer)) (home_of (set s2' x free_row)) (count_of (set t2' d.home fewer)) d.home x d.prev d.next
  written' = dropped_rows s t d.home x d.prev d.next free_row fewer f.head small_p' small_q' (slot_small _ _ _ _ _ _ _ _ _ _ f) row_is ends_is

  pub drop_rows : AreRows (set s2 x free_row) (set t2 d.home fewer)
  drop_rows =
      rw (same_slots, same_heads) (rows_of
      (set s2' x free_row)
      (set t2' d.home fewer)
      (length s)
      (length t)
      (slots_length s t d.home x d.prev d.next free_row fewer f.head small_p' small_q' (slot_small _ _ _ _ _ _ _ _ _ _ f) row_is ends_is)
      (heads_length s t d.home x d.prev d.next free_row fewer f.head small_p' small_q' (slot_small _ _ _ _ _ _ _ _ _ _ f) row_is ends_is)
      (drop_linked _ _ _ _ _ _ _ _ _ _ f _ _ _ _ written')
      f.few_slots
      f.few_heads)

  pub drop_view : seen (set s2 x free_row) (set t2 d.home fewer) ≡ unlinked v x
  drop_view =
      rw (same_slots, same_heads) (view_of
      (set s2' x free_row)
      (set t2' d.home fewer)
      (length s)
      (length t)
      _
      (slots_length s t d.home x d.prev d.next free_row fewer f.head small_p' small_q' (slot_small _ _ _ _ _ _ _ _ _ _ f) row_is ends_is)
      (heads_length s t d.home x d.prev d.next free_row fewer f.head small_p' small_q' (slot_small _ _ _ _ _ _ _ _ _ _ f) row_is ends_is)
      (drop_lists _ _ _ _ _ _ _ _ _ _ f _ _ _ _ written'))
      ∙ ap (λ w. unlinked w x) e
