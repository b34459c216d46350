-- What `unlink` writes.
use Rattle.std.proofs.Common.{◌≡◌, ◌≢◌, inl, inr, ℕ, ◌-◌, ◌<◌, List, length, arith, refl, ap, ◌∙◌}
use Rattle.std.proofs.Math.ListN.{set}
use Rattle.std.proofs.lemmas.List.{length-set}
use Rattle.std.proofs.lemmas.Bool.{cases_eq}
use Rattle.chain_links.specs.declared.rows.Slot.{Slot}
use Rattle.chain_links.specs.declared.rows.Head.{Head}
use Rattle.chain_links.specs.Lists.{none, slot_at, head_at, home_of, count_of, before, after, with_next, with_prev, with_first, with_last}
use Rattle.chain_links.proofs.Dropped.{IsDropped}
use Rattle.chain_links.proofs.Written.{slot_same, slot_other, head_same, head_other, next_length, first_length, next_here, next_others, next_fronts, next_home, first_count, next_before, prev_length, last_length, prev_here, prev_others, prev_ends, prev_home, last_count, prev_after}

module _ (s : List Slot) (t : List Head) (h x p q : ℕ) (r : Slot) (e : Head) (lt : h < length t) (small_p : p ≢ none → p < length s) (small_q : q ≢ none → q < length s) (slot : x < length s)
    (row : r ≡ record (slot_at (with_prev (with_next s p q) q p) x) { home = none })
    (head : e ≡ record (head_at (with_last (with_first t h p q) h q p) h) { count = count_of t h - 1 }) where
  abbrev s1 : List Slot
  s1 = with_next s p q

  abbrev t1 : List Head
  t1 = with_first t h p q

  abbrev s2 : List Slot
  s2 = with_prev s1 q p

  abbrev t2 : List Head
  t2 = with_last t1 h q p

  abbrev pub slots_d : List Slot
  slots_d = set s2 x r

  abbrev pub heads_d : List Head
  heads_d = set t2 h e

  lt1 : h < length t1
  lt1 = let l = lt in omega (arith, first_length s t h p q lt small_p)

  small1 : q ≢ none → q < length s1
  small1 ne = let l = small_q ne in omega (arith, next_length s t h p q lt small_p)

  pub slots_length : length slots_d ≡ length s
  slots_length = length-set s2 x r ∙ (prev_length s1 t1 h q p lt1 small1 ∙ next_length s t h p q lt small_p)

  pub heads_length : length heads_d ≡ length t
  heads_length = length-set t2 h e ∙ (last_length s1 t1 h q p lt1 small1 ∙ first_length s t h p q lt small_p)

  row_x : slot_at slots_d x ≡ r
  row_x = slot_same s2 x r (let l = slot in omega (arith, prev_length s1 t1 h q p lt1 small1, next_length s t h p q lt small_p))

  head_h : head_at heads_d h ≡ e
  head_h = head_same t2 h e (let l = lt1 in omega (arith, last_length s1 t1 h q p lt1 small1))

  row_z : (z : ℕ) → ((slot_at slots_d z).prev ≡ (slot_at s2 z).prev) × ((slot_at slots_d z).next ≡ (slot_at s2 z).next)
  row_z z = elim (cases_eq z x) [
    | inl same ↦ rw (same, row_x, row) (refl, refl)
    | inr ne ↦ rw (slot_other s2 x z r ne) (refl, refl)
  ]

  head_k : (k : ℕ) → ((head_at heads_d k).first ≡ (head_at t2 k).first) × ((head_at heads_d k).last ≡ (head_at t2 k).last)
  head_k k = elim (cases_eq k h) [
    | inl same ↦ rw (same, head_h, head) (refl, refl)
    | inr ne ↦ rw (head_other t2 h k e ne) (refl, refl)
  ]

  -- the last two writes leave the neighbors
  next_z : (k z : ℕ) → after slots_d heads_d k z ≡ after s1 t1 k z
  next_z k z = (let a = row_z z in let b = head_k k in rw (a.1, b.0) refl) ∙ prev_after s1 t1 h q p lt1 small1 k z

  prev_z : (k z : ℕ) → before slots_d heads_d k z ≡ before s2 t2 k z
  prev_z k z = let a = row_z z in let b = head_k k in rw (a.0, b.1) refl

  pub dropped_rows : IsDropped (before s t) (after s t) (home_of s) (count_of t) (before slots_d heads_d) (after slots_d heads_d) (home_of slots_d) (count_of heads_d) h x p q
  dropped_rows = record {
    next_before = next_z h p ∙ next_here s t h p q lt small_p;
    next_front = λ k ne. next_z k none ∙ next_fronts s t h p q lt small_p k ne;
    next_others = λ k z ne. next_z k z ∙ next_others s t h p q lt small_p k z ne;
    prev_after = prev_z h q ∙ prev_here s1 t1 h q p lt1 small1;
    prev_ends = λ k ne. prev_z k none ∙ (prev_ends s1 t1 h q p lt1 small1 k ne ∙ next_before s t h p q lt small_p k none);
    prev_others = λ k z ne. prev_z k z ∙ (prev_others s1 t1 h q p lt1 small1 k z ne ∙ next_before s t h p q lt small_p k z);
    home_slot = ap (λ d. d.home) row_x ∙ ap (λ d. d.home) row;
    home_others = λ z ne. ap (λ d. d.home) (slot_other s2 x z r ne) ∙ (prev_home s1 t1 h q p lt1 small1 z ∙ next_home s t h p q lt small_p z);
    count_head = ap (λ d. d.count) head_h ∙ ap (λ d. d.count) head;
    count_others = λ k ne. ap (λ d. d.count) (head_other t2 h k e ne) ∙ (last_count s1 t1 h q p lt1 small1 k ∙ first_count s t h p q lt small_p k);
  }
