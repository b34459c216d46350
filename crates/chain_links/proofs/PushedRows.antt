-- What `push_back` writes.
use Rattle.std.proofs.Common.{◌≡◌, ◌≢◌, inl, inr, ℕ, ◌+◌, ◌<◌, ◌≤◌, List, length, arith, refl, sym, ap, ◌∙◌}
use Rattle.std.proofs.Math.ListN.{set}
use Rattle.std.proofs.lemmas.Bool.{cases_eq}
use Rattle.chain_links.specs.declared.rows.Slot.{Slot}
use Rattle.chain_links.specs.declared.rows.Head.{Head}
use Rattle.chain_links.specs.Lists.{none, slot_at, head_at, home_of, count_of, before, after, with_next, with_first}
use Rattle.chain_links.proofs.Pushed.{IsPushed}
use Rattle.chain_links.proofs.Written.{slot_same, slot_other, head_same, head_other, after_slot, before_slot, next_length, first_length, next_here, next_others, next_fronts, next_home, first_count, next_before}

module _ (s : List Slot) (t : List Head) (h x p : ℕ) (e : Head) (lt : h < length t) (small : p ≢ none → p < length s) (slot : x < length s) (few : length s ≤ none) (apart : p ≢ x)
    (first : e.first ≡ (head_at (with_first t h p x) h).first) (count : e.count ≡ count_of t h + 1) (last : e.last ≡ x) where
  abbrev pub slots_p : List Slot
  slots_p = set (with_next s p x) x (record { prev = p; next = none; home = h })

  abbrev pub heads_p : List Head
  heads_p = set (with_first t h p x) h e

  x_far : x ≢ none
  x_far z = let l = slot in let f = few in omega arith

  row_x : slot_at slots_p x ≡ record { prev = p; next = none; home = h }
  row_x = slot_same (with_next s p x) x (record { prev = p; next = none; home = h }) (let l = slot in omega (arith, next_length s t h p x lt small))

  row_z : (z : ℕ) → z ≢ x → slot_at slots_p z ≡ slot_at (with_next s p x) z
  row_z z ne = slot_other (with_next s p x) x z (record { prev = p; next = none; home = h }) ne

  head_h : head_at heads_p h ≡ e
  head_h = head_same (with_first t h p x) h e (let l = lt in omega (arith, first_length s t h p x lt small))

  head_k : (k : ℕ) → k ≢ h → head_at heads_p k ≡ head_at (with_first t h p x) k
  head_k k ne = head_other (with_first t h p x) h k e ne

  -- the front of the head stays as `with_first` left it
  next_z : (k z : ℕ) → z ≢ x → after slots_p heads_p k z ≡ after (with_next s p x) (with_first t h p x) k z
  next_z k z ne =
      let fronts : (head_at heads_p k).first ≡ (head_at (with_first t h p x) k).first = elim (cases_eq k h) [
        | inl same ↦ rw (same, head_h) first
        | inr nk ↦ ap (λ d. d.first) (head_k k nk)
      ] in
      rw (row_z z ne, fronts) refl

  prev_z : (k z : ℕ) → z ≢ x → z ≢ none → before slots_p heads_p k z ≡ before s t k z
  prev_z k z nx ne =
      before_slot slots_p heads_p k z ne
      ∙ (ap (λ r. r.prev) (row_z z nx) ∙ (sym (before_slot (with_next s p x) (with_first t h p x) k z ne) ∙ next_before s t h p x lt small k z))

  pub pushed_rows : IsPushed (before s t) (after s t) (home_of s) (count_of t) (before slots_p heads_p) (after slots_p heads_p) (home_of slots_p) (count_of heads_p) h x p
  pushed_rows = record {
    next_last = next_z h p apart ∙ next_here s t h p x lt small;
    next_slot = after_slot slots_p heads_p h x x_far ∙ ap (λ r. r.next) row_x;
    next_front = λ k ne. next_z k none (λ z. x_far (sym z)) ∙ next_fronts s t h p x lt small k ne;
    next_others = λ k z np nx. next_z k z nx ∙ next_others s t h p x lt small k z np;
    prev_slot = before_slot slots_p heads_p h x x_far ∙ ap (λ r. r.prev) row_x;
    prev_end = ap (λ d. d.last) head_h ∙ last;
    prev_ends = λ k ne. ap (λ d. d.last) (head_k k ne) ∙ next_before s t h p x lt small k none;
    prev_others = λ k z nx ne. prev_z k z nx ne;
    home_slot = ap (λ r. r.home) row_x;
    home_others = λ z ne. ap (λ r. r.home) (row_z z ne) ∙ next_home s t h p x lt small z;
    count_head = ap (λ d. d.count) head_h ∙ count;
    count_others = λ k ne. ap (λ d. d.count) (head_k k ne) ∙ first_count s t h p x lt small k;
  }
