-- What the neighbors are after rows were written.
use Rattle.std.proofs.Common.{◌≡◌, ◌≢◌, inl, inr, ℕ, ◌<◌, false, List, length, arith, refl, sym, ap, ◌∙◌, eqb}
use Rattle.std.proofs.Math.ListN.{set}
use Rattle.std.proofs.lemmas.List.{length-set, get_or-set_same, get_or-set_other}
use Rattle.std.proofs.lemmas.Bool.{cases_eq}
use Rattle.std.proofs.lemmas.Bool.Decides.{nat_tests}
use Rattle.chain_links.specs.declared.rows.Slot.{Slot}
use Rattle.chain_links.specs.declared.rows.Head.{Head}
use Rattle.chain_links.specs.Lists.{none, loose, bare, slot_at, head_at, home_of, count_of, before, after, with_next, with_prev, with_first, with_last}

not_none : (z : ℕ) → z ≢ none → eqb z none ≡ false
not_none z ne = grind (arith, nat_tests, ne)

pub slot_same : (s : List Slot) (x : ℕ) (r : Slot) → x < length s → slot_at (set s x r) x ≡ r
slot_same s x r lt = get_or-set_same s x r loose lt

pub slot_other : (s : List Slot) (x z : ℕ) (r : Slot) → z ≢ x → slot_at (set s x r) z ≡ slot_at s z
slot_other s x z r ne = get_or-set_other s x z r loose ne

pub head_same : (t : List Head) (h : ℕ) (e : Head) → h < length t → head_at (set t h e) h ≡ e
head_same t h e lt = get_or-set_same t h e bare lt

pub head_other : (t : List Head) (h k : ℕ) (e : Head) → k ≢ h → head_at (set t h e) k ≡ head_at t k
head_other t h k e ne = get_or-set_other t h k e bare ne

-- a slot's neighbors stand in its own row
pub after_slot : (s : List Slot) (t : List Head) (k z : ℕ) → z ≢ none → after s t k z ≡ (slot_at s z).next
after_slot s t k z ne = rw (not_none z ne) refl

pub before_slot : (s : List Slot) (t : List Head) (k z : ℕ) → z ≢ none → before s t k z ≡ (slot_at s z).prev
before_slot s t k z ne = rw (not_none z ne) refl

pub after_same : (s s' : List Slot) (t t' : List Head) (k z : ℕ) → slot_at s' z ≡ slot_at s z → head_at t' k ≡ head_at t k → after s' t' k z ≡ after s t k z
after_same s s' t t' k z e f = rw (e, f) refl

pub before_same : (s s' : List Slot) (t t' : List Head) (k z : ℕ) → slot_at s' z ≡ slot_at s z → head_at t' k ≡ head_at t k → before s' t' k z ≡ before s t k z
before_same s s' t t' k z e f = rw (e, f) refl

-- the rows with another slot after p
module _ (s : List Slot) (t : List Head) (h p v : ℕ) (lt : h < length t) (small : p ≢ none → p < length s) where
  next_slots : p ≢ none → with_next s p v ≡ set s p (record (slot_at s p) { next = v })
  next_slots ne = rw (not_none p ne) refl

  next_heads : p ≢ none → with_first t h p v ≡ t
  next_heads ne = rw (not_none p ne) refl

  pub next_length : length (with_next s p v) ≡ length s
  next_length = elim (cases_eq p none) [
    | inl same ↦ rw same refl
    | inr ne ↦ rw (next_slots ne) (length-set s p (record (slot_at s p) { next = v }))
  ]

  pub first_length : length (with_first t h p v) ≡ length t
  first_length = elim (cases_eq p none) [
    | inl same ↦ rw same (length-set t h (record (head_at t h) { first = v }))
    | inr ne ↦ rw (next_heads ne) refl
  ]

  pub next_here : after (with_next s p v) (with_first t h p v) h p ≡ v
  next_here = elim (cases_eq p none) [
    | inl same ↦ rw same (ap (λ e. e.first) (head_same t h (record (head_at t h) { first = v }) lt))
    | inr ne ↦
        after_slot (with_next s p v) (with_first t h p v) h p ne
        ∙ rw (next_slots ne) (ap (λ r. r.next) (slot_same s p (record (slot_at s p) { next = v }) (small ne)))
  ]

  pub next_others : (k z : ℕ) → z ≢ p → after (with_next s p v) (with_first t h p v) k z ≡ after s t k z
  next_others k z nz = elim (cases_eq p none) [
    | inl same ↦
        let far : z ≢ none = λ e. nz (e ∙ sym same) in
        after_slot (with_next s p v) (with_first t h p v) k z far ∙ (rw same refl ∙ sym (after_slot s t k z far))
    | inr ne ↦ rw (next_slots ne, next_heads ne) (after_same s (set s p (record (slot_at s p) { next = v })) t t k z (slot_other s p z (record (slot_at s p) { next = v }) nz) refl)
  ]

  pub next_fronts : (k : ℕ) → k ≢ h → after (with_next s p v) (with_first t h p v) k none ≡ after s t k none
  next_fronts k nk = elim (cases_eq p none) [
    | inl same ↦ rw same (ap (λ e. e.first) (head_other t h k (record (head_at t h) { first = v }) nk))
    | inr ne ↦ rw (next_heads ne) refl
  ]

  next_row : (z : ℕ) → ((slot_at (with_next s p v) z).prev ≡ (slot_at s z).prev) × ((slot_at (with_next s p v) z).home ≡ (slot_at s z).home)
  next_row z = elim (cases_eq p none) [
    | inl same ↦ rw same (refl, refl)
    | inr ne ↦ elim (cases_eq z p) [
      | inl here ↦ rw (next_slots ne, here, slot_same s p (record (slot_at s p) { next = v }) (small ne)) (refl, refl)
      | inr nz ↦ rw (next_slots ne, slot_other s p z (record (slot_at s p) { next = v }) nz) (refl, refl)
    ]
  ]

  first_row : (k : ℕ) → ((head_at (with_first t h p v) k).last ≡ (head_at t k).last) × (count_of (with_first t h p v) k ≡ count_of t k)
  first_row k = elim (cases_eq p none) [
    | inl same ↦ elim (cases_eq k h) [
      | inl here ↦ (let w = head_same t h (record (head_at t h) { first = v }) lt in rw (same, here) (ap (λ d. d.last) w, ap (λ d. d.count) w))
      | inr nk ↦ (let w = head_other t h k (record (head_at t h) { first = v }) nk in rw same (ap (λ d. d.last) w, ap (λ d. d.count) w))
    ]
    | inr ne ↦ rw (next_heads ne) (refl, refl)
  ]

  pub next_home : (z : ℕ) → home_of (with_next s p v) z ≡ home_of s z
  next_home z = let r = next_row z in r.1

  pub first_count : (k : ℕ) → count_of (with_first t h p v) k ≡ count_of t k
  first_count k = let r = first_row k in r.1

  pub next_before : (k z : ℕ) → before (with_next s p v) (with_first t h p v) k z ≡ before s t k z
  next_before k z = let r = next_row z in let e = first_row k in rw (r.0, e.0) refl

-- the rows with another slot before q
module _ (s : List Slot) (t : List Head) (h q v : ℕ) (lt : h < length t) (small : q ≢ none → q < length s) where
  prev_slots : q ≢ none → with_prev s q v ≡ set s q (record (slot_at s q) { prev = v })
  prev_slots ne = rw (not_none q ne) refl

  prev_heads : q ≢ none → with_last t h q v ≡ t
  prev_heads ne = rw (not_none q ne) refl

  pub prev_length : length (with_prev s q v) ≡ length s
  prev_length = elim (cases_eq q none) [
    | inl same ↦ rw same refl
    | inr ne ↦ rw (prev_slots ne) (length-set s q (record (slot_at s q) { prev = v }))
  ]

  pub last_length : length (with_last t h q v) ≡ length t
  last_length = elim (cases_eq q none) [
    | inl same ↦ rw same (length-set t h (record (head_at t h) { last = v }))
    | inr ne ↦ rw (prev_heads ne) refl
  ]

  pub prev_here : before (with_prev s q v) (with_last t h q v) h q ≡ v
  prev_here = elim (cases_eq q none) [
    | inl same ↦ rw same (ap (λ e. e.last) (head_same t h (record (head_at t h) { last = v }) lt))
    | inr ne ↦
        before_slot (with_prev s q v) (with_last t h q v) h q ne
        ∙ rw (prev_slots ne) (ap (λ r. r.prev) (slot_same s q (record (slot_at s q) { prev = v }) (small ne)))
  ]

  pub prev_others : (k z : ℕ) → z ≢ q → before (with_prev s q v) (with_last t h q v) k z ≡ before s t k z
  prev_others k z nz = elim (cases_eq q none) [
    | inl same ↦
        let far : z ≢ none = λ e. nz (e ∙ sym same) in
        before_slot (with_prev s q v) (with_last t h q v) k z far ∙ (rw same refl ∙ sym (before_slot s t k z far))
    | inr ne ↦ rw (prev_slots ne, prev_heads ne) (before_same s (set s q (record (slot_at s q) { prev = v })) t t k z (slot_other s q z (record (slot_at s q) { prev = v }) nz) refl)
  ]

  pub prev_ends : (k : ℕ) → k ≢ h → before (with_prev s q v) (with_last t h q v) k none ≡ before s t k none
  prev_ends k nk = elim (cases_eq q none) [
    | inl same ↦ rw same (ap (λ e. e.last) (head_other t h k (record (head_at t h) { last = v }) nk))
    | inr ne ↦ rw (prev_heads ne) refl
  ]

  prev_row : (z : ℕ) → ((slot_at (with_prev s q v) z).next ≡ (slot_at s z).next) × ((slot_at (with_prev s q v) z).home ≡ (slot_at s z).home)
  prev_row z = elim (cases_eq q none) [
    | inl same ↦ rw same (refl, refl)
    | inr ne ↦ elim (cases_eq z q) [
      | inl here ↦ rw (prev_slots ne, here, slot_same s q (record (slot_at s q) { prev = v }) (small ne)) (refl, refl)
      | inr nz ↦ rw (prev_slots ne, slot_other s q z (record (slot_at s q) { prev = v }) nz) (refl, refl)
    ]
  ]

  last_row : (k : ℕ) → ((head_at (with_last t h q v) k).first ≡ (head_at t k).first) × (count_of (with_last t h q v) k ≡ count_of t k)
  last_row k = elim (cases_eq q none) [
    | inl same ↦ elim (cases_eq k h) [
      | inl here ↦ (let w = head_same t h (record (head_at t h) { last = v }) lt in rw (same, here) (ap (λ d. d.first) w, ap (λ d. d.count) w))
      | inr nk ↦ (let w = head_other t h k (record (head_at t h) { last = v }) nk in rw same (ap (λ d. d.first) w, ap (λ d. d.count) w))
    ]
    | inr ne ↦ rw (prev_heads ne) (refl, refl)
  ]

  pub prev_home : (z : ℕ) → home_of (with_prev s q v) z ≡ home_of s z
  prev_home z = let r = prev_row z in r.1

  pub last_count : (k : ℕ) → count_of (with_last t h q v) k ≡ count_of t k
  last_count k = let r = last_row k in r.1

  pub prev_after : (k z : ℕ) → after (with_prev s q v) (with_last t h q v) k z ≡ after s t k z
  prev_after k z = let r = prev_row z in let e = last_row k in rw (r.0, e.0) refl
