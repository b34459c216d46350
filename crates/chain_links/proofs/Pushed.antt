-- The neighbors after a slot was pushed.
use Rattle.std.proofs.Common.{◌≡◌, ◌≢◌, ◌⊎◌, inl, inr, ℕ, ◌+◌, ◌<◌, ◌≤◌, List, [], ◌∷◌, ◌++◌, length, map, get_or, arith, refl, sym, ap, ◌∙◌, subst, length-append}
use Rattle.std.proofs.Math.ListN.{set}
use Rattle.std.proofs.lemmas.List.FromFn.{get_or-map-range_with_len}
use Rattle.std.proofs.lemmas.Bool.{cases_eq}
use Rattle.std.specs.List.{range_with_len}
use Rattle.chain_links.specs.Lists.{Each, walk, none, IsList, AreLinked}
use Rattle.chain_links.proofs.Chains.{each_append, each_map, each_both, among_left, among_right, chain_prev, chain_push, length-walk, distinct_push}
use Rattle.chain_links.proofs.Linked.{length-le_slots, list_same, list_is, lists_set}

-- the slot x is to stand behind p, the last one of the head h
pub record Pushes (prev next : ℕ → ℕ → ℕ) (home count : ℕ → ℕ) (n m h x p : ℕ) : Type 0 where
  pub linked : AreLinked prev next home count n m
  pub few_slots : n ≤ none
  pub few_heads : m ≤ none
  pub end : home none ≡ none
  pub head : h < m
  pub slot : x < n
  pub free : home x ≡ none
  pub last : p ≡ prev h none

-- what was written
pub record IsPushed (prev next : ℕ → ℕ → ℕ) (home count : ℕ → ℕ) (prev' next' : ℕ → ℕ → ℕ) (home' count' : ℕ → ℕ) (h x p : ℕ) : Type 0 where
  pub next_last : next' h p ≡ x
  pub next_slot : next' h x ≡ none
  pub next_front : (k : ℕ) → k ≢ h → next' k none ≡ next k none
  pub next_others : (k z : ℕ) → z ≢ p → z ≢ x → next' k z ≡ next k z
  pub prev_slot : prev' h x ≡ p
  pub prev_end : prev' h none ≡ x
  pub prev_ends : (k : ℕ) → k ≢ h → prev' k none ≡ prev k none
  pub prev_others : (k z : ℕ) → z ≢ x → z ≢ none → prev' k z ≡ prev k z
  pub home_slot : home' x ≡ h
  pub home_others : (z : ℕ) → z ≢ x → home' z ≡ home z
  pub count_head : count' h ≡ count h + 1
  pub count_others : (k : ℕ) → k ≢ h → count' k ≡ count k

module _ (prev next : ℕ → ℕ → ℕ) (home count : ℕ → ℕ) (n m h x p : ℕ) (s : Pushes prev next home count n m h x p) where
  abbrev xs_of : ℕ → List ℕ
  xs_of k = walk (next k) none (count k)

  list_h : IsList (prev h) (next h) home n h (xs_of h)
  list_h = s.linked.lists h s.head

  pub home_p : (home p ≡ h) ⊎ (p ≡ none)
  home_p =
      rw s.last
      (chain_prev
      (λ z. (home z ≡ h) ⊎ (z ≡ none))
      (prev h)
      (next h)
      none
      (xs_of h)
      none
      list_h.chain
      (inr refl)
      (each_map (λ z. home z ≡ h) (λ z. (home z ≡ h) ⊎ (z ≡ none)) (xs_of h) (λ z e. inl e) list_h.homes))

  pub small_p : p ≢ none → p < n
  small_p ne =
      let P : ℕ → Type 0 = λ z. (z < n) ⊎ (z ≡ none) in
      elim (subst P (sym s.last) (chain_prev P (prev h) (next h) none (xs_of h) none list_h.chain (inr refl) (each_map (λ z. z < n) P (xs_of h) (λ z lt. inl lt) list_h.small))) [
        | inl lt ↦ lt
        | inr e ↦ absurd (ne e)
      ]

  -- x is in no list
  apart_x : (k : ℕ) → k < m → (z : ℕ) → home z ≡ k → z ≢ x
  apart_x k lt z e same = let f = s.free in let g : home z ≡ home x = ap home same in let few = s.few_heads in omega arith

  not_end : (k : ℕ) → k < m → (z : ℕ) → home z ≡ k → z ≢ none
  not_end k lt z e same = let f = s.end in let g : home z ≡ home none = ap home same in let few = s.few_heads in omega arith

  not_p : (k : ℕ) → k < m → k ≢ h → (z : ℕ) → home z ≡ k → z ≢ p
  not_p k lt ne z e same = elim home_p [
    | inl own ↦ ne (sym e ∙ (ap home same ∙ own))
    | inr far ↦ not_end k lt z e (same ∙ far)
  ]

  x_not_end : x ≢ none
  x_not_end e = let lt = s.slot in let few = s.few_slots in omega arith

  pub p_not_x : p ≢ x
  p_not_x e = elim home_p [
    | inl own ↦ apart_x h s.head p own e
    | inr far ↦ x_not_end (sym e ∙ far)
  ]

  not_x : Each (λ z. z ≢ x) (xs_of h)
  not_x = each_map (λ z. home z ≡ h) (λ z. z ≢ x) (xs_of h) (apart_x h s.head) list_h.homes

  pub count_fits : count h < n
  count_fits =
      let all : length (xs_of h ++ x ∷ []) ≤ n =
      length-le_slots n (xs_of h ++ x ∷ []) (distinct_push x (xs_of h) not_x list_h.apart) (each_append (λ z. z < n) (xs_of h) (x ∷ []) list_h.small (s.slot, tt)) in
      omega (arith, length-walk (next h) none (count h), length-append (xs_of h) (x ∷ []))

  no_end : Each (λ z. z ≢ none) (xs_of h)
  no_end = each_map (λ z. home z ≡ h) (λ z. z ≢ none) (xs_of h) (not_end h s.head) list_h.homes

  module _ (prev' next' : ℕ → ℕ → ℕ) (home' count' : ℕ → ℕ) (w : IsPushed prev next home count prev' next' home' count' h x p) where
    abbrev xs_of' : ℕ → List ℕ
    xs_of' k = walk (next' k) none (count' k)

    pushed_h : IsList (prev' h) (next' h) home' n h (xs_of h ++ x ∷ [])
    pushed_h = record {
      chain =
          chain_push
          (prev h)
          (next h)
          (prev' h)
          (next' h)
          x
          none
          (xs_of h)
          none
          list_h.chain
          (ap (next' h) (sym s.last) ∙ w.next_last)
          (w.prev_slot ∙ s.last)
          w.next_slot
          w.prev_end
          (λ z np nx. w.next_others h z (λ e. np (e ∙ s.last)) nx)
          (w.prev_others h)
          (λ e. x_not_end (sym e))
          not_x
          no_end
          (each_map (λ z. z ≢ none) (λ z. none ≢ z) (xs_of h) (λ z ne e. ne (sym e)) no_end)
          list_h.apart;
      homes =
          each_append
          (λ z. home' z ≡ h)
          (xs_of h)
          (x ∷ [])
          (each_both (λ z. home z ≡ h) (λ z. z ≢ x) (λ z. home' z ≡ h) (xs_of h) (λ z e ne. w.home_others z ne ∙ e) list_h.homes not_x)
          (w.home_slot, tt);
      small = each_append (λ z. z < n) (xs_of h) (x ∷ []) list_h.small (s.slot, tt);
      apart = distinct_push x (xs_of h) not_x list_h.apart;
      whole =
          λ y lt e. elim (cases_eq y x) [
            | inl same ↦ among_right y (xs_of h) (x ∷ []) (inl same)
            | inr ne ↦ among_left y (xs_of h) (x ∷ []) (list_h.whole y lt (sym (w.home_others y ne) ∙ e))
          ];
    }

    pushed_k : (k : ℕ) → k < m → k ≢ h → IsList (prev' k) (next' k) home' n k (xs_of k)
    pushed_k k lt ne =
        list_same
        (prev k)
        (next k)
        home
        (prev' k)
        (next' k)
        home'
        n
        k
        (xs_of k)
        (s.linked.lists k lt)
        (w.next_front k ne)
        (w.prev_ends k ne)
        (λ z e. w.next_others k z (not_p k lt ne z e) (apart_x k lt z e))
        (λ z e. w.prev_others k z (apart_x k lt z e) (not_end k lt z e))
        (λ z e. w.home_others z (apart_x k lt z e) ∙ e)
        (λ z e. elim (cases_eq z x) [
          | inl same ↦ absurd (ne (sym e ∙ (ap home' same ∙ w.home_slot)))
          | inr other ↦ sym (w.home_others z other) ∙ e
        ])

    list_h' : xs_of' h ≡ xs_of h ++ x ∷ []
    list_h' =
        list_is
        (prev' h)
        (next' h)
        home'
        n
        h
        (count' h)
        (xs_of h ++ x ∷ [])
        pushed_h
        (w.count_head ∙ omega (arith, length-append (xs_of h) (x ∷ []), length-walk (next h) none (count h)))

    list_k' : (k : ℕ) → k < m → k ≢ h → xs_of' k ≡ xs_of k
    list_k' k lt ne =
        list_is
        (prev' k)
        (next' k)
        home'
        n
        k
        (count' k)
        (xs_of k)
        (pushed_k k lt ne)
        (w.count_others k ne ∙ sym (length-walk (next k) none (count k)))

    pub push_linked : AreLinked prev' next' home' count' n m
    push_linked = record {
      members =
          λ y. elim (cases_eq y x) [
            | inl same ↦ inr (let e : home' y ≡ h = ap home' same ∙ w.home_slot in let hd = s.head in omega arith)
            | inr ne ↦ (let P : ℕ → Type 0 = λ z. (z ≡ none) ⊎ (z < m) in subst P (sym (w.home_others y ne)) (s.linked.members y))
          ];
      lists =
          λ k lt. elim (cases_eq k h) [
            | inl same ↦
                let Q : ℕ → Type 0 = λ j. IsList (prev' j) (next' j) home' n j (xs_of' j) in
                let R : List ℕ → Type 0 = λ ys. IsList (prev' h) (next' h) home' n h ys in
                subst Q (sym same) (subst R (sym list_h') pushed_h)
            | inr ne ↦ (let R : List ℕ → Type 0 = λ ys. IsList (prev' k) (next' k) home' n k ys in subst R (sym (list_k' k lt ne)) (pushed_k k lt ne))
          ];
    }

    pub push_lists : map xs_of' (range_with_len 0 m) ≡ set (map xs_of (range_with_len 0 m)) h (get_or (map xs_of (range_with_len 0 m)) h [] ++ x ∷ [])
    push_lists =
        let there : get_or (map xs_of (range_with_len 0 m)) h [] ≡ xs_of h = get_or-map-range_with_len xs_of 0 m h h [] s.head (omega arith) in
        rw there (lists_set xs_of xs_of' m h (xs_of h ++ x ∷ []) s.head list_h' list_k')
