-- The rows and the view with more slots, and with more heads.
use Rattle.std.proofs.Common.{◌≡◌, ◌⊎◌, inl, inr, ℕ, zero, suc, ◌+◌, ◌-◌, ◌<◌, ◌≤◌, max, List, [], ◌∷◌, ◌++◌, length, map, get_or, arith, refl, sym, ap, ◌∙◌, subst, replicate, length-append, append-nil}
use Rattle.std.proofs.lemmas.List.{get_or_past, get_or-replicate, length-replicate, ext_get_or}
use Rattle.std.proofs.lemmas.List.FromFn.{length-map-range_with_len, get_or-map-range_with_len}
use Rattle.std.proofs.lemmas.Bool.{cases_lt}
use Rattle.std.specs.Prelude.{Result, Ok, Err, OnOk, OnErr}
use Rattle.std.specs.List.{range_with_len}
use Rattle.chain_links.specs.declared.rows.Slot.{Slot}
use Rattle.chain_links.specs.declared.rows.Head.{Head}
use Rattle.chain_links.specs.Lists.{LinksView, IsList, AreRows, none, loose, bare, slot_at, head_at, home_of, count_of, before, after, list_of, lists_of, walk, with_slots, with_heads}
use Rattle.chain_links.proofs.Chains.{each_map, length-walk}
use Rattle.chain_links.proofs.Linked.{list_same, list_is}
use Rattle.chain_links.proofs.Written.{after_same, before_same}
use Rattle.chain_links.proofs.Seen.{seen}

-- blank rows at the end read as if there were none
pub read_blank : {X : Type 0} (xs : List X) (k i : ℕ) (d : X) → get_or (xs ++ replicate k d) i d ≡ get_or xs i d
read_blank [] k i d = elim (cases_lt i k) [
  | inl lt ↦ get_or-replicate k i d d lt
  | inr ge ↦ get_or_past (replicate k d) i d (omega (arith, length-replicate k d))
]
read_blank (x ∷ xs) k zero d = refl
read_blank (x ∷ xs) k (suc i) d = read_blank xs k i d

lists_more : (f g : ℕ → List ℕ) (m k total : ℕ) → total ≡ m + k → ((i : ℕ) → i < m → g i ≡ f i) → ((i : ℕ) → m ≤ i → i < total → g i ≡ [])
    → map g (range_with_len 0 total) ≡ map f (range_with_len 0 m) ++ replicate k []
lists_more f g m k total sum old new =
    ext_get_or
    []
    (map g (range_with_len 0 total))
    (map f (range_with_len 0 m) ++ replicate k [])
    (omega (arith, length-map-range_with_len g 0 total, length-append (map f (range_with_len 0 m)) (replicate k []), length-map-range_with_len f 0 m, length-replicate {A = List ℕ} k []))
    (λ i low.
    let lt : i < total = omega (arith, length-map-range_with_len g 0 total) in
    get_or-map-range_with_len g 0 total i i [] lt (omega arith)
    ∙ (elim (cases_lt i m) [
      | inl small ↦ old i small ∙ sym (get_or-map-range_with_len f 0 m i i [] small (omega arith))
      | inr ge ↦ new i ge lt ∙ sym (get_or_past (map f (range_with_len 0 m)) i [] (omega (arith, length-map-range_with_len f 0 m)))
    ] ∙ sym (read_blank (map f (range_with_len 0 m)) k i [])))

module _ (s : List Slot) (t : List Head) (v : LinksView) (rows : AreRows s t) (e : seen s t ≡ v) where
  -- the slots are so many at least
  module _ (slots : ℕ) (fits : slots ≤ none) where
    abbrev s' : List Slot
    s' = s ++ replicate (slots - length s) loose

    long : length s' ≡ max (length s) slots
    long = omega (arith, length-append s (replicate (slots - length s) loose), length-replicate (slots - length s) loose)

    row : (z : ℕ) → slot_at s' z ≡ slot_at s z
    row z = read_blank s (slots - length s) z loose

    home_same : (z : ℕ) → home_of s' z ≡ home_of s z
    home_same z = ap (λ r. r.home) (row z)

    linked_s : (h : ℕ) → h < length t → IsList (before s' t h) (after s' t h) (home_of s') (length s) h (list_of s t h)
    linked_s h lt =
        list_same
        (before s t h)
        (after s t h)
        (home_of s)
        (before s' t h)
        (after s' t h)
        (home_of s')
        (length s)
        h
        (list_of s t h)
        (rows.linked.lists h lt)
        refl
        refl
        (λ z _. after_same s s' t t h z (row z) refl)
        (λ z _. before_same s s' t t h z (row z) refl)
        (λ z own. home_same z ∙ own)
        (λ z own. sym (home_same z) ∙ own)

    list_s : (h : ℕ) → h < length t → list_of s' t h ≡ list_of s t h
    list_s h lt = list_is (before s' t h) (after s' t h) (home_of s') (length s) h (count_of t h) (list_of s t h) (linked_s h lt) (sym (length-walk (after s t h) none (count_of t h)))

    pub slots_rows : AreRows s' t
    slots_rows = record {
      linked = record {
        members = λ x. let P : ℕ → Type 0 = λ z. (z ≡ none) ⊎ (z < length t) in subst P (sym (home_same x)) (rows.linked.members x);
        lists =
            λ h lt.
            let l = linked_s h lt in
            let R : List ℕ → Type 0 = λ xs. IsList (before s' t h) (after s' t h) (home_of s') (length s') h xs in
            subst R (sym (list_s h lt)) (record {
              chain = l.chain;
              homes = l.homes;
              small = each_map (λ x. x < length s) (λ x. x < length s') (list_of s t h) (λ x small. omega (arith, long)) l.small;
              apart = l.apart;
              whole =
                  λ x _ own. elim (cases_lt x (length s)) [
                    | inl small ↦ l.whole x small own
                    | inr ge ↦
                        let free : home_of s x ≡ none = ap (λ r. r.home) (get_or_past s x loose ge) in
                        let few = rows.few_heads in
                        absurd (omega (arith, home_same x))
                  ];
            });
      };
      few_slots = (let few = rows.few_slots in omega (arith, long));
      few_heads = rows.few_heads;
    }

    pub slots_view : seen s' t ≡ with_slots v slots
    slots_view =
        (let same : lists_of s' t ≡ lists_of s t ++ [] = lists_more (list_of s t) (list_of s' t) (length t) 0 (length t) (omega arith) list_s (λ i ge lt. absurd (omega arith)) in
        rw (long, same, append-nil (lists_of s t)) refl)
        ∙ ap (λ w. with_slots w slots) e

  -- the heads are so many at least
  module _ (heads : ℕ) (fits : heads ≤ none) where
    abbrev t' : List Head
    t' = t ++ replicate (heads - length t) bare

    total : length t' ≡ length t + (heads - length t)
    total = omega (arith, length-append t (replicate (heads - length t) bare), length-replicate (heads - length t) bare)

    ends : (k : ℕ) → head_at t' k ≡ head_at t k
    ends k = read_blank t (heads - length t) k bare

    linked_t : (h : ℕ) → h < length t → IsList (before s t' h) (after s t' h) (home_of s) (length s) h (list_of s t h)
    linked_t h lt =
        list_same
        (before s t h)
        (after s t h)
        (home_of s)
        (before s t' h)
        (after s t' h)
        (home_of s)
        (length s)
        h
        (list_of s t h)
        (rows.linked.lists h lt)
        (after_same s s t t' h none refl (ends h))
        (before_same s s t t' h none refl (ends h))
        (λ z _. after_same s s t t' h z refl (ends h))
        (λ z _. before_same s s t t' h z refl (ends h))
        (λ z own. own)
        (λ z own. own)

    list_t : (h : ℕ) → h < length t → list_of s t' h ≡ list_of s t h
    list_t h lt =
        list_is
        (before s t' h)
        (after s t' h)
        (home_of s)
        (length s)
        h
        (count_of t' h)
        (list_of s t h)
        (linked_t h lt)
        (ap (λ d. d.count) (ends h) ∙ sym (length-walk (after s t h) none (count_of t h)))

    new_head : (h : ℕ) → length t ≤ h → head_at t' h ≡ bare
    new_head h ge = ends h ∙ get_or_past t h bare ge

    new_list : (h : ℕ) → length t ≤ h → list_of s t' h ≡ []
    new_list h ge = ap (λ k. walk (after s t' h) none k) (ap (λ d. d.count) (new_head h ge))

    pub heads_rows : AreRows s t'
    heads_rows = record {
      linked = record {
        members = λ x. elim (rows.linked.members x) [ inl free ↦ inl free | inr lt ↦ inr (omega (arith, total)) ];
        lists =
            λ h lt.
            let R : List ℕ → Type 0 = λ xs. IsList (before s t' h) (after s t' h) (home_of s) (length s) h xs in
            elim (cases_lt h (length t)) [
              | inl small ↦ subst R (sym (list_t h small)) (linked_t h small)
              | inr ge ↦ subst R (sym (new_list h ge)) (record {
                chain = (ap (λ d. d.first) (new_head h ge), ap (λ d. d.last) (new_head h ge));
                homes = tt;
                small = tt;
                apart = tt;
                whole = λ x _ own. elim (rows.linked.members x) [
                  | inl free ↦ (let few = rows.few_heads in absurd (omega (arith, total)))
                  | inr below ↦ absurd (omega arith)
                ];
              })
            ];
      };
      few_slots = rows.few_slots;
      few_heads = (let few = rows.few_heads in omega (arith, total));
    }

    pub heads_view : seen s t' ≡ with_heads v heads
    heads_view =
        (let more : lists_of s t' ≡ lists_of s t ++ replicate (heads - length t) [] =
        lists_more (list_of s t) (list_of s t') (length t) (heads - length t) (length t') total list_t (λ i ge lt. new_list i ge) in
        rw (more, length-map-range_with_len (list_of s t) 0 (length t)) refl)
        ∙ ap (λ w. with_heads w heads) e

-- what holds after success and after failure
pub ok_or_err : {T E A B : Type 0} (r : Result T E) → OnOk r A → OnErr r B → A ⊎ B
ok_or_err (Ok _) a b = inl a
ok_or_err (Err _) a b = inr b
