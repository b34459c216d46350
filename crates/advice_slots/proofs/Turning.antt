-- Classes in the buckets of the ticks at which their turns come.
use Rattle.std.proofs.Common.{◌≡◌, ◌≢◌, ◌⊎◌, inl, inr, ℕ, suc, zero, ◌+◌, ◌-◌, ◌%◌, ◌<◌, ◌≤◌, Bool, true, false, cond, List, [], ◌∷◌, ◌++◌, length, map, get_or, drop, ltb, arith, refl, sym, ap, ◌∙◌, subst, length-append}
use Rattle.std.proofs.Math.ListN.{set, get_or-map}
use Rattle.std.proofs.Math.Nat.{add-mod_right, mod-eq_of_lt}
use Rattle.std.proofs.lemmas.Bool.{cases_lt, cases_eq, lt-ltb, le-ltb}
use Rattle.std.proofs.lemmas.List.{length-set, length-map, get_or-set_same, get_or-set_other}
use Rattle.chain_links.specs.Lists.{LinksView, Among, IsMember, AreApart, list_at, pushed, unlinked, without}
use Rattle.slab.specs.Slab.{Slab}
use Rattle.slot_chains.specs.Chains.{over}
use Rattle.tick_wheel.specs.Wheel.{WheelView, IsArmed, advanced}
use Rattle.advice_slots.specs.declared.item.Held.{Held}
use Rattle.advice_slots.specs.Kept.{IsTurning, class_after, due_class}

pub at_head : (l : LinksView) (head slot : ℕ) → head < length l.lists → list_at (pushed l head slot) head ≡ list_at l head ++ slot ∷ []
at_head l head slot lt = get_or-set_same l.lists head (list_at l head ++ slot ∷ []) [] lt

pub at_other : (l : LinksView) (head slot h : ℕ) → h ≢ head → list_at (pushed l head slot) h ≡ list_at l h
at_other l head slot h ne = get_or-set_other l.lists head h (list_at l head ++ slot ∷ []) [] ne

pub at_unlinked : (l : LinksView) (slot h : ℕ) → list_at (unlinked l slot) h ≡ without slot (list_at l h)
at_unlinked l slot h = get_or-map (without slot) l.lists h []

-- ---- turns

abbrev IsAfter : ℕ → ℕ → ℕ → Type 0
IsAfter ticks turn a = ((turn + a < ticks) × (class_after ticks turn a ≡ turn + a)) ⊎ ((ticks ≤ turn + a) × (class_after ticks turn a ≡ turn + a - ticks))

after_is : (ticks turn a : ℕ) → IsAfter ticks turn a
after_is ticks turn a = elim (cases_lt (turn + a) ticks) [
  | inl lt ↦ inl (lt, ap (λ (b : Bool). cond b (turn + a) (turn + a - ticks)) (lt-ltb (turn + a) ticks lt))
  | inr le ↦ inr (le, ap (λ (b : Bool). cond b (turn + a) (turn + a - ticks)) (le-ltb (turn + a) ticks le))
]

pub after_small : (ticks turn a : ℕ) → turn < ticks → a ≤ ticks → class_after ticks turn a < ticks
after_small ticks turn a lt small = elim (after_is ticks turn a) [
  | inl w ↦ (let e = w.1 in let l = w.0 in omega (arith, e, l))
  | inr w ↦ (let e = w.1 in let l = w.0 in omega (arith, e, l, lt, small))
]

-- classes whose turns are less than all ticks apart are two
after_apart : (ticks turn a b : ℕ) → turn < ticks → a < ticks → b < ticks → class_after ticks turn a ≡ class_after ticks turn b → a ≡ b
after_apart ticks turn a b lt sa sb same = elim (after_is ticks turn a) [
  | inl v ↦ elim (after_is ticks turn b) [
    | inl w ↦ (let e = v.1 in let f = w.1 in omega (arith, e, f, same))
    | inr w ↦ (let e = v.1 in let f = w.1 in let l = w.0 in let k = v.0 in absurd (omega (arith, e, f, l, k, same, sa, sb, lt)))
  ]
  | inr v ↦ elim (after_is ticks turn b) [
    | inl w ↦ (let e = v.1 in let f = w.1 in let l = w.0 in let k = v.0 in absurd (omega (arith, e, f, l, k, same, sa, sb, lt)))
    | inr w ↦ (let e = v.1 in let f = w.1 in let l = w.0 in let k = v.0 in omega (arith, e, f, l, k, same))
  ]
]

-- a class comes round to its turn again
after_round : (ticks turn : ℕ) → turn < ticks → class_after ticks (class_after ticks turn 1) (ticks - 1) ≡ turn
after_round ticks turn lt = elim (after_is ticks turn 1) [
  | inl v ↦ elim (after_is ticks (class_after ticks turn 1) (ticks - 1)) [
    | inl w ↦ (let e = v.1 in let f = w.1 in let l = w.0 in let k = v.0 in omega (arith, e, f, l, k, lt))
    | inr w ↦ (let e = v.1 in let f = w.1 in let l = w.0 in let k = v.0 in omega (arith, e, f, l, k, lt))
  ]
  | inr v ↦ elim (after_is ticks (class_after ticks turn 1) (ticks - 1)) [
    | inl w ↦ (let e = v.1 in let f = w.1 in let l = w.0 in let k = v.0 in omega (arith, e, f, l, k, lt))
    | inr w ↦ (let e = v.1 in let f = w.1 in let l = w.0 in let k = v.0 in omega (arith, e, f, l, k, lt))
  ]
]

after_next : (ticks turn a : ℕ) → turn < ticks → a + 1 < ticks → class_after ticks turn (suc a) ≡ class_after ticks (class_after ticks turn 1) a
after_next ticks turn a lt small = elim (after_is ticks turn 1) [
  | inl v ↦ elim (after_is ticks turn (suc a)) [
    | inl u ↦ elim (after_is ticks (class_after ticks turn 1) a) [
      | inl w ↦ (let d = u.1 in let e = v.1 in let f = w.1 in let l = w.0 in let k = v.0 in let j = u.0 in omega (arith, d, e, f, l, k, j, lt))
      | inr w ↦ (let d = u.1 in let e = v.1 in let f = w.1 in let l = w.0 in let k = v.0 in let j = u.0 in omega (arith, d, e, f, l, k, j, lt))
    ]
    | inr u ↦ elim (after_is ticks (class_after ticks turn 1) a) [
      | inl w ↦ (let d = u.1 in let e = v.1 in let f = w.1 in let l = w.0 in let k = v.0 in let j = u.0 in omega (arith, d, e, f, l, k, j, lt))
      | inr w ↦ (let d = u.1 in let e = v.1 in let f = w.1 in let l = w.0 in let k = v.0 in let j = u.0 in omega (arith, d, e, f, l, k, j, lt))
    ]
  ]
  | inr v ↦ elim (after_is ticks turn (suc a)) [
    | inl u ↦ elim (after_is ticks (class_after ticks turn 1) a) [
      | inl w ↦ (let d = u.1 in let e = v.1 in let f = w.1 in let l = w.0 in let k = v.0 in let j = u.0 in omega (arith, d, e, f, l, k, j, lt, small))
      | inr w ↦ (let d = u.1 in let e = v.1 in let f = w.1 in let l = w.0 in let k = v.0 in let j = u.0 in omega (arith, d, e, f, l, k, j, lt, small))
    ]
    | inr u ↦ elim (after_is ticks (class_after ticks turn 1) a) [
      | inl w ↦ (let d = u.1 in let e = v.1 in let f = w.1 in let l = w.0 in let k = v.0 in let j = u.0 in omega (arith, d, e, f, l, k, j, lt, small))
      | inr w ↦ (let d = u.1 in let e = v.1 in let f = w.1 in let l = w.0 in let k = v.0 in let j = u.0 in omega (arith, d, e, f, l, k, j, lt, small))
    ]
  ]
]

-- the turn of a class comes
pub reach : (ticks turn class : ℕ) → turn < ticks → class < ticks → (ahead : ℕ) × (ahead < ticks) × (class_after ticks turn ahead ≡ class)
reach ticks turn class lt less = elim (cases_lt class turn) [
  | inl before ↦ (
    ticks - turn + class,
    omega (arith, before, lt),
    elim (after_is ticks turn (ticks - turn + class)) [
      | inl w ↦ (let l = w.0 in absurd (omega (arith, l, lt)))
      | inr w ↦ (let e = w.1 in omega (arith, e, lt))
    ],
  )
  | inr after ↦ (
    class - turn,
    omega (arith, after, less),
    elim (after_is ticks turn (class - turn)) [
      | inl w ↦ (let e = w.1 in omega (arith, e, after))
      | inr w ↦ (let l = w.0 in absurd (omega (arith, l, after, less)))
    ],
  )
]

pub due_below : (w : WheelView Held) (ticks turn a : ℕ) → a < ticks → due_class w ticks turn a ≡ list_at w.link (class_after ticks turn a)
due_below w ticks turn a lt = ap (λ (b : Bool). cond b (list_at w.link (class_after ticks turn a)) []) (lt-ltb a ticks lt)

pub due_past : (w : WheelView Held) (ticks turn a : ℕ) → ticks ≤ a → due_class w ticks turn a ≡ []
due_past w ticks turn a le = ap (λ (b : Bool). cond b (list_at w.link (class_after ticks turn a)) []) (le-ltb a ticks le)

-- what is due next
pub due_next : (w : WheelView Held) (ticks turn : ℕ) → IsTurning w ticks turn → get_or w.waiting 0 [] ≡ list_at w.link turn
due_next w ticks turn t =
    let some = t.some in
    let within = t.within in
    t.waiting 0 ∙ (due_below w ticks turn 0 (omega (arith, some)) ∙ ap (λ (k : ℕ). list_at w.link k) (elim (after_is ticks turn 0) [
      | inl v ↦ (let e = v.1 in omega (arith, e))
      | inr v ↦ (let l = v.0 in absurd (omega (arith, l, within)))
    ]))

-- ---- a slot enters, and leaves

module _ (w w' : WheelView Held) (ticks turn class ahead x : ℕ) (t : IsTurning w ticks turn) (heads : length w.link.lists ≡ ticks) (small : ahead < ticks) (is : class_after ticks turn ahead ≡ class)
    (link : w'.link ≡ pushed w.link class x) (waiting : w'.waiting ≡ set w.waiting ahead (get_or w.waiting ahead [] ++ x ∷ [])) where
  class_small : class < length w.link.lists
  class_small = let h = heads in let s = after_small ticks turn ahead t.within (omega (arith, small)) in omega (arith, h, s, is)

  still_due : (k : ℕ) → k ≢ ahead → due_class w ticks turn k ≡ due_class w' ticks turn k
  still_due k ne = elim (cases_lt k ticks) [
    | inl lt ↦
        due_below w ticks turn k lt
        ∙ (sym (ap (λ (l : LinksView). list_at l (class_after ticks turn k)) link ∙ at_other w.link class x (class_after ticks turn k) (λ same. ne (after_apart ticks turn k ahead t.within lt small (same ∙ sym is))))
        ∙ sym (due_below w' ticks turn k lt))
    | inr le ↦ due_past w ticks turn k le ∙ sym (due_past w' ticks turn k le)
  ]

  now_due : due_class w ticks turn ahead ++ x ∷ [] ≡ due_class w' ticks turn ahead
  now_due =
      ap (λ (xs : List ℕ). xs ++ x ∷ []) (due_below w ticks turn ahead small ∙ ap (λ (k : ℕ). list_at w.link k) is)
      ∙ (sym (ap (λ (l : LinksView). list_at l class) link ∙ at_head w.link class x class_small)
      ∙ sym (due_below w' ticks turn ahead small ∙ ap (λ (k : ℕ). list_at w'.link k) is))

  pub entered_turning : IsTurning w' ticks turn
  entered_turning = record {
    some = t.some;
    few = t.few;
    within = t.within;
    heads = inl (ap (λ (l : LinksView). length l.lists) link ∙ (length-set w.link.lists class (list_at w.link class ++ x ∷ []) ∙ heads));
    buckets = ap length waiting ∙ (length-set w.waiting ahead (get_or w.waiting ahead [] ++ x ∷ []) ∙ t.buckets);
    waiting =
        λ k. ap (λ (ws : List (List ℕ)). get_or ws k []) waiting ∙ elim (cases_eq k ahead) [
          | inl same ↦
              let b = t.buckets in
              let few = t.few in
              let G : ℕ → Type 0 = λ j. get_or (set w.waiting ahead (get_or w.waiting ahead [] ++ x ∷ [])) j [] ≡ due_class w' ticks turn j in
              subst G (sym same) (get_or-set_same w.waiting ahead (get_or w.waiting ahead [] ++ x ∷ []) [] (omega (arith, b, few, small)) ∙ (ap (λ (xs : List ℕ). xs ++ x ∷ []) (t.waiting ahead) ∙ now_due))
          | inr ne ↦ get_or-set_other w.waiting ahead k (get_or w.waiting ahead [] ++ x ∷ []) [] ne ∙ (t.waiting k ∙ still_due k ne)
        ];
  }

module _ (w w' : WheelView Held) (ticks turn x : ℕ) (t : IsTurning w ticks turn) (there : IsMember w.link x) (link : w'.link ≡ over (unlinked w.link x) w'.slots.capacity) (waiting : w'.waiting ≡ map (without x) w.waiting) where
  cut : (b : Bool) (c : ℕ) → without x (cond b (list_at w.link c) []) ≡ cond b (list_at w'.link c) []
  cut true c = sym (ap (λ (l : LinksView). list_at l c) link ∙ at_unlinked w.link x c)
  cut false c = refl

  pub left_turning : IsTurning w' ticks turn
  left_turning = record {
    some = t.some;
    few = t.few;
    within = t.within;
    heads =
        elim t.heads [
          | inl h ↦ inl (ap (λ (l : LinksView). length l.lists) link ∙ (length-map w.link.lists (without x) ∙ h))
          | inr none ↦ absurd (subst (Among x) (ap (λ (ls : List (List ℕ)). get_or ls there.0 []) none.0) there.1)
        ];
    buckets = ap length waiting ∙ (length-map w.waiting (without x) ∙ t.buckets);
    waiting =
        λ k.
        ap (λ (ws : List (List ℕ)). get_or ws k []) waiting
        ∙ (get_or-map (without x) w.waiting k []
        ∙ (ap (λ (xs : List ℕ). without x xs) (t.waiting k)
        ∙ cut (ltb k ticks) (class_after ticks turn k)));
  }

-- ---- a tick

turned_at : (waiting : List (List ℕ)) (a : ℕ) → get_or (drop 1 waiting ++ [] ∷ []) a [] ≡ get_or waiting (suc a) []
turned_at [] zero = refl
turned_at [] (suc a) = refl
turned_at (xs ∷ waiting) a = at_end waiting a
  where
    at_end : (ys : List (List ℕ)) (k : ℕ) → get_or (ys ++ [] ∷ []) k [] ≡ get_or ys k []
    at_end [] zero = refl
    at_end [] (suc k) = refl
    at_end (y ∷ ys) zero = refl
    at_end (y ∷ ys) (suc k) = at_end ys k

turned_length : (ws : List (List ℕ)) → length ws ≡ 4096 → length (drop 1 ws ++ [] ∷ []) ≡ 4096
turned_length [] e = absurd (omega (arith, e))
turned_length (w ∷ ws) e = length-append ws ([] ∷ []) ∙ omega (arith, e)

module _ (w : WheelView Held) (ticks turn : ℕ) (t : IsTurning w ticks turn) where
  turned_due : (a : ℕ) → get_or (advanced w).waiting a [] ≡ due_class w ticks turn (suc a)
  turned_due a = turned_at w.waiting a ∙ t.waiting (suc a)

  pub turned_none : get_or (advanced w).waiting (ticks - 1) [] ≡ []
  turned_none = turned_due (ticks - 1) ∙ due_past w ticks turn (suc (ticks - 1)) (omega arith)

  pub turned_buckets : length (advanced w).waiting ≡ 4096
  turned_buckets = turned_length w.waiting t.buckets

  -- no slot of the class that was due is due at another tick
  pub turned_free : AreApart w.link → (slot : ℕ) → Among slot (list_at w.link turn) → IsArmed (advanced w) slot → ⊥
  turned_free apart slot m arm =
      let within = t.within in
      let there : Among slot (due_class w ticks turn (suc arm.0)) = subst (Among slot) (turned_due arm.0) arm.1 in
      elim (cases_lt (suc arm.0) ticks) [
        | inl lt ↦
            let same = apart.one_list slot (class_after ticks turn (suc arm.0)) turn (subst (Among slot) (due_below w ticks turn (suc arm.0) lt) there) m in
            elim (after_is ticks turn (suc arm.0)) [
              | inl v ↦ (let e = v.1 in absurd (omega (arith, e, same)))
              | inr v ↦ (let e = v.1 in let l = v.0 in absurd (omega (arith, e, l, same, lt, within)))
            ]
        | inr le ↦ subst (Among slot) (due_past w ticks turn (suc arm.0) le) there
      ]

  pub turned_turning : (w' : WheelView Held) → w'.slots ≡ w.slots → w'.link ≡ w.link → w'.waiting ≡ set (advanced w).waiting (ticks - 1) (list_at w.link turn) → IsTurning w' ticks (class_after ticks turn 1)
  turned_turning w' slots link waiting = record {
    some = t.some;
    few = t.few;
    within = after_small ticks turn 1 t.within t.some;
    heads =
        elim t.heads [
          | inl h ↦ inl (ap (λ (l : LinksView). length l.lists) link ∙ h)
          | inr none ↦ inr (ap (λ (l : LinksView). l.lists) link ∙ none.0, ap (λ (v : Slab Held). v.capacity) slots ∙ none.1)
        ];
    buckets = ap length waiting ∙ (length-set (advanced w).waiting (ticks - 1) (list_at w.link turn) ∙ turned_buckets);
    waiting = λ a. ap (λ (ws : List (List ℕ)). get_or ws a []) waiting ∙ at a;
  } where
    again : ℕ
    again = class_after ticks turn 1

    same_link : (k : ℕ) → list_at w'.link k ≡ list_at w.link k
    same_link k = ap (λ (l : LinksView). list_at l k) link

    last : list_at w.link turn ≡ due_class w' ticks (class_after ticks turn 1) (ticks - 1)
    last =
        let some = t.some in
        sym (due_below w' ticks (class_after ticks turn 1) (ticks - 1) (omega (arith, some))
        ∙ (same_link (class_after ticks (class_after ticks turn 1) (ticks - 1)) ∙ ap (λ (k : ℕ). list_at w.link k) (after_round ticks turn t.within)))

    before : (a : ℕ) → a ≢ ticks - 1 → due_class w ticks turn (suc a) ≡ due_class w' ticks (class_after ticks turn 1) a
    before a ne = elim (cases_lt a ticks) [
      | inl lt ↦
          due_below w ticks turn (suc a) (omega (arith, lt, ne))
          ∙ (ap (λ (k : ℕ). list_at w.link k) (after_next ticks turn a t.within (omega (arith, lt, ne)))
          ∙ (sym (same_link (class_after ticks (class_after ticks turn 1) a)) ∙ sym (due_below w' ticks (class_after ticks turn 1) a lt)))
      | inr le ↦ due_past w ticks turn (suc a) (omega (arith, le)) ∙ sym (due_past w' ticks (class_after ticks turn 1) a le)
    ]

    at : (a : ℕ) → get_or (set (advanced w).waiting (ticks - 1) (list_at w.link turn)) a [] ≡ due_class w' ticks (class_after ticks turn 1) a
    at a = elim (cases_eq a (ticks - 1)) [
      | inl same ↦
          let few = t.few in
          let b = turned_buckets in
          let G : ℕ → Type 0 = λ j. get_or (set (advanced w).waiting (ticks - 1) (list_at w.link turn)) j [] ≡ due_class w' ticks (class_after ticks turn 1) j in
          subst G (sym same) (get_or-set_same (advanced w).waiting (ticks - 1) (list_at w.link turn) [] (omega (arith, few, b)) ∙ last)
      | inr ne ↦ get_or-set_other (advanced w).waiting (ticks - 1) a (list_at w.link turn) [] ne ∙ (turned_due a ∙ before a ne)
    ]

-- the turns go round
pub after_rest : (ticks turn : ℕ) → turn < ticks → class_after ticks turn 1 ≡ (turn + 1) % ticks
after_rest ticks turn lt = elim (after_is ticks turn 1) [
  | inl w ↦ w.1 ∙ sym (mod-eq_of_lt w.0)
  | inr w ↦
      let l = w.0 in
      let whole : turn + 1 ≡ 0 + ticks = omega (arith, l, lt) in
      let zero_is : 0 % ticks ≡ 0 = mod-eq_of_lt (omega (arith, lt)) in
      let none : turn + 1 - ticks ≡ 0 = omega (arith, l, lt) in
      w.1 ∙ (none ∙ sym (ap (λ (k : ℕ). k % ticks) whole ∙ (add-mod_right 0 ticks ∙ zero_is)))
]
