-- Where the slots of items stand, as slots enter and leave.
use Rattle.std.proofs.Common.{◌≡◌, ◌≢◌, inl, inr, ℕ, zero, suc, ◌-◌, ◌<◌, ◌≤◌, ◌%◌, Bool, true, false, cond, List, [], ◌∷◌, ◌++◌, length, filter, get_or, Option, Some, None, IsSome, is_some, eqb, eq-eqb, arith, refl, sym, ap, ◌∙◌, subst, replicate, length-append}
use Rattle.std.specs.Option.{option_map}
use Rattle.std.specs.List.{count_by}
use Rattle.std.proofs.Math.ListN.{set}
use Rattle.std.proofs.lemmas.Bool.{cases_lt, cases_eq}
use Rattle.std.proofs.lemmas.List.Sums.{sum_by-set}
use Rattle.std.proofs.lemmas.List.{length-set, length-map, get_or_past, length-replicate, get_or-set_same, get_or-set_other}
use Rattle.slab.specs.Slab.{Slab, HasRoomFor, get, slab_len, with_value, Updates, SameValues}
use Rattle.chain_links.specs.Lists.{LinksView, Among, IsMember, list_at, no_lists, pushed, unlinked, with_heads, without}
use Rattle.chain_links.proofs.Chains.{among_left, among_right}
use Rattle.chain_links.proofs.Grown.{read_blank}
use Rattle.slot_chains.specs.Chains.{over}
use Rattle.tick_wheel.specs.Wheel.{WheelView, IsArmed}
use Rattle.message_keys.specs.declared.keys.AdviceId.{AdviceId}
use Rattle.advice_slots.specs.declared.item.Held.{Held}
use Rattle.advice_slots.specs.Items.{marked_by}
use Rattle.advice_slots.specs.Kept.{HasClasses, AreListed, IsTurning, class_after, due_class, in_class, items_in, order}
use Rattle.advice_slots.proofs.Lists.{not_eqb, among_gone, among_without, still_among, among_push, among_filter, filter_among, same_filter, filter_without, filter_more, found_length}
use Rattle.advice_slots.proofs.Turning.{at_head, at_other, at_unlinked, due_below, due_past, reach}

pub no_item : (x : Held) → Some x ≡ None → ⊥
no_item x e = cc

pub same_item : (x y : Held) → Some x ≡ Some y → x ≡ y
same_item x y e = cc

pub some_there : (o : Option Held) (x : Held) → o ≡ Some x → IsSome o
some_there o x e = subst (λ (p : Option Held). IsSome p) (sym e) refl

pub item_there : (o : Option Held) → IsSome o → (x : Held) × (o ≡ Some x)
item_there None h = absurd (cc)
item_there (Some x) h = (x, refl)

pub not_there : (o : Option Held) → o ≡ None → IsSome o → ⊥
not_there None e h = cc
not_there (Some x) e h = no_item x e

module _ (w : WheelView Held) (ticks turn : ℕ) (t : IsTurning w ticks turn) (l : AreListed w ticks) where
  -- each member of a list stands in the order
  pub card_ordered : (x : ℕ) → IsMember w.card x → Among x (order w)
  card_ordered x m = elim (cases_eq m.0 0) [
    | inl same ↦ subst (λ h. Among x (list_at w.card h)) same m.1
    | inr ne ↦ (let h = l.heads in absurd (subst (Among x) (get_or_past w.card.lists m.0 [] (omega (arith, h, ne))) m.1))
  ]

  pub link_ordered : (x : ℕ) → IsMember w.link x → Among x (order w)
  link_ordered x m = elim (cases_lt m.0 ticks) [
    | inl lt ↦ (let k = among_filter (λ slot. in_class ticks m.0 (get w.slots slot)) x (order w) (subst (Among x) (l.classes m.0 lt) m.1) in k.0)
    | inr le ↦ elim t.heads [
      | inl h ↦ absurd (subst (Among x) (get_or_past w.link.lists m.0 [] (omega (arith, h, le))) m.1)
      | inr none ↦ absurd (subst (Among x) (ap (λ (ls : List (List ℕ)). get_or ls m.0 []) none.0) m.1)
    ]
  ]

  pub armed_ordered : (x : ℕ) → IsArmed w x → Among x (order w)
  armed_ordered x m =
      let there : Among x (due_class w ticks turn m.0) = subst (Among x) (t.waiting m.0) m.1 in
      elim (cases_lt m.0 ticks) [
        | inl lt ↦ link_ordered x (class_after ticks turn m.0, subst (Among x) (due_below w ticks turn m.0 lt) there)
        | inr le ↦ absurd (subst (Among x) (due_past w ticks turn m.0 le) there)
      ]

  pub not_ordered : (x : ℕ) → get w.slots x ≡ None → Among x (order w) → ⊥
  not_ordered x none m = not_there (get w.slots x) none (l.held x m)

  -- a slot of the order stands in all its lists
  module _ (x : ℕ) (m : Among x (order w)) where
    item : (y : Held) × (get w.slots x ≡ Some y)
    item = item_there (get w.slots x) (l.held x m)

    pub own_class : (y : Held) → get w.slots x ≡ Some y → Among x (list_at w.link (y.count % ticks))
    own_class y e =
        let some = t.some in
        let c : ℕ = y.count % ticks in
        let p : ℕ → Bool = λ slot. in_class ticks (y.count % ticks) (get w.slots slot) in
        let here : p x ≡ true = ap (λ (o : Option Held). in_class ticks (y.count % ticks) o) e ∙ eq-eqb (y.count % ticks) (y.count % ticks) refl in
        subst (Among x) (sym (l.classes (y.count % ticks) (omega (arith, some)))) (filter_among p x (order w) m here)

    pub in_card : IsMember w.card x
    in_card = (0, m)

    pub in_link : IsMember w.link x
    in_link = let i = item in (i.0.count % ticks, own_class i.0 i.1)

    pub in_bucket : IsArmed w x
    in_bucket =
        let i = item in
        let some = t.some in
        let r = reach ticks turn (i.0.count % ticks) t.within (omega (arith, some)) in
        let e : get_or w.waiting r.0 [] ≡ list_at w.link (i.0.count % ticks) = t.waiting r.0 ∙ (due_below w ticks turn r.0 r.1 ∙ ap (λ (k : ℕ). list_at w.link k) r.2) in
        (r.0, subst (Among x) (sym e) (own_class i.0 i.1))

-- a slot more
module _ (w w' : WheelView Held) (ticks class x : ℕ) (y : Held) (l : AreListed w ticks) (heads : length w.link.lists ≡ ticks) (some : 1 ≤ ticks) (none : get w.slots x ≡ None)
    (ups : Updates w.slots w'.slots x (Some y)) (rest : class ≡ y.count % ticks) (card : w'.card ≡ pushed w.card 0 x) (link : w'.link ≡ pushed w.link class x) where
  pub order_more : order w' ≡ order w ++ x ∷ []
  order_more = ap (λ (v : LinksView). list_at v 0) card ∙ at_head w.card 0 x (let h = l.heads in omega (arith, h))

  apart : (s : ℕ) → Among s (order w) → s ≢ x
  apart s m same = not_there (get w.slots x) none (l.held x (subst (λ z. Among z (order w)) same m))

  classes_more : (c : ℕ) → c < ticks → list_at w'.link c ≡ filter (λ slot. in_class ticks c (get w'.slots slot)) (order w')
  classes_more c lt =
      let p : ℕ → Bool = λ slot. in_class ticks c (get w'.slots slot) in
      let q : ℕ → Bool = λ slot. in_class ticks c (get w.slots slot) in
      let last : p x ≡ eqb class c = ap (λ (o : Option Held). in_class ticks c o) ups.changed ∙ ap (λ (r : ℕ). eqb r c) (sym rest) in
      let goes : filter p (order w') ≡ cond (eqb class c) (filter p (order w) ++ x ∷ []) (filter p (order w)) =
      ap (λ (xs : List ℕ). filter p xs) order_more ∙ (filter_more p (order w) x ∙ ap (λ (b : Bool). cond b (filter p (order w) ++ x ∷ []) (filter p (order w))) last) in
      let was : list_at w.link c ≡ filter p (order w) = l.classes c lt ∙ same_filter q p (order w) (λ s m. ap (λ (o : Option Held). in_class ticks c o) (sym (ups.others s (apart s m)))) in
      let comes : list_at w'.link c ≡ list_at (pushed w.link class x) c = ap (λ (v : LinksView). list_at v c) link in
      elim (cases_eq c class) [
        | inl same ↦
            let t : eqb class c ≡ true = eq-eqb class c (sym same) in
            let G : ℕ → Type 0 = λ z. list_at (pushed w.link class x) z ≡ list_at w.link z ++ x ∷ [] in
            let here : class < length w.link.lists = omega (arith, heads, rest, some) in
            comes ∙ (subst G (sym same) (at_head w.link class x here) ∙ (ap (λ (xs : List ℕ). xs ++ x ∷ []) was ∙ sym (goes ∙ ap (λ (b : Bool). cond b (filter p (order w) ++ x ∷ []) (filter p (order w))) t)))
        | inr ne ↦
            let f : eqb class c ≡ false = not_eqb class c (λ e. ne (sym e)) in
            comes ∙ (at_other w.link class x c ne ∙ (was ∙ sym (goes ∙ ap (λ (b : Bool). cond b (filter p (order w) ++ x ∷ []) (filter p (order w))) f)))
      ]

  pub entered_listed : AreListed w' ticks
  entered_listed = record {
    heads = ap (λ (v : LinksView). length v.lists) card ∙ (length-set w.card.lists 0 (list_at w.card 0 ++ x ∷ []) ∙ l.heads);
    held =
        λ s m. elim (among_push s x (order w) (subst (Among s) order_more m)) [
          | inl same ↦ some_there (get w'.slots s) y (ap (get w'.slots) same ∙ ups.changed)
          | inr k ↦ subst (λ (o : Option Held). IsSome o) (sym (ups.others s (apart s k))) (l.held s k)
        ];
    all =
        λ s h. subst (Among s) (sym order_more) (elim (cases_eq s x) [
          | inl same ↦ among_right s (order w) (x ∷ []) (inl same)
          | inr ne ↦ among_left s (order w) (x ∷ []) (l.all s (subst (λ (o : Option Held). IsSome o) (ups.others s ne) h))
        ]);
    classes = classes_more;
  }

-- a slot less
module _ (w w' : WheelView Held) (ticks x : ℕ) (l : AreListed w ticks) (ups : Updates w.slots w'.slots x None) (card : w'.card ≡ over (unlinked w.card x) w'.slots.capacity) (link : w'.link ≡ over (unlinked w.link x) w'.slots.capacity) where
  pub order_less : order w' ≡ without x (order w)
  order_less = ap (λ (v : LinksView). list_at v 0) card ∙ at_unlinked w.card x 0

  still : (s : ℕ) → Among s (without x (order w)) → Among s (order w) × (s ≢ x)
  still s m = (among_without s x (order w) m, λ same. among_gone x (order w) (subst (λ z. Among z (without x (order w))) same m))

  classes_less : (c : ℕ) → c < ticks → list_at w'.link c ≡ filter (λ slot. in_class ticks c (get w'.slots slot)) (order w')
  classes_less c lt =
      let p : ℕ → Bool = λ slot. in_class ticks c (get w.slots slot) in
      let q : ℕ → Bool = λ slot. in_class ticks c (get w'.slots slot) in
      ap (λ (v : LinksView). list_at v c) link
      ∙ (at_unlinked w.link x c
      ∙ (ap (λ (xs : List ℕ). without x xs) (l.classes c lt)
      ∙ (sym (filter_without p x (order w))
      ∙ (same_filter p q (without x (order w)) (λ s m. let k = still s m in ap (λ (o : Option Held). in_class ticks c o) (sym (ups.others s k.1)))
      ∙ ap (λ (xs : List ℕ). filter q xs) (sym order_less)))))

  pub left_listed : AreListed w' ticks
  left_listed = record {
    heads = ap (λ (v : LinksView). length v.lists) card ∙ (length-map w.card.lists (without x) ∙ l.heads);
    held = λ s m. let k = still s (subst (Among s) order_less m) in subst (λ (o : Option Held). IsSome o) (sym (ups.others s k.1)) (l.held s k.0);
    all =
        λ s h. elim (cases_eq s x) [
          | inl same ↦ absurd (not_there (get w'.slots s) (ap (get w'.slots) same ∙ ups.changed) h)
          | inr ne ↦ subst (Among s) (sym order_less) (still_among x s (order w) (λ e. ne (sym e)) (l.all s (subst (λ (o : Option Held). IsSome o) (ups.others s ne) h)))
        ];
    classes = classes_less;
  }

-- other values in the slots, each stored at the count at which the one before was
module _ (w w' : WheelView Held) (ticks : ℕ) (l : AreListed w ticks) (card : w'.card.lists ≡ w.card.lists) (link : w'.link.lists ≡ w.link.lists)
    (same : (slot c : ℕ) → in_class ticks c (get w'.slots slot) ≡ in_class ticks c (get w.slots slot)) (there : (slot : ℕ) → IsSome (get w.slots slot) → IsSome (get w'.slots slot)) (back : (slot : ℕ) → IsSome (get w'.slots slot) → IsSome (get w.slots slot)) where
  order_same : order w' ≡ order w
  order_same = ap (λ (ls : List (List ℕ)). get_or ls 0 []) card

  pub changed_listed : AreListed w' ticks
  changed_listed = record {
    heads = ap (λ (ls : List (List ℕ)). length ls) card ∙ l.heads;
    held = λ s m. there s (l.held s (subst (Among s) order_same m));
    all = λ s h. subst (Among s) (sym order_same) (l.all s (back s h));
    classes =
        λ c lt.
        ap (λ (ls : List (List ℕ)). get_or ls c []) link
        ∙ (l.classes c lt
        ∙ (same_filter (λ slot. in_class ticks c (get w.slots slot)) (λ slot. in_class ticks c (get w'.slots slot)) (order w) (λ s m. sym (same s c))
        ∙ ap (λ (xs : List ℕ). filter (λ slot. in_class ticks c (get w'.slots slot)) xs) (sym order_same)));
  }

marked_class : (id : AdviceId) (ticks c : ℕ) (o : Option Held) → in_class ticks c (option_map (marked_by id) o) ≡ in_class ticks c o
marked_class id ticks c None = refl
marked_class id ticks c (Some y) = refl

marked_there : (id : AdviceId) (o : Option Held) → IsSome o → IsSome (option_map (marked_by id) o)
marked_there id None h = h
marked_there id (Some y) h = refl

marked_back : (id : AdviceId) (o : Option Held) → IsSome (option_map (marked_by id) o) → IsSome o
marked_back id None h = h
marked_back id (Some y) h = refl

pub marked_listed : (w w' : WheelView Held) (ticks x : ℕ) (id : AdviceId) → AreListed w ticks → Updates w.slots w'.slots x (option_map (marked_by id) (get w.slots x)) → w' ≡ record w { slots = w'.slots } → AreListed w' ticks
marked_listed w w' ticks x id l ups is =
    changed_listed w w' ticks l (ap (λ (v : WheelView Held). v.card.lists) is) (ap (λ (v : WheelView Held). v.link.lists) is) (λ s c. elim (cases_eq s x) [
      | inl same ↦ ap (λ z. in_class ticks c (get w'.slots z)) same ∙ (ap (λ (o : Option Held). in_class ticks c o) ups.changed ∙ (marked_class id ticks c (get w.slots x) ∙ ap (λ z. in_class ticks c (get w.slots z)) (sym same)))
      | inr ne ↦ ap (λ (o : Option Held). in_class ticks c o) (ups.others s ne)
    ]) (λ s h. elim (cases_eq s x) [
      | inl same ↦ subst (λ z. IsSome (get w'.slots z)) (sym same) (subst (λ (o : Option Held). IsSome o) (sym ups.changed) (marked_there id (get w.slots x) (subst (λ z. IsSome (get w.slots z)) same h)))
      | inr ne ↦ subst (λ (o : Option Held). IsSome o) (sym (ups.others s ne)) h
    ]) (λ s h. elim (cases_eq s x) [
      | inl same ↦ subst (λ z. IsSome (get w.slots z)) (sym same) (marked_back id (get w.slots x) (subst (λ (o : Option Held). IsSome o) ups.changed (subst (λ z. IsSome (get w'.slots z)) same h)))
      | inr ne ↦ subst (λ (o : Option Held). IsSome o) (ups.others s ne) h
    ])

pub same_listed : (w w' : WheelView Held) (ticks : ℕ) → AreListed w ticks → SameValues w.slots w'.slots → w'.card.lists ≡ w.card.lists → w'.link.lists ≡ w.link.lists → AreListed w' ticks
same_listed w w' ticks l same card link =
    changed_listed w w' ticks l card link (λ s c. ap (λ (o : Option Held). in_class ticks c o) (same s)) (λ s h. subst (λ (o : Option Held). IsSome o) (sym (same s)) h) (λ s h. subst (λ (o : Option Held). IsSome o) (same s) h)

pub same_turning : (w w' : WheelView Held) (ticks turn : ℕ) → IsTurning w ticks turn → HasClasses w' ticks → w'.waiting ≡ w.waiting → w'.link.lists ≡ w.link.lists → IsTurning w' ticks turn
same_turning w w' ticks turn t classes waiting link = record {
  some = t.some;
  few = t.few;
  within = t.within;
  heads = classes;
  buckets = ap length waiting ∙ t.buckets;
  waiting = λ a. ap (λ (ws : List (List ℕ)). get_or ws a []) waiting ∙ (t.waiting a ∙ elim (cases_lt a ticks) [
    | inl lt ↦ due_below w ticks turn a lt ∙ (ap (λ (ls : List (List ℕ)). get_or ls (class_after ticks turn a) []) (sym link) ∙ sym (due_below w' ticks turn a lt))
    | inr le ↦ due_past w ticks turn a le ∙ sym (due_past w' ticks turn a le)
  ]);
}

pub items_length : (w : WheelView Held) (ticks : ℕ) → AreListed w ticks → length (items_in w.slots (order w)) ≡ length (order w)
items_length w ticks l = found_length (get w.slots) (order w) (λ s m. item_there (get w.slots s) (l.held s m))

-- no slots
no_list : (n k : ℕ) → get_or (replicate {A = List ℕ} n []) k [] ≡ []
no_list zero zero = refl
no_list zero (suc k) = refl
no_list (suc n) zero = refl
no_list (suc n) (suc k) = no_list n k

pub none_listed : (w : WheelView Held) (ticks : ℕ) → w.slots.slots ≡ [] → w.card.lists ≡ replicate 1 [] → w.link.lists ≡ [] → AreListed w ticks
none_listed w ticks none card link = record {
  heads = ap (λ (ls : List (List ℕ)). length ls) card;
  held = λ s m. absurd (subst (Among s) empty m);
  all = λ s h. absurd (not_there (get w.slots s) (ap (λ (xs : List (Option Held)). get_or xs s None) none) h);
  classes = λ c lt. ap (λ (ls : List (List ℕ)). get_or ls c []) link ∙ sym (ap (λ (xs : List ℕ). filter (λ slot. in_class ticks c (get w.slots slot)) xs) empty);
} where
  empty : order w ≡ []
  empty = ap (λ (ls : List (List ℕ)). get_or ls 0 []) card

pub none_turning : (w : WheelView Held) (ticks turn : ℕ) → 1 ≤ ticks → ticks ≤ 4000 → turn < ticks → w.waiting ≡ replicate 4096 [] → w.link.lists ≡ [] → w.slots.capacity ≡ 0 → IsTurning w ticks turn
none_turning w ticks turn some few within waiting link none = record {
  some = some;
  few = few;
  within = within;
  heads = inr (link, none);
  buckets = ap length waiting ∙ length-replicate {A = List ℕ} 4096 [];
  waiting = λ a. ap (λ (ls : List (List ℕ)). get_or ls a []) waiting ∙ (no_list 4096 a ∙ elim (cases_lt a ticks) [
    | inl lt ↦ sym (due_below w ticks turn a lt ∙ (ap (λ (ls : List (List ℕ)). get_or ls (class_after ticks turn a) []) link))
    | inr le ↦ sym (due_past w ticks turn a le)
  ]);
}

pub grown_lists : (l : LinksView) (n : ℕ) → l ≡ no_lists → (with_heads l n).lists ≡ replicate n []
grown_lists l n e = ap (λ (v : LinksView). (with_heads v n).lists) e ∙ (let same : n - 0 ≡ n = omega arith in ap (λ k. replicate {A = List ℕ} k []) same)

-- ---- another value in a slot that has one

within : (xs : List (Option Held)) (k : ℕ) (y : Held) → get_or xs k None ≡ Some y → k < length xs
within [] k y e = absurd (no_item y (sym e ∙ get_or_past [] k None (omega arith)))
within (x ∷ xs) zero y e = omega arith
within (x ∷ xs) (suc k) y e = let l = within xs k y e in omega (arith, l)

count_written : (xs : List (Option Held)) (k : ℕ) (y z : Held) → get_or xs k None ≡ Some y → count_by is_some (set xs k (Some z)) ≡ count_by is_some xs
count_written xs k y z e =
    let more = sum_by-set (λ (o : Option Held). cond (is_some o) 1 0) xs k (Some z) None (within xs k y e) in
    let one : ℕ = 1 in
    let was : cond (is_some (get_or xs k None)) 1 0 ≡ one = rw e refl in
    omega (arith, more, was)

pub written_updates : (s : Slab Held) (x : ℕ) (y z : Held) (id : AdviceId) → get s x ≡ Some y → z ≡ marked_by id y → Updates s (with_value s x z) x (option_map (marked_by id) (get s x))
written_updates s x y z id e is = record {
  changed = get_or-set_same s.slots x (Some z) None (within s.slots x y e) ∙ (ap Some is ∙ sym (ap (option_map (marked_by id)) e));
  others = λ k ne. get_or-set_other s.slots x k (Some z) None ne;
}

pub written_len : (s : Slab Held) (x : ℕ) (y z : Held) → get s x ≡ Some y → slab_len (with_value s x z) ≡ slab_len s
written_len s x y z e = count_written s.slots x y z e

pub untouched : (s : Slab Held) (x : ℕ) (id : AdviceId) → get s x ≡ None → Updates s s x (option_map (marked_by id) (get s x))
untouched s x id e = record { changed = e ∙ sym (ap (option_map (marked_by id)) e); others = λ k ne. refl }

-- a list for each class
pub grown_length : (w : WheelView Held) (ticks : ℕ) → HasClasses w ticks → length (with_heads w.link ticks).lists ≡ ticks
grown_length w ticks h =
    let all = length-append w.link.lists (replicate (ticks - length w.link.lists) []) in
    let n = length-replicate {A = List ℕ} (ticks - length w.link.lists) [] in
    elim h [
      | inl e ↦ omega (arith, all, n, e)
      | inr none ↦ (let zero_is = ap (λ (ls : List (List ℕ)). length ls) none.0 in omega (arith, all, n, zero_is))
    ]

-- where there was none before, too
pub grown_turning : (w w' : WheelView Held) (ticks turn : ℕ) → IsTurning w ticks turn → w'.waiting ≡ w.waiting → w'.link.lists ≡ (with_heads w.link ticks).lists → IsTurning w' ticks turn
grown_turning w w' ticks turn t waiting link = record {
  some = t.some;
  few = t.few;
  within = t.within;
  heads = inl (ap (λ (ls : List (List ℕ)). length ls) link ∙ grown_length w ticks t.heads);
  buckets = ap length waiting ∙ t.buckets;
  waiting = λ a. ap (λ (ws : List (List ℕ)). get_or ws a []) waiting ∙ (t.waiting a ∙ elim (cases_lt a ticks) [
    | inl lt ↦ due_below w ticks turn a lt ∙ (sym (ap (λ (ls : List (List ℕ)). get_or ls (class_after ticks turn a) []) link ∙ read_blank w.link.lists (ticks - length w.link.lists) (class_after ticks turn a) []) ∙ sym (due_below w' ticks turn a lt))
    | inr le ↦ due_past w ticks turn a le ∙ sym (due_past w' ticks turn a le)
  ]);
}

pub grown_listed : (w w' : WheelView Held) (ticks : ℕ) → AreListed w ticks → w'.slots ≡ w.slots → w'.card.lists ≡ w.card.lists → w'.link.lists ≡ (with_heads w.link ticks).lists → AreListed w' ticks
grown_listed w w' ticks l slots card link = record {
  heads = ap (λ (ls : List (List ℕ)). length ls) card ∙ l.heads;
  held = λ s m. subst (λ (v : Slab Held). IsSome (get v s)) (sym slots) (l.held s (subst (Among s) same m));
  all = λ s h. subst (Among s) (sym same) (l.all s (subst (λ (v : Slab Held). IsSome (get v s)) slots h));
  classes =
      λ c lt. ap (λ (ls : List (List ℕ)). get_or ls c []) link
      ∙ (read_blank w.link.lists (ticks - length w.link.lists) c []
      ∙ (l.classes c lt
      ∙ (ap (λ (v : Slab Held). filter (λ slot. in_class ticks c (get v slot)) (order w)) (sym slots)
      ∙ ap (λ (xs : List ℕ). filter (λ slot. in_class ticks c (get w'.slots slot)) xs) (sym same))));
} where
  same : order w' ≡ order w
  same = ap (λ (ls : List (List ℕ)). get_or ls 0 []) card

-- where there is room for an item each class has a list
pub has_classes : (w : WheelView Held) (ticks : ℕ) → HasClasses w ticks → HasRoomFor w.slots 1 → length w.link.lists ≡ ticks
has_classes w ticks h room = elim h [
  | inl all ↦ all
  | inr none ↦ (let zero_is = none.1 in absurd (omega (arith, room, zero_is)))
]
