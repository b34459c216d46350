-- What is due.
use Rattle.std.proofs.Common.{◌≡◌, inl, inr, ℕ, ◌+◌, ◌-◌, ◌*◌, ◌%◌, ◌/◌, ◌<◌, ◌&&◌, Bool, true, false, List, [], ◌∷◌, ◌++◌, length, map, filter, get_or, Option, Some, None, ltb, ltb-true, eqb, eqb-true, eq-eqb, arith, refl, sym, ap, ◌∙◌}
use Rattle.std.specs.Prelude.{IfOk, Result, Ok, Err}
use Rattle.std.proofs.lemmas.List.{map-append, take_more}
use Rattle.std.proofs.lemmas.List.Elements.{filter_map-append}
use Rattle.std.proofs.Common.{take}
use Rattle.std.proofs.Math.Nat.{add-mul-mod_self_right, mod-add-div', mul-mod_left, mul-sub, mul_comm}
use Rattle.std.proofs.lemmas.Bool.{cases_Bool, cases_eq, and_parts, lt-ltb}
use Rattle.slab.specs.Slab.{Slab, get}
use Rattle.tick_wheel.specs.Wheel.{WheelView}
use Rattle.advice_slots.specs.declared.item.Held.{Held}
use Rattle.advice_slots.specs.Items.{AreBefore, is_due}
use Rattle.network_law.specs.Decision.{is_due_again}
use Rattle.advice_slots.specs.Kept.{AreListed, IsTurning, in_class, items_in, order}
use Rattle.advice_slots.proofs.Lists.{among_filter, found_length, not_eqb}
use Rattle.advice_slots.proofs.Standing.{item_there}
use Rattle.advice_slots.proofs.Turning.{due_next}

-- counts of one rest are a multiple apart
rest_back : (count now ticks : ℕ) → count % ticks ≡ now % ticks → (now - count) % ticks ≡ 0
rest_back count now ticks same =
    let a = mod-add-div' count ticks in
    let b = mod-add-div' now ticks in
    let m : ticks * (now / ticks - count / ticks) ≡ ticks * (now / ticks) - ticks * (count / ticks) = mul-sub ticks (now / ticks) (count / ticks) in
    let c = mul_comm ticks (now / ticks) in
    let d = mul_comm ticks (count / ticks) in
    let e = mul_comm ticks (now / ticks - count / ticks) in
    let n : now - count ≡ (now / ticks - count / ticks) * ticks = omega (arith, a, b, m, c, d, e, same) in
    ap (λ k. k % ticks) n ∙ mul-mod_left (now / ticks - count / ticks) ticks

rest_forth : (count now ticks : ℕ) → count < now → (now - count) % ticks ≡ 0 → count % ticks ≡ now % ticks
rest_forth count now ticks less rest =
    let n : count + ((now - count) / ticks) * ticks ≡ now = (let e = mod-add-div' (now - count) ticks in omega (arith, e, less, rest)) in
    sym (add-mul-mod_self_right count ((now - count) / ticks) ticks) ∙ ap (λ m. m % ticks) n

again_not : (ticks now count : ℕ) → eqb (count % ticks) (now % ticks) ≡ false → is_due_again ticks now count ≡ false
again_not ticks now count f = elim (cases_Bool (ltb count now && eqb ((now - count) % ticks) 0)) [
  | inl t ↦
      let p = and_parts (ltb count now) (eqb ((now - count) % ticks) 0) t in
      let same = rest_forth count now ticks (ltb-true count now p.0) (eqb-true ((now - count) % ticks) 0 p.1) in
      let e : eqb (count % ticks) (now % ticks) ≡ true = eq-eqb (count % ticks) (now % ticks) same in
      absurd (cc)
  | inr g ↦ g
]

again_is : (ticks now count : ℕ) → count < now → is_due_again ticks now count ≡ eqb (count % ticks) (now % ticks)
again_is ticks now count less = elim (cases_eq (count % ticks) (now % ticks)) [
  | inl same ↦
      let z = rest_back count now ticks same in
      let t : eqb ((now - count) % ticks) 0 ≡ true = eq-eqb ((now - count) % ticks) 0 z in
      let s = eq-eqb (count % ticks) (now % ticks) same in
      rw (lt-ltb count now less, t, s) refl
  | inr ne ↦ (let s = not_eqb (count % ticks) (now % ticks) ne in again_not ticks now count s ∙ sym s)
]

not_due : (ticks now : ℕ) (x : Held) → eqb (x.count % ticks) (now % ticks) ≡ false → is_due ticks now x ≡ false
not_due ticks now x f = again_not ticks now x.count f

-- what is due is in its class
pub due_in_class : (ticks now turn : ℕ) (s : Slab Held) (xs : List ℕ) → now % ticks ≡ turn → filter (is_due ticks now) (items_in s (filter (λ slot. in_class ticks turn (get s slot)) xs)) ≡ filter (is_due ticks now) (items_in s xs)
due_in_class ticks now turn s [] same = refl
due_in_class ticks now turn s (z ∷ zs) same = go (get s z) refl (due_in_class ticks now turn s zs same)
  where
    go : (o : Option Held) → get s z ≡ o → filter (is_due ticks now) (items_in s (filter (λ slot. in_class ticks turn (get s slot)) zs)) ≡ filter (is_due ticks now) (items_in s zs)
        → filter (is_due ticks now) (items_in s (filter (λ slot. in_class ticks turn (get s slot)) (z ∷ zs))) ≡ filter (is_due ticks now) (items_in s (z ∷ zs))
    go None e r = rw e r
    go (Some x) e r = elim (cases_Bool (eqb (x.count % ticks) turn)) [
      | inl t ↦ elim (cases_Bool (is_due ticks now x)) [
        | inl d ↦ rw (e, t, e, d) (ap (λ ys. x ∷ ys) r)
        | inr d ↦ rw (e, t, e, d) r
      ]
      | inr f ↦ (let d = not_due ticks now x (ap (eqb (x.count % ticks)) same ∙ f) in rw (e, f, d) r)
    ]

pub class_items : (ticks turn : ℕ) (s : Slab Held) (xs : List ℕ) → items_in s (filter (λ slot. in_class ticks turn (get s slot)) xs) ≡ filter (λ x. eqb (x.count % ticks) turn) (items_in s xs)
class_items ticks turn s [] = refl
class_items ticks turn s (z ∷ zs) = go (get s z) refl (class_items ticks turn s zs)
  where
    go : (o : Option Held) → get s z ≡ o → items_in s (filter (λ slot. in_class ticks turn (get s slot)) zs) ≡ filter (λ x. eqb (x.count % ticks) turn) (items_in s zs)
        → items_in s (filter (λ slot. in_class ticks turn (get s slot)) (z ∷ zs)) ≡ filter (λ x. eqb (x.count % ticks) turn) (items_in s (z ∷ zs))
    go None e r = rw e r
    go (Some x) e r = elim (cases_Bool (eqb (x.count % ticks) turn)) [
      | inl t ↦ rw (e, t, e) (ap (λ ys. x ∷ ys) r)
      | inr f ↦ rw (e, f) r
    ]

-- the slots of the class that is due next
pub turn_slots : (w : WheelView Held) (ticks turn : ℕ) → IsTurning w ticks turn → AreListed w ticks → get_or w.waiting 0 [] ≡ filter (λ slot. in_class ticks turn (get w.slots slot)) (order w)
turn_slots w ticks turn t l = due_next w ticks turn t ∙ l.classes turn t.within

-- of items that were stored before, those of a class are due together
pub all_due : (ticks now turn : ℕ) (xs : List Held) → now % ticks ≡ turn → AreBefore now xs → filter (λ x. eqb (x.count % ticks) turn) xs ≡ filter (is_due ticks now) xs
all_due ticks now turn [] same b = refl
all_due ticks now turn (x ∷ xs) same b =
    let e : is_due ticks now x ≡ eqb (x.count % ticks) turn = one x b.0 in
    rw (e, all_due ticks now turn xs same b.1) refl
  where
    one : (y : Held) → y.count < now → is_due ticks now y ≡ eqb (y.count % ticks) turn
    one y l = again_is ticks now y.count l ∙ ap (eqb (y.count % ticks)) same

-- what the tick looks at: the items of the class that is due
pub turn_visits : (w : WheelView Held) (ticks turn : ℕ) → IsTurning w ticks turn → AreListed w ticks → length (get_or w.waiting 0 []) + 1 ≡ length (filter (λ x. eqb (x.count % ticks) turn) (items_in w.slots (order w))) + 1
turn_visits w ticks turn t l =
    let p : ℕ → Bool = λ slot. in_class ticks turn (get w.slots slot) in
    ap (λ (n : ℕ). n + 1) (ap length (turn_slots w ticks turn t l)
    ∙ (sym (found_length (get w.slots) (filter p (order w)) (λ s m. let k = among_filter p s (order w) m in item_there (get w.slots s) (l.held s k.0)))
    ∙ ap length (class_items ticks turn w.slots (order w))))

-- the slots of the bucket that is due next hold all that is due
pub bucket_due : (w : WheelView Held) (ticks turn now : ℕ) (slots : List ℕ) → IsTurning w ticks turn → AreListed w ticks → now % ticks ≡ turn → slots ≡ get_or w.waiting 0 [] → filter (is_due ticks now) (items_in w.slots slots) ≡ filter (is_due ticks now) (items_in w.slots (order w))
bucket_due w ticks turn now slots t l same is = ap (λ xs. filter (is_due ticks now) (items_in w.slots xs)) (is ∙ turn_slots w ticks turn t l) ∙ due_in_class ticks now turn w.slots (order w) same

pub due_if : {V E : Type 0} (items : V → List ℕ) (w : WheelView Held) (ticks turn now : ℕ) (r : Result V E) → IsTurning w ticks turn → AreListed w ticks → now % ticks ≡ turn → IfOk r (λ v. items v ≡ get_or w.waiting 0 []) → IfOk r (λ v. filter (is_due ticks now) (items_in w.slots (items v)) ≡ filter (is_due ticks now) (items_in w.slots (order w)))
due_if items w ticks turn now (Ok v) t l same e = bucket_due w ticks turn now (items v) t l same e
due_if items w ticks turn now (Err x) t l same e = tt

-- the items that are due of one slot more
pub due_more : (ticks now : ℕ) (s : Slab Held) (slots : List ℕ) (i slot : ℕ) → i < length slots → slot ≡ get_or slots i slot
    → filter (is_due ticks now) (items_in s (take (i + 1) slots)) ≡ filter (is_due ticks now) (items_in s (take i slots)) ++ filter (is_due ticks now) (items_in s (slot ∷ []))
due_more ticks now s slots i slot lt is =
    ap (λ xs. filter (is_due ticks now) (items_in s xs)) (take_more slots i slot lt)
    ∙ (ap (filter (is_due ticks now)) (filter_map-append (get s) (take i slots) (get_or slots i slot ∷ []))
    ∙ (due_parts (items_in s (take i slots)) (items_in s (get_or slots i slot ∷ []))
    ∙ ap (λ z. filter (is_due ticks now) (items_in s (take i slots)) ++ filter (is_due ticks now) (items_in s (z ∷ []))) (sym is)))
  where
    due_parts : (xs ys : List Held) → filter (is_due ticks now) (xs ++ ys) ≡ filter (is_due ticks now) xs ++ filter (is_due ticks now) ys
    due_parts [] ys = refl
    due_parts (x ∷ xs) ys = elim (cases_Bool (is_due ticks now x)) [
      | inl t ↦ rw t (ap (λ zs. x ∷ zs) (due_parts xs ys))
      | inr f ↦ rw f (due_parts xs ys)
    ]

-- the same of what is made of each
pub due_made : {A : Type 0} (k : Held → A) (ticks now : ℕ) (s : Slab Held) (slots : List ℕ) (i slot : ℕ) (before after : List A) → i < length slots → slot ≡ get_or slots i slot
    → after ≡ before ++ map k (filter (is_due ticks now) (items_in s (slot ∷ []))) → before ≡ map k (filter (is_due ticks now) (items_in s (take i slots))) → after ≡ map k (filter (is_due ticks now) (items_in s (take (i + 1) slots)))
due_made k ticks now s slots i slot before after lt is more so_far =
    more
    ∙ (ap (λ xs. xs ++ map k (filter (is_due ticks now) (items_in s (slot ∷ [])))) so_far
    ∙ sym (ap (map k) (due_more ticks now s slots i slot lt is) ∙ map-append k (filter (is_due ticks now) (items_in s (take i slots))) (filter (is_due ticks now) (items_in s (slot ∷ [])))))
