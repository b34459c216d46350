-- The slots after a change.
use Rattle.std.proofs.Common.{◌≡◌, inl, inr, ℕ, ◌+◌, ◌-◌, ◌%◌, ◌^◌, ◌<◌, ◌≤◌, ◌||◌, not, Bool, true, false, cond, List, [], ◌∷◌, ◌++◌, map, filter, min, Option, Some, None, is_some, arith, refl, sym, ap, ◌∙◌, subst}
use Rattle.std.specs.Prelude.{IfSome, find}
use Rattle.std.specs.List.{list_any}
use Rattle.std.specs.Map.{lookup}
use Rattle.std.specs.Option.{option_map}
use Rattle.std.proofs.lemmas.Bool.{cases_Bool, cases_lt}
use Rattle.message_keys.specs.declared.keys.AdviceId.{AdviceId}
use Rattle.std.proofs.Math.Nat.{mod-add-mod}
use Rattle.slab.specs.Slab.{Slab, get, slab_len, HasRoomFor, SameValues, Updates}
use Rattle.chain_links.specs.Lists.{Among, without}
use Rattle.advice_slots.specs.Items.{AreBefore, is_named, marked_by, name_eq, name_of, was_put}
use Rattle.advice_slots.specs.Kept.{AreHeld, ArePlaced, HeldView, IsFound, items_in, items_of, name_wanted, room_in, wants, wants_at}
use Rattle.advice_slots.specs.declared.item.Held.{Held}
use Rattle.advice_slots.specs.declared.item.ItemName.{ItemName}
use Rattle.advice_slots.specs.declared.item.ItemName.TheVariants as names
use Rattle.advice_slots.specs.declared.wanted.Wanted.{Wanted}
use Rattle.advice_slots.specs.declared.wanted.Wanted.TheVariants as wanted
use Rattle.advice_slots.proofs.Names.{name_refl, name_same}
use Rattle.advice_slots.proofs.Items.{any_item, found_any, is_none_of, items_again, items_less, items_marked, items_more, key_is, marked_put, no_slot, none_left, none_placed, none_unmarked, one_placed, other_placed, placed_again, placed_less, placed_marked, placed_more, same_slot}
use Rattle.advice_slots.proofs.Looking.{find_one}
use Rattle.advice_slots.proofs.Standing.{same_item}

-- ---- what is found

pub slot_found : (v : HeldView) (places : List (ItemName × ℕ)) → ArePlaced v places → (w : Wanted) (slot : ℕ) → lookup (name_eq (name_wanted w)) places ≡ Some slot → wants_at w (get v.slots slot) ≡ true → get v.slots slot ≡ find (wants w) (items_of v)
slot_found v places a w slot is it =
    let o = a.own (name_wanted w) slot is in
    let one : (s : ℕ) (x : Held) → Among s v.order → get v.slots s ≡ Some x → wants w x ≡ true → x ≡ o.item =
    λ s x m e t.
    let k : name_of x ≡ name_wanted w = name_same (name_of x) (name_wanted w) (key_is w x t) in
    let same : s ≡ slot = same_slot s slot (sym (a.placed s x m e) ∙ (ap (λ (q : ItemName). lookup (name_eq q) places) k ∙ is)) in
    same_item x o.item (sym e ∙ (ap (get v.slots) same ∙ o.here)) in
    o.here ∙ sym (find_one (wants w) (get v.slots) v.order o.item one (one_placed v places a w slot is it))

pub found_if : (w : Wanted) (v : HeldView) (r : Option ℕ) → IfSome r (λ slot. IsFound w v.slots v.order slot) → IfSome r (λ slot. list_any (wants w) (items_of v) ≡ true)
found_if w v None f = tt
found_if w v (Some slot) f = found_any w v slot f

pub is_any : (r : Option ℕ) (b : Bool) → IfSome r (λ slot. b ≡ true) → (r ≡ None → b ≡ false) → is_some r ≡ b
is_any None b found missed = sym (missed refl)
is_any (Some slot) b found missed = sym found

pub find_item : (n : ItemName) (xs : List Held) → find (wants (wanted.Item n)) xs ≡ find (is_named n) xs
find_item n [] = refl
find_item n (x ∷ xs) = rw (find_item n xs) refl

pub any_put : (id : AdviceId) (xs : List Held) → list_any (wants (wanted.Put id)) xs ≡ list_any (was_put id) xs
any_put id [] = refl
any_put id (x ∷ xs) = rw (any_put id xs) refl

pub found_is : (p : Held → Bool) (xs : List Held) → is_some (find p xs) ≡ list_any p xs
found_is p [] = refl
found_is p (x ∷ xs) = elim (cases_Bool (p x)) [
  | inl t ↦ rw t refl
  | inr f ↦ rw f (found_is p xs)
]

-- ---- an item leaves, where each is found by its name

module _ (v v' : HeldView) (places new : List (ItemName × ℕ)) (name : ItemName) (a : ArePlaced v places) (gone : (k : ItemName) → lookup (name_eq k) new ≡ cond (name_eq name k) None (lookup (name_eq k) places)) where
  none_now : lookup (name_eq name) new ≡ None
  none_now = gone name ∙ rw (name_refl name) refl

  pub left_items : (x : ℕ) → lookup (name_eq name) places ≡ Some x → Updates v.slots v'.slots x None → v'.order ≡ without x v.order → items_of v' ≡ filter (λ a. not (is_named name a)) (items_of v)
  left_items x is ups order =
      let o = a.own name x is in
      let b = placed_less v v' places new name x ups order gone is a in
      let none : list_any (is_named name) (items_of v') ≡ false = sym (any_item name (items_of v')) ∙ none_placed v' new b (wanted.Item name) none_now in
      sym (none_left (is_named name) (items_of v') none)
      ∙ (ap (λ xs. filter (λ a. not (is_named name a)) (items_in v'.slots xs)) order ∙ items_less (is_named name) v.slots v'.slots v.order x o.item o.here o.wanted ups)

  pub stay_none : lookup (name_eq name) places ≡ None → list_any (is_named name) (items_of v) ≡ false
  stay_none none = sym (any_item name (items_of v)) ∙ none_placed v places a (wanted.Item name) none

  pub stay_items : lookup (name_eq name) places ≡ None → items_of v ≡ filter (λ a. not (is_named name a)) (items_of v)
  stay_items none = sym (none_left (is_named name) (items_of v) (stay_none none))

pub there_any : (v : HeldView) (places : List (ItemName × ℕ)) (name : ItemName) (x : ℕ) → ArePlaced v places → lookup (name_eq name) places ≡ Some x → list_any (is_named name) (items_of v) ≡ true
there_any v places name x a is = let o = a.own name x is in sym (any_item name (items_of v)) ∙ found_any (wanted.Item name) v x o

-- ---- an advice is marked, where each item is found by its name

pub marked_items : (v v' : HeldView) (places : List (ItemName × ℕ)) (id : AdviceId) (x : ℕ) → ArePlaced v places → lookup (name_eq (names.Advice id)) places ≡ Some x → Updates v.slots v'.slots x (option_map (marked_by id) (get v.slots x)) → v'.order ≡ v.order
    → items_of v' ≡ map (marked_by id) (items_of v)
marked_items v v' places id x a is ups order =
    let b = placed_marked v v' places id x ups order a in
    let o = a.own (names.Advice id) x is in
    let here : get v'.slots x ≡ Some (marked_by id o.item) = ups.changed ∙ ap (option_map (marked_by id)) o.here in
    let off : wants_at (wanted.NotPut id) (get v'.slots x) ≡ false = ap (wants_at (wanted.NotPut id)) here ∙ marked_put id o.item in
    sym (none_unmarked id (items_of v') (other_placed v' places b (wanted.NotPut id) x is off))
    ∙ (ap (λ xs. map (marked_by id) (items_in v'.slots xs)) order ∙ items_marked id v.slots v'.slots v.order x ups)

pub unmarked_items : (v : HeldView) (places : List (ItemName × ℕ)) (id : AdviceId) → ArePlaced v places → lookup (name_eq (names.Advice id)) places ≡ None → items_of v ≡ map (marked_by id) (items_of v)
unmarked_items v places id a none = sym (none_unmarked id (items_of v) (none_placed v places a (wanted.NotPut id) none))

pub neither : (a b : Bool) → (a || b) ≡ false → (a ≡ false) × (b ≡ false)
neither false b e = (refl, e)
neither true b e = absurd (cc)

-- ---- when items were stored

pub before_more : (n : ℕ) (xs : List Held) (x : Held) → x.count < n → AreBefore n xs → AreBefore n (xs ++ x ∷ [])
before_more n [] x lt b = (lt, tt)
before_more n (y ∷ ys) x lt b = (b.0, before_more n ys x lt b.1)

pub before_less : (n : ℕ) (p : Held → Bool) (xs : List Held) → AreBefore n xs → AreBefore n (filter p xs)
before_less n p [] b = b
before_less n p (y ∷ ys) b = elim (cases_Bool (p y)) [
  | inl t ↦ rw t (b.0, before_less n p ys b.1)
  | inr f ↦ rw f (before_less n p ys b.1)
]

pub before_marked : (n : ℕ) (id : AdviceId) (xs : List Held) → AreBefore n xs → AreBefore n (map (marked_by id) xs)
before_marked n id [] b = b
before_marked n id (y ∷ ys) b = (b.0, before_marked n id ys b.1)

pub before_later : (n m : ℕ) (xs : List Held) → n ≤ m → AreBefore n xs → AreBefore m xs
before_later n m [] le b = b
before_later n m (y ∷ ys) le b = (let l = b.0 in omega (arith, l, le), before_later n m ys le b.1)

-- ---- all that holds of the slots

module _ (v v' : HeldView) (places places' : List (ItemName × ℕ)) (several several' : Bool) (count : ℕ) (h : AreHeld v several places count) where
  -- where only items and places change
  pub held_again : v'.ticks ≡ v.ticks → v'.turn ≡ v.turn → (several' ≡ false → ArePlaced v' places') → (count < 2 ^ 63 → AreBefore (count + 1) (items_of v) → AreBefore (count + 1) (items_of v')) → AreHeld v' several' places' count
  held_again ticks turn single past = record {
    some = subst (λ (n : ℕ). 1 ≤ n) (sym ticks) h.some;
    few = subst (λ (n : ℕ). n ≤ 4000) (sym ticks) h.few;
    single = single;
    early = h.early;
    turn = turn ∙ (h.turn ∙ ap (λ (n : ℕ). (count + 1) % n) (sym ticks));
    past = λ lt. past lt (h.past lt);
  }

module _ (v : HeldView) (places : List (ItemName × ℕ)) (several : Bool) (count : ℕ) (h : AreHeld v several places count) where
  -- so many ticks later
  pub passed_held : (v' : HeldView) (more : ℕ) → count + more ≤ 2 ^ 63 → v'.turn ≡ (v.turn + more) % v.ticks → v' ≡ record v { turn = v'.turn; visits = v'.visits } → AreHeld v' several places (count + more)
  passed_held v' more early turn rest =
      let P : HeldView → Type 0 = λ w. (several ≡ false → ArePlaced w places) × (count + more < 2 ^ 63 → AreBefore (count + more + 1) (items_of w)) in
      let parts = subst P (sym rest) (
        (λ e. let a = h.single e in record { placed = a.placed; own = a.own }),
        (λ lt. before_later (count + 1) (count + more + 1) (items_of v) (omega arith) (h.past (omega (arith, lt)))),
      ) in
      let ticks : v'.ticks ≡ v.ticks = ap (λ (w : HeldView). w.ticks) rest in
      let swap : count + 1 + more ≡ count + more + 1 = omega arith in
      record {
        some = subst (λ (n : ℕ). 1 ≤ n) (sym ticks) h.some;
        few = subst (λ (n : ℕ). n ≤ 4000) (sym ticks) h.few;
        single = parts.0;
        early = early;
        turn =
            turn
            ∙ (ap (λ (n : ℕ). (n + more) % v.ticks) h.turn
            ∙ (mod-add-mod (count + 1) v.ticks more
            ∙ (ap (λ (n : ℕ). n % v.ticks) swap ∙ ap (λ (n : ℕ). (count + more + 1) % n) (sym ticks))));
        past = parts.1;
      }

pub none_held : (v : HeldView) (places : List (ItemName × ℕ)) (ticks : ℕ) → v.order ≡ [] → (v.ticks ≡ ticks) × (v.turn ≡ 1 % ticks) → 1 ≤ ticks → ticks ≤ 4000 → ((k : ItemName) → lookup (name_eq k) places ≡ None) → AreHeld v false places 0
none_held v places ticks order is some few none = record {
  some = subst (λ (n : ℕ). 1 ≤ n) (sym is.0) some;
  few = subst (λ (n : ℕ). n ≤ 4000) (sym is.0) few;
  single = λ e. record { placed = λ s x m i. absurd (subst (Among s) order m); own = λ k s i. absurd (no_slot s (sym i ∙ none k)) };
  early = omega arith;
  turn = is.1 ∙ ap (λ (n : ℕ). 1 % n) (sym is.0);
  past = λ lt. subst (λ xs. AreBefore 1 (items_in v.slots xs)) (sym order) tt;
}

pub same_items : (v v' : HeldView) → SameValues v.slots v'.slots → v'.order ≡ v.order → items_of v' ≡ items_of v
same_items v v' same order = ap (λ xs. items_in v'.slots xs) order ∙ items_again v.slots v'.slots v.order same

-- where only room changes
pub same_held : (v v' : HeldView) (places places' : List (ItemName × ℕ)) (several : Bool) (count : ℕ) → SameValues v.slots v'.slots → v' ≡ record v { slots = v'.slots } → ((k : ItemName) → lookup (name_eq k) places' ≡ lookup (name_eq k) places) → AreHeld v several places count → AreHeld v' several places' count
same_held v v' places places' several count same rest again h =
    let order : v'.order ≡ v.order = ap (λ (w : HeldView). w.order) rest in
    held_again v v' places places' several several count h (ap (λ (w : HeldView). w.ticks) rest) (ap (λ (w : HeldView). w.turn) rest)
    (λ e. placed_again v v' places places' same order again (h.single e))
    (λ lt b. subst (AreBefore (count + 1)) (sym (same_items v v' same order)) b)

pub pushed_items : (v v' : HeldView) (x : ℕ) (y : Held) → (Among x v.order → ⊥) → Updates v.slots v'.slots x (Some y) → v'.order ≡ v.order ++ x ∷ [] → items_of v' ≡ items_of v ++ y ∷ []
pushed_items v v' x y free ups order = ap (λ xs. items_in v'.slots xs) order ∙ items_more v.slots v'.slots v.order x y free ups

pub pushed_held : (v v' : HeldView) (places places' : List (ItemName × ℕ)) (several again : Bool) (count x : ℕ) (y : Held) → AreHeld v several places count → (Among x v.order → ⊥) → Updates v.slots v'.slots x (Some y) → v' ≡ record v { slots = v'.slots; order = v.order ++ x ∷ [] }
    → again ≡ is_some (lookup (name_eq (name_of y)) places) → ((k : ItemName) → lookup (name_eq k) places' ≡ cond (name_eq (name_of y) k) (Some x) (lookup (name_eq k) places)) → (count < 2 ^ 63 → y.count ≤ count) → AreHeld v' (several || again) places' count
pushed_held v v' places places' several again count x y h free ups rest was put past =
    let order : v'.order ≡ v.order ++ x ∷ [] = ap (λ (w : HeldView). w.order) rest in
    held_again v v' places places' several (several || again) count h (ap (λ (w : HeldView). w.ticks) rest) (ap (λ (w : HeldView). w.turn) rest)
    (λ e. let n = neither several again e in placed_more v v' places places' x y free ups order put (is_none_of (lookup (name_eq (name_of y)) places) (sym was ∙ n.1)) (h.single n.0))
    (λ lt b. subst (AreBefore (count + 1)) (sym (pushed_items v v' x y free ups order)) (before_more (count + 1) (items_of v) y (let p = past lt in omega (arith, p)) b))

-- where items leave
pub fewer_held : (v v' : HeldView) (places places' : List (ItemName × ℕ)) (several several' : Bool) (count : ℕ) (p : Held → Bool) → AreHeld v several places count → v' ≡ record v { slots = v'.slots; order = v'.order } → items_of v' ≡ filter p (items_of v) → (several' ≡ false → ArePlaced v' places') → AreHeld v' several' places' count
fewer_held v v' places places' several several' count p h rest items single =
    held_again v v' places places' several several' count h (ap (λ (w : HeldView). w.ticks) rest) (ap (λ (w : HeldView). w.turn) rest) single
    (λ lt b. subst (AreBefore (count + 1)) (sym items) (before_less (count + 1) p (items_of v) b))

-- where an advice is marked
pub marked_held : (v v' : HeldView) (places places' : List (ItemName × ℕ)) (several : Bool) (count : ℕ) (id : AdviceId) → AreHeld v several places count → v' ≡ record v { slots = v'.slots } → items_of v' ≡ map (marked_by id) (items_of v) → (several ≡ false → ArePlaced v' places') → AreHeld v' several places' count
marked_held v v' places places' several count id h rest items single =
    held_again v v' places places' several several count h (ap (λ (w : HeldView). w.ticks) rest) (ap (λ (w : HeldView). w.turn) rest) single
    (λ lt b. subst (AreBefore (count + 1)) (sym items) (before_marked (count + 1) id (items_of v) b))

-- ---- room

pub room_fits : (spare n : ℕ) (s : Slab Held) → n ≤ spare → HasRoomFor s n → n ≤ room_in spare s
room_fits spare n s le fits = omega (arith, le, fits)

pub room_kept : (old new : Slab Held) (spare spare' : ℕ) → ((n : ℕ) → HasRoomFor old n → HasRoomFor new n) → spare ≤ spare' → room_in spare old ≤ room_in spare' new
room_kept old new spare spare' more le = elim (cases_lt old.capacity (slab_len old)) [
  | inl lt ↦ omega (arith, lt, le)
  | inr ge ↦ (let f = more (old.capacity - slab_len old) (omega (arith, ge)) in omega (arith, f, ge, le))
]

pub room_same : (old new : Slab Held) (spare : ℕ) → slab_len new ≡ slab_len old → new.capacity ≡ old.capacity → room_in spare new ≡ room_in spare old
room_same old new spare len capacity = ap (λ (n : ℕ). min spare (n - slab_len new)) capacity ∙ ap (λ (n : ℕ). min spare (old.capacity - n)) len
