-- What the slots hold and where they stand, as requests begin to wait and leave, and ticks go by.
use Rattle.std.proofs.Common.{◌≡◌, ◌≢◌, ℕ, zero, suc, ◌+◌, ◌-◌, ◌<◌, ◌≤◌, List, [], ◌∷◌, ◌++◌, length, drop, get_or, replicate, Option, Some, None, refl, sym, ap, ◌∙◌, subst, inl, inr, arith}
use Rattle.std.specs.Prelude.{slice_set, IfSome, IsSome}
use Rattle.std.specs.Option.{option_map, option_and_then}
use Rattle.std.proofs.lemmas.Bool.{cases_eq, cases_lt, lt-ltb, le-ltb}
use Rattle.std.proofs.lemmas.List.{length-set, length-map, length-replicate, ext_get_or, get_or-set_same, get_or-set_other}
use Rattle.std.proofs.Common.{length-append}
use Rattle.std.proofs.Math.ListN.{get_or-map}
use Rattle.slab.specs.Slab.{Slab, ContainsKey, get, Updates}
use Rattle.chain_links.specs.Lists.{Among, Distinct, IsMember, LinksView, list_at, no_lists, pushed, unlinked, with_heads, without}
use Rattle.slot_chains.specs.declared.family.Family.{Family}
use Rattle.tick_wheel.specs.Wheel.{WheelView, due_after, armed, advanced, disarmed, IsArmed, with_lists, with_slots}
use Rattle.request_slots.specs.declared.wait.Wait.{Wait}
use Rattle.request_slots.specs.Waits.{wait_at, with_wait, held_waits}
use Rattle.request_slots.specs.Kept.{AreHeld, AreListed, IsKept, ahead_of, armed_by, ending, linked, slot_at}
use Rattle.request_slots.proofs.Lists.{at_head, at_other, at_unlinked}
use Rattle.request_slots.proofs.Listing.{no_wait, less_listed, more_listed, more_unlisted}

same_slot : (x y : ℕ) → Some x ≡ Some y → x ≡ y
same_slot x y e = cc

same_wait : (x y : Wait) → Some x ≡ Some y → x ≡ y
same_wait x y e = cc

none_some : (x : ℕ) → Some x ≡ None → ⊥
none_some x e = cc

-- ---- places and their slots

pub at_in : (slab : Slab Wait) (slots : List (Option ℕ)) (place : ℕ) → wait_at (held_waits slab slots) place ≡ option_and_then (get slab) (slot_at slots place)
at_in slab slots place = get_or-map (λ slot. option_and_then (get slab) slot) slots place None

-- a place more
empty_place : (slots : List (Option ℕ)) (place : ℕ) → slot_at (slots ++ None ∷ []) place ≡ slot_at slots place
empty_place [] zero = refl
empty_place [] (suc k) = refl
empty_place (s ∷ slots) zero = refl
empty_place (s ∷ slots) (suc k) = empty_place slots k

pub held_more : (slab : Slab Wait) (slots : List (Option ℕ)) → AreHeld slab slots → AreHeld slab (slots ++ None ∷ [])
held_more slab slots h = record {
  held = λ place slot e. h.held place slot (sym (empty_place slots place) ∙ e);
  placed = λ slot w e. empty_place slots w.place ∙ h.placed slot w e;
}

pub waits_more : (slab : Slab Wait) (slots : List (Option ℕ)) → held_waits slab (slots ++ None ∷ []) ≡ held_waits slab slots ++ None ∷ []
waits_more slab [] = refl
waits_more slab (s ∷ slots) = ap (λ ws. option_and_then (get slab) s ∷ ws) (waits_more slab slots)

-- a place gets a slot
pub held_enter : (old new : Slab Wait) (slots : List (Option ℕ)) (slot : ℕ) (w : Wait) → AreHeld old slots → get old slot ≡ None → Updates old new slot (Some w) → w.place < length slots → slot_at slots w.place ≡ None
    → AreHeld new (slice_set slots w.place (Some slot))
held_enter old new slots slot w h none up within free = record {
  held =
      λ place s e. elim (cases_eq place w.place) [
        | inl same ↦
            let here : slot_at (slice_set slots w.place (Some slot)) w.place ≡ Some s = subst (λ k. slot_at (slice_set slots w.place (Some slot)) k ≡ Some s) same e in
            let is : slot ≡ s = same_slot slot s (sym (get_or-set_same slots w.place (Some slot) None within) ∙ here) in
            (w, ap (get new) (sym is) ∙ up.changed, sym same)
        | inr ne ↦
            let o = h.held place s (sym (get_or-set_other slots w.place place (Some slot) None ne) ∙ e) in
            (o.0, up.others s (λ same. no_wait o.0 (sym o.1 ∙ (ap (get old) same ∙ none))) ∙ o.1, o.2)
      ];
  placed =
      λ s v e. elim (cases_eq s slot) [
        | inl same ↦
            let there : get new slot ≡ Some v = subst (λ x. get new x ≡ Some v) same e in
            let is : v ≡ w = same_wait v w (sym there ∙ up.changed) in
            ap (λ (u : Wait). slot_at (slice_set slots w.place (Some slot)) u.place) is ∙ (get_or-set_same slots w.place (Some slot) None within ∙ ap Some (sym same))
        | inr ne ↦
            let before = h.placed s v (sym (up.others s ne) ∙ e) in
            get_or-set_other slots w.place v.place (Some slot) None (λ same. none_some s (sym before ∙ (ap (slot_at slots) same ∙ free))) ∙ before
      ];
}

-- a slot is given up
pub held_leave : (old new : Slab Wait) (slots : List (Option ℕ)) (place slot : ℕ) → AreHeld old slots → slot_at slots place ≡ Some slot → Updates old new slot None → place < length slots → AreHeld new (slice_set slots place None)
held_leave old new slots place slot h at up within = record {
  held =
      λ k s e. elim (cases_eq k place) [
        | inl same ↦
            let here : slot_at (slice_set slots place None) place ≡ Some s = subst (λ j. slot_at (slice_set slots place None) j ≡ Some s) same e in
            absurd (none_some s (sym here ∙ get_or-set_same slots place None None within))
        | inr ne ↦
            let o = h.held k s (sym (get_or-set_other slots place k None None ne) ∙ e) in
            let here = h.held place slot at in
            (o.0, up.others s (λ same. ne (sym o.2 ∙ (ap (λ (u : Wait). u.place) (same_wait o.0 here.0 (sym o.1 ∙ (ap (get old) same ∙ here.1))) ∙ here.2))) ∙ o.1, o.2)
      ];
  placed =
      λ s v e. elim (cases_eq s slot) [
        | inl same ↦ absurd (no_wait v (sym e ∙ (ap (get new) same ∙ up.changed)))
        | inr ne ↦
            let before = h.placed s v (sym (up.others s ne) ∙ e) in
            get_or-set_other slots place v.place None None (λ same. ne (same_slot s slot (sym before ∙ (ap (slot_at slots) same ∙ at)))) ∙ before
      ];
}

-- ---- ticks

-- a tick later each wait is due one tick sooner
pub ahead_before : (count a : ℕ) (due : Option ℕ) → ahead_of (suc count) due ≡ Some a → ahead_of count due ≡ Some (suc a)
ahead_before count a None e = absurd (none_some a (sym e))
ahead_before count a (Some due) e = elim (cases_lt (suc count) due) [
  | inl lt ↦
      let is : due - suc (suc count) ≡ a = same_slot (due - suc (suc count)) a (rw (lt-ltb (suc count) due lt) at e) in
      rw (lt-ltb count due (omega (arith, lt))) (ap Some (omega (arith, lt, is)))
  | inr le ↦ absurd (none_some a (sym (rw (le-ltb (suc count) due le) at e)))
]

pub ahead_later : (count a : ℕ) (due : Option ℕ) → ahead_of count due ≡ Some (suc a) → ahead_of (suc count) due ≡ Some a
ahead_later count a None e = absurd (none_some (suc a) (sym e))
ahead_later count a (Some due) e = elim (cases_lt count due) [
  | inl lt ↦
      let is : due - suc count ≡ suc a = same_slot (due - suc count) (suc a) (rw (lt-ltb count due lt) at e) in
      rw (lt-ltb (suc count) due (omega (arith, lt, is))) (ap Some (omega (arith, lt, is)))
  | inr le ↦ absurd (none_some (suc a) (sym (rw (le-ltb count due le) at e)))
]

turned_at : (waiting : List (List ℕ)) (a : ℕ) → get_or (drop 1 waiting ++ [] ∷ []) a [] ≡ get_or waiting (suc a) []
turned_at [] zero = refl
turned_at [] (suc a) = refl
turned_at (xs ∷ waiting) a = at_end waiting a
  where
    at_end : (ys : List (List ℕ)) (k : ℕ) → get_or (ys ++ [] ∷ []) k [] ≡ get_or ys k []
    at_end [] zero = refl
    at_end [] (suc k) = refl
    at_end (y ∷ ys) zero = refl
    at_end (y ∷ ys) (suc k) = at_end ys k

pub buckets_turned : (wheel : WheelView Wait) (count : ℕ) → AreListed wheel.slots (λ w. ahead_of count w.due) (due_after wheel) → AreListed wheel.slots (λ w. ahead_of (suc count) w.due) (due_after (advanced wheel))
buckets_turned wheel count h = record {
  listed = λ slot w a e is. subst (Among slot) (sym (turned_at wheel.waiting a)) (h.listed slot w (suc a) e (ahead_before count a w.due is));
  of_list = λ slot a m. let o = h.of_list slot (suc a) (subst (Among slot) (turned_at wheel.waiting a) m) in (o.0, o.1, ahead_later count a o.0.due o.2);
  once = λ a. subst Distinct (sym (turned_at wheel.waiting a)) (h.once (suc a));
}

-- ---- all together

no_slot : (slab : Slab Wait) (slot : ℕ) → slab.slots ≡ [] → get slab slot ≡ None
no_slot slab slot none = ap (λ (xs : List (Option Wait)). get_or xs slot None) none

past_all : (lists : List (List ℕ)) (k : ℕ) → length lists ≤ k → get_or lists k [] ≡ []
past_all [] zero le = refl
past_all [] (suc k) le = refl
past_all (x ∷ xs) zero le = absurd (omega (arith, le))
past_all (x ∷ xs) (suc k) le = past_all xs k (omega (arith, le))

no_list : (n k : ℕ) → get_or (replicate {A = List ℕ} n []) k [] ≡ []
no_list zero zero = refl
no_list zero (suc k) = refl
no_list (suc n) zero = refl
no_list (suc n) (suc k) = no_list n k

none_listed : {H : Type 0} (named : Wait → Option H) (list : H → List ℕ) (slab : Slab Wait) → slab.slots ≡ [] → ((h : H) → list h ≡ []) → AreListed slab named list
none_listed named list slab none empty = record {
  listed = λ slot w h e is. absurd (no_wait w (sym e ∙ no_slot slab slot none));
  of_list = λ slot h m. absurd (subst (Among slot) (empty h) m);
  once = λ h. subst Distinct (sym (empty h)) tt;
}

-- no request waits
pub kept_none : (wheel : WheelView Wait) → wheel.slots.slots ≡ [] → wheel.waiting ≡ replicate 4096 [] → wheel.card ≡ no_lists → wheel.link ≡ no_lists
    → IsKept (with_lists (with_lists wheel Family.Link (with_heads wheel.link 256)) Family.Card (with_heads wheel.card 1000)) [] 0
kept_none wheel none waiting card link = record {
  slots_held = record { held = λ place slot e. absurd (none_some slot (sym e ∙ no_place place)); placed = λ slot w e. absurd (no_wait w (sym e ∙ no_slot wheel.slots slot none)) };
  all_buckets = ap length waiting ∙ length-replicate {A = List ℕ} 4096 [];
  buckets = none_listed (λ w. ahead_of 0 w.due) (due_after wheel) wheel.slots none (λ a. ap (λ (xs : List (List ℕ)). get_or xs a []) waiting ∙ no_list 4096 a);
  links = none_listed (λ w. w.link) (list_at (with_heads wheel.link 256)) wheel.slots none (λ l. ap (λ (v : LinksView). list_at (with_heads v 256) l) link ∙ no_list 256 l);
  cards = none_listed (λ w. option_map ending w.card) (list_at (with_heads wheel.card 1000)) wheel.slots none (λ l. ap (λ (v : LinksView). list_at (with_heads v 1000) l) card ∙ no_list 1000 l);
}
  where
    no_place : (k : ℕ) → slot_at [] k ≡ None
    no_place zero = refl
    no_place (suc k) = refl

-- one place more
pub kept_place : (wheel : WheelView Wait) (slots : List (Option ℕ)) (count : ℕ) → IsKept wheel slots count → IsKept wheel (slots ++ None ∷ []) count
kept_place wheel slots count k = record {
  slots_held = held_more wheel.slots slots k.slots_held;
  all_buckets = k.all_buckets;
  buckets = k.buckets;
  links = k.links;
  cards = k.cards;
}

-- a tick later
pub kept_turned : (wheel : WheelView Wait) (slots : List (Option ℕ)) (count : ℕ) → IsKept wheel slots count → IsKept (advanced wheel) slots (count + 1)
kept_turned wheel slots count k = let one : suc count ≡ count + 1 = omega arith in subst (IsKept (advanced wheel) slots) one (record {
  slots_held = k.slots_held;
  all_buckets = turned_length wheel.waiting k.all_buckets;
  buckets = buckets_turned wheel count k.buckets;
  links = k.links;
  cards = k.cards;
})
  where
    turned_length : (ws : List (List ℕ)) → length ws ≡ 4096 → length (drop 1 ws ++ [] ∷ []) ≡ 4096
    turned_length [] e = absurd (omega (arith, e))
    turned_length (w ∷ ws) e = length-append ws ([] ∷ []) ∙ omega (arith, e)

-- ---- lists that are the same, over slots that hold the same

listed_as : {H : Type 0} (named : Wait → Option H) (old new : Slab Wait) (list now : H → List ℕ) → ((slot : ℕ) → get new slot ≡ get old slot) → ((h : H) → now h ≡ list h) → AreListed old named list → AreListed new named now
listed_as named old new list now same is a = record {
  listed = λ slot w h e n. subst (Among slot) (sym (is h)) (a.listed slot w h (sym (same slot) ∙ e) n);
  of_list = λ slot h m. let o = a.of_list slot h (subst (Among slot) (is h) m) in (o.0, same slot ∙ o.1, o.2);
  once = λ h. subst Distinct (sym (is h)) (a.once h);
}

held_as : (old new : Slab Wait) (slots : List (Option ℕ)) → ((slot : ℕ) → get new slot ≡ get old slot) → AreHeld old slots → AreHeld new slots
held_as old new slots same h = record {
  held = λ place slot e. let o = h.held place slot e in (o.0, same slot ∙ o.1, o.2);
  placed = λ slot w e. h.placed slot w (sym (same slot) ∙ e);
}

-- room for more slots
pub kept_roomier : (wheel : WheelView Wait) (slab : Slab Wait) (slots : List (Option ℕ)) (count : ℕ) → ((slot : ℕ) → get slab slot ≡ get wheel.slots slot) → IsKept wheel slots count → IsKept (with_slots wheel slab) slots count
kept_roomier wheel slab slots count same k = record {
  slots_held = held_as wheel.slots slab slots same k.slots_held;
  all_buckets = k.all_buckets;
  buckets = listed_as (λ w. ahead_of count w.due) wheel.slots slab (due_after wheel) (due_after wheel) same (λ a. refl) k.buckets;
  links = listed_as (λ w. w.link) wheel.slots slab (list_at wheel.link) (list_at wheel.link) same (λ l. refl) k.links;
  cards = listed_as (λ w. option_map ending w.card) wheel.slots slab (list_at wheel.card) (list_at wheel.card) same (λ l. refl) k.cards;
}

-- a request begins to wait
pub kept_enter : (wheel new : WheelView Wait) (slots : List (Option ℕ)) (count slot : ℕ) (w : Wait) → IsKept wheel slots count → get wheel.slots slot ≡ None → Updates wheel.slots new.slots slot (Some w)
    → w.place < length slots → slot_at slots w.place ≡ None → IfSome w.due (λ due. (count < due) × (due ≤ count + 4000)) → IfSome w.link (λ l. l < length wheel.link.lists)
    → IfSome w.card (λ c. ending c < length wheel.card.lists)
    → new.waiting ≡ (armed_by wheel slot count w.due).waiting → new.link ≡ linked wheel.link w.link slot → new.card ≡ linked wheel.card (option_map ending w.card) slot
    → IsKept new (slice_set slots w.place (Some slot)) count
kept_enter wheel new slots count slot w k none up within empty due link card waiting links cards = record {
  slots_held = held_enter wheel.slots new.slots slots slot w k.slots_held none up within empty;
  all_buckets = ap length waiting ∙ armed_length w.due;
  buckets = listed_as (λ v. ahead_of count v.due) new.slots new.slots (λ a. get_or (armed_by wheel slot count w.due).waiting a []) (due_after new) (λ s. refl) (λ a. ap (λ (ws : List (List ℕ)). get_or ws a []) waiting) (in_buckets w.due refl due);
  links = in_lists (λ v. v.link) wheel.link new.link w.link refl (λ h e. small_link w.link h link e) k.links links;
  cards = in_lists (λ v. option_map ending v.card) wheel.card new.card (option_map ending w.card) refl (λ h e. small ending (length wheel.card.lists) h w.card card e) k.cards cards;
}
  where
    armed_length : (o : Option ℕ) → length (armed_by wheel slot count o).waiting ≡ 4096
    armed_length None = k.all_buckets
    armed_length (Some d) = length-set wheel.waiting (d - count - 1) (due_after wheel (d - count - 1) ++ slot ∷ []) ∙ k.all_buckets

    small : {X : Type 0} (f : X → ℕ) (n h : ℕ) (o : Option X) → IfSome o (λ x. f x < n) → option_map f o ≡ Some h → h < n
    small f n h None few e = absurd (none_some h (sym e))
    small f n h (Some x) few e = subst (λ j. j < n) (same_slot (f x) h e) few

    small_link : (o : Option ℕ) (h : ℕ) → IfSome o (λ l. l < length wheel.link.lists) → o ≡ Some h → h < length wheel.link.lists
    small_link None h few e = absurd (none_some h (sym e))
    small_link (Some l) h few e = subst (λ j. j < length wheel.link.lists) (same_slot l h e) few

    in_buckets : (o : Option ℕ) → w.due ≡ o → IfSome o (λ d. (count < d) × (d ≤ count + 4000)) → AreListed new.slots (λ v. ahead_of count v.due) (λ a. get_or (armed_by wheel slot count o).waiting a [])
    in_buckets None is f = more_unlisted (λ v. ahead_of count v.due) wheel.slots new.slots slot w (due_after wheel) k.buckets none up (ap (ahead_of count) is)
    in_buckets (Some d) is f =
        let a = d - count - 1 in
        let small : a < length wheel.waiting = (let all = k.all_buckets in omega (arith, all, f.0, f.1)) in
        let ahead : ahead_of count w.due ≡ Some a = ap (ahead_of count) is ∙ rw (lt-ltb count d f.0) (ap Some (omega (arith, f.0))) in
        let here = get_or-set_same wheel.waiting a (due_after wheel a ++ slot ∷ []) [] small in
        more_listed (λ v. ahead_of count v.due) wheel.slots new.slots slot w a (due_after wheel) (λ b. get_or (armed wheel slot (d - count)).waiting b []) k.buckets none up ahead here
        (λ b. elim (cases_eq b a) [
          | inl same ↦ inl (subst (λ j. get_or (armed wheel slot (d - count)).waiting j [] ≡ due_after wheel j ++ slot ∷ []) (sym same) here, same)
          | inr ne ↦ inr (get_or-set_other wheel.waiting a b (due_after wheel a ++ slot ∷ []) [] ne)
        ])

    in_lists : (named : Wait → Option ℕ) (l now : LinksView) (o : Option ℕ) → named w ≡ o → ((h : ℕ) → o ≡ Some h → h < length l.lists) → AreListed wheel.slots named (list_at l) → now ≡ linked l o slot → AreListed new.slots named (list_at now)
    in_lists named l now None is f a e = listed_as named new.slots new.slots (list_at l) (list_at now) (λ s. refl) (λ h. ap (λ (v : LinksView). list_at v h) e) (more_unlisted named wheel.slots new.slots slot w (list_at l) a none up is)
    in_lists named l now (Some g) is f a e =
        listed_as named new.slots new.slots (list_at (pushed l g slot)) (list_at now) (λ s. refl) (λ h. ap (λ (v : LinksView). list_at v h) e)
        (more_listed named wheel.slots new.slots slot w g (list_at l) (list_at (pushed l g slot)) a none up is (at_head l g slot (f g refl))
        (λ b. elim (cases_eq b g) [
          | inl same ↦ inl (subst (λ j. list_at (pushed l g slot) j ≡ list_at l j ++ slot ∷ []) (sym same) (at_head l g slot (f g refl)), same)
          | inr ne ↦ inr (at_other l g slot b ne)
        ]))

-- a request waits no longer
pub kept_leave : (wheel new : WheelView Wait) (slots : List (Option ℕ)) (count place slot : ℕ) → IsKept wheel slots count → slot_at slots place ≡ Some slot → place < length slots → Updates wheel.slots new.slots slot None
    → new.waiting ≡ (disarmed wheel slot).waiting → new.link ≡ unlinked wheel.link slot → new.card ≡ unlinked wheel.card slot → IsKept new (slice_set slots place None) count
kept_leave wheel new slots count place slot k at within up waiting links cards = record {
  slots_held = held_leave wheel.slots new.slots slots place slot k.slots_held at up within;
  all_buckets = ap length waiting ∙ (length-map wheel.waiting (without slot) ∙ k.all_buckets);
  buckets = less_listed (λ v. ahead_of count v.due) wheel.slots new.slots slot (due_after wheel) (due_after new) k.buckets up (λ a. ap (λ (ws : List (List ℕ)). get_or ws a []) waiting ∙ get_or-map (without slot) wheel.waiting a []);
  links = less_listed (λ v. v.link) wheel.slots new.slots slot (list_at wheel.link) (list_at new.link) k.links up (λ l. ap (λ (v : LinksView). list_at v l) links ∙ at_unlinked wheel.link slot l);
  cards = less_listed (λ v. option_map ending v.card) wheel.slots new.slots slot (list_at wheel.card) (list_at new.card) k.cards up (λ l. ap (λ (v : LinksView). list_at v l) cards ∙ at_unlinked wheel.card slot l);
}

-- ---- a slot that holds nothing is in no list

pub none_armed : (wheel : WheelView Wait) (slots : List (Option ℕ)) (count slot : ℕ) → IsKept wheel slots count → get wheel.slots slot ≡ None → IsArmed wheel slot → ⊥
none_armed wheel slots count slot k none m = let o = k.buckets.of_list slot m.0 m.1 in no_wait o.0 (sym o.1 ∙ none)

pub none_linked : (wheel : WheelView Wait) (slots : List (Option ℕ)) (count slot : ℕ) → IsKept wheel slots count → get wheel.slots slot ≡ None → IsMember wheel.link slot → ⊥
none_linked wheel slots count slot k none m = let o = k.links.of_list slot m.0 m.1 in no_wait o.0 (sym o.1 ∙ none)

pub none_carded : (wheel : WheelView Wait) (slots : List (Option ℕ)) (count slot : ℕ) → IsKept wheel slots count → get wheel.slots slot ≡ None → IsMember wheel.card slot → ⊥
none_carded wheel slots count slot k none m = let o = k.cards.of_list slot m.0 m.1 in no_wait o.0 (sym o.1 ∙ none)

-- what arming leaves as it is
pub armed_slots : (wheel : WheelView Wait) (slot count : ℕ) (due : Option ℕ) → (armed_by wheel slot count due).slots ≡ wheel.slots
armed_slots wheel slot count None = refl
armed_slots wheel slot count (Some d) = refl

pub armed_link : (wheel : WheelView Wait) (slot count : ℕ) (due : Option ℕ) → (armed_by wheel slot count due).link ≡ wheel.link
armed_link wheel slot count None = refl
armed_link wheel slot count (Some d) = refl

pub armed_card : (wheel : WheelView Wait) (slot count : ℕ) (due : Option ℕ) → (armed_by wheel slot count due).card ≡ wheel.card
armed_card wheel slot count None = refl
armed_card wheel slot count (Some d) = refl

pub armed_visits : (wheel : WheelView Wait) (slot count : ℕ) (due : Option ℕ) → (armed_by wheel slot count due).visits ≡ wheel.visits
armed_visits wheel slot count None = refl
armed_visits wheel slot count (Some d) = refl

pub armed_waiting : (wheel other : WheelView Wait) (slot count : ℕ) (due : Option ℕ) → other.waiting ≡ wheel.waiting → (armed_by other slot count due).waiting ≡ (armed_by wheel slot count due).waiting
armed_waiting wheel other slot count None same = same
armed_waiting wheel other slot count (Some d) same = ap (λ (ws : List (List ℕ)). slice_set ws (d - count - 1) (get_or ws (d - count - 1) [] ++ slot ∷ [])) same

pub linked_length : (l : LinksView) (link : Option ℕ) (slot : ℕ) → length (linked l link slot).lists ≡ length l.lists
linked_length l None slot = refl
linked_length l (Some head) slot = length-set l.lists head (list_at l head ++ slot ∷ [])

-- ---- what is seen of it

pub no_slot_at : (slab : Slab Wait) (slots : List (Option ℕ)) (place : ℕ) → AreHeld slab slots → wait_at (held_waits slab slots) place ≡ None → slot_at slots place ≡ None
no_slot_at slab slots place held none = go (slot_at slots place) refl
  where
    go : (o : Option ℕ) → slot_at slots place ≡ o → o ≡ None
    go None e = refl
    go (Some slot) e =
        let w = held.held place slot e in
        absurd (no_wait w.0 (sym w.1 ∙ (sym (ap (option_and_then (get slab)) e) ∙ (sym (at_in slab slots place) ∙ none))))

pub waits_length : (slab : Slab Wait) (slots : List (Option ℕ)) → length (held_waits slab slots) ≡ length slots
waits_length slab slots = length-map slots (λ slot. option_and_then (get slab) slot)

pub waits_enter : (old new : Slab Wait) (slots : List (Option ℕ)) (slot : ℕ) (w : Wait) → AreHeld old slots → get old slot ≡ None → Updates old new slot (Some w) → w.place < length slots
    → held_waits new (slice_set slots w.place (Some slot)) ≡ with_wait (held_waits old slots) w.place (Some w)
waits_enter old new slots slot w held none up within =
    let n = length-set slots w.place (Some slot) in
    let m = length-set (held_waits old slots) w.place (Some w) in
    ext_get_or None (held_waits new (slice_set slots w.place (Some slot))) (with_wait (held_waits old slots) w.place (Some w)) (waits_length new (slice_set slots w.place (Some slot)) ∙ (n ∙ sym (m ∙ waits_length old slots))) at
  where
    other : (o : Option ℕ) (k : ℕ) → slot_at slots k ≡ o → option_and_then (get new) o ≡ option_and_then (get old) o
    other None k e = refl
    other (Some s) k e = let h = held.held k s e in up.others s (λ same. no_wait h.0 (sym h.1 ∙ (ap (get old) same ∙ none)))

    at : (k : ℕ) → k < length (held_waits new (slice_set slots w.place (Some slot))) → get_or (held_waits new (slice_set slots w.place (Some slot))) k None ≡ get_or (with_wait (held_waits old slots) w.place (Some w)) k None
    at k lt = elim (cases_eq k w.place) [
      | inl same ↦
          at_in new (slice_set slots w.place (Some slot)) k
          ∙ (ap (λ j. option_and_then (get new) (slot_at (slice_set slots w.place (Some slot)) j)) same
          ∙ (ap (option_and_then (get new)) (get_or-set_same slots w.place (Some slot) None within)
          ∙ (up.changed
          ∙ sym (ap (λ j. get_or (with_wait (held_waits old slots) w.place (Some w)) j None) same ∙ get_or-set_same (held_waits old slots) w.place (Some w) None (let n = waits_length old slots in omega (arith, n, within))))))
      | inr ne ↦
          at_in new (slice_set slots w.place (Some slot)) k
          ∙ (ap (option_and_then (get new)) (get_or-set_other slots w.place k (Some slot) None ne)
          ∙ (other (slot_at slots k) k refl
          ∙ (sym (at_in old slots k) ∙ sym (get_or-set_other (held_waits old slots) w.place k (Some w) None ne))))
    ]

pub waits_leave : (old new : Slab Wait) (slots : List (Option ℕ)) (place slot : ℕ) → AreHeld old slots → slot_at slots place ≡ Some slot → Updates old new slot None → place < length slots
    → held_waits new (slice_set slots place None) ≡ with_wait (held_waits old slots) place None
waits_leave old new slots place slot held at_place up within =
    let n = length-set slots place None in
    let m = length-set (held_waits old slots) place None in
    ext_get_or None (held_waits new (slice_set slots place None)) (with_wait (held_waits old slots) place None) (waits_length new (slice_set slots place None) ∙ (n ∙ sym (m ∙ waits_length old slots))) at
  where
    other : (o : Option ℕ) (k : ℕ) → k ≢ place → slot_at slots k ≡ o → option_and_then (get new) o ≡ option_and_then (get old) o
    other None k ne e = refl
    other (Some s) k ne e =
        let h = held.held k s e in
        let p = held.held place slot at_place in
        up.others s (λ same. ne (sym h.2 ∙ (ap (λ (u : Wait). u.place) (same_wait h.0 p.0 (sym h.1 ∙ (ap (get old) same ∙ p.1))) ∙ p.2)))

    at : (k : ℕ) → k < length (held_waits new (slice_set slots place None)) → get_or (held_waits new (slice_set slots place None)) k None ≡ get_or (with_wait (held_waits old slots) place None) k None
    at k lt = elim (cases_eq k place) [
      | inl same ↦
          at_in new (slice_set slots place None) k
          ∙ (ap (λ j. option_and_then (get new) (slot_at (slice_set slots place None) j)) same
          ∙ (ap (option_and_then (get new)) (get_or-set_same slots place None None within)
          ∙ sym (ap (λ j. get_or (with_wait (held_waits old slots) place None) j None) same ∙ get_or-set_same (held_waits old slots) place None None (let n = waits_length old slots in omega (arith, n, within)))))
      | inr ne ↦
          at_in new (slice_set slots place None) k
          ∙ (ap (option_and_then (get new)) (get_or-set_other slots place k None None ne)
          ∙ (other (slot_at slots k) k ne refl
          ∙ (sym (at_in old slots k) ∙ sym (get_or-set_other (held_waits old slots) place k None None ne))))
    ]

-- a place without a slot stays without
pub waits_stay : (slab : Slab Wait) (slots : List (Option ℕ)) (place : ℕ) → slot_at slots place ≡ None → place < length slots → held_waits slab slots ≡ with_wait (held_waits slab slots) place None
waits_stay slab slots place none within =
    sym (set-get_or' (held_waits slab slots) place (let n = waits_length slab slots in omega (arith, n, within)) (at_in slab slots place ∙ ap (option_and_then (get slab)) none))
  where
    set-get_or' : (ws : List (Option Wait)) (k : ℕ) → k < length ws → get_or ws k None ≡ None → slice_set ws k None ≡ ws
    set-get_or' [] k lt e = absurd (omega (arith, lt))
    set-get_or' (w ∷ ws) zero lt e = ap (λ x. x ∷ ws) (sym e)
    set-get_or' (w ∷ ws) (suc k) lt e = ap (λ xs. w ∷ xs) (set-get_or' ws k (omega (arith, lt)) e)

pub held_at : (slab : Slab Wait) (slots : List (Option ℕ)) (place slot : ℕ) → AreHeld slab slots → slot_at slots place ≡ Some slot → ContainsKey slab slot
held_at slab slots place slot h at = let w = h.held place slot at in some_there (get slab slot) w.0 w.1
  where
    some_there : (o : Option Wait) (w : Wait) → o ≡ Some w → IsSome o
    some_there None w e = absurd (no_wait w (sym e))
    some_there (Some v) w e = refl

pub unlinked_length : (l : LinksView) (slot : ℕ) → length (unlinked l slot).lists ≡ length l.lists
unlinked_length l slot = length-map l.lists (without slot)

-- what stands at a place of so many
pub slot_there : (slots : List (Option ℕ)) (place : ℕ) (o d : Option ℕ) → place < length slots → o ≡ get_or slots place d → slot_at slots place ≡ o
slot_there [] place o d lt e = absurd (omega (arith, lt))
slot_there (s ∷ slots) zero o d lt e = sym e
slot_there (s ∷ slots) (suc k) o d lt e = slot_there slots k o d (omega (arith, lt)) e
