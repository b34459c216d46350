-- The items of a node, and what its books see of them.
use Rattle.std.proofs.Common.{◌≡◌, ℕ, ◌&&◌, ◌||◌, not, Bool, true, false, bytes_eq, List, [], ◌∷◌, ◌++◌, map, filter, length, max, min, ◌-◌, ◌<◌, ◌≤◌, ◌^◌, inl, inr, eqb, refl, sym, ap, ◌∙◌}
use Rattle.std.specs.List.{list_any}
use Rattle.std.proofs.lemmas.Bool.{cases_Bool, cases_lt, eqb-true}
use Rattle.std.proofs.lemmas.List.{length-map, map-append}
use Rattle.std.specs.Cmp.Lexicographic.{same_text}
use Rattle.message_keys.specs.Keys.{identity_eq}
use Rattle.message_keys.specs.declared.keys.AdviceId.{AdviceId}
use Rattle.message_keys.proofs.Equality.{bytes_eq_refl}
use Rattle.network_law.specs.Cards.{Bytes}
use Rattle.network_law.specs.declared.grant.Grant.{Grant}
use Rattle.network_law.specs.declared.grant.GrantPacket.TheVariants as packets
use Rattle.node_machine.specs.Books.{Stored, Advised, Granted}
use Rattle.node_machine.specs.Machine as machine
use Rattle.advice_slots.specs.Items.{HasOwnId, HaveOwnIds, is_due, is_lent, is_lent_in, is_named, marked_by, name_eq, name_in, name_of, put_by, stored_in, stored_of, was_put, was_put_in}
use Rattle.advice_slots.specs.declared.item.Held.{Held}
use Rattle.advice_slots.specs.declared.item.Item.{Item}
use Rattle.advice_slots.specs.declared.item.Item.TheVariants as items
use Rattle.advice_slots.specs.declared.item.ItemName.TheVariants as names
use Rattle.advice_store.specs.Advices as advices
use Rattle.advice_store.specs.Books.{Store, noted, ticked}
use Rattle.advice_store.specs.Nodes.{AreOwn, IsLentBy, NodeStore, lenders_with, may_lend}
use Rattle.advice_store.specs.declared.lenders.Lenders.{Lenders}
use Rattle.advice_store.specs.declared.lenders.Lenders.TheVariants as lenders

-- ---- lists of items

stored_any : (l : Lenders) (f : Held → Bool) (g : Stored → Bool) → ((x : Held) → HasOwnId x.item → IsLentBy l x.item → f x ≡ g (stored_of x)) → (xs : List Held) → AreOwn l xs → list_any f xs ≡ list_any g (map stored_of xs)
stored_any l f g same [] own = refl
stored_any l f g same (x ∷ xs) own = rw (same x own.0.0 own.0.1, stored_any l f g same xs own.1) refl

stored_kept : (l : Lenders) (f : Held → Bool) (g : Stored → Bool) → ((x : Held) → HasOwnId x.item → IsLentBy l x.item → f x ≡ g (stored_of x)) → (xs : List Held) → AreOwn l xs → map stored_of (filter f xs) ≡ filter g (map stored_of xs)
stored_kept l f g same [] own = refl
stored_kept l f g same (x ∷ xs) own = elim (cases_Bool (f x)) [
  | inl t ↦ (let s : g (stored_of x) ≡ true = sym (same x own.0.0 own.0.1) ∙ t in rw (t, s) (ap (λ ys. stored_of x ∷ ys) (stored_kept l f g same xs own.1)))
  | inr t ↦ (let s : g (stored_of x) ≡ false = sym (same x own.0.0 own.0.1) ∙ t in rw (t, s) (stored_kept l f g same xs own.1))
]

stored_without : (l : Lenders) (f : Held → Bool) (g : Stored → Bool) → ((x : Held) → HasOwnId x.item → IsLentBy l x.item → f x ≡ g (stored_of x)) → (xs : List Held) → AreOwn l xs → map stored_of (filter (λ x. not (f x)) xs) ≡ filter (λ a. not (g a)) (map stored_of xs)
stored_without l f g same xs own = stored_kept l (λ x. not (f x)) (λ a. not (g a)) (λ x i b. ap not (same x i b)) xs own

kept_all : (p : Stored → Bool) → (l : Lenders) → ((x : Held) → HasOwnId x.item → IsLentBy l x.item → p (stored_of x) ≡ false) → (xs : List Held) → AreOwn l xs → filter (λ a. not (p a)) (map stored_of xs) ≡ map stored_of xs
kept_all p l none [] own = refl
kept_all p l none (x ∷ xs) own = rw (none x own.0.0 own.0.1) (ap (λ ys. stored_of x ∷ ys) (kept_all p l none xs own.1))

-- ---- what stays of the items is the node's

pub own_ids : (l : Lenders) (xs : List Held) → AreOwn l xs → HaveOwnIds xs
own_ids l [] own = own
own_ids l (x ∷ xs) own = (own.0.0, own_ids l xs own.1)

pub own_less : (l : Lenders) (p : Held → Bool) (xs : List Held) → AreOwn l xs → AreOwn l (filter p xs)
own_less l p [] own = own
own_less l p (x ∷ xs) own = elim (cases_Bool (p x)) [
  | inl t ↦ rw t (own.0, own_less l p xs own.1)
  | inr f ↦ rw f (own_less l p xs own.1)
]

pub own_more : (l : Lenders) (xs : List Held) (x : Held) → HasOwnId x.item → IsLentBy l x.item → AreOwn l xs → AreOwn l (xs ++ x ∷ [])
own_more l [] x i b own = ((i, b), tt)
own_more l (y ∷ ys) x i b own = (own.0, own_more l ys x i b own.1)

pub own_marked : (l : Lenders) (id : AdviceId) (xs : List Held) → AreOwn l xs → AreOwn l (map (marked_by id) xs)
own_marked l id [] own = own
own_marked l id (x ∷ xs) own = (one x.item own.0.0 own.0.1, own_marked l id xs own.1)
  where
    one : (i : Item) → HasOwnId i → IsLentBy l i → HasOwnId (put_by id i) × IsLentBy l (put_by id i)
    one (items.Advice a) h b = (h, b)
    one (items.Grant g) h b = (h, b)

-- ---- lenders

lent_later : (l : Lenders) (lender other : Bytes) → may_lend l other ≡ true → may_lend (lenders_with lender l) other ≡ true
lent_later lenders.None lender other t = absurd (cc)
lent_later (lenders.One own) lender other t = elim (cases_Bool (bytes_eq own lender)) [
  | inl s ↦ rw s t
  | inr s ↦ rw s refl
]
lent_later lenders.Several lender other t = refl

pub lent_now : (l : Lenders) (lender : Bytes) → may_lend (lenders_with lender l) lender ≡ true
lent_now lenders.None lender = bytes_eq_refl lender
lent_now (lenders.One own) lender = elim (cases_Bool (bytes_eq own lender)) [
  | inl s ↦ rw s s
  | inr s ↦ rw s refl
]
lent_now lenders.Several lender = refl

pub own_later : (l : Lenders) (lender : Bytes) (xs : List Held) → AreOwn l xs → AreOwn (lenders_with lender l) xs
own_later l lender [] own = own
own_later l lender (x ∷ xs) own = ((own.0.0, one x.item own.0.1), own_later l lender xs own.1)
  where
    one : (i : Item) → IsLentBy l i → IsLentBy (lenders_with lender l) i
    one (items.Advice a) b = b
    one (items.Grant g) b = lent_later l lender g.grant.lender b

-- ---- what is asked of one item

has_id : (id : AdviceId) (i : Item) (n : ℕ) → HasOwnId i → name_eq (name_in i) (names.Advice id) ≡ advices.has_id id (stored_in i n)
has_id id (items.Advice a) n own = ap (λ (k : AdviceId). identity_eq k id) own
has_id id (items.Grant g) n own = refl

put_is : (id : AdviceId) (i : Item) (n : ℕ) → HasOwnId i → was_put_in id i ≡ machine.was_put id (stored_in i n)
put_is id (items.Advice a) n own = ap (λ (k : AdviceId). identity_eq k id && a.put) own
put_is id (items.Grant g) n own = refl

due_is : (ticks now : ℕ) (i : Item) (n : ℕ) → is_due ticks now (record { item = i; count = n }) ≡ machine.is_due ticks now (stored_in i n)
due_is ticks now (items.Advice a) n = refl
due_is ticks now (items.Grant g) n = refl

marked_is : (id : AdviceId) (i : Item) (n : ℕ) → HasOwnId i → stored_in (put_by id i) n ≡ advices.marked_by id (stored_in i n)
marked_is id (items.Advice a) n own = ap (λ (k : AdviceId). Advised (record { message = a.message; count = n; put = a.put || identity_eq id k })) own
marked_is id (items.Grant g) n own = refl

lent_is : (lender : Bytes) (number : ℕ) (i : Item) (n : ℕ) → is_lent_in lender number i ≡ advices.packet_acked (packets.Ack lender number) (stored_in i n)
lent_is lender number (items.Advice a) n = refl
lent_is lender number (items.Grant g) n = refl

eqb_flip : (x y : ℕ) → eqb x y ≡ eqb y x
eqb_flip x y = elim (cases_Bool (eqb x y)) [
  | inl t ↦ (let e : x ≡ y = eqb-true x y t in rw e refl)
  | inr f ↦ elim (cases_Bool (eqb y x)) [
    | inl t ↦ (let e : y ≡ x = eqb-true y x t in rw e refl)
    | inr g ↦ f ∙ sym g
  ]
]

acked_is : (lender : Bytes) (number : ℕ) (i : Item) (n : ℕ) → IsLentBy (lenders.One lender) i → name_eq (name_in i) (names.Grant number) ≡ advices.packet_acked (packets.Ack lender number) (stored_in i n)
acked_is lender number (items.Advice a) n b = refl
acked_is lender number (items.Grant g) n b = rw b (eqb_flip g.grant.number number)

other_is : (own lender : Bytes) (number : ℕ) → bytes_eq own lender ≡ false → (i : Item) (n : ℕ) → IsLentBy (lenders.One own) i → advices.packet_acked (packets.Ack lender number) (stored_in i n) ≡ false
other_is own lender number ne (items.Advice a) n b = refl
other_is own lender number ne (items.Grant g) n b = elim (cases_Bool (bytes_eq lender g.grant.lender)) [
  | inl t ↦
      let e : own ≡ g.grant.lender = same_text own g.grant.lender (sym b) in
      let f : lender ≡ g.grant.lender = same_text lender g.grant.lender (sym t) in
      let bad : bytes_eq own lender ≡ true = ap (λ (k : Bytes). bytes_eq own k) (f ∙ sym e) ∙ bytes_eq_refl own in
      absurd (cc)
  | inr f ↦ rw f refl
]

none_is : (lender : Bytes) (number : ℕ) (i : Item) (n : ℕ) → IsLentBy lenders.None i → advices.packet_acked (packets.Ack lender number) (stored_in i n) ≡ false
none_is lender number (items.Advice a) n b = refl
none_is lender number (items.Grant g) n b = absurd (cc)

-- ---- what is asked of all items

module _ (l : Lenders) (xs : List Held) (own : AreOwn l xs) where
  pub any_id : (id : AdviceId) → list_any (is_named (names.Advice id)) xs ≡ list_any (advices.has_id id) (map stored_of xs)
  any_id id = stored_any l (is_named (names.Advice id)) (advices.has_id id) (λ x i b. has_id id x.item x.count i) xs own

  pub any_put : (id : AdviceId) → list_any (was_put id) xs ≡ list_any (machine.was_put id) (map stored_of xs)
  any_put id = stored_any l (was_put id) (machine.was_put id) (λ x i b. put_is id x.item x.count i) xs own

  pub without_id : (id : AdviceId) → map stored_of (filter (λ x. not (is_named (names.Advice id) x)) xs) ≡ filter (λ a. not (advices.has_id id a)) (map stored_of xs)
  without_id id = stored_without l (is_named (names.Advice id)) (advices.has_id id) (λ x i b. has_id id x.item x.count i) xs own

  pub due_stored : (ticks now : ℕ) → map stored_of (filter (is_due ticks now) xs) ≡ filter (machine.is_due ticks now) (map stored_of xs)
  due_stored ticks now = stored_kept l (is_due ticks now) (machine.is_due ticks now) (λ x i b. due_is ticks now x.item x.count) xs own

  -- as many are due, by their names too
  pub due_counted : (ticks now : ℕ) → length (map name_of (filter (is_due ticks now) xs)) ≡ length (filter (machine.is_due ticks now) (map stored_of xs))
  due_counted ticks now = length-map (filter (is_due ticks now) xs) name_of ∙ (sym (length-map (filter (is_due ticks now) xs) stored_of) ∙ ap length (due_stored ticks now))

  pub without_lent : (lender : Bytes) (number : ℕ) → map stored_of (filter (λ x. not (is_lent lender number x)) xs) ≡ filter (λ a. not (advices.packet_acked (packets.Ack lender number) a)) (map stored_of xs)
  without_lent lender number = stored_without l (is_lent lender number) (advices.packet_acked (packets.Ack lender number)) (λ x i b. lent_is lender number x.item x.count) xs own

pub marked_stored : (l : Lenders) (id : AdviceId) (xs : List Held) → AreOwn l xs → map stored_of (map (marked_by id) xs) ≡ map (advices.marked_by id) (map stored_of xs)
marked_stored l id [] own = refl
marked_stored l id (x ∷ xs) own = rw (marked_is id x.item x.count own.0.0, marked_stored l id xs own.1) refl

pub without_number : (lender : Bytes) (number : ℕ) (xs : List Held) → AreOwn (lenders.One lender) xs → map stored_of (filter (λ x. not (is_named (names.Grant number) x)) xs) ≡ filter (λ a. not (advices.packet_acked (packets.Ack lender number) a)) (map stored_of xs)
without_number lender number xs own = stored_without (lenders.One lender) (is_named (names.Grant number)) (advices.packet_acked (packets.Ack lender number)) (λ x i b. acked_is lender number x.item x.count b) xs own

pub without_other : (mine lender : Bytes) (number : ℕ) (xs : List Held) → bytes_eq mine lender ≡ false → AreOwn (lenders.One mine) xs → filter (λ a. not (advices.packet_acked (packets.Ack lender number) a)) (map stored_of xs) ≡ map stored_of xs
without_other mine lender number xs ne own = kept_all (advices.packet_acked (packets.Ack lender number)) (lenders.One mine) (λ x i b. other_is mine lender number ne x.item x.count b) xs own

pub without_none : (lender : Bytes) (number : ℕ) (xs : List Held) → AreOwn lenders.None xs → filter (λ a. not (advices.packet_acked (packets.Ack lender number) a)) (map stored_of xs) ≡ map stored_of xs
without_none lender number xs own = kept_all (advices.packet_acked (packets.Ack lender number)) lenders.None (λ x i b. none_is lender number x.item x.count b) xs own

-- no grant acknowledges another
pub grant_acks : (g : Grant) (xs : List Stored) → filter (λ a. not (advices.packet_acked (packets.Grant g) a)) xs ≡ xs
grant_acks g [] = refl
grant_acks g (Advised a ∷ xs) = ap (λ ys. Advised a ∷ ys) (grant_acks g xs)
grant_acks g (Granted x ∷ xs) = ap (λ ys. Granted x ∷ ys) (grant_acks g xs)

-- a tick changes no item
pub same_ticked : (v v' : Store) → (v.count < 2 ^ 63 → v' ≡ ticked v) → (2 ^ 63 ≤ v.count → v' ≡ v) → v' ≡ record v { count = v'.count; visits = v'.visits }
same_ticked v v' next last = elim (cases_lt v.count (2 ^ 63)) [
  | inl lt ↦ (let e = next lt in e ∙ ap (λ (w : Store). record v { count = w.count; visits = w.visits }) (sym e))
  | inr ge ↦ (let e = last ge in e ∙ ap (λ (w : Store). record v { count = w.count; visits = w.visits }) (sym e))
]

-- ---- what a node's books see of a store

abbrev pub seen : Store → NodeStore
seen v = record { store = map stored_of v.items; known = v.known; room = v.room; ticks = v.ticks; count = v.count; visits = v.visits }

-- an advice more
pub advice_seen : (v v' : Store) (id : AdviceId) (x : Held) → v' ≡ record (noted v id) { items = v.items ++ x ∷ []; count = max v.count (min x.count (2 ^ 63)); visits = v'.visits } → seen v' ≡ record { store = map stored_of v.items ++ stored_of x ∷ []; known = v.known ++ id ∷ []; room = v.room - 1; ticks = v.ticks; count = max v.count (min x.count (2 ^ 63)); visits = v'.visits }
advice_seen v v' id x e =
    let F : List Stored → NodeStore = λ st. record { store = st; known = v.known ++ id ∷ []; room = v.room - 1; ticks = v.ticks; count = max v.count (min x.count (2 ^ 63)); visits = v'.visits } in
    ap seen e ∙ ap F (map-append stored_of v.items (x ∷ []))

-- a grant more
pub grant_seen : (v v' : Store) (x : Held) → v' ≡ record v { items = v.items ++ x ∷ []; room = v.room - 1; count = max v.count (min x.count (2 ^ 63)); visits = v'.visits } → seen v' ≡ record { store = map stored_of v.items ++ stored_of x ∷ []; known = v.known; room = v.room - 1; ticks = v.ticks; count = max v.count (min x.count (2 ^ 63)); visits = v'.visits }
grant_seen v v' x e =
    let F : List Stored → NodeStore = λ st. record { store = st; known = v.known; room = v.room - 1; ticks = v.ticks; count = max v.count (min x.count (2 ^ 63)); visits = v'.visits } in
    ap seen e ∙ ap F (map-append stored_of v.items (x ∷ []))
