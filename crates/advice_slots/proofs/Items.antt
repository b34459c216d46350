-- The items in slots, as slots enter, leave and are marked.
use Rattle.std.proofs.Common.{◌≡◌, ◌≢◌, ◌⊎◌, inl, inr, ℕ, ◌<◌, ◌≤◌, ◌&&◌, ◌||◌, not, Bool, true, false, cond, List, [], ◌∷◌, ◌++◌, length, map, filter, filter_map, Option, Some, None, is_some, bytes_eq, eqb, eq-eqb, arith, refl, sym, ap, ◌∙◌, subst}
use Rattle.std.specs.Prelude.{IfSome}
use Rattle.std.specs.List.{list_any}
use Rattle.std.specs.Option.{option_map}
use Rattle.std.specs.Map.{lookup}
use Rattle.std.proofs.lemmas.Bool.{and_parts, cases_Bool, cases_eq, eqb-true}
use Rattle.slab.specs.Slab.{Slab, get, Updates, SameValues}
use Rattle.chain_links.specs.Lists.{Among, without}
use Rattle.message_keys.specs.Keys.{identity_eq}
use Rattle.message_keys.specs.declared.keys.AdviceId.{AdviceId}
use Rattle.advice_slots.specs.declared.item.Held.{Held}
use Rattle.advice_slots.specs.Items.{is_lent_in, is_named, marked_by, name_eq, name_in, name_of, put_by, was_put, was_put_in}
use Rattle.advice_slots.specs.declared.item.Item.{Item}
use Rattle.advice_slots.specs.declared.item.Item.TheVariants as items
use Rattle.advice_slots.specs.declared.item.ItemName.{ItemName}
use Rattle.advice_slots.specs.declared.item.ItemName.TheVariants as names
use Rattle.advice_slots.specs.declared.wanted.Wanted.{Wanted}
use Rattle.advice_slots.specs.declared.wanted.Wanted.TheVariants as wanted
use Rattle.advice_slots.specs.Kept.{ArePlaced, HeldView, IsFound, items_in, items_of, name_wanted, wants, wants_at}
use Rattle.advice_slots.proofs.Names.{name_flip, name_refl, name_same}
use Rattle.advice_slots.proofs.Lists.{among_gone, among_push, among_without, found_more, no_both, same_found, still_among}
use Rattle.advice_slots.proofs.Standing.{no_item, same_item}

pub same_slot : (x y : ℕ) → Some x ≡ Some y → x ≡ y
same_slot x y e = cc

pub no_slot : (x : ℕ) → Some x ≡ None → ⊥
no_slot x e = cc

-- ---- all that is looked for

pub any_from : (p : Held → Bool) (f : ℕ → Option Held) (xs : List ℕ) (slot : ℕ) (x : Held) → Among slot xs → f slot ≡ Some x → p x ≡ true → list_any p (filter_map f xs) ≡ true
any_from p f [] slot x m e t = absurd m
any_from p f (y ∷ ys) slot x m e t = elim m [
  | inl same ↦ (let n : f y ≡ Some x = ap f (sym same) ∙ e in rw (n, t) refl)
  | inr later ↦ go (f y) refl (any_from p f ys slot x later e t)
] where
  go : (o : Option Held) → f y ≡ o → list_any p (filter_map f ys) ≡ true → list_any p (filter_map f (y ∷ ys)) ≡ true
  go None n r = rw n r
  go (Some z) n r = elim (cases_Bool (p z)) [ inl s ↦ rw (n, s) refl | inr s ↦ rw (n, s) r ]

pub none_from : (p : Held → Bool) (f : ℕ → Option Held) (xs : List ℕ) → ((slot : ℕ) (x : Held) → Among slot xs → f slot ≡ Some x → p x ≡ false) → list_any p (filter_map f xs) ≡ false
none_from p f [] h = refl
none_from p f (y ∷ ys) h = go (f y) refl (none_from p f ys (λ s x m. h s x (inr m)))
  where
    go : (o : Option Held) → f y ≡ o → list_any p (filter_map f ys) ≡ false → list_any p (filter_map f (y ∷ ys)) ≡ false
    go None e r = rw e r
    go (Some z) e r = rw (e, h y z (inl refl) e) r

pub key_is : (w : Wanted) (x : Held) → wants w x ≡ true → name_eq (name_of x) (name_wanted w) ≡ true
key_is (wanted.Item k) x t = t
key_is (wanted.Put id) x t = go x.item t
  where
    go : (i : Item) → was_put_in id i ≡ true → name_eq (name_in i) (names.Advice id) ≡ true
    go (items.Advice a) t = (and_parts (identity_eq a.id id) a.put t).0
    go (items.Grant g) t = absurd (cc)
key_is (wanted.NotPut id) x t = (and_parts (is_named (names.Advice id) x) (not (was_put id x)) t).0
key_is (wanted.Lent lender number) x t = go x.item t
  where
    go : (i : Item) → is_lent_in lender number i ≡ true → name_eq (name_in i) (names.Grant number) ≡ true
    go (items.Advice a) t = absurd (cc)
    go (items.Grant g) t =
        let p = and_parts (bytes_eq lender g.grant.lender) (eqb number g.grant.number) t in
        eq-eqb g.grant.number number (sym (eqb-true number g.grant.number p.1))

pub any_item : (k : ItemName) (xs : List Held) → list_any (wants (wanted.Item k)) xs ≡ list_any (is_named k) xs
any_item k [] = refl
any_item k (x ∷ xs) = rw (any_item k xs) refl

-- where each item is found by its key
module _ (v : HeldView) (places : List (ItemName × ℕ)) (a : ArePlaced v places) (w : Wanted) where
  pub none_placed : lookup (name_eq (name_wanted w)) places ≡ None → list_any (wants w) (items_of v) ≡ false
  none_placed none = none_from (wants w) (get v.slots) v.order (λ s x m e. elim (cases_Bool (wants w x)) [
    | inl t ↦
        let k : name_of x ≡ name_wanted w = name_same (name_of x) (name_wanted w) (key_is w x t) in
        absurd (no_slot s (sym (a.placed s x m e) ∙ (ap (λ (q : ItemName). lookup (name_eq q) places) k ∙ none)))
    | inr f ↦ f
  ])

  pub other_placed : (slot : ℕ) → lookup (name_eq (name_wanted w)) places ≡ Some slot → wants_at w (get v.slots slot) ≡ false → list_any (wants w) (items_of v) ≡ false
  other_placed slot is not_it = none_from (wants w) (get v.slots) v.order (λ s x m e. elim (cases_Bool (wants w x)) [
    | inl t ↦
        let k : name_of x ≡ name_wanted w = name_same (name_of x) (name_wanted w) (key_is w x t) in
        let same : s ≡ slot = same_slot s slot (sym (a.placed s x m e) ∙ (ap (λ (q : ItemName). lookup (name_eq q) places) k ∙ is)) in
        let here : wants_at w (get v.slots slot) ≡ wants w x = ap (wants_at w) (ap (get v.slots) (sym same) ∙ e) in
        sym here ∙ not_it
    | inr f ↦ f
  ])

  pub one_placed : (slot : ℕ) → lookup (name_eq (name_wanted w)) places ≡ Some slot → wants_at w (get v.slots slot) ≡ true → list_any (wants w) (items_of v) ≡ true
  one_placed slot is it =
      let o = a.own (name_wanted w) slot is in
      any_from (wants w) (get v.slots) v.order slot o.item o.among o.here (sym (ap (wants_at w) o.here) ∙ it)

pub found_any : (w : Wanted) (v : HeldView) (slot : ℕ) → IsFound w v.slots v.order slot → list_any (wants w) (items_of v) ≡ true
found_any w v slot f = any_from (wants w) (get v.slots) v.order slot f.item f.among f.here f.wanted

-- ---- an item more

pub items_more : (s s' : Slab Held) (xs : List ℕ) (x : ℕ) (y : Held) → (Among x xs → ⊥) → Updates s s' x (Some y) → items_in s' (xs ++ x ∷ []) ≡ items_in s xs ++ y ∷ []
items_more s s' xs x y free ups =
    found_more (get s') xs x y ups.changed
    ∙ ap (λ (zs : List Held). zs ++ y ∷ []) (same_found (get s') (get s) xs (λ z m. ups.others z (λ same. free (subst (λ k. Among k xs) same m))))

pub placed_more : (v v' : HeldView) (places new : List (ItemName × ℕ)) (x : ℕ) (y : Held) → (Among x v.order → ⊥) → Updates v.slots v'.slots x (Some y) → v'.order ≡ v.order ++ x ∷ []
    → ((k : ItemName) → lookup (name_eq k) new ≡ cond (name_eq (name_of y) k) (Some x) (lookup (name_eq k) places)) → lookup (name_eq (name_of y)) places ≡ None → ArePlaced v places → ArePlaced v' new
placed_more v v' places new x y free ups order put none a = record {
  placed =
      λ s z m e. elim (among_push s x v.order (subst (Among s) order m)) [
        | inl same ↦
            let is : z ≡ y = same_item z y (sym e ∙ (ap (get v'.slots) same ∙ ups.changed)) in
            let here : lookup (name_eq (name_of y)) new ≡ Some x = put (name_of y) ∙ rw (name_refl (name_of y)) refl in
            ap (λ (q : Held). lookup (name_eq (name_of q)) new) is ∙ (here ∙ ap Some (sym same))
        | inr k ↦
            let ne : s ≢ x = λ same. free (subst (λ j. Among j v.order) same k) in
            let before : lookup (name_eq (name_of z)) places ≡ Some s = a.placed s z k (sym (ups.others s ne) ∙ e) in
            put (name_of z) ∙ elim (cases_Bool (name_eq (name_of y) (name_of z))) [
              | inl t ↦
                  let is : name_of y ≡ name_of z = name_same (name_of y) (name_of z) t in
                  absurd (no_slot s (sym before ∙ (ap (λ (q : ItemName). lookup (name_eq q) places) (sym is) ∙ none)))
              | inr f ↦ rw f before
            ]
      ];
  own =
      λ k s e. elim (cases_Bool (name_eq (name_of y) k)) [
        | inl t ↦
            let p = put k in
            let q : lookup (name_eq k) new ≡ Some x = rw t at p in
            let same : s ≡ x = same_slot s x (sym e ∙ q) in
            record { item = y; among = subst (Among s) (sym order) (last s v.order same); here = ap (get v'.slots) same ∙ ups.changed; wanted = t }
        | inr f ↦
            let p = put k in
            let q : lookup (name_eq k) new ≡ lookup (name_eq k) places = rw f at p in
            let o = a.own k s (sym q ∙ e) in
            record { item = o.item; among = subst (Among s) (sym order) (front s v.order o.among); here = ups.others s (λ same. free (subst (λ j. Among j v.order) same o.among)) ∙ o.here; wanted = o.wanted }
      ];
} where
  last : (s : ℕ) (xs : List ℕ) → s ≡ x → Among s (xs ++ x ∷ [])
  last s [] same = inl same
  last s (z ∷ zs) same = inr (last s zs same)

  front : (s : ℕ) (xs : List ℕ) → Among s xs → Among s (xs ++ x ∷ [])
  front s [] m = absurd m
  front s (z ∷ zs) m = elim m [ inl same ↦ inl same | inr later ↦ inr (front s zs later) ]

-- ---- an item less

filter_less : (q : Held → Bool) (f : ℕ → Option Held) (x : ℕ) (y : Held) (xs : List ℕ) → f x ≡ Some y → q y ≡ false → filter q (filter_map f (without x xs)) ≡ filter q (filter_map f xs)
filter_less q f x y [] e out = refl
filter_less q f x y (z ∷ zs) e out = elim (cases_Bool (eqb x z)) [
  | inl t ↦ (let n : f z ≡ Some y = ap f (sym (eqb-true x z t)) ∙ e in rw (t, n, out) (filter_less q f x y zs e out))
  | inr s ↦ rw s (go (f z) refl (filter_less q f x y zs e out))
] where
  go : (o : Option Held) → f z ≡ o → filter q (filter_map f (without x zs)) ≡ filter q (filter_map f zs) → filter q (filter_map f (z ∷ without x zs)) ≡ filter q (filter_map f (z ∷ zs))
  go None n r = rw n r
  go (Some u) n r = elim (cases_Bool (q u)) [
    | inl s ↦ rw (n, s) (ap (λ us. u ∷ us) r)
    | inr s ↦ rw (n, s) r
  ]

pub items_less : (p : Held → Bool) (s s' : Slab Held) (xs : List ℕ) (x : ℕ) (y : Held) → get s x ≡ Some y → p y ≡ true → Updates s s' x None
    → filter (λ a. not (p a)) (items_in s' (without x xs)) ≡ filter (λ a. not (p a)) (items_in s xs)
items_less p s s' xs x y e t ups =
    ap (λ (zs : List Held). filter (λ a. not (p a)) zs) (same_found (get s') (get s) (without x xs) (λ z m. ups.others z (λ same. among_gone x xs (subst (λ j. Among j (without x xs)) same m))))
    ∙ filter_less (λ a. not (p a)) (get s) x y xs e (ap not t)

pub none_left : (p : Held → Bool) (xs : List Held) → list_any p xs ≡ false → filter (λ a. not (p a)) xs ≡ xs
none_left p [] e = refl
none_left p (x ∷ xs) e = elim (cases_Bool (p x)) [
  | inl t ↦ (let f : true ≡ false = rw t at e in absurd (cc))
  | inr g ↦ (let f : list_any p xs ≡ false = rw g at e in rw g (ap (λ ys. x ∷ ys) (none_left p xs f)))
]

pub placed_less : (v v' : HeldView) (places new : List (ItemName × ℕ)) (key : ItemName) (x : ℕ) → Updates v.slots v'.slots x None → v'.order ≡ without x v.order → ((k : ItemName) → lookup (name_eq k) new ≡ cond (name_eq key k) None (lookup (name_eq k) places))
    → lookup (name_eq key) places ≡ Some x → ArePlaced v places → ArePlaced v' new
placed_less v v' places new key x ups order gone is a = record {
  placed =
      λ s z m e.
      let left : Among s (without x v.order) = subst (Among s) order m in
      let ne : s ≢ x = λ same. among_gone x v.order (subst (λ j. Among j (without x v.order)) same left) in
      let before : lookup (name_eq (name_of z)) places ≡ Some s = a.placed s z (among_without s x v.order left) (sym (ups.others s ne) ∙ e) in
      gone (name_of z) ∙ elim (cases_Bool (name_eq key (name_of z))) [
        | inl t ↦
            let same : key ≡ name_of z = name_same key (name_of z) t in
            absurd (ne (same_slot s x (sym before ∙ (ap (λ (q : ItemName). lookup (name_eq q) places) (sym same) ∙ is))))
        | inr f ↦ rw f before
      ];
  own =
      λ k s e. elim (cases_Bool (name_eq key k)) [
        | inl t ↦
            let g = gone k in
            let q : lookup (name_eq k) new ≡ None = rw t at g in
            absurd (no_slot s (sym e ∙ q))
        | inr f ↦
            let g = gone k in
            let q : lookup (name_eq k) new ≡ lookup (name_eq k) places = rw f at g in
            let o = a.own k s (sym q ∙ e) in
            let own = a.own key x is in
            let ne : s ≢ x = λ same.
            let one : o.item ≡ own.item = same_item o.item own.item (sym o.here ∙ (ap (get v.slots) same ∙ own.here)) in
            let l : name_of o.item ≡ k = name_same (name_of o.item) k o.wanted in
            let r : name_of own.item ≡ key = name_same (name_of own.item) key own.wanted in
            let both : key ≡ k = sym r ∙ (ap name_of (sym one) ∙ l) in
            no_both (name_eq key k) (ap (name_eq key) (sym both) ∙ name_refl key) f in
            record { item = o.item; among = subst (Among s) (sym order) (still_among x s v.order (λ same. ne (sym same)) o.among); here = ups.others s ne ∙ o.here; wanted = o.wanted }
      ];
}

pub placed_none : (v : HeldView) (places new : List (ItemName × ℕ)) (key : ItemName) → ((k : ItemName) → lookup (name_eq k) new ≡ cond (name_eq key k) None (lookup (name_eq k) places)) → lookup (name_eq key) places ≡ None → ArePlaced v places → ArePlaced v new
placed_none v places new key gone none a = record {
  placed = λ s z m e. same (name_of z) ∙ a.placed s z m e;
  own = λ k s e. a.own k s (sym (same k) ∙ e);
} where
  same : (k : ItemName) → lookup (name_eq k) new ≡ lookup (name_eq k) places
  same k = gone k ∙ elim (cases_Bool (name_eq key k)) [
    | inl t ↦ (let is : key ≡ k = name_same key k t in rw t (sym none ∙ ap (λ (q : ItemName). lookup (name_eq q) places) is))
    | inr f ↦ rw f refl
  ]

pub placed_again : (v v' : HeldView) (places new : List (ItemName × ℕ)) → SameValues v.slots v'.slots → v'.order ≡ v.order → ((k : ItemName) → lookup (name_eq k) new ≡ lookup (name_eq k) places) → ArePlaced v places → ArePlaced v' new
placed_again v v' places new same order again a = record {
  placed = λ s z m e. again (name_of z) ∙ a.placed s z (subst (Among s) order m) (sym (same s) ∙ e);
  own = λ k s e. let o = a.own k s (sym (again k) ∙ e) in record { item = o.item; among = subst (Among s) (sym order) o.among; here = same s ∙ o.here; wanted = o.wanted };
}

pub items_again : (s s' : Slab Held) (xs : List ℕ) → SameValues s s' → items_in s' xs ≡ items_in s xs
items_again s s' xs same = same_found (get s') (get s) xs (λ z m. same z)

-- ---- an advice that was put

marked_again : (id : AdviceId) (x : Held) → marked_by id (marked_by id x) ≡ marked_by id x
marked_again id x = ap (λ (i : Item). record { item = i; count = x.count }) (go x.item)
  where
    twice : (p q : Bool) → ((p || q) || q) ≡ (p || q)
    twice true q = refl
    twice false true = refl
    twice false false = refl

    go : (i : Item) → put_by id (put_by id i) ≡ put_by id i
    go (items.Grant g) = refl
    go (items.Advice a) = ap (λ (b : Bool). items.Advice (record { id = a.id; message = a.message; put = b })) (twice a.put (identity_eq id a.id))

pub marked_key : (id : AdviceId) (x : Held) → name_of (marked_by id x) ≡ name_of x
marked_key id x = go x.item
  where
    go : (i : Item) → name_in (put_by id i) ≡ name_in i
    go (items.Advice a) = refl
    go (items.Grant g) = refl

map_same : (m : Held → Held) (f g : ℕ → Option Held) (xs : List ℕ) → ((z : ℕ) → option_map m (g z) ≡ option_map m (f z)) → map m (filter_map g xs) ≡ map m (filter_map f xs)
map_same m f g [] h = refl
map_same m f g (z ∷ zs) h = go (g z) (f z) refl refl (h z) (map_same m f g zs h)
  where
    go : (o p : Option Held) → g z ≡ o → f z ≡ p → option_map m o ≡ option_map m p → map m (filter_map g zs) ≡ map m (filter_map f zs) → map m (filter_map g (z ∷ zs)) ≡ map m (filter_map f (z ∷ zs))
    go None None a b e r = rw (a, b) r
    go (Some u) (Some v) a b e r = rw (a, b) (let same : m u ≡ m v = same_item (m u) (m v) e in ap (λ k. k ∷ map m (filter_map g zs)) same ∙ ap (λ ks. m v ∷ ks) r)
    go None (Some v) a b e r = absurd (no_item (m v) (sym e))
    go (Some u) None a b e r = absurd (no_item (m u) e)

pub items_marked : (id : AdviceId) (s s' : Slab Held) (xs : List ℕ) (x : ℕ) → Updates s s' x (option_map (marked_by id) (get s x)) → map (marked_by id) (items_in s' xs) ≡ map (marked_by id) (items_in s xs)
items_marked id s s' xs x ups = map_same (marked_by id) (get s) (get s') xs (λ z. elim (cases_eq z x) [
  | inl same ↦ ap (λ k. option_map (marked_by id) (get s' k)) same ∙ (ap (option_map (marked_by id)) ups.changed ∙ (twice (get s x) ∙ ap (λ k. option_map (marked_by id) (get s k)) (sym same)))
  | inr ne ↦ ap (option_map (marked_by id)) (ups.others z ne)
])
  where
    twice : (o : Option Held) → option_map (marked_by id) (option_map (marked_by id) o) ≡ option_map (marked_by id) o
    twice None = refl
    twice (Some y) = ap Some (marked_again id y)

-- an advice that isn't looked for stays as it is
same_marked : (id : AdviceId) (x : Held) → wants (wanted.NotPut id) x ≡ false → marked_by id x ≡ x
same_marked id x f = ap (λ (i : Item). record { item = i; count = x.count }) (same x.item f)
  where
    go : (e p q : Bool) → q ≡ e → (e && not (e && p)) ≡ false → (p || q) ≡ p
    go true true q same f = refl
    go true false q same f = absurd (cc)
    go false true q same f = refl
    go false false q same f = same

    same : (i : Item) → (name_eq (name_in i) (names.Advice id) && not (was_put_in id i)) ≡ false → put_by id i ≡ i
    same (items.Grant g) f = refl
    same (items.Advice a) f = ap (λ (b : Bool). items.Advice (record { id = a.id; message = a.message; put = b })) (go (identity_eq a.id id) a.put (identity_eq id a.id) (name_flip (names.Advice id) (names.Advice a.id)) f)

pub none_unmarked : (id : AdviceId) (xs : List Held) → list_any (wants (wanted.NotPut id)) xs ≡ false → map (marked_by id) xs ≡ xs
none_unmarked id [] e = refl
none_unmarked id (x ∷ xs) e = elim (cases_Bool (wants (wanted.NotPut id) x)) [
  | inl t ↦ (let f : true ≡ false = rw t at e in absurd (cc))
  | inr g ↦ (let f : list_any (wants (wanted.NotPut id)) xs ≡ false = rw g at e in ap (λ y. y ∷ map (marked_by id) xs) (same_marked id x g) ∙ ap (λ ys. x ∷ ys) (none_unmarked id xs f))
]

-- an advice that is marked isn't looked for
pub marked_put : (id : AdviceId) (x : Held) → wants (wanted.NotPut id) (marked_by id x) ≡ false
marked_put id x = at x.item
  where
    go : (e p q : Bool) → q ≡ e → (e && not (e && (p || q))) ≡ false
    go true true q same = refl
    go true false q same = rw same refl
    go false p q same = refl

    at : (i : Item) → (name_eq (name_in (put_by id i)) (names.Advice id) && not (was_put_in id (put_by id i))) ≡ false
    at (items.Grant g) = refl
    at (items.Advice a) = go (identity_eq a.id id) a.put (identity_eq id a.id) (name_flip (names.Advice id) (names.Advice a.id))

pub placed_marked : (v v' : HeldView) (places : List (ItemName × ℕ)) (id : AdviceId) (x : ℕ) → Updates v.slots v'.slots x (option_map (marked_by id) (get v.slots x)) → v'.order ≡ v.order → ArePlaced v places → ArePlaced v' places
placed_marked v v' places id x ups order a = record {
  placed =
      λ s z m e. elim (cases_eq s x) [
        | inl same ↦
            let u = unmarked (get v.slots x) z (sym ups.changed ∙ (ap (get v'.slots) (sym same) ∙ e)) in
            ap (λ (q : ItemName). lookup (name_eq q) places) u.1 ∙ a.placed s u.0 (subst (Among s) order m) (ap (get v.slots) same ∙ u.2)
        | inr ne ↦ a.placed s z (subst (Among s) order m) (sym (ups.others s ne) ∙ e)
      ];
  own =
      λ k s e. let o = a.own k s e in elim (cases_eq s x) [
        | inl same ↦ record {
          item = marked_by id o.item;
          among = subst (Among s) (sym order) o.among;
          here = ap (get v'.slots) same ∙ (ups.changed ∙ ap (option_map (marked_by id)) (ap (get v.slots) (sym same) ∙ o.here));
          wanted = ap (λ (q : ItemName). name_eq q k) (marked_key id o.item) ∙ o.wanted;
        }
        | inr ne ↦ record { item = o.item; among = subst (Among s) (sym order) o.among; here = ups.others s ne ∙ o.here; wanted = o.wanted }
      ];
} where
  unmarked : (o : Option Held) (z : Held) → option_map (marked_by id) o ≡ Some z → (y : Held) × (name_of z ≡ name_of y) × (o ≡ Some y)
  unmarked None z e = absurd (no_item z (sym e))
  unmarked (Some y) z e = (y, ap name_of (sym (same_item (marked_by id y) z e)) ∙ marked_key id y, refl)

-- ---- so many are looked for

-- a slot has the same item, or one that isn't looked for in place of another
abbrev IsLess : (Held → Bool) → Option Held → Option Held → Type 0
IsLess p o n = (n ≡ o) ⊎ ((u : Held) × (v : Held) × (o ≡ Some u) × (n ≡ Some v) × (p v ≡ false))

filter_le : (p : Held → Bool) (f g : ℕ → Option Held) (xs : List ℕ) → ((z : ℕ) → IsLess p (f z) (g z)) → length (filter p (filter_map g xs)) ≤ length (filter p (filter_map f xs))
filter_le p f g [] h = omega arith
filter_le p f g (z ∷ zs) h = elim (h z) [
  | inl same ↦ go (f z) refl same (filter_le p f g zs h)
  | inr d ↦ less d.0 d.1 d.2 d.3 d.4 (filter_le p f g zs h)
] where
  go : (o : Option Held) → f z ≡ o → g z ≡ f z → length (filter p (filter_map g zs)) ≤ length (filter p (filter_map f zs)) → length (filter p (filter_map g (z ∷ zs))) ≤ length (filter p (filter_map f (z ∷ zs)))
  go None e same r = rw (same, e) r
  go (Some u) e same r = elim (cases_Bool (p u)) [
    | inl t ↦ rw (same, e, t) (omega (arith, r))
    | inr t ↦ rw (same, e, t) r
  ]

  less : (u v : Held) → f z ≡ Some u → g z ≡ Some v → p v ≡ false → length (filter p (filter_map g zs)) ≤ length (filter p (filter_map f zs)) → length (filter p (filter_map g (z ∷ zs))) ≤ length (filter p (filter_map f (z ∷ zs)))
  less u v a b c r = elim (cases_Bool (p u)) [
    | inl t ↦ rw (a, b, c, t) (omega (arith, r))
    | inr t ↦ rw (a, b, c, t) r
  ]

filter_lt : (p : Held → Bool) (f g : ℕ → Option Held) (x : ℕ) (u v : Held) (xs : List ℕ) → ((z : ℕ) → IsLess p (f z) (g z)) → Among x xs → f x ≡ Some u → p u ≡ true → g x ≡ Some v → p v ≡ false → length (filter p (filter_map g xs)) < length (filter p (filter_map f xs))
filter_lt p f g x u v [] h m a t b c = absurd m
filter_lt p f g x u v (z ∷ zs) h m a t b c = elim m [
  | inl same ↦
      let a' : f z ≡ Some u = ap f (sym same) ∙ a in
      let b' : g z ≡ Some v = ap g (sym same) ∙ b in
      let r = filter_le p f g zs h in
      rw (a', b', t, c) (omega (arith, r))
  | inr later ↦ elim (h z) [
    | inl same ↦ go (f z) refl same (filter_lt p f g x u v zs h later a t b c)
    | inr d ↦ less d.0 d.1 d.2 d.3 d.4 (filter_lt p f g x u v zs h later a t b c)
  ]
] where
  go : (o : Option Held) → f z ≡ o → g z ≡ f z → length (filter p (filter_map g zs)) < length (filter p (filter_map f zs)) → length (filter p (filter_map g (z ∷ zs))) < length (filter p (filter_map f (z ∷ zs)))
  go None e same r = rw (same, e) r
  go (Some y) e same r = elim (cases_Bool (p y)) [
    | inl s ↦ rw (same, e, s) (omega (arith, r))
    | inr s ↦ rw (same, e, s) r
  ]

  less : (y q : Held) → f z ≡ Some y → g z ≡ Some q → p q ≡ false → length (filter p (filter_map g zs)) < length (filter p (filter_map f zs)) → length (filter p (filter_map g (z ∷ zs))) < length (filter p (filter_map f (z ∷ zs)))
  less y q d e n r = elim (cases_Bool (p y)) [
    | inl s ↦ rw (d, e, n, s) (omega (arith, r))
    | inr s ↦ rw (d, e, n, s) r
  ]

pub fewer_unmarked : (id : AdviceId) (s s' : Slab Held) (xs : List ℕ) (x : ℕ) (y : Held) → Among x xs → get s x ≡ Some y → wants (wanted.NotPut id) y ≡ true → Updates s s' x (option_map (marked_by id) (get s x))
    → length (filter (wants (wanted.NotPut id)) (items_in s' xs)) < length (filter (wants (wanted.NotPut id)) (items_in s xs))
fewer_unmarked id s s' xs x y m e t ups =
    let here : get s' x ≡ Some (marked_by id y) = ups.changed ∙ ap (option_map (marked_by id)) e in
    filter_lt (wants (wanted.NotPut id)) (get s) (get s') x y (marked_by id y) xs (λ z. elim (cases_eq z x) [
      | inl same ↦ inr (y, marked_by id y, ap (get s) same ∙ e, ap (get s') same ∙ here, marked_put id y)
      | inr ne ↦ inl (ups.others z ne)
    ]) m e t here (marked_put id y)

pub fewer_slots : (x : ℕ) (xs : List ℕ) → Among x xs → length (without x xs) < length xs
fewer_slots x [] m = absurd m
fewer_slots x (z ∷ zs) m = elim (cases_Bool (eqb x z)) [
  | inl t ↦ rw t (let r = no_more x zs in omega (arith, r))
  | inr f ↦ elim m [
    | inl same ↦ absurd (no_both (eqb x z) (eq-eqb x z same) f)
    | inr later ↦ rw f (let r = fewer_slots x zs later in omega (arith, r))
  ]
] where
  no_more : (x : ℕ) (ys : List ℕ) → length (without x ys) ≤ length ys
  no_more x [] = omega arith
  no_more x (y ∷ ys) = elim (cases_Bool (eqb x y)) [
    | inl t ↦ rw t (let r = no_more x ys in omega (arith, r))
    | inr f ↦ rw f (let r = no_more x ys in omega (arith, r))
  ]

pub is_none_of : (o : Option ℕ) → is_some o ≡ false → o ≡ None
is_none_of None e = refl
is_none_of (Some x) e = absurd (cc)

pub if_found : (P : ℕ → Type 0) (r : Option ℕ) (slot : ℕ) → r ≡ Some slot → IfSome r P → P slot
if_found P None slot e f = absurd (no_slot slot (sym e))
if_found P (Some x) slot e f = subst P (same_slot x slot e) f

-- one step of taking all items out that are looked for
pub leave_step : (w : Wanted) (v v' : HeldView) (x : ℕ) → IsFound w v.slots v.order x → Updates v.slots v'.slots x None → v'.order ≡ without x v.order → filter (λ a. not (wants w a)) (items_of v') ≡ filter (λ a. not (wants w a)) (items_of v)
leave_step w v v' x f ups order = ap (λ xs. filter (λ a. not (wants w a)) (items_in v'.slots xs)) order ∙ items_less (wants w) v.slots v'.slots v.order x f.item f.here f.wanted ups

-- one step of marking all advices of an identity
pub mark_step : (id : AdviceId) (v v' : HeldView) (x : ℕ) → Updates v.slots v'.slots x (option_map (marked_by id) (get v.slots x)) → v'.order ≡ v.order → map (marked_by id) (items_of v') ≡ map (marked_by id) (items_of v)
mark_step id v v' x ups order = ap (λ xs. map (marked_by id) (items_in v'.slots xs)) order ∙ items_marked id v.slots v'.slots v.order x ups

pub mark_less : (id : AdviceId) (v v' : HeldView) (x : ℕ) → IsFound (wanted.NotPut id) v.slots v.order x → Updates v.slots v'.slots x (option_map (marked_by id) (get v.slots x)) → v'.order ≡ v.order
    → length (filter (wants (wanted.NotPut id)) (items_of v')) < length (filter (wants (wanted.NotPut id)) (items_of v))
mark_less id v v' x f ups order = subst (λ xs. length (filter (wants (wanted.NotPut id)) (items_in v'.slots xs)) < length (filter (wants (wanted.NotPut id)) (items_of v))) (sym order) (fewer_unmarked id v.slots v'.slots v.order x f.item f.among f.here f.wanted ups)
