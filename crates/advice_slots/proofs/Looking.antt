-- The order looked through from its front.
use Rattle.std.proofs.Common.{◌≡◌, inl, inr, ℕ, ◌+◌, true, false, List, [], ◌∷◌, ◌++◌, filter_map, length, Bool, Option, Some, None, slice_get, arith, refl, sym, ap, ◌∙◌, subst, append-nil, length-append}
use Rattle.std.specs.List.{list_any}
use Rattle.std.specs.Prelude.{find}
use Rattle.std.proofs.lemmas.Bool.{cases_Bool}
use Rattle.slab.specs.Slab.{Slab, get}
use Rattle.chain_links.specs.Lists.{Among}
use Rattle.chain_links.proofs.Chains.{among_right}
use Rattle.slot_chains.proofs.Listing.{listed_step, listed_all}
use Rattle.advice_slots.specs.declared.item.Held.{Held}
use Rattle.advice_slots.specs.declared.wanted.Wanted.{Wanted}
use Rattle.advice_slots.specs.Kept.{IsFound, IsLooked, items_in, wants, wants_at}

-- the items found so far, and that of one slot more
none_more : (w : Wanted) (s : Slab Held) (xs : List ℕ) (x : ℕ) → list_any (wants w) (items_in s xs) ≡ false → wants_at w (get s x) ≡ false → list_any (wants w) (items_in s (xs ++ x ∷ [])) ≡ false
none_more w s [] x e f = go (get s x) refl f
  where
    go : (o : Option Held) → get s x ≡ o → wants_at w o ≡ false → list_any (wants w) (items_in s (x ∷ [])) ≡ false
    go None n g = rw n refl
    go (Some y) n g = rw (n, g) refl
none_more w s (z ∷ zs) x e f = go (get s z) refl (none_more w s zs x)
  where
    go : (o : Option Held) → get s z ≡ o → (list_any (wants w) (items_in s zs) ≡ false → wants_at w (get s x) ≡ false → list_any (wants w) (items_in s (zs ++ x ∷ [])) ≡ false) → list_any (wants w) (items_in s (z ∷ (zs ++ x ∷ []))) ≡ false
    go None n r = (let e' : list_any (wants w) (items_in s zs) ≡ false = rw n at e in rw n (r e' f))
    go (Some y) n r = elim (cases_Bool (wants w y)) [
      | inl t ↦ (let bad : true ≡ false = rw (n, t) at e in absurd (cc))
      | inr g ↦ (let e' : list_any (wants w) (items_in s zs) ≡ false = rw (n, g) at e in rw (n, g) (r e' f))
    ]

pub looked_first : (w : Wanted) (s : Slab Held) (all : List ℕ) (cursor : Option ℕ) → cursor ≡ slice_get all 0 → IsLooked w s all 0 cursor
looked_first w s all cursor first = record { found = []; listed = record { rest = all; parts = refl; here = first }; counted = refl; none = refl }

pub looked_step : (w : Wanted) (s : Slab Held) (all : List ℕ) (count x : ℕ) (next : Option ℕ) → IsLooked w s all count (Some x) → wants_at w (get s x) ≡ false → ((ls rs : List ℕ) → all ≡ ls ++ x ∷ rs → next ≡ slice_get rs 0) → IsLooked w s all (count + 1) next
looked_step w s all count x next l none after = record {
  found = l.found ++ x ∷ [];
  listed = listed_step all l.found x next l.listed after;
  counted = (let c = l.counted in omega (arith, c, length-append l.found (x ∷ [])));
  none = none_more w s l.found x l.none none;
}

pub looked_here : (w : Wanted) (s : Slab Held) (all : List ℕ) (count x : ℕ) → IsLooked w s all count (Some x) → wants_at w (get s x) ≡ true → IsFound w s all x
looked_here w s all count x l t = go (get s x) refl t
  where
    among : (rest : List ℕ) → all ≡ l.found ++ rest → Some x ≡ slice_get rest 0 → Among x all
    among [] parts here = absurd (cc)
    among (y ∷ ys) parts here = let same : x ≡ y = cc in subst (Among x) (sym parts) (among_right x l.found (y ∷ ys) (inl same))

    go : (o : Option Held) → get s x ≡ o → wants_at w o ≡ true → IsFound w s all x
    go None e f = absurd (cc)
    go (Some y) e f = record { item = y; among = among l.listed.rest l.listed.parts l.listed.here; here = e; wanted = f }

pub looked_end : (w : Wanted) (s : Slab Held) (all : List ℕ) (count : ℕ) (cursor : Option ℕ) → IsLooked w s all count cursor → cursor ≡ None → list_any (wants w) (items_in s all) ≡ false
looked_end w s all count cursor l end = subst (λ xs. list_any (wants w) (items_in s xs) ≡ false) (listed_all all l.found cursor end l.listed) l.none

pub looked_all : (w : Wanted) (s : Slab Held) (all : List ℕ) (count : ℕ) (cursor : Option ℕ) → IsLooked w s all count cursor → count ≡ length all → list_any (wants w) (items_in s all) ≡ false
looked_all w s all count cursor l same = subst (λ xs. list_any (wants w) (items_in s xs) ≡ false) (whole l.listed.rest l.listed.parts) l.none
  where
    whole : (rest : List ℕ) → all ≡ l.found ++ rest → l.found ≡ all
    whole [] parts = sym (parts ∙ append-nil l.found)
    whole (y ∷ ys) parts = let c = l.counted in let n = ap length parts in absurd (omega (arith, c, n, same, length-append l.found (y ∷ ys)))

-- ---- the first that is looked for

pub none_found : (p : Held → Bool) (xs : List Held) → list_any p xs ≡ false → find p xs ≡ None
none_found p [] e = refl
none_found p (x ∷ xs) e = elim (cases_Bool (p x)) [
  | inl t ↦ (let bad : true ≡ false = rw t at e in absurd (cc))
  | inr f ↦ (let e' : list_any p xs ≡ false = rw f at e in rw f (none_found p xs e'))
]

find_after : (p : Held → Bool) (f : ℕ → Option Held) (ls rs : List ℕ) (x : ℕ) (y : Held) → list_any p (filter_map f ls) ≡ false → f x ≡ Some y → p y ≡ true → find p (filter_map f (ls ++ x ∷ rs)) ≡ Some y
find_after p f [] rs x y none e t = rw (e, t) refl
find_after p f (z ∷ zs) rs x y none e t = go (f z) refl (find_after p f zs rs x y)
  where
    go : (o : Option Held) → f z ≡ o → (list_any p (filter_map f zs) ≡ false → f x ≡ Some y → p y ≡ true → find p (filter_map f (zs ++ x ∷ rs)) ≡ Some y) → find p (filter_map f (z ∷ (zs ++ x ∷ rs))) ≡ Some y
    go None n r = (let left : list_any p (filter_map f zs) ≡ false = rw n at none in rw n (r left e t))
    go (Some u) n r = elim (cases_Bool (p u)) [
      | inl s ↦ (let bad : true ≡ false = rw (n, s) at none in absurd (cc))
      | inr s ↦ (let left : list_any p (filter_map f zs) ≡ false = rw (n, s) at none in rw (n, s) (r left e t))
    ]

pub looked_oldest : (w : Wanted) (s : Slab Held) (all : List ℕ) (count x : ℕ) → IsLooked w s all count (Some x) → wants_at w (get s x) ≡ true → get s x ≡ find (wants w) (items_in s all)
looked_oldest w s all count x l t = go (get s x) refl t
  where
    here : (y : Held) → get s x ≡ Some y → wants w y ≡ true → (rest : List ℕ) → all ≡ l.found ++ rest → Some x ≡ slice_get rest 0 → find (wants w) (items_in s all) ≡ Some y
    here y e f [] parts first = absurd (cc)
    here y e f (z ∷ zs) parts first =
        let same : z ≡ x = cc in
        let P : List ℕ → Type 0 = λ xs. find (wants w) (items_in s xs) ≡ Some y in
        subst P (sym (parts ∙ ap (λ (k : ℕ). l.found ++ k ∷ zs) same)) (find_after (wants w) (get s) l.found zs x y l.none e f)

    go : (o : Option Held) → get s x ≡ o → wants_at w o ≡ true → get s x ≡ find (wants w) (items_in s all)
    go None e f = absurd (cc)
    go (Some y) e f = e ∙ sym (here y e f l.listed.rest l.listed.parts l.listed.here)

-- the only one that is looked for
pub find_one : (p : Held → Bool) (f : ℕ → Option Held) (xs : List ℕ) (y : Held) → ((slot : ℕ) (x : Held) → Among slot xs → f slot ≡ Some x → p x ≡ true → x ≡ y) → list_any p (filter_map f xs) ≡ true → find p (filter_map f xs) ≡ Some y
find_one p f [] y one any = absurd (cc)
find_one p f (z ∷ zs) y one any = go (f z) refl (find_one p f zs y (λ slot x m. one slot x (inr m)))
  where
    go : (o : Option Held) → f z ≡ o → (list_any p (filter_map f zs) ≡ true → find p (filter_map f zs) ≡ Some y) → find p (filter_map f (z ∷ zs)) ≡ Some y
    go None e r = (let left : list_any p (filter_map f zs) ≡ true = rw e at any in rw e (r left))
    go (Some u) e r = elim (cases_Bool (p u)) [
      | inl t ↦ rw (e, t) (ap Some (one z u (inl refl) e t))
      | inr t ↦ (let left : list_any p (filter_map f zs) ≡ true = rw (e, t) at any in rw (e, t) (r left))
    ]
