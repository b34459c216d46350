-- An approval that is taken out of the list, and the places behind it.
use Rattle.std.proofs.Common.{◌≡◌, ◌≢◌, ℕ, zero, suc, ◌+◌, ◌<◌, ◌≤◌, ◌||◌, Bool, true, false, not, cond, List, [], ◌∷◌, length, get_or, filter, refl, sym, ap, ◌∙◌, subst, arith, inl, inr}
use Rattle.std.specs.List.{remove, list_any}
use Rattle.network_law.specs.Traces.{added}
use Rattle.std.proofs.lemmas.Bool.{cases_Bool, cases_eq}
use Rattle.card_digits.specs.declared.key.Key.{Key}
use Rattle.node_machine.specs.Lists.{Take}
use Rattle.book_index.specs.Found.{holds_at, found, Tells}
use Rattle.book_index.specs.declared.index.Place.{Place}
use Rattle.book_index.specs.declared.index.Place.TheVariants as places
use Rattle.book_index.proofs.Holding.{holds_within, holds_item}
use Rattle.book_index.proofs.Telling.{tells_same}
use Rattle.message_keys.proofs.Equality.{key_eq_refl, key_eq_is, key_eq_flip}
use Rattle.message_keys.specs.Keys.{key_eq}
use Rattle.standin_book.specs.Approvals.{is_of, times, skips, moved, counts_above, is_whole}

pub holds_past : {X : Type 0} (p : X → Bool) (xs : List X) (i : ℕ) → length xs ≤ i → holds_at p xs i ≡ false
holds_past p [] i h = refl
holds_past p (x ∷ xs) zero h = absurd (omega arith)
holds_past p (x ∷ xs) (suc i) h = holds_past p xs i (omega arith)

abbrev one : Bool → ℕ
one b = cond b 1 0

abbrev count_by : {X : Type 0} → (X → Bool) → List X → ℕ
count_by p xs = added (λ a. one (p a)) xs

some_counted : {X : Type 0} (p : X → Bool) (xs : List X) (i : ℕ) → holds_at p xs i ≡ true → 1 ≤ count_by p xs
some_counted p [] i h = absurd (cc)
some_counted p (x ∷ xs) zero h = rw h (omega arith)
some_counted p (x ∷ xs) (suc i) h = let r = some_counted p xs i h in omega (arith, r)

one_or_none : (b : Bool) → one b ≡ 0 → b ≡ false
one_or_none true e = absurd (omega (arith, e))
one_or_none false e = refl

none_counted : {X : Type 0} (p : X → Bool) (xs : List X) → count_by p xs ≡ 0 → (i : ℕ) → holds_at p xs i ≡ false
none_counted p [] none i = refl
none_counted p (x ∷ xs) none zero = one_or_none (p x) (omega (arith, none))
none_counted p (x ∷ xs) none (suc i) = none_counted p xs (omega (arith, none)) i

none_filtered : {X : Type 0} (p : X → Bool) (xs : List X) → count_by p xs ≡ 0 → filter (λ a. not (p a)) xs ≡ xs
none_filtered p [] none = refl
none_filtered p (x ∷ xs) none =
    let e : p x ≡ false = one_or_none (p x) (omega (arith, none)) in
    rw (e, none_filtered p xs (omega (arith, none))) refl

-- the first stays where a later one is the only one that passes
first_stays : {X : Type 0} (p : X → Bool) (x : X) (xs : List X) (i : ℕ) → holds_at p xs i ≡ true → count_by p (x ∷ xs) ≡ 1 → p x ≡ false
first_stays p x xs i h once = let r = some_counted p xs i h in one_or_none (p x) (omega (arith, r, once))

rest_once : {X : Type 0} (p : X → Bool) (x : X) (xs : List X) (i : ℕ) → holds_at p xs i ≡ true → count_by p (x ∷ xs) ≡ 1 → count_by p xs ≡ 1
rest_once p x xs i h once = let r = some_counted p xs i h in omega (arith, r, once)

-- of items of which one passes, the others are those without it
pub once_filtered : {X : Type 0} (p : X → Bool) (xs : List X) (i : ℕ) → holds_at p xs i ≡ true → count_by p xs ≡ 1 → filter (λ a. not (p a)) xs ≡ remove xs i
once_filtered p [] i h once = absurd (cc)
once_filtered p (x ∷ xs) zero h once =
    let none : count_by p xs ≡ 0 = (let f : one (p x) ≡ 1 = rw h refl in omega (arith, f, once)) in
    rw h (none_filtered p xs none)
once_filtered p (x ∷ xs) (suc i) h once =
    rw (first_stays p x xs i h once, once_filtered p xs i h (rest_once p x xs i h once)) refl

once_removed : {X : Type 0} (p : X → Bool) (xs : List X) (i : ℕ) → holds_at p xs i ≡ true → count_by p xs ≡ 1 → (j : ℕ) → holds_at p (remove xs i) j ≡ false
once_removed p [] i h once j = absurd (cc)
once_removed p (x ∷ xs) zero h once j =
    let none : count_by p xs ≡ 0 = (let f : one (p x) ≡ 1 = rw h refl in omega (arith, f, once)) in
    none_counted p xs none j
once_removed p (x ∷ xs) (suc i) h once zero = first_stays p x xs i h once
once_removed p (x ∷ xs) (suc i) h once (suc j) = once_removed p xs i h (rest_once p x xs i h once) j

pub once_any : {X : Type 0} (p : X → Bool) (xs : List X) → count_by p xs ≡ 1 → list_any p xs ≡ true
once_any p [] once = absurd (omega (arith, once))
once_any p (x ∷ xs) once = elim (cases_Bool (p x)) [
  | inl yes_ ↦ rw yes_ refl
  | inr no_ ↦ (let f : one (p x) ≡ 0 = rw no_ refl in rw no_ (once_any p xs (omega (arith, f, once))))
]

-- places with a gap

skips_none : (gap : ℕ) (has : ℕ → Bool) → ((i : ℕ) → has i ≡ false) → (i : ℕ) → skips gap has i ≡ false
skips_none zero has none zero = refl
skips_none zero has none (suc i) = none i
skips_none (suc gap) has none zero = none 0
skips_none (suc gap) has none (suc i) = skips_none gap (λ j. has (suc j)) (λ j. none (suc j)) i

skips_gap : (gap : ℕ) (has : ℕ → Bool) → skips gap has gap ≡ false
skips_gap zero has = refl
skips_gap (suc gap) has = skips_gap gap (λ j. has (suc j))

skips_next : (gap : ℕ) (has : ℕ → Bool) → skips gap has (suc gap) ≡ has gap
skips_next zero has = refl
skips_next (suc gap) has = skips_next gap (λ j. has (suc j))

skips_before : (gap : ℕ) (has : ℕ → Bool) → skips (suc gap) has gap ≡ has gap
skips_before zero has = refl
skips_before (suc gap) has = skips_before gap (λ j. has (suc j))

-- a gap that moves on by one
skips_other : (gap : ℕ) (has : ℕ → Bool) (i : ℕ) → i ≢ gap → i ≢ suc gap → skips (suc gap) has i ≡ skips gap has i
skips_other zero has zero a b = absurd (a refl)
skips_other zero has (suc zero) a b = absurd (b refl)
skips_other zero has (suc (suc i)) a b = refl
skips_other (suc gap) has zero a b = refl
skips_other (suc gap) has (suc i) a b = skips_other gap (λ j. has (suc j)) i (λ e. a (ap (λ n. suc n) e)) (λ e. b (ap (λ n. suc n) e))

skips_same : (gap : ℕ) (has : ℕ → Bool) → has gap ≡ false → (i : ℕ) → skips (suc gap) has i ≡ skips gap has i
skips_same zero has none zero = none
skips_same zero has none (suc zero) = sym none
skips_same zero has none (suc (suc i)) = refl
skips_same (suc gap) has none zero = refl
skips_same (suc gap) has none (suc i) = skips_same gap (λ j. has (suc j)) none i

pub skips_end : {X : Type 0} (p : X → Bool) (xs : List X) (i : ℕ) → holds_at p xs i ≡ skips (length xs) (holds_at p xs) i
skips_end p [] zero = refl
skips_end p [] (suc i) = refl
skips_end p (x ∷ xs) zero = refl
skips_end p (x ∷ xs) (suc i) = skips_end p xs i

skips_removed : {X : Type 0} (p : X → Bool) (xs : List X) (i : ℕ) → i < length xs → holds_at p xs i ≡ false → (j : ℕ) → skips i (holds_at p (remove xs i)) j ≡ holds_at p xs j
skips_removed p [] i less other j = absurd (omega arith)
skips_removed p (x ∷ xs) zero less other zero = sym other
skips_removed p (x ∷ xs) zero less other (suc j) = refl
skips_removed p (x ∷ xs) (suc i) less other zero = refl
skips_removed p (x ∷ xs) (suc i) less other (suc j) = skips_removed p xs i (omega arith) other j

tells_moved : (place : Place) (gap : ℕ) (has : ℕ → Bool) → has gap ≡ true → Tells place (skips gap has) → Tells (moved gap place) (skips (suc gap) has)
tells_moved places.Nowhere gap has here t = let a = t (suc gap) in let b = skips_next gap has in absurd (cc)
tells_moved (places.At i) gap has here t = (skips_before gap has ∙ here, only)
  where
    at : suc gap ≡ i
    at = t.1 (suc gap) (skips_next gap has ∙ here)

    only : (j : ℕ) → skips (suc gap) has j ≡ true → j ≡ gap
    only j h = elim (cases_eq j gap) [
      | inl same ↦ same
      | inr other ↦ elim (cases_eq j (suc gap)) [
        | inl next ↦ (let G : ℕ → Type 0 = λ n. skips (suc gap) has n ≡ true in let a = subst G next h in let b = skips_gap (suc gap) has in absurd (cc))
        | inr far ↦ absurd (far (t.1 j (sym (skips_other gap has j other far) ∙ h) ∙ sym at))
      ]
    ]
tells_moved places.Several gap has here t = tt

is_own : (k : Key) (x : Take) → x.key ≡ k → is_of k x ≡ true
is_own k x e = let F : Key → Type 0 = λ z. key_eq k z ≡ true in subst F (sym e) (key_eq_refl k)

is_other : (k key : Key) (x : Take) → x.key ≡ key → key_eq key k ≡ false → is_of k x ≡ false
is_other k key x e f = let F : Key → Type 0 = λ z. key_eq k z ≡ false in subst F (sym e) (key_eq_flip key k f)

pub own_key : (k : Key) (x : Take) → is_of k x ≡ true → x.key ≡ k
own_key k x h = sym (key_eq_is k x.key h)

-- the index after an approval more stands where it says
pub gap_moves : (takes : List Take) (gap : ℕ) (d : Take) (key : Key) (old new : List (Key × Place)) → gap < length takes → key ≡ (get_or takes gap d).key → ((k : Key) → found (key_eq k) new ≡ cond (key_eq key k) (moved gap (found (key_eq key) old)) (found (key_eq k) old)) → ((k : Key) → Tells (found (key_eq k) old) (skips gap (holds_at (is_of k) takes))) → (k : Key) → Tells (found (key_eq k) new) (skips (gap + 1) (holds_at (is_of k) takes))
gap_moves takes gap d key old new less is after t k =
    let H : ℕ → Type 0 = λ n. Tells (found (key_eq k) new) (skips n (holds_at (is_of k) takes)) in
    subst H next (elim (cases_Bool (key_eq key k)) [
      | inl same ↦
          let e : key ≡ k = key_eq_is key k same in
          let here : holds_at (is_of k) takes gap ≡ true = holds_item (is_of k) takes gap d less ∙ is_own k (get_or takes gap d) (sym is ∙ e) in
          let G : Key → Type 0 = λ z. found (key_eq k) new ≡ moved gap (found (key_eq z) old) in
          let f : found (key_eq k) new ≡ moved gap (found (key_eq k) old) = subst G e (after k ∙ rw same refl) in
          let P : Place → Type 0 = λ q. Tells q (skips (suc gap) (holds_at (is_of k) takes)) in
          subst P (sym f) (tells_moved (found (key_eq k) old) gap (holds_at (is_of k) takes) here (t k))
      | inr differ ↦
          let other : holds_at (is_of k) takes gap ≡ false = holds_item (is_of k) takes gap d less ∙ is_other k key (get_or takes gap d) (sym is) differ in
          let f : found (key_eq k) new ≡ found (key_eq k) old = after k ∙ rw differ refl in
          let P : Place → Type 0 = λ q. Tells q (skips (suc gap) (holds_at (is_of k) takes)) in
          subst P (sym f) (tells_same (found (key_eq k) old) (skips gap (holds_at (is_of k) takes)) (skips (suc gap) (holds_at (is_of k) takes)) (skips_same gap (holds_at (is_of k) takes) other) (t k))
    ])
  where
    next : suc gap ≡ gap + 1
    next = omega arith

pub gap_closed : (takes : List Take) (n : ℕ) (entries : List (Key × Place)) → n ≡ length takes → ((k : Key) → Tells (found (key_eq k) entries) (skips n (holds_at (is_of k) takes))) → (k : Key) → Tells (found (key_eq k) entries) (holds_at (is_of k) takes)
gap_closed takes n entries e t k =
    let G : ℕ → Type 0 = λ m. Tells (found (key_eq k) entries) (skips m (holds_at (is_of k) takes)) in
    tells_same (found (key_eq k) entries) (skips (length takes) (holds_at (is_of k) takes)) (holds_at (is_of k) takes) (skips_end (is_of k) takes) (subst G e (t k))

-- the index after the only approval of a key was taken out
pub gap_opens : (takes : List Take) (key : Key) (i : ℕ) (d : Take) (old new : List (Key × Place)) → holds_at (is_of key) takes i ≡ true → times key takes ≡ 1 → ((k : Key) → found (key_eq k) new ≡ cond (key_eq key k) places.Nowhere (found (key_eq k) old)) → ((k : Key) → Tells (found (key_eq k) old) (holds_at (is_of k) takes)) → (k : Key) → Tells (found (key_eq k) new) (skips i (holds_at (is_of k) (remove takes i)))
gap_opens takes key i d old new here once after t k =
    let less = holds_within (is_of key) takes i here in
    let own : (get_or takes i d).key ≡ key = own_key key (get_or takes i d) (sym (holds_item (is_of key) takes i d less) ∙ here) in
    let P : Place → Type 0 = λ q. Tells q (skips i (holds_at (is_of k) (remove takes i))) in
    elim (cases_Bool (key_eq key k)) [
      | inl same ↦
          let f : found (key_eq k) new ≡ places.Nowhere = after k ∙ rw same refl in
          let G : Key → Type 0 = λ z. (j : ℕ) → holds_at (is_of z) (remove takes i) j ≡ false in
          subst P (sym f) (skips_none i (holds_at (is_of k) (remove takes i)) (subst G (key_eq_is key k same) (once_removed (is_of key) takes i here once)))
      | inr differ ↦
          let other : holds_at (is_of k) takes i ≡ false = holds_item (is_of k) takes i d less ∙ is_other k key (get_or takes i d) own differ in
          let f : found (key_eq k) new ≡ found (key_eq k) old = after k ∙ rw differ refl in
          subst P (sym f) (tells_same (found (key_eq k) old) (holds_at (is_of k) takes) (skips i (holds_at (is_of k) (remove takes i))) (skips_removed (is_of k) takes i less other) (t k))
    ]

-- one of a key's approvals passes a test

not_true : (b : Bool) → (b ≡ true → ⊥) → b ≡ false
not_true true no_ = absurd (no_ refl)
not_true false no_ = refl

or_false : (b : Bool) → (b || false) ≡ b
or_false true = refl
or_false false = refl

pub any_none : {X : Type 0} (p q : X → Bool) (xs : List X) → ((x : X) → p x ≡ false → q x ≡ false) → ((i : ℕ) → holds_at p xs i ≡ false) → list_any q xs ≡ false
any_none p q [] other none = refl
any_none p q (x ∷ xs) other none = rw (other x (none 0)) (any_none p q xs other (λ i. none (suc i)))

pub any_one : {X : Type 0} (p q : X → Bool) (xs : List X) (i : ℕ) (d : X) → ((x : X) → p x ≡ false → q x ≡ false) → i < length xs → ((j : ℕ) → holds_at p xs j ≡ true → j ≡ i) → list_any q xs ≡ q (get_or xs i d)
any_one p q [] i d other less only = absurd (omega arith)
any_one p q (x ∷ xs) zero d other less only =
    rw (any_none p q xs other (λ j. not_true (holds_at p xs j) (λ t. let e : suc j ≡ 0 = only (suc j) t in omega arith))) (or_false (q x))
any_one p q (x ∷ xs) (suc i) d other less only =
    rw (other x (not_true (p x) (λ t. let e : 0 ≡ suc i = only 0 t in omega arith))) (any_one p q xs i d other (omega arith) (λ j t. let e : suc j ≡ suc i = only (suc j) t in omega arith))

pub above_other : (k : Key) (actual : ℕ) (x : Take) → is_of k x ≡ false → counts_above k actual x ≡ false
above_other k actual x f = rw f refl

key_flipped : (a b : Key) → key_eq a b ≡ key_eq b a
key_flipped a b = elim (cases_Bool (key_eq a b)) [
  | inl same ↦ (let G : Key → Type 0 = λ z. key_eq z z ≡ true in let e = key_eq_is a b same in let F : Key → Type 0 = λ z. key_eq z a ≡ true in same ∙ sym (subst F e (key_eq_refl a)))
  | inr differ ↦ differ ∙ sym (key_eq_flip a b differ)
]

pub key_at : (takes : List Take) (place : ℕ) (d : Take) (k key : Key) → place < length takes → key ≡ (get_or takes place d).key → key_eq key k ≡ holds_at (is_of k) takes place
key_at takes place d k key less e =
    let G : Key → Type 0 = λ z. key_eq key k ≡ key_eq k z in
    subst G e (key_flipped key k) ∙ sym (holds_item (is_of k) takes place d less)

pub whole_other : (k : Key) (x : Take) → is_of k x ≡ false → is_whole k x ≡ false
whole_other k x f = rw f refl
