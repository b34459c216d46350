-- Keys that stand beside their hashes, and are compared by these first.
use Rattle.std.proofs.Common.{◌≡◌, ℕ, Bool, true, false, cond, List, [], ◌∷◌, Option, Some, Ordering, Less, Equal, Greater, refl, sym, ap, ◌∙◌, subst, eq-eqb}
use Rattle.std.specs.Ordering.{is_eq, nat_cmp, ordering_then, match_ordering}
use Rattle.std.specs.BTreeMap.{insert_entry}
use Rattle.std.specs.Map.{lookup, remove_entry, set_value}
use Rattle.std.specs.Cmp.{unsigned_tied}
use Rattle.crowded_map.specs.declared.hashed.HashedKey.{HashedKey}
use Rattle.crowded_map.specs.Hashed.{unhashed, AreHashed}

-- a change of the entries leaves each key beside its own hash

pub hashed_insert : {K X : Type 0} (h : K → ℕ) (C : HashedKey K → HashedKey K → Ordering) (p : HashedKey K) (v : X) (es : List (HashedKey K × X)) → p.hash ≡ h p.key → AreHashed h es → AreHashed h (insert_entry C es p v)
hashed_insert h C p v [] own a = (own, tt)
hashed_insert h C p v (e ∷ es) own a = go (C p e.0) (hashed_insert h C p v es own a.1)
  where
    go : (r : Ordering) → AreHashed h (insert_entry C es p v) → AreHashed h (match_ordering r ((p, v) ∷ e ∷ es) ((e.0, v) ∷ es) (e ∷ insert_entry C es p v))
    go Less rest = (own, a)
    go Equal rest = (a.0, a.1)
    go Greater rest = (a.0, rest)

pub hashed_remove : {K X : Type 0} (h : K → ℕ) (test : HashedKey K → Bool) (es : List (HashedKey K × X)) → AreHashed h es → AreHashed h (remove_entry test es)
hashed_remove h test [] a = tt
hashed_remove h test (e ∷ es) a = go (test e.0) (hashed_remove h test es a.1)
  where
    go : (b : Bool) → AreHashed h (remove_entry test es) → AreHashed h (cond b es (e ∷ remove_entry test es))
    go true rest = a.1
    go false rest = (a.0, rest)

pub hashed_set : {K X : Type 0} (h : K → ℕ) (test : HashedKey K → Bool) (w : X) (es : List (HashedKey K × X)) → AreHashed h es → AreHashed h (set_value test es w)
hashed_set h test w [] a = tt
hashed_set h test w (e ∷ es) a = go (test e.0) (hashed_set h test w es a.1)
  where
    go : (b : Bool) → AreHashed h (set_value test es w) → AreHashed h (cond b ((e.0, w) ∷ es) (e ∷ set_value test es w))
    go true rest = (a.0, a.1)
    go false rest = (a.0, rest)

-- a comparison by hashes first finds the keys that are equal

not_equal : (r s : Ordering) → is_eq s ≡ false → is_eq (ordering_then r s) ≡ false
not_equal Less s f = refl
not_equal Equal s f = f
not_equal Greater s f = refl

equal_from : (r : Ordering) → is_eq r ≡ true → r ≡ Equal
equal_from Less e = absurd (cc)
equal_from Equal e = refl
equal_from Greater e = absurd (cc)

nat_same : (n : ℕ) → nat_cmp n n ≡ Equal
nat_same n = equal_from (nat_cmp n n) (unsigned_tied n n ∙ eq-eqb n n refl)

pub same_key : {K : Type 0} (h : K → ℕ) (E : K → K → Bool) (R : K → K → Ordering) → ((x y : K) → E x y ≡ is_eq (R x y)) → ((x y : K) → E x y ≡ true → h x ≡ h y) → (p e : HashedKey K) → p.hash ≡ h p.key → e.hash ≡ h e.key → is_eq (ordering_then (nat_cmp p.hash e.hash) (R p.key e.key)) ≡ E p.key e.key
same_key h E R ties fed p e own its = go (E p.key e.key) refl
  where
    go : (b : Bool) → E p.key e.key ≡ b → is_eq (ordering_then (nat_cmp p.hash e.hash) (R p.key e.key)) ≡ b
    go true t =
        let same : p.hash ≡ e.hash = own ∙ (fed p.key e.key t ∙ sym its) in
        let equal : nat_cmp p.hash e.hash ≡ Equal = subst (λ n. nat_cmp p.hash n ≡ Equal) same (nat_same p.hash) in
        ap (λ r. is_eq (ordering_then r (R p.key e.key))) equal ∙ (sym (ties p.key e.key) ∙ t)
    go false f = not_equal (nat_cmp p.hash e.hash) (R p.key e.key) (sym (ties p.key e.key) ∙ f)

pub found_hashed : {K X : Type 0} (h : K → ℕ) (E : K → K → Bool) (R : K → K → Ordering) → ((x y : K) → E x y ≡ is_eq (R x y)) → ((x y : K) → E x y ≡ true → h x ≡ h y) → (p : HashedKey K) → p.hash ≡ h p.key → (es : List (HashedKey K × X)) → AreHashed h es → lookup (λ e. is_eq (ordering_then (nat_cmp p.hash e.hash) (R p.key e.key))) es ≡ lookup (E p.key) (unhashed es)
found_hashed h E R ties fed p own [] a = refl
found_hashed h E R ties fed p own (e ∷ es) a =
    ap (λ b. cond b (Some e.1) (lookup (λ e. is_eq (ordering_then (nat_cmp p.hash e.hash) (R p.key e.key))) es)) (same_key h E R ties fed p e.0 own a.0)
    ∙ ap (λ m. cond (E p.key e.0.key) (Some e.1) m) (found_hashed h E R ties fed p own es a.1)

-- what the keys have after a change at a key
pub hashed_change : {K X : Type 0} (h : K → ℕ) (E : K → K → Bool) (R : K → K → Ordering) → ((x y : K) → E x y ≡ is_eq (R x y)) → ((x y : K) → E x y ≡ true → h x ≡ h y) → (p : HashedKey K) → p.hash ≡ h p.key → (w : Option X) (es new : List (HashedKey K × X)) → AreHashed h es → AreHashed h new
    → ((q : HashedKey K) → lookup (λ e. is_eq (ordering_then (nat_cmp q.hash e.hash) (R q.key e.key))) new ≡ cond (is_eq (ordering_then (nat_cmp p.hash q.hash) (R p.key q.key))) w (lookup (λ e. is_eq (ordering_then (nat_cmp q.hash e.hash) (R q.key e.key))) es))
    → (q : K) → lookup (E q) (unhashed new) ≡ cond (E p.key q) w (lookup (E q) (unhashed es))
hashed_change {K} h E R ties fed p own w es new a b change q =
    let o : HashedKey K = record { hash = h q; key = q } in
    sym (found_hashed h E R ties fed o refl new b)
    ∙ (change o
    ∙ (ap (λ t. cond t w (lookup (λ e. is_eq (ordering_then (nat_cmp o.hash e.hash) (R o.key e.key))) es)) (same_key h E R ties fed p o own refl)
    ∙ ap (λ m. cond (E p.key q) w m) (found_hashed h E R ties fed o refl es a)))
