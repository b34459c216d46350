-- Lists of slots, and what stands in these.
use Rattle.std.proofs.Common.{◌≡◌, ◌≢◌, ◌⊎◌, inl, inr, ℕ, suc, zero, Bool, true, false, cond, List, [], ◌∷◌, ◌++◌, length, map, filter, filter_map, Option, Some, None, arith, refl, sym, ap, ◌∙◌, eqb, eq-eqb}
use Rattle.std.proofs.Math.ListN.{set}
use Rattle.std.proofs.lemmas.Bool.{cases_Bool, eqb-true}
use Rattle.std.proofs.lemmas.Bool.Decides.{nat_tests}
use Rattle.chain_links.specs.Lists.{Among, without}

pub not_eqb : (x y : ℕ) → x ≢ y → eqb x y ≡ false
not_eqb x y ne = grind (arith, nat_tests, ne)

pub no_both : (b : Bool) → b ≡ true → b ≡ false → ⊥
no_both b t f = let e : true ≡ false = sym t ∙ f in cc

pub among_gone : (x : ℕ) (xs : List ℕ) → Among x (without x xs) → ⊥
among_gone x [] m = m
among_gone x (y ∷ ys) m = elim (cases_Bool (eqb x y)) [
  | inl t ↦ among_gone x ys (rw t at m)
  | inr f ↦ (let k : Among x (y ∷ without x ys) = rw f at m in elim k [ inl same ↦ no_both (eqb x y) (eq-eqb x y same) f | inr later ↦ among_gone x ys later ])
]

pub among_without : (y x : ℕ) (xs : List ℕ) → Among y (without x xs) → Among y xs
among_without y x [] m = m
among_without y x (z ∷ xs) m = elim (cases_Bool (eqb x z)) [
  | inl t ↦ inr (among_without y x xs (rw t at m))
  | inr f ↦ (let k : Among y (z ∷ without x xs) = rw f at m in elim k [ inl same ↦ inl same | inr later ↦ inr (among_without y x xs later) ])
]

pub still_among : (x y : ℕ) (xs : List ℕ) → x ≢ y → Among y xs → Among y (without x xs)
still_among x y [] ne m = m
still_among x y (z ∷ xs) ne m = elim (cases_Bool (eqb x z)) [
  | inl t ↦ elim m [
    | inl same ↦ absurd (ne (eqb-true x z t ∙ sym same))
    | inr later ↦ rw t (still_among x y xs ne later)
  ]
  | inr f ↦ elim m [
    | inl same ↦ rw f (inl same)
    | inr later ↦ rw f (inr (still_among x y xs ne later))
  ]
]

pub among_push : (y x : ℕ) (xs : List ℕ) → Among y (xs ++ x ∷ []) → (y ≡ x) ⊎ Among y xs
among_push y x [] m = elim m [ inl e ↦ inl e | inr none ↦ absurd none ]
among_push y x (z ∷ xs) m = elim m [
  | inl e ↦ inr (inl e)
  | inr later ↦ elim (among_push y x xs later) [ inl e ↦ inl e | inr k ↦ inr (inr k) ]
]

pub among_filter : (p : ℕ → Bool) (y : ℕ) (xs : List ℕ) → Among y (filter p xs) → Among y xs × (p y ≡ true)
among_filter p y [] m = absurd m
among_filter p y (x ∷ xs) m = elim (cases_Bool (p x)) [
  | inl t ↦ (let k : Among y (x ∷ filter p xs) = rw t at m in elim k [
    | inl same ↦ (inl same, ap p same ∙ t)
    | inr later ↦ (let w = among_filter p y xs later in (inr w.0, w.1))
  ])
  | inr f ↦ (let k : Among y (filter p xs) = rw f at m in let w = among_filter p y xs k in (inr w.0, w.1))
]

pub filter_among : (p : ℕ → Bool) (y : ℕ) (xs : List ℕ) → Among y xs → p y ≡ true → Among y (filter p xs)
filter_among p y [] m e = m
filter_among p y (x ∷ xs) m e = elim (cases_Bool (p x)) [
  | inl t ↦ elim m [
    | inl same ↦ rw t (inl same)
    | inr later ↦ rw t (inr (filter_among p y xs later e))
  ]
  | inr f ↦ elim m [
    | inl same ↦ absurd (no_both (p x) (ap p (sym same) ∙ e) f)
    | inr later ↦ rw f (filter_among p y xs later e)
  ]
]

pub same_filter : (p q : ℕ → Bool) (xs : List ℕ) → ((y : ℕ) → Among y xs → p y ≡ q y) → filter p xs ≡ filter q xs
same_filter p q [] h = refl
same_filter p q (x ∷ xs) h = rw (h x (inl refl), same_filter p q xs (λ y m. h y (inr m))) refl

pub same_found : {A : Type 0} (f g : ℕ → Option A) (xs : List ℕ) → ((y : ℕ) → Among y xs → f y ≡ g y) → filter_map f xs ≡ filter_map g xs
same_found f g [] h = refl
same_found f g (x ∷ xs) h = rw (h x (inl refl), same_found f g xs (λ y m. h y (inr m))) refl

pub filter_without : (p : ℕ → Bool) (x : ℕ) (xs : List ℕ) → filter p (without x xs) ≡ without x (filter p xs)
filter_without p x [] = refl
filter_without p x (y ∷ ys) = elim (cases_Bool (eqb x y)) [
  | inl t ↦ elim (cases_Bool (p y)) [
    | inl s ↦ rw (t, s, t) (filter_without p x ys)
    | inr s ↦ rw (t, s) (filter_without p x ys)
  ]
  | inr f ↦ elim (cases_Bool (p y)) [
    | inl s ↦ rw (f, s, f) (ap (λ zs. y ∷ zs) (filter_without p x ys))
    | inr s ↦ rw (f, s) (filter_without p x ys)
  ]
]

pub filter_more : (p : ℕ → Bool) (xs : List ℕ) (x : ℕ) → filter p (xs ++ x ∷ []) ≡ cond (p x) (filter p xs ++ x ∷ []) (filter p xs)
filter_more p [] x = refl
filter_more p (y ∷ ys) x = elim (cases_Bool (p y)) [
  | inl t ↦ rw (t, filter_more p ys x) (go (p x))
  | inr f ↦ rw (f, filter_more p ys x) refl
] where
  go : (b : Bool) → y ∷ cond b (filter p ys ++ x ∷ []) (filter p ys) ≡ cond b (y ∷ (filter p ys ++ x ∷ [])) (y ∷ filter p ys)
  go true = refl
  go false = refl

pub found_more : {A : Type 0} (f : ℕ → Option A) (xs : List ℕ) (x : ℕ) (v : A) → f x ≡ Some v → filter_map f (xs ++ x ∷ []) ≡ filter_map f xs ++ v ∷ []
found_more f [] x v e = rw e refl
found_more f (y ∷ ys) x v e = go (f y) refl (found_more f ys x v e) where
  go : (o : Option _) → f y ≡ o → filter_map f (ys ++ x ∷ []) ≡ filter_map f ys ++ v ∷ [] → filter_map f ((y ∷ ys) ++ x ∷ []) ≡ filter_map f (y ∷ ys) ++ v ∷ []
  go None n r = rw n r
  go (Some u) n r = rw n (ap (λ zs. u ∷ zs) r)

pub found_length : {A : Type 0} (f : ℕ → Option A) (xs : List ℕ) → ((y : ℕ) → Among y xs → (v : A) × (f y ≡ Some v)) → length (filter_map f xs) ≡ length xs
found_length f [] h = refl
found_length f (x ∷ xs) h = let w = h x (inl refl) in rw (w.1) (ap (λ n. suc n) (found_length f xs (λ y m. h y (inr m))))

pub found_mapped : {A : Type 0} (f g : ℕ → Option A) (k : A → A) (xs : List ℕ) → ((y : ℕ) → Among y xs → (v : A) × (f y ≡ Some v) × (g y ≡ Some (k v))) → filter_map g xs ≡ map k (filter_map f xs)
found_mapped f g k [] h = refl
found_mapped f g k (y ∷ ys) h = let w = h y (inl refl) in rw (w.1, w.2) (ap (λ zs. k w.0 ∷ zs) (found_mapped f g k ys (λ z m. h z (inr m))))

pub set_again : {A : Type 0} (xs : List A) (i : ℕ) (v u : A) → set (set xs i v) i u ≡ set xs i u
set_again [] i v u = refl
set_again (x ∷ xs) zero v u = refl
set_again (x ∷ xs) (suc i) v u = ap (λ zs. x ∷ zs) (set_again xs i v u)
