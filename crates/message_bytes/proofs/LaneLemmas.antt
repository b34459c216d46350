-- From the mask of one load to the bytes that pass a test.
use Rattle.std.proofs.Common.{◌≡◌, ℕ, ◌+◌, ◌-◌, ◌%◌, ◌^◌, ◌<◌, ◌≤◌, Bool, true, false, not, ◌||◌, List, [], ◌∷◌, map, length, get_or, replicate, take, Fits, w8, refl, sym, ap, ap₂, ◌∙◌, subst, arith, inl, inr}
use Rattle.std.proofs.lemmas.Bool.{agree_below, agree_below_at, not-true, cases_eq, cases_lt, eq-eqb, ne_eqb, cond-true, cond-false}
use Rattle.std.proofs.lemmas.Simd.{map-map, mask_l-mod, length-chunk, get_or-chunk, leading_from_mask_l, trailing_mask_l}
use Rattle.std.proofs.lemmas.List.{length-map, get_or-take, length-take-le}
use Rattle.std.proofs.lemmas.List.Sums.{list_all-from_AllPass, prefix_len-le-length, prefix_len_passes}
use Rattle.std.proofs.lemmas.List.Elements.{All-from_get_or}
use Rattle.std.specs.List.{prefix_len, list_all}
use lib.Lanes.{chunk, zip2, mask_l, top}
use Rattle.message_bytes.specs.Known.{PassBetween, PassIn, lanes_before}

zip2-map : (h : ℕ → ℕ → ℕ) (f g : ℕ → ℕ) (xs : List ℕ) → zip2 h (map f xs) (map g xs) ≡ map (λ x. h (f x) (g x)) xs
zip2-map h f g [] = refl
zip2-map h f g (x ∷ xs) = ap (λ r. h (f x) (g x) ∷ r) (zip2-map h f g xs)

-- an operation on two vectors that were computed lane by lane from v
pub joined : (h : ℕ → ℕ → ℕ) (f g : ℕ → ℕ) (v : List ℕ) {a b : List ℕ} → a ≡ map f v → b ≡ map g v → zip2 h a b ≡ map (λ x. h (f x) (g x)) v
joined h f g v p q = ap₂ (zip2 h) p q ∙ zip2-map h f g v

pub splat_is : (v : List ℕ) (n y : ℕ) → length v ≡ n → replicate n y ≡ map (λ _. y) v
splat_is [] n y e = ap (λ k. replicate k y) (sym e)
splat_is (x ∷ xs) n y e = ap (λ k. replicate k y) (sym e) ∙ ap (λ r. y ∷ r) (splat_is xs (length xs) y refl)

pub itself : (v : List ℕ) → v ≡ map (λ x. x) v
itself [] = refl
itself (x ∷ xs) = ap (λ r. x ∷ r) (itself xs)

run_is : (p : ℕ → Bool) (v : List ℕ) → length v ≡ 16 → lanes_before (mask_l (map p v)) ≡ prefix_len (λ x. not (p x)) v
run_is p v long =
    elim (cases_eq (mask_l (map p v)) 0) [
      | inl none ↦ cond-true _ _ _ (eq-eqb _ _ none) ∙ sym (leading_from_mask_l p v none ∙ long)
      | inr some ↦ cond-false _ _ _ (ne_eqb _ _ some) ∙ trailing_mask_l p 64 v (omega arith) (omega arith)
    ]

module _ (q : ℕ → Bool) (d : List ℕ) (i r : ℕ) (z : List ℕ) (room : i + 16 ≤ length d)
    (fits : (k : ℕ) → Fits w8 (get_or d k 0)) (found : r ≡ lanes_before (mask_l (map (top 7) z) % 2 ^ 64))
    (f : ℕ → ℕ) (lanes : z ≡ map f (chunk i 16 d)) where
  abbrev stops : ℕ → Bool
  stops x = top 7 (f x)

  long : length (chunk i 16 d) ≡ 16
  long = length-chunk i 16 d room

  counted : r ≡ prefix_len (λ x. not (stops x)) (chunk i 16 d)
  counted =
      let v = chunk i 16 d in
      let mask = ap (λ l. mask_l l % 2 ^ 64) (ap (map (top 7)) lanes ∙ map-map (top 7) f v) ∙ mask_l-mod (map stops v) 64 (omega (arith, length-map v stops, long)) in
      found ∙ ap lanes_before mask ∙ run_is stops v long

  goes_on : (k : ℕ) → i ≤ k → k < i + r → stops (get_or d k 0) ≡ false
  goes_on k from to =
      let back : i + (k - i) ≡ k = omega arith in
      let bound = prefix_len-le-length (λ x. not (stops x)) (chunk i 16 d) in
      let at = get_or-chunk i 16 d (k - i) 0 (omega (arith, counted, long)) ∙ ap (λ j. get_or d j 0) back in
      subst (λ x. stops x ≡ false) at (not-true _ (prefix_len_passes (λ x. not (stops x)) (chunk i 16 d) (k - i) 0 (omega (arith, counted))))

  -- each byte at which no lane stops passes q
  pub passes_in : agree_below (λ x. stops x || q x) (λ _. true) 256 ≡ true → PassIn q d i 16 r
  passes_in all = (
    omega (arith, counted, long, prefix_len-le-length (λ x. not (stops x)) (chunk i 16 d)),
    λ k from to. sym (ap (λ b. b || q (get_or d k 0)) (goes_on k from to)) ∙ agree_below_at (λ x. stops x || q x) (λ _. true) 256 (get_or d k 0) all (fits k).fits,
  )

-- a run that begins where bytes pass
pub further : (q : ℕ → Bool) (d : List ℕ) (done at run lanes : ℕ) → at ≤ done → PassBetween q d 0 done → PassIn q d at lanes run → PassBetween q d 0 (at + run)
further q d done at run lanes le front more k from to = elim (cases_lt k done) [ inl early ↦ front k from early | inr late ↦ more.1 k (omega arith) to ]

pub whole_run : (q : ℕ → Bool) (d : List ℕ) (done run : ℕ) → 16 ≤ run → PassBetween q d 0 done → PassIn q d done 16 run → PassBetween q d 0 (done + 16)
whole_run q d done run all front more k from to = further q d done done run 16 (omega arith) front more k from (omega (arith, all, to))

-- a front of which each byte passes
pub front_passes : (q : ℕ → Bool) (d : List ℕ) (n : ℕ) → n ≤ length d → PassBetween q d 0 n → list_all q (take n d) ≡ true
front_passes q d n le h =
    let long = length-take-le n d le in
    list_all-from_AllPass q (take n d) (All-from_get_or (λ x. q x ≡ true) (take n d) 0 (λ k inside. let e = get_or-take n d k 0 (omega (arith, long)) in subst (λ x. q x ≡ true) (sym e) (h k (omega arith) (omega (arith, long)))))
