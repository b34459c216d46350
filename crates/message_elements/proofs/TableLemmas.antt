-- The code's table is the table of the specs.
use Rattle.std.proofs.Common.{◌≡◌, ℕ, zero, suc, ◌+◌, ◌<◌, ◌≤◌, List, [], ◌∷◌, map, get_or, Option, Some, None, true, false, cond, eqb, ltb, leb, ◌&&◌, refl, sym, ap, ◌∙◌, arith}
use Rattle.std.specs.List.{list_all}
use Rattle.std.proofs.lemmas.Bool.{and_parts, and_right, ltb-true, lt-leb}
use Rattle.message_elements.specs.declared.form.Class.{Class}
use Rattle.message_elements.specs.declared.form.Class.TheVariants.{Digits, Text}
use Rattle.message_elements.specs.declared.form.FixedForm.{FixedForm}
use Rattle.message_elements.specs.declared.form.TheConstants.{FORMS, FIXED_SIZES, FIXED_TEXT}
use Rattle.message_elements.specs.Fixed.{fixed_of}
use Rattle.message_elements.specs.Table.{Row, table, form_in, form_of}

-- the numbers from n on, k of them
abbrev pub numbers_from : ℕ → ℕ → List ℕ
numbers_from n zero = []
numbers_from n (suc k) = n ∷ numbers_from (suc n) k

whole : FORMS ≡ map form_of (numbers_from 0 129)
unfolding form_of table
whole = refl

pub get_from : {A : Type 0} (none : A) (f : ℕ → A) (k n i : ℕ) → i < k → get_or (map f (numbers_from n k)) i none ≡ f (i + n)
get_from none f zero n i h = absurd (omega arith)
get_from none f (suc k) n zero h = ap f (omega arith)
get_from none f (suc k) n (suc i) h = let e : i + suc n ≡ suc i + n = omega arith in get_from none f k (suc n) i (omega arith) ∙ ap f e

pub in_table : (n : ℕ) → n < 129 → get_or FORMS n None ≡ form_of n
in_table n h = ap (λ fs. get_or fs n None) whole ∙ get_from None form_of 129 0 n h ∙ ap form_of (omega arith)

none_above : (rows : List Row) (n : ℕ) → list_all (λ r. ltb r.last 129) rows ≡ true → 129 ≤ n → form_in rows n ≡ None
none_above [] n h le = refl
none_above (r ∷ rs) n h le =
    let parts = and_parts _ _ h in
    let below : r.last < 129 = ltb-true r.last 129 parts.0 in
    let out : (leb r.first n && leb n r.last) ≡ false = and_right _ _ (lt-leb n r.last (omega arith)) in
    rw out (none_above rs n parts.1 le)

pub past_table : (n : ℕ) → 129 ≤ n → form_of n ≡ None
unfolding form_of table
past_table n h = none_above table n refl h

-- what the two tables of fixed lengths say together
abbrev picked : ℕ → ℕ → Option FixedForm
picked size text = cond (eqb size 0) None (Some (record { class = cond (eqb text 0) Digits Text; size = size }))

abbrev fixed_at : ℕ → Option FixedForm
fixed_at n = picked (get_or FIXED_SIZES n 0) (get_or FIXED_TEXT n 0)

same_fixed : map fixed_at (numbers_from 0 129) ≡ map (λ n. fixed_of (form_of n)) (numbers_from 0 129)
unfolding form_of table
same_fixed = refl

in_fixed : (n : ℕ) → n < 129 → fixed_at n ≡ fixed_of (form_of n)
in_fixed n h =
    let e : n + 0 ≡ n = omega arith in
    ap fixed_at (sym e) ∙ sym (get_from None fixed_at 129 0 n h) ∙ ap (λ fs. get_or fs n None) same_fixed ∙ get_from None (λ k. fixed_of (form_of k)) 129 0 n h ∙ ap (λ k. fixed_of (form_of k)) e

picked_none : (s t : ℕ) → eqb s 0 ≡ true → None ≡ picked s t
picked_none s t none = rw none refl

picked_some : (s t : ℕ) (class : Class) → eqb s 0 ≡ false → class ≡ cond (eqb t 0) Digits Text → Some (record { class = class; size = s }) ≡ picked s t
picked_some s t class some e = rw (some, e) refl

pub none_fixed : (n : ℕ) → n < 129 → eqb (get_or FIXED_SIZES n 0) 0 ≡ true → None ≡ fixed_of (form_of n)
none_fixed n h none = picked_none _ (get_or FIXED_TEXT n 0) none ∙ in_fixed n h

pub some_fixed : (n : ℕ) (class : Class) → n < 129 → eqb (get_or FIXED_SIZES n 0) 0 ≡ false → class ≡ cond (eqb (get_or FIXED_TEXT n 0) 0) Digits Text → Some (record { class = class; size = get_or FIXED_SIZES n 0 }) ≡ fixed_of (form_of n)
some_fixed n class h some e = picked_some _ _ class some e ∙ in_fixed n h
