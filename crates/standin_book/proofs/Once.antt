-- Own approvals of which no key has two.
use Rattle.std.proofs.Common.{◌≡◌, ℕ, ◌+◌, ◌≤◌, ◌&&◌, ◌||◌, Bool, true, false, not, cond, min, nat_lt, eqb, List, [], ◌∷◌, ◌++◌, refl, ap, subst, arith, inl, inr}
use Rattle.std.specs.List.{list_any}
use Rattle.std.proofs.lemmas.Bool.{cases_Bool}
use Rattle.std.proofs.lemmas.Bool.Decides.{nat_tests}
use Rattle.card_digits.specs.declared.key.Key.{Key}
use Rattle.node_machine.specs.Lists.{Take, give_back, give_back_to}
use Rattle.standin_book.specs.Approvals.{counts_above, is_of, is_whole, lessened, one_of, times, without}
use Rattle.standin_book.specs.Limits.{TakenOnce, counts_whole, is_taken}
use Rattle.standin_book.proofs.Sums.{added_push}
use Rattle.standin_book.proofs.Lessened.{other_stays}
use Rattle.standin_book.proofs.Removed.{own_key}

abbrev one : Bool → ℕ
one b = cond b 1 0

either_false : (a b : Bool) → (a || b) ≡ false → (a ≡ false) × (b ≡ false)
either_false true b e = absurd (cc)
either_false false b e = (refl, e)

both_true : (a b : Bool) → (a && b) ≡ true → a ≡ true
both_true true b e = refl
both_true false b e = absurd (cc)

not_taken : (k : Key) (takes : List Take) → is_taken k takes ≡ false → times k takes ≡ 0
not_taken k [] none = refl
not_taken k (x ∷ xs) none =
    let e = either_false (is_of k x) (is_taken k xs) none in
    let own : one (is_of k x) ≡ 0 = rw e.0 refl in
    let rest = not_taken k xs e.1 in
    omega (arith, own, rest)

one_at_most : (b : Bool) → one b ≤ 1
one_at_most true = omega arith
one_at_most false = omega arith

pub once_more : (takes : List Take) (x : Take) → is_taken x.key takes ≡ false → TakenOnce takes → TakenOnce (takes ++ x ∷ [])
once_more takes x new once k =
    let more = added_push (one_of k) takes x in
    let last = one_at_most (is_of k x) in
    elim (cases_Bool (is_of k x)) [
      | inl own ↦
          let F : Key → Type 0 = λ z. times z takes ≡ 0 in
          let none : times k takes ≡ 0 = subst F (own_key k x own) (not_taken x.key takes new) in
          omega (arith, more, last, none)
      | inr other ↦
          let none : one_of k x ≡ 0 = rw other refl in
          let before = once k in
          omega (arith, more, none, before)
    ]

same_times : (k other : Key) (actual : ℕ) (takes : List Take) → times k (give_back_to other actual takes) ≡ times k takes
same_times k other actual [] = refl
same_times k other actual (x ∷ xs) = let h = same_times k other actual xs in ap (λ n. one_of k x + n) h

pub once_lessened : (takes : List Take) (other : Key) (actual : ℕ) → TakenOnce takes → TakenOnce (give_back_to other actual takes)
once_lessened takes other actual once k = let h = same_times k other actual takes in let o = once k in omega (arith, h, o)

fewer_times : (k other : Key) (takes : List Take) → times k (without other takes) ≤ times k takes
fewer_times k other [] = omega arith
fewer_times k other (x ∷ xs) = go (is_of other x) (fewer_times k other xs)
  where
    go : (b : Bool) → times k (without other xs) ≤ times k xs → times k (cond (not b) (x ∷ without other xs) (without other xs)) ≤ one_of k x + times k xs
    go true h = omega (arith, h)
    go false h = omega (arith, h)

pub once_without : (takes : List Take) (other : Key) → TakenOnce takes → TakenOnce (without other takes)
once_without takes other once k = let h = fewer_times k other takes in let o = once k in omega (arith, h, o)

some_whole : (k : Key) (takes : List Take) → counts_whole k takes ≡ true → 1 ≤ times k takes
some_whole k [] some = absurd (cc)
some_whole k (x ∷ xs) some = elim (cases_Bool (is_whole k x)) [
  | inl here ↦ (let own : one (is_of k x) ≡ 1 = rw (both_true (is_of k x) (eqb x.left x.amount) here) refl in omega (arith, own))
  | inr other ↦ (let H : Bool → Type 0 = λ b. (b || counts_whole k xs) ≡ true in let rest = some_whole k xs (subst H other some) in omega (arith, rest))
]

pub whole_once : (k : Key) (takes : List Take) → counts_whole k takes ≡ true → TakenOnce takes → times k takes ≡ 1
whole_once k takes some once = let a = some_whole k takes some in let b = once k in omega (arith, a, b)

-- what counts for no more stays

min_stays : (actual left : ℕ) → nat_lt actual left ≡ false → min actual left ≡ left
min_stays actual left f = grind (arith, nat_tests, f)

one_stays : (k : Key) (actual : ℕ) (x : Take) → counts_above k actual x ≡ false → lessened k actual x ≡ x
one_stays k actual x f = elim (cases_Bool (is_of k x)) [
  | inl own ↦
      let H : Bool → Type 0 = λ b. (b && nat_lt actual x.left) ≡ false in
      let e : min actual x.left ≡ x.left = min_stays actual x.left (subst H own f) in
      let F : ℕ → Take = λ n. record { key = x.key; card = x.card; date = x.date; amount = x.amount; left = n } in
      rw own (ap F e)
  | inr other ↦ other_stays k actual x other
]

pub none_lessened : (k : Key) (actual : ℕ) (takes : List Take) → list_any (counts_above k actual) takes ≡ false → give_back_to k actual takes ≡ takes
none_lessened k actual [] none = refl
none_lessened k actual (x ∷ xs) none =
    let e = either_false (counts_above k actual x) (list_any (counts_above k actual) xs) none in
    rw (one_stays k actual x e.0, none_lessened k actual xs e.1) refl

-- nothing is left
pub whole_back : (k : Key) (takes : List Take) → give_back_to k 0 takes ≡ give_back k takes
whole_back k [] = refl
whole_back k (x ∷ xs) =
    let none : min 0 x.left ≡ 0 = omega arith in
    rw (none, whole_back k xs) refl
