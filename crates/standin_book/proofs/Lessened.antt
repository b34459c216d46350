-- Approvals of which less is left.
use Rattle.std.proofs.Common.{◌≡◌, ℕ, zero, suc, ◌+◌, ◌<◌, ◌≤◌, ◌&&◌, Bool, true, false, List, [], ◌∷◌, ◌++◌, length, get_or, set, bytes_eq, refl, sym, ap, ◌∙◌, subst, arith, cond, eqb, ◌||◌}
use Rattle.network_law.specs.Traces.{added}
use Rattle.card_digits.specs.declared.key.Key.{Key}
use Rattle.node_machine.specs.Lists.{Take, give_back_to}
use Rattle.book_index.specs.Sums.{amount_on}
use Rattle.book_index.specs.Found.{holds_at, found, Tells, joined}
use Rattle.book_index.specs.declared.index.Place.{Place}
use Rattle.book_index.proofs.Holding.{none_map, one_map, holds_push}
use Rattle.message_keys.proofs.Equality.{bytes_eq_refl, key_eq_refl, key_eq_is, key_eq_flip}
use Rattle.message_keys.specs.Keys.{key_eq}
use Rattle.book_index.proofs.Telling.{tells_same, tells_joined}
use Rattle.book_index.specs.declared.card_day.CardDay.{CardDay}
use Rattle.standin_book.specs.Approvals.{used_on, day_of, lessened, is_of}
use Rattle.standin_book.proofs.Sums.{part_of}
use Rattle.std.proofs.lemmas.Bool.{cases_Bool}
use Rattle.std.proofs.Common.{inl, inr, take, drop}
use Rattle.std.proofs.Math.Seq.{take-append_seam}
use Rattle.std.proofs.lemmas.List.{length-map}

used_self : (x : Take) → used_on (day_of x) x ≡ x.left
used_self x = rw (bytes_eq_refl x.card, bytes_eq_refl x.date) refl

pub own_part : (takes : List Take) (i : ℕ) (d : Take) → i < length takes → (get_or takes i d).left ≤ added (used_on (day_of (get_or takes i d))) takes
own_part takes i d less =
    let h = part_of (used_on (day_of (get_or takes i d))) takes i d less in
    let e = used_self (get_or takes i d) in
    omega (arith, h, e)

split : (b : Bool) (now freed before : ℕ) → freed + now ≡ before → cond b now 0 + cond b freed 0 ≡ cond b before 0
split true now freed before e = omega (arith, e)
split false now freed before e = refl

-- what a reversal frees
pub freed_is : (k : Key) (actual : ℕ) (x new : Take) (n : ℕ) (q : CardDay) → new ≡ lessened k actual x → n + new.left ≡ x.left → used_on q new + amount_on (day_of x) n q ≡ used_on q x
freed_is k actual x new n q is freed =
    let card : new.card ≡ x.card = ap (λ (a : Take). a.card) is in
    let date : new.date ≡ x.date = ap (λ (a : Take). a.date) is in
    rw (card, date) (split (bytes_eq x.card q.card && bytes_eq x.date q.date) new.left n x.left freed)

-- an approval of another key stays
pub other_stays : (k : Key) (actual : ℕ) (x : Take) → is_of k x ≡ false → lessened k actual x ≡ x
other_stays k actual x f = rw f refl

pub nowhere_stays : (k : Key) (actual : ℕ) (takes : List Take) → ((i : ℕ) → holds_at (is_of k) takes i ≡ false) → takes ≡ give_back_to k actual takes
nowhere_stays k actual takes h = sym (none_map (is_of k) (lessened k actual) takes (other_stays k actual) h)

pub one_lessens : (k : Key) (actual : ℕ) (takes : List Take) (i : ℕ) (d : Take) → ((j : ℕ) → holds_at (is_of k) takes j ≡ true → j ≡ i) → set takes i (lessened k actual (get_or takes i d)) ≡ give_back_to k actual takes
one_lessens k actual takes i d h = sym (one_map (is_of k) (lessened k actual) takes i d (other_stays k actual) h)

and_true : (b : Bool) → b ≡ (b && true)
and_true true = refl
and_true false = refl

or_and_false : (a b : Bool) → (a || (b && false)) ≡ a
or_and_false true b = refl
or_and_false false true = refl
or_and_false false false = refl

-- the places after an approval more
pub placed_more : (takes : List Take) (x : Take) (places new : List (Key × Place)) → ((k : Key) → found (key_eq k) new ≡ cond (key_eq x.key k) (joined (found (key_eq x.key) places) (length takes)) (found (key_eq k) places)) → ((k : Key) → Tells (found (key_eq k) places) (holds_at (is_of k) takes)) → (k : Key) → Tells (found (key_eq k) new) (holds_at (is_of k) (takes ++ x ∷ []))
placed_more takes x places new more placed k = elim (cases_Bool (key_eq x.key k)) [
  | inl t ↦
      let is : x.key ≡ k = key_eq_is x.key k t in
      let G : Key → Type 0 = λ z. Tells (joined (found (key_eq z) places) (length takes)) (holds_at (is_of k) (takes ++ x ∷ [])) in
      let own : is_of k x ≡ true = (let F : Key → Type 0 = λ z. key_eq k z ≡ true in subst F (sym is) (key_eq_refl k)) in
      let e : found (key_eq k) new ≡ joined (found (key_eq x.key) places) (length takes) = more k ∙ rw t refl in
      let H : Place → Type 0 = λ p. Tells p (holds_at (is_of k) (takes ++ x ∷ [])) in
      subst H (sym e) (subst G (sym is) (tells_joined (found (key_eq k) places) (length takes) (holds_at (is_of k) takes) (holds_at (is_of k) (takes ++ x ∷ [])) (λ i. holds_push (is_of k) takes x i ∙ rw own (ap (λ b. holds_at (is_of k) takes i || b) (sym (and_true (eqb i (length takes)))))) (placed k)))
  | inr f ↦
      let e : found (key_eq k) new ≡ found (key_eq k) places = more k ∙ rw f refl in
      let other : is_of k x ≡ false = key_eq_flip x.key k f in
      let H : Place → Type 0 = λ p. Tells p (holds_at (is_of k) (takes ++ x ∷ [])) in
      subst H (sym e) (tells_same (found (key_eq k) places) (holds_at (is_of k) takes) (holds_at (is_of k) (takes ++ x ∷ [])) (λ i. holds_push (is_of k) takes x i ∙ rw other (or_and_false (holds_at (is_of k) takes i) (eqb i (length takes)))) (placed k))
]

-- the places after less is left of an approval, or after they were kept anew
pub placed_again : (takes : List Take) (places new : List (Key × Place)) → ((k : Key) → found (key_eq k) new ≡ found (key_eq k) places) → ((k : Key) → Tells (found (key_eq k) places) (holds_at (is_of k) takes)) → (k : Key) → Tells (found (key_eq k) new) (holds_at (is_of k) takes)
placed_again takes places new same placed k = let H : Place → Type 0 = λ p. Tells p (holds_at (is_of k) takes) in subst H (sym (same k)) (placed k)

pub holds_lessened : (k other : Key) (actual : ℕ) (takes : List Take) (i : ℕ) → holds_at (is_of k) (give_back_to other actual takes) i ≡ holds_at (is_of k) takes i
holds_lessened k other actual [] i = refl
holds_lessened k other actual (x ∷ xs) zero = refl
holds_lessened k other actual (x ∷ xs) (suc i) = holds_lessened k other actual xs i

pub placed_lessened : (takes : List Take) (other : Key) (actual : ℕ) (places : List (Key × Place)) → ((k : Key) → Tells (found (key_eq k) places) (holds_at (is_of k) takes)) → (k : Key) → Tells (found (key_eq k) places) (holds_at (is_of k) (give_back_to other actual takes))
placed_lessened takes other actual places placed k = tells_same (found (key_eq k) places) (holds_at (is_of k) takes) (holds_at (is_of k) (give_back_to other actual takes)) (holds_lessened k other actual takes) (placed k)

pub lessened_whole : (xs ys : List Take) (k : Key) (actual n : ℕ) → xs ≡ give_back_to k actual ys → n ≡ length ys → take n (xs ++ drop (length xs) ys) ≡ give_back_to k actual ys
lessened_whole xs ys k actual n e l =
    let len : n ≡ length xs = l ∙ (sym (length-map ys (lessened k actual)) ∙ ap length (sym e)) in
    rw len (take-append_seam xs (drop (length xs) ys) ∙ e)
