-- The place of a key, and the request there.
use Rattle.std.proofs.Common.{◌≡◌, ℕ, suc, zero, ◌+◌, ◌<◌, Bool, true, false, cond, List, [], ◌∷◌, ◌++◌, length, map, get_or, set, Option, Some, None, arith, refl, sym, ap, ◌∙◌, subst, inl, inr, count_by, not, ◌^◌, Result, Ok, Err, OnOk, IsOk}
use Rattle.std.specs.Prelude.{is_some, is_none}
use Rattle.std.specs.Map.{lookup}
use Rattle.std.specs.Option.{option_map, option_or}
use Rattle.std.proofs.lemmas.Bool.{cases_Bool}
use Rattle.std.proofs.lemmas.List.Sums.{sum_by-append, count_by-le-length}
use Rattle.card_digits.specs.declared.key.Key.{Key}
use Rattle.message_keys.specs.Keys.{key_eq}
use Rattle.iso_message.specs.Fields.{Fields}
use Rattle.network_law.specs.Traces.{ReadOutput, answers, sent}
use Rattle.node_machine.specs.Lists.{Row, of_key, row_key, row_has, row_after, row_pending}
use Rattle.kept_messages.specs.Ways.{output_key}
use Rattle.pending_book.specs.Rows.{IsUnique, opened}
use Rattle.pending_book.specs.NodeKept.{place_of, bit}
use Rattle.message_keys.proofs.Equality.{key_eq_is, key_eq_flip}
use Rattle.pending_book.proofs.Unique.{quiet_all, quiet}

some_not_none : {A : Type 0} (x : A) → Some x ≡ None → ⊥
some_not_none x e = cc

-- past the first
place_tail : (m : Option ℕ) (i : ℕ) → option_map (λ i. suc i) m ≡ Some i → (j : ℕ) × (m ≡ Some j) × (i ≡ suc j)
place_tail None i e = absurd (cc)
place_tail (Some j) i e = let is : i ≡ suc j = cc in (j, refl, is)

none_tail : (m : Option ℕ) → option_map (λ i. suc i) m ≡ None → m ≡ None
none_tail None e = refl
none_tail (Some i) e = absurd (cc)

pub found_none : (k : Key) (rows : List Row) → place_of k rows ≡ None → of_key k rows ≡ None
found_none k [] e = refl
found_none k (r ∷ rs) e = elim (cases_Bool (row_has k r)) [
  | inl t ↦ (let f : Some 0 ≡ None = rw t at e in absurd (some_not_none 0 f))
  | inr f ↦ (let g : option_map (λ i. suc i) (place_of k rs) ≡ None = rw f at e in rw f (found_none k rs (none_tail (place_of k rs) g)))
]

pub place_within : (k : Key) (rows : List Row) (i : ℕ) → place_of k rows ≡ Some i → i < length rows
place_within k [] i e = absurd (cc)
place_within k (r ∷ rs) i e = elim (cases_Bool (row_has k r)) [
  | inl t ↦ (let f : Some 0 ≡ Some i = rw t at e in let z : i ≡ 0 = cc in omega arith)
  | inr f ↦
      let g : option_map (λ i. suc i) (place_of k rs) ≡ Some i = rw f at e in
      let w = place_tail (place_of k rs) i g in
      let lt = place_within k rs w.0 w.1 in
      let is = w.2 in
      omega arith
]

pub found_some : (k : Key) (rows : List Row) (i : ℕ) (d : Row) → place_of k rows ≡ Some i → of_key k rows ≡ Some (get_or rows i d)
found_some k [] i d e = absurd (cc)
found_some k (r ∷ rs) i d e = elim (cases_Bool (row_has k r)) [
  | inl t ↦
      let f : Some 0 ≡ Some i = rw t at e in
      let z : i ≡ 0 = cc in
      rw (t, z) refl
  | inr f ↦
      let g : option_map (λ i. suc i) (place_of k rs) ≡ Some i = rw f at e in
      let w = place_tail (place_of k rs) i g in
      let is = w.2 in
      rw (f, is) (found_some k rs w.0 d w.1)
]

-- an output changes the row at the place of its key alone
pub changed_at : (o : ReadOutput) (rows : List Row) (i : ℕ) (d : Row) → IsUnique rows → place_of (output_key o) rows ≡ Some i → set rows i (row_after o (get_or rows i d)) ≡ map (row_after o) rows
changed_at o [] i d u e = refl
changed_at o (r ∷ rs) i d u e = elim (cases_Bool (row_has (output_key o) r)) [
  | inl t ↦
      let f : Some 0 ≡ Some i = rw t at e in
      let z : i ≡ 0 = cc in
      rw z (ap (λ ys. row_after o r ∷ ys) (sym (quiet_all o rs (subst (λ k. of_key k rs ≡ None) (key_eq_is (row_key r) (output_key o) t) u.0))))
  | inr f ↦
      let g : option_map (λ i. suc i) (place_of (output_key o) rs) ≡ Some i = rw f at e in
      let w = place_tail (place_of (output_key o) rs) i g in
      let is = w.2 in
      let same = quiet o r (key_eq_flip (row_key r) (output_key o) f) in
      rw (is, same) (ap (λ ys. r ∷ ys) (changed_at o rs w.0 d u.1 w.1))
]

pub has_key_at : (k : Key) (rows : List Row) (i : ℕ) (d : Row) → place_of k rows ≡ Some i → row_has k (get_or rows i d) ≡ true
has_key_at k [] i d e = absurd (cc)
has_key_at k (r ∷ rs) i d e = elim (cases_Bool (row_has k r)) [
  | inl t ↦
      let f : Some 0 ≡ Some i = rw t at e in
      let z : i ≡ 0 = cc in
      rw z t
  | inr f ↦
      let g : option_map (λ i. suc i) (place_of k rs) ≡ Some i = rw f at e in
      let w = place_tail (place_of k rs) i g in
      let is = w.2 in
      rw is (has_key_at k rs w.0 d w.1)
]

-- places stay where an output is sent
pub places_after : (k : Key) (o : ReadOutput) (rows : List Row) → place_of k (map (row_after o) rows) ≡ place_of k rows
places_after k o [] = refl
places_after k o (r ∷ rs) = ap (λ m. cond (row_has k r) (Some 0) (option_map (λ i. suc i) m)) (places_after k o rs)

-- a key that was given another place has its own again
pub restored : (key : Key) (place earlier : ℕ) (old mid new : List (Key × ℕ)) → ((k : Key) → lookup (key_eq k) mid ≡ cond (key_eq key k) (Some place) (lookup (key_eq k) old))
    → ((k : Key) → lookup (key_eq k) new ≡ cond (key_eq key k) (Some earlier) (lookup (key_eq k) mid)) → Some earlier ≡ lookup (key_eq key) old → (k : Key) → lookup (key_eq k) new ≡ lookup (key_eq k) old
restored key place earlier old mid new put back was k = elim (cases_Bool (key_eq key k)) [
  | inl t ↦ back k ∙ rw t (was ∙ ap (λ (q : Key). lookup (key_eq q) old) (key_eq_is key k t))
  | inr f ↦ back k ∙ rw f (put k ∙ rw f refl)
]

-- a request of the key stands at its place, wherever it is found
pub place_found : (k : Key) (rows : List Row) (i : ℕ) (d : Row) → IsUnique rows → i < length rows → row_has k (get_or rows i d) ≡ true → place_of k rows ≡ Some i
place_found k [] i d u lt e = absurd (omega arith)
place_found k (r ∷ rs) zero d u lt e = rw e refl
place_found k (r ∷ rs) (suc i) d u lt e =
    let later : place_of k rs ≡ Some i = place_found k rs i d u.1 (omega (arith, lt)) e in
    elim (cases_Bool (row_has k r)) [
      | inl t ↦
          let none : of_key k rs ≡ None = subst (λ (q : Key). of_key q rs ≡ None) (key_eq_is (row_key r) k t) u.0 in
          absurd (some_not_none (get_or rs i d) (sym (found_some k rs i d later) ∙ none))
      | inr f ↦ rw (f, later) refl
    ]

-- a row more

pub place_same : (k : Key) (rows : List Row) (r : Row) → row_has k r ≡ false → place_of k (rows ++ r ∷ []) ≡ place_of k rows
place_same k [] r f = rw f refl
place_same k (x ∷ xs) r f = ap (λ m. cond (row_has k x) (Some 0) (option_map (λ i. suc i) m)) (place_same k xs r f)

pub place_last : (k : Key) (rows : List Row) (r : Row) → place_of k rows ≡ None → row_has k r ≡ true → place_of k (rows ++ r ∷ []) ≡ Some (length rows)
place_last k [] r n t = rw t refl
place_last k (x ∷ xs) r n t = elim (cases_Bool (row_has k x)) [
  | inl h ↦ (let f : Some 0 ≡ None = rw h at n in absurd (some_not_none 0 f))
  | inr f ↦
      let g : option_map (λ i. suc i) (place_of k xs) ≡ None = rw f at n in
      rw f (ap (option_map (λ i. suc i)) (place_last k xs r (none_tail (place_of k xs) g) t))
]

-- counts

pub count_more : (rows : List Row) (r : Row) → count_by row_pending (rows ++ r ∷ []) ≡ count_by row_pending rows + bit (row_pending r)
count_more rows r = sum_by-append (λ x. cond (row_pending x) 1 0) rows (r ∷ []) ∙ ap (λ n. count_by row_pending rows + n) (go (row_pending r))
  where
    go : (b : Bool) → 0 + cond b 1 0 ≡ bit b
    go true = refl
    go false = refl

count_cons : (r : Row) (rs : List Row) → count_by row_pending (r ∷ rs) ≡ bit (row_pending r) + count_by row_pending rs
count_cons r rs = sum_by-append (λ x. cond (row_pending x) 1 0) (r ∷ []) rs ∙ ap (λ n. n + count_by row_pending rs) (go (row_pending r))
  where
    go : (b : Bool) → 0 + cond b 1 0 ≡ bit b
    go true = refl
    go false = refl

pub count_set : (rows : List Row) (i : ℕ) (d r : Row) → i < length rows → count_by row_pending (set rows i r) + bit (row_pending (get_or rows i d)) ≡ count_by row_pending rows + bit (row_pending r)
count_set [] i d r lt = absurd (omega arith)
count_set (x ∷ xs) zero d r lt = (let a = count_cons r xs in let b = count_cons x xs in omega (arith, a, b))
count_set (x ∷ xs) (suc i) d r lt = (let a = count_cons x (set xs i r) in let b = count_cons x xs in let h = count_set xs i d r (omega arith) in omega (arith, a, b, h))

-- the book's facts

pub opened_new : (r : Row) (rows : List Row) → place_of (row_key r) rows ≡ None → opened r rows ≡ rows ++ r ∷ []
opened_new r rows none = let e = found_none (row_key r) rows none in rw e refl

pub opened_again : (r : Row) (rows : List Row) (i : ℕ) → place_of (row_key r) rows ≡ Some i → opened r rows ≡ rows
opened_again r rows i at = let e = found_some (row_key r) rows i r at in rw e refl

-- a request that is pending, and one that is not, as an output changes them

pub closed_open : (rows : List Row) (i : ℕ) (d r : Row) (b : Bool) → i < length rows → row_pending (get_or rows i d) ≡ true → b ≡ row_pending r → count_by row_pending (set rows i r) + bit (not b) ≡ count_by row_pending rows
closed_open rows i d r b lt was is = go b is
  where
    go : (b : Bool) → b ≡ row_pending r → count_by row_pending (set rows i r) + bit (not b) ≡ count_by row_pending rows
    go true f = (let h = count_set rows i d r lt in let w = ap bit was in let n = ap bit f in omega (arith, h, w, n))
    go false f = (let h = count_set rows i d r lt in let w = ap bit was in let n = ap bit f in omega (arith, h, w, n))

closed_stays : (o : ReadOutput) (r : Row) → row_pending r ≡ false → row_pending (row_after o r) ≡ false
closed_stays o r f = go r.answer f
  where
    go : (m : Option Fields) → is_none m ≡ false → is_none (option_or m (answers (row_key r) (sent o))) ≡ false
    go None f = absurd (cc)
    go (Some a) f = refl

pub closed_before : (o : ReadOutput) (rows : List Row) (i : ℕ) (d r : Row) → i < length rows → row_pending (get_or rows i d) ≡ false → r ≡ row_after o (get_or rows i d) → count_by row_pending (set rows i r) + 0 ≡ count_by row_pending rows
closed_before o rows i d r lt was is = (let h = count_set rows i d r lt in let w = ap bit was in let n = ap bit (ap row_pending is ∙ closed_stays o (get_or rows i d) was) in omega (arith, h, w, n))

pub pending_few : (rows : List Row) (n : ℕ) → n ≡ count_by row_pending rows → length rows < 2 ^ 63 → n < 2 ^ 63
pending_few rows n e lt = omega (arith, e, lt, count_by-le-length row_pending rows)

pub on_ok : {A E P : Type 0} (r : Result A E) → IsOk r → OnOk r P → P
on_ok (Ok x) e h = h
on_ok (Err x) e h = absurd (cc)

pub opened_there : (r : Row) (rows : List Row) → is_some (place_of (row_key r) rows) ≡ true → opened r rows ≡ rows
opened_there r rows e = go (place_of (row_key r) rows) refl e
  where
    go : (m : Option ℕ) → place_of (row_key r) rows ≡ m → is_some m ≡ true → opened r rows ≡ rows
    go None f e = absurd (cc)
    go (Some i) f e = opened_again r rows i f

pub not_there : (k : Key) (rows : List Row) → is_some (place_of k rows) ≡ false → place_of k rows ≡ None
not_there k rows e = go (place_of k rows) e
  where
    go : (m : Option ℕ) → is_some m ≡ false → m ≡ None
    go None e = refl
    go (Some i) e = absurd (cc)
