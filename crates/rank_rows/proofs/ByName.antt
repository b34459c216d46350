-- What is found by names and prefixes.
use Rattle.std.proofs.Common.{◌≡◌, ℕ, zero, suc, ◌<◌, ◌≤◌, ◌==◌, ◌&&◌, ◌++◌, ◌⊎◌, Bool, true, false, cond, List, [], ◌∷◌, Option, Some, None, length, refl, ap, sym, ◌∙◌, inl, inr, arith, slice_set, slice_index_or, length-append}
use Rattle.std.specs.Prelude.{is_none, Result, Ok, Err, IfOk, OnErr}
use Rattle.std.specs.Cmp.Lexicographic.{pointwise}
use Rattle.std.specs.Map.{lookup}
use Rattle.std.proofs.lemmas.Bool.{cases_Bool, false≢true, eqb-true, eq-eqb, cases_lt}
use Rattle.prefix_map.specs.Values.{value_of}
use Rattle.rank_rows.specs.declared.pair.Pair.{Pair}
use Rattle.rank_rows.specs.declared.pair.Found.{Found}
use Rattle.rank_rows.specs.declared.found.OfName.{OfName}
use Rattle.rank_rows.specs.Apart.{is_same_pair}
use Rattle.rank_rows.specs.Found.{found_at, has_name_at, HasNoName, value_at, AreApart}
use Rattle.rank_rows.proofs.Growing.{same_digits, digits_are}

no_false : (b : Bool) → b ≡ true → b ≡ false → ⊥
no_false b is no' = false≢true (sym no' ∙ is)

-- ---- where a name stands, and where it doesn't

pub at_none : (names : List OfName) (others : List (Pair × Found)) (p : Pair) → HasNoName names p.node → found_at names others p ≡ lookup (is_same_pair p) others
at_none [] others p none = refl
at_none (n ∷ names) others p none = rw (none 0) (at_none names others p (λ i. none (suc i)))

pub at_name : (names : List OfName) (others : List (Pair × Found)) (p : Pair) (i : ℕ) → has_name_at names p.node i ≡ true → ((j : ℕ) → has_name_at names p.node j ≡ true → j ≡ i) → found_at names others p ≡ value_at names p.prefix i
at_name [] others p i is one = absurd (false≢true is)
at_name (n ∷ names) others p zero is one = rw is refl
at_name (n ∷ names) others p (suc i) is one = elim (cases_Bool (pointwise ◌==◌ p.node n.node)) [
  | inl here ↦ let bad : 0 ≡ suc i = one 0 here in absurd (omega arith)
  | inr no' ↦ rw no' (at_name names others p i is (λ j h. let next : suc j ≡ suc i = one (suc j) h in omega arith))
]

-- lists with the same names, and the same found by this one
pub at_same : (old new : List OfName) (others : List (Pair × Found)) (q : Pair) → ((i : ℕ) → has_name_at new q.node i ≡ has_name_at old q.node i) → ((i : ℕ) → has_name_at old q.node i ≡ true → value_at new q.prefix i ≡ value_at old q.prefix i)
    → found_at new others q ≡ found_at old others q
at_same [] new others q names values = at_none new others q (λ i. names i)
at_same (n ∷ old) [] others q names values = sym (at_none (n ∷ old) others q (λ i. sym (names i)))
at_same (n ∷ old) (m ∷ new) others q names values = elim (cases_Bool (pointwise ◌==◌ q.node n.node)) [
  | inl is ↦ let also : pointwise ◌==◌ q.node m.node ≡ true = names 0 ∙ is in rw (is, also) (values 0 is)
  | inr no' ↦ let also : pointwise ◌==◌ q.node m.node ≡ false = names 0 ∙ no' in rw (no', also) (at_same old new others q (λ i. names (suc i)) (λ i. values (suc i)))
]

-- ---- another map for the name at a place

pub names_set : (names : List OfName) (i : ℕ) (n m : OfName) → i < length names → n ≡ slice_index_or names i n → m.node ≡ n.node → (name : List ℕ) (j : ℕ) → has_name_at (slice_set names i m) name j ≡ has_name_at names name j
names_set [] i n m lt is same name j = refl
names_set (x ∷ names) zero n m lt is same name zero = ap (pointwise ◌==◌ name) (same ∙ ap (λ (k : OfName). k.node) is)
names_set (x ∷ names) zero n m lt is same name (suc j) = refl
names_set (x ∷ names) (suc i) n m lt is same name zero = refl
names_set (x ∷ names) (suc i) n m lt is same name (suc j) = names_set names i n m (omega arith) is same name j

pub value_set : (names : List OfName) (i : ℕ) (m : OfName) → i < length names → (q : List ℕ) → value_at (slice_set names i m) q i ≡ value_of q m.found.entries
value_set [] i m lt q = absurd (omega arith)
value_set (x ∷ names) zero m lt q = refl
value_set (x ∷ names) (suc i) m lt q = value_set names i m (omega arith) q

pub value_is : (names : List OfName) (i : ℕ) (n : OfName) → i < length names → n ≡ slice_index_or names i n → (q : List ℕ) → value_at names q i ≡ value_of q n.found.entries
value_is [] i n lt is q = absurd (omega arith)
value_is (x ∷ names) zero n lt is q = ap (λ (k : OfName). value_of q k.found.entries) (sym is)
value_is (x ∷ names) (suc i) n lt is q = value_is names i n (omega arith) is q

pub value_other : (names : List OfName) (i : ℕ) (m : OfName) (j : ℕ) (q : List ℕ) → (j == i) ≡ false → value_at (slice_set names i m) q j ≡ value_at names q j
value_other [] i m j q no' = refl
value_other (x ∷ names) zero m zero q no' = absurd (false≢true (sym no' ∙ eq-eqb 0 0 refl))
value_other (x ∷ names) zero m (suc j) q no' = refl
value_other (x ∷ names) (suc i) m zero q no' = refl
value_other (x ∷ names) (suc i) m (suc j) q no' = elim (cases_Bool (j == i)) [
  | inl is ↦ absurd (false≢true (sym no' ∙ eq-eqb (suc j) (suc i) (ap (λ k. suc k) (eqb-true j i is))))
  | inr not ↦ value_other names i m j q not
]

-- what pairs find after that
pub put_at : (old new : List OfName) (others : List (Pair × Found)) (p : Pair) (i : ℕ) (b : Bool) (f : Found) → AreApart old others → has_name_at old p.node i ≡ true
    → ((name : List ℕ) (j : ℕ) → has_name_at new name j ≡ has_name_at old name j)
    → ((q : List ℕ) → value_at new q i ≡ cond (b && pointwise ◌==◌ p.prefix q) (Some f) (value_at old q i))
    → ((j : ℕ) (q : List ℕ) → (j == i) ≡ false → value_at new q j ≡ value_at old q j)
    → (q : Pair) → found_at new others q ≡ cond (b && is_same_pair p q) (Some f) (found_at old others q)
put_at old new others p i b f apart is names here there q = elim (cases_Bool (pointwise ◌==◌ p.node q.node)) [
  | inl same ↦
      let text : p.node ≡ q.node = digits_are p.node q.node same in
      let was : has_name_at old q.node i ≡ true = rw text at is in
      let now : has_name_at new q.node i ≡ true = names q.node i ∙ was in
      let found : found_at old others q ≡ value_at old q.prefix i = at_name old others q i was (λ j h. apart.single q.node j i h was) in
      at_name new others q i now (λ j h. apart.single q.node j i (sym (names q.node j) ∙ h) was) ∙ rw (same, found) (here q.prefix)
  | inr other ↦
      let values : (j : ℕ) → has_name_at old q.node j ≡ true → value_at new q.prefix j ≡ value_at old q.prefix j = λ j h. elim (cases_Bool (j == i)) [
        | inl at ↦ absurd (false≢true (sym other ∙ both_names old i p.node q.node is (rw (eqb-true j i at) at h)))
        | inr no' ↦ there j q.prefix no'
      ] in
      at_same old new others q (names q.node) values ∙ rw other (nothing b (found_at old others q))
]
  where
    both_names : (ns : List OfName) (k : ℕ) (x y : List ℕ) → has_name_at ns x k ≡ true → has_name_at ns y k ≡ true → pointwise ◌==◌ x y ≡ true
    both_names [] k x y a b = absurd (false≢true a)
    both_names (n ∷ ns) zero x y a b = rw (digits_are x n.node a, digits_are y n.node b) (same_digits n.node)
    both_names (n ∷ ns) (suc k) x y a b = both_names ns k x y a b

    nothing : (c : Bool) (o : Option Found) → o ≡ cond (c && false) (Some f) o
    nothing true o = refl
    nothing false o = refl

pub apart_same : (old new : List OfName) (others : List (Pair × Found)) → AreApart old others → ((name : List ℕ) (j : ℕ) → has_name_at new name j ≡ has_name_at old name j) → length new ≡ length old → AreApart new others
apart_same old new others apart names len = record {
  single = λ name i j a b. apart.single name i j (sym (names name i) ∙ a) (sym (names name j) ∙ b);
  few = λ less. apart.few (rw len at less);
}

pub kept_at : (old new : List OfName) (others : List (Pair × Found)) (i : ℕ) → ((name : List ℕ) (j : ℕ) → has_name_at new name j ≡ has_name_at old name j) → ((q : List ℕ) → value_at new q i ≡ value_at old q i)
    → ((j : ℕ) (q : List ℕ) → (j == i) ≡ false → value_at new q j ≡ value_at old q j) → (q : Pair) → found_at new others q ≡ found_at old others q
kept_at old new others i names here there q =
    at_same old new others q (names q.node) (λ j _. elim (cases_Bool (j == i)) [
      | inl at ↦ rw (eqb-true j i at) (here q.prefix)
      | inr no' ↦ there j q.prefix no'
    ])

-- ---- one name more

named_end : (names : List OfName) (m : OfName) (name : List ℕ) (i : ℕ) → has_name_at (names ++ m ∷ []) name i ≡ true → (has_name_at names name i ≡ true) ⊎ ((i ≡ length names) × (pointwise ◌==◌ name m.node ≡ true))
named_end [] m name zero h = inr (refl, h)
named_end [] m name (suc i) h = absurd (false≢true h)
named_end (n ∷ names) m name zero h = inl h
named_end (n ∷ names) m name (suc i) h = elim (named_end names m name i h) [
  | inl before ↦ inl before
  | inr last ↦ inr (ap (λ k. suc k) last.0, last.1)
]

found_end : (names : List OfName) (m : OfName) (others : List (Pair × Found)) (q : Pair) → HasNoName names q.node → found_at (names ++ m ∷ []) others q ≡ cond (pointwise ◌==◌ q.node m.node) (value_of q.prefix m.found.entries) (lookup (is_same_pair q) others)
found_end [] m others q none = refl
found_end (n ∷ names) m others q none = rw (none 0) (found_end names m others q (λ i. none (suc i)))

found_before : (names : List OfName) (m : OfName) (others : List (Pair × Found)) (q : Pair) → pointwise ◌==◌ q.node m.node ≡ false → found_at (names ++ m ∷ []) others q ≡ found_at names others q
found_before [] m others q no' = rw no' refl
found_before (n ∷ names) m others q no' = ap (cond (pointwise ◌==◌ q.node n.node) (value_of q.prefix n.found.entries)) (found_before names m others q no')

other_way : (x y : List ℕ) → pointwise ◌==◌ x y ≡ false → pointwise ◌==◌ y x ≡ false
other_way x y no' = elim (cases_Bool (pointwise ◌==◌ y x)) [
  | inl is ↦ absurd (false≢true (sym no' ∙ rw (digits_are y x is) (same_digits x)))
  | inr not ↦ not
]

pub name_added : (names : List OfName) (m : OfName) (others : List (Pair × Found)) (p : Pair) (f : Found) → AreApart names others → length names < 64 → HasNoName names p.node → m.node ≡ p.node
    → ((q : List ℕ) → value_of q m.found.entries ≡ cond (pointwise ◌==◌ p.prefix q) (Some f) None) → (q : Pair) → found_at (names ++ m ∷ []) others q ≡ cond (is_same_pair p q) (Some f) (found_at names others q)
name_added names m others p f apart less none node value q = elim (cases_Bool (pointwise ◌==◌ p.node q.node)) [
  | inl same ↦
      let text : p.node ≡ q.node = digits_are p.node q.node same in
      let nobody : HasNoName names q.node = rw text at none in
      let own : pointwise ◌==◌ q.node m.node ≡ true = rw (node, text) (same_digits q.node) in
      let empty : found_at names others q ≡ None = at_none names others q nobody ∙ apart.few less q in
      found_end names m others q nobody ∙ rw (own, same, empty) (value q.prefix)
  | inr other ↦
      let away : pointwise ◌==◌ q.node m.node ≡ false = rw node (other_way p.node q.node other) in
      found_before names m others q away ∙ rw other refl
]

pub apart_added : (names : List OfName) (m : OfName) (others : List (Pair × Found)) (p : Pair) → AreApart names others → HasNoName names p.node → m.node ≡ p.node → AreApart (names ++ m ∷ []) others
apart_added names m others p apart none node = record {
  single = λ name i j a b. one name i j (named_end names m name i a) (named_end names m name j b);
  few = λ less. apart.few (let len = length-append names (m ∷ []) in omega (arith, len));
}
  where
    new_name : (name : List ℕ) (i : ℕ) → has_name_at names name i ≡ true → pointwise ◌==◌ name m.node ≡ true → ⊥
    new_name name i there is =
        let text : name ≡ p.node = digits_are name m.node is ∙ node in
        no_false (has_name_at names p.node i) (rw text at there) (none i)

    one : (name : List ℕ) (i j : ℕ) → (has_name_at names name i ≡ true) ⊎ ((i ≡ length names) × (pointwise ◌==◌ name m.node ≡ true)) → (has_name_at names name j ≡ true) ⊎ ((j ≡ length names) × (pointwise ◌==◌ name m.node ≡ true)) → i ≡ j
    one name i j (inl a) (inl b) = apart.single name i j a b
    one name i j (inl a) (inr b) = absurd (new_name name i a b.1)
    one name i j (inr a) (inl b) = absurd (new_name name j b a.1)
    one name i j (inr a) (inr b) = a.0 ∙ sym b.0

-- ---- one pair more beside them

pub beside : (names : List OfName) (old new : List (Pair × Found)) (p : Pair) (b : Bool) (f : Found) → HasNoName names p.node
    → ((q : Pair) → lookup (is_same_pair q) new ≡ cond (b && is_same_pair p q) (Some f) (lookup (is_same_pair q) old)) → (q : Pair) → found_at names new q ≡ cond (b && is_same_pair p q) (Some f) (found_at names old q)
beside [] old new p b f none put q = put q
beside (n ∷ names) old new p b f none put q = elim (cases_Bool (pointwise ◌==◌ q.node n.node)) [
  | inr no' ↦ rw no' (beside names old new p b f (λ i. none (suc i)) put q)
  | inl is ↦
      let apart : pointwise ◌==◌ p.node q.node ≡ false = rw (digits_are q.node n.node is) (none 0) in
      rw (is, apart) (nothing b (value_of q.prefix n.found.entries))
]
  where
    nothing : (c : Bool) (o : Option Found) → o ≡ cond (c && false) (Some f) o
    nothing true o = refl
    nothing false o = refl

pub beside_same : (names : List OfName) (old new : List (Pair × Found)) → ((q : Pair) → lookup (is_same_pair q) new ≡ lookup (is_same_pair q) old) → (q : Pair) → found_at names new q ≡ found_at names old q
beside_same [] old new same q = same q
beside_same (n ∷ names) old new same q = ap (cond (pointwise ◌==◌ q.node n.node) (value_of q.prefix n.found.entries)) (beside_same names old new same q)

pub apart_full : (names : List OfName) (old new : List (Pair × Found)) → AreApart names old → (length names < 64 → ⊥) → AreApart names new
apart_full names old new apart full = record { single = apart.single; few = λ less. absurd (full less) }

past_none : (names : List OfName) (name : List ℕ) (i : ℕ) → length names ≤ i → has_name_at names name i ≡ false
past_none [] name i le = refl
past_none (n ∷ names) name zero le = absurd (omega arith)
past_none (n ∷ names) name (suc i) le = past_none names name i (omega arith)

-- a name that stands at no place of the list stands nowhere
pub none_below : (names : List OfName) (name : List ℕ) (k : ℕ) → length names ≤ k → ((i : ℕ) → i < k → has_name_at names name i ≡ false) → HasNoName names name
none_below names name k le none i = elim (cases_lt i k) [
  | inl less ↦ none i less
  | inr past ↦ past_none names name i (omega arith)
]

pub put_here : {E : Type 0} (names : List OfName) (i : ℕ) (n m : OfName) (p : List ℕ) (f : Found) (a : Result (Option Found) E) → i < length names → n ≡ slice_index_or names i n
    → IfOk a (λ had. (q : List ℕ) → value_of q m.found.entries ≡ cond (is_none had && pointwise ◌==◌ p q) (Some f) (value_of q n.found.entries))
    → IfOk a (λ had. (q : List ℕ) → value_at (slice_set names i m) q i ≡ cond (is_none had && pointwise ◌==◌ p q) (Some f) (value_at names q i))
put_here names i n m p f (Err e) lt is h = tt
put_here names i n m p f (Ok had) lt is h = λ q. value_set names i m lt q ∙ h q ∙ ap (cond (is_none had && pointwise ◌==◌ p q) (Some f)) (sym (value_is names i n lt is q))

pub put_old : {E : Type 0} (names : List OfName) (i : ℕ) (n : OfName) (p : List ℕ) (a : Result (Option Found) E) → i < length names → n ≡ slice_index_or names i n
    → IfOk a (λ had. had ≡ value_of p n.found.entries) → IfOk a (λ had. had ≡ value_at names p i)
put_old names i n p (Err e) lt is h = tt
put_old names i n p (Ok had) lt is h = h ∙ sym (value_is names i n lt is p)

pub put_err : {E : Type 0} (names : List OfName) (i : ℕ) (n m : OfName) (a : Result (Option Found) E) → i < length names → n ≡ slice_index_or names i n
    → OnErr a ((q : List ℕ) → value_of q m.found.entries ≡ value_of q n.found.entries) → OnErr a ((q : List ℕ) → value_at (slice_set names i m) q i ≡ value_at names q i)
put_err names i n m (Ok had) lt is h = tt
put_err names i n m (Err e) lt is h = λ q. value_set names i m lt q ∙ h q ∙ sym (value_is names i n lt is q)

-- ---- the same of whatever comes of it

pub put_results : {E : Type 0} (old new : List OfName) (others : List (Pair × Found)) (p : Pair) (i : ℕ) (f : Found) (a : Result (Option Found) E) → AreApart old others → has_name_at old p.node i ≡ true
    → ((name : List ℕ) (j : ℕ) → has_name_at new name j ≡ has_name_at old name j)
    → IfOk a (λ had. (q : List ℕ) → value_at new q i ≡ cond (is_none had && pointwise ◌==◌ p.prefix q) (Some f) (value_at old q i))
    → ((j : ℕ) (q : List ℕ) → (j == i) ≡ false → value_at new q j ≡ value_at old q j)
    → IfOk a (λ had. (q : Pair) → found_at new others q ≡ cond (is_none had && is_same_pair p q) (Some f) (found_at old others q))
put_results old new others p i f (Err e) apart is names here there = tt
put_results old new others p i f (Ok had) apart is names here there = put_at old new others p i (is_none had) f apart is names here there

pub kept_results : {E : Type 0} (old new : List OfName) (others : List (Pair × Found)) (i : ℕ) (a : Result (Option Found) E) → ((name : List ℕ) (j : ℕ) → has_name_at new name j ≡ has_name_at old name j)
    → OnErr a ((q : List ℕ) → value_at new q i ≡ value_at old q i) → ((j : ℕ) (q : List ℕ) → (j == i) ≡ false → value_at new q j ≡ value_at old q j) → OnErr a ((q : Pair) → found_at new others q ≡ found_at old others q)
kept_results old new others i (Ok had) names here there = tt
kept_results old new others i (Err e) names here there = kept_at old new others i names here there

pub beside_results : {E : Type 0} (names : List OfName) (old new : List (Pair × Found)) (p : Pair) (f : Found) (a : Result (Option Found) E) → HasNoName names p.node
    → IfOk a (λ had. (q : Pair) → lookup (is_same_pair q) new ≡ cond (is_none had && is_same_pair p q) (Some f) (lookup (is_same_pair q) old))
    → IfOk a (λ had. (q : Pair) → found_at names new q ≡ cond (is_none had && is_same_pair p q) (Some f) (found_at names old q))
beside_results names old new p f (Err e) none put = tt
beside_results names old new p f (Ok had) none put = beside names old new p (is_none had) f none put

pub beside_err : {E : Type 0} (names : List OfName) (old new : List (Pair × Found)) (a : Result (Option Found) E) → OnErr a ((q : Pair) → lookup (is_same_pair q) new ≡ lookup (is_same_pair q) old) → OnErr a ((q : Pair) → found_at names new q ≡ found_at names old q)
beside_err names old new (Ok had) same = tt
beside_err names old new (Err e) same = beside_same names old new same

pub old_results : {E : Type 0} (x y : Option Found) (a : Result (Option Found) E) → x ≡ y → IfOk a (λ had. had ≡ x) → IfOk a (λ had. had ≡ y)
old_results x y (Err e) same h = tt
old_results x y (Ok had) same h = h ∙ same
