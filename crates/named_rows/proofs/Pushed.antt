-- One prefix more in the set of its node.
use Rattle.std.proofs.Common.{◌≡◌, ℕ, ◌+◌, ◌==◌, ◌<◌, ◌||◌, Bool, zero, suc, cond, true, false, List, [], ◌∷◌, ◌++◌, length, map, slice_set, slice_index_or, refl, sym, ap, ◌∙◌, inl, inr, arith}
use Rattle.std.specs.List.{filter}
use Rattle.std.specs.Ordering.{nat_cmp}
use Rattle.std.specs.Cmp.Lexicographic.{pointwise, slice_cmp, nat_list_cmp_total, texts_ties}
use Rattle.std.specs.FinSet as set
use Rattle.std.proofs.lemmas.Bool.{cases_Bool, eqb-true}
use Rattle.std.proofs.Math.Dec.{eqb-zero-suc, eqb-suc-zero, eqb-suc-suc}
use Rattle.std.proofs.lemmas.List.{map-append, length-append}
use Rattle.std.proofs.lemmas.List.Elements.{filter-append}
use Rattle.std.proofs.Math.ListN.{length-set}
use Rattle.named_rows.proofs.Sets.{len_more}
use Rattle.named_rows.specs.Rows.{PrefixSet, Taken, prefixes_at, is_among, taken_of_set, taken_of_list, taken_in, taken_by, ArePrefixed, IsTaken}

prefixes_at-set : (sets : List PrefixSet) (i n : ℕ) (x : PrefixSet) → i < length sets → prefixes_at (slice_set sets i x) n ≡ cond (i == n) x (prefixes_at sets n)
prefixes_at-set [] i n x lt = absurd (omega arith)
prefixes_at-set (s ∷ sets) zero zero x lt = refl
prefixes_at-set (s ∷ sets) zero (suc n) x lt = rw (eqb-zero-suc n) refl
prefixes_at-set (s ∷ sets) (suc i) zero x lt = rw (eqb-suc-zero i) refl
prefixes_at-set (s ∷ sets) (suc i) (suc n) x lt = rw (eqb-suc-suc i n) (prefixes_at-set sets i n x (omega arith))

-- the set at a place
pub set_at : (sets : List PrefixSet) (i : ℕ) (s : PrefixSet) → i < length sets → s ≡ slice_index_or sets i s → prefixes_at sets i ≡ s
set_at [] i s lt is = absurd (omega arith)
set_at (x ∷ sets) zero s lt is = sym is
set_at (x ∷ sets) (suc i) s lt is = set_at sets i s (omega arith) is

-- no node has any
abbrev pub AreEmpty : List PrefixSet → Type 0
AreEmpty sets = (n : ℕ) → prefixes_at sets n ≡ set.empty

none_of_empty : (prefixes : PrefixSet) → prefixes ≡ set.empty → taken_of_set prefixes ≡ taken_of_list []
none_of_empty prefixes empty = λ j. record { count = count_is j; has = λ q. has_is q j }
  where
    count_is : set.len prefixes ≡ 0
    count_is = ap set.len empty ∙ set.len-empty (slice_cmp nat_cmp)

    has_is : (q : List ℕ) → set.contains prefixes q ≡ false
    has_is q = ap (λ (s : PrefixSet). set.contains s q) empty ∙ set.contains-empty (slice_cmp nat_cmp) q

-- so none is taken
pub none_taken : (nodes : ℕ) (sets : List PrefixSet) → AreEmpty sets → length sets ≡ nodes → ArePrefixed nodes sets (λ _. [])
unfolding taken_in taken_by
none_taken nodes sets empty len = record { one_each = len; same = λ j n. none_of_empty (prefixes_at sets n) (empty n) j }

-- one node more without any
pub empty_added : (sets : List PrefixSet) → AreEmpty sets → AreEmpty (sets ++ set.empty ∷ [])
empty_added [] h zero = refl
empty_added [] h (suc n) = refl
empty_added (s ∷ sets) h zero = h 0
empty_added (s ∷ sets) h (suc n) = empty_added sets (λ m. h (suc m)) n

-- a word more at the end
among_push : (words : List (List ℕ)) (word q : List ℕ) → is_among (words ++ word ∷ []) q ≡ (pointwise ◌==◌ q word || is_among words q)
among_push [] word q = refl
among_push (w ∷ words) word q = ap (λ b. pointwise ◌==◌ q w || b) (among_push words word q) ∙ swapped (pointwise ◌==◌ q w) (pointwise ◌==◌ q word) (is_among words q)
  where
    swapped : (a b c : Bool) → (a || (b || c)) ≡ (b || (a || c))
    swapped true true c = refl
    swapped true false c = refl
    swapped false b c = refl

-- a prefix more, which is new
taken_more : (prefixes : PrefixSet) (words : List (List ℕ)) (prefix : List ℕ) → taken_of_set prefixes ≡ taken_of_list words → set.contains prefixes prefix ≡ false → taken_of_set (set.insert prefixes prefix) ≡ taken_of_list (words ++ prefix ∷ [])
taken_more prefixes words prefix same new = λ j. record { count = count_is j; has = λ q. has_is q j }
  where
    count_is : set.len (set.insert prefixes prefix) ≡ length (words ++ prefix ∷ [])
    count_is = len_more prefixes prefix new ∙ (ap (λ (t : Taken). t.count + 1) same ∙ sym (length-append words (prefix ∷ [])))

    has_is : (q : List ℕ) → set.contains (set.insert prefixes prefix) q ≡ is_among (words ++ prefix ∷ []) q
    has_is q = set.contains-insert nat_list_cmp_total prefixes prefix q ∙ ((λ j. sym (texts_ties q prefix) j || (same j).has q) ∙ sym (among_push words prefix q))

-- what the rows of each node have taken, after a row more
prefix_added : {R : Type 0} (node_of : R → ℕ) (prefix_of : R → List ℕ) (sets : List PrefixSet) (done : List R) (r : R)
    → ((n : ℕ) → taken_of_set (prefixes_at sets n) ≡ taken_of_list (map prefix_of (filter (λ s. node_of s == n) done))) → node_of r < length sets → set.contains (prefixes_at sets (node_of r)) (prefix_of r) ≡ false
    → (n : ℕ) → taken_of_set (prefixes_at (slice_set sets (node_of r) (set.insert (prefixes_at sets (node_of r)) (prefix_of r))) n) ≡ taken_of_list (map prefix_of (filter (λ s. node_of s == n) (done ++ r ∷ [])))
prefix_added node_of prefix_of sets done r same lt new n =
    ap taken_of_set (prefixes_at-set sets (node_of r) n (set.insert (prefixes_at sets (node_of r)) (prefix_of r)) lt)
    ∙ elim (cases_Bool (node_of r == n)) [
      | inl here ↦
          let e : node_of r ≡ n = eqb-true (node_of r) n here in
          rw (filter-append (λ s. node_of s == n) done (r ∷ []), here, map-append prefix_of (filter (λ s. node_of s == n) done) (r ∷ []))
          (taken_more (prefixes_at sets (node_of r)) (map prefix_of (filter (λ s. node_of s == n) done)) (prefix_of r) (ap (λ k. taken_of_set (prefixes_at sets k)) e ∙ same n) new)
      | inr there ↦ rw (filter-append (λ s. node_of s == n) done (r ∷ []), there, map-append prefix_of (filter (λ s. node_of s == n) done) []) (same n ∙ ap taken_of_list (sym (append_nil (map prefix_of (filter (λ s. node_of s == n) done)))))
    ]
  where
    append_nil : {X : Type 0} (xs : List X) → xs ++ [] ≡ xs
    append_nil [] = refl
    append_nil (x ∷ xs) = ap (λ ys. x ∷ ys) (append_nil xs)

-- a node's rows with the new row have taken its prefix
pub row_taken : {R : Type 0} (node_of : R → ℕ) (prefix_of : R → List ℕ) (nodes : ℕ) (old new : List PrefixSet) (done : List R) (r : R)
    → ArePrefixed nodes old (λ n. map prefix_of (filter (λ s. node_of s == n) done)) → IsTaken (node_of r) (prefix_of r) old new
    → ArePrefixed nodes new (λ n. map prefix_of (filter (λ s. node_of s == n) (done ++ r ∷ [])))
unfolding taken_in taken_by
row_taken node_of prefix_of nodes old new done r h taken =
    let same = prefix_added node_of prefix_of old done r (λ n. ap (λ (f : ℕ → Taken). f n) h.same) taken.within taken.is_new in
    rw taken.added (record { one_each = length-set old (node_of r) _ ∙ h.one_each; same = λ j n. same n j })
