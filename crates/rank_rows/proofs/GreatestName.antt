-- A name that comes behind the greatest of a run is none of its names.
use Rattle.std.proofs.Common.{Ordering, Less, Equal, Greater, ◌≡◌, ℕ, ◌==◌, ◌++◌, ◌≤◌, Bool, true, false, List, [], ◌∷◌, Option, Some, None, refl, sym, ap, ◌∙◌, inl, inr, arith, length, drop, length-append}
use Rattle.std.specs.Cmp.Lexicographic.{pointwise, slice_cmp}
use Rattle.std.specs.Ordering.{is_lt, nat_cmp}
use Rattle.std.proofs.lemmas.Bool.{cases_Bool}
use Rattle.std.proofs.lemmas.Cmp.{nat_list_cmp_total, tied_itself}
use Rattle.std.proofs.lemmas.List.{drop-append-le}
use Rattle.rank_rows.specs.declared.rank.Rank.{Rank}
use Rattle.rank_rows.specs.declared.greatest.Greatest.{Greatest}
use Rattle.rank_rows.specs.Runs.{has_name}
use Rattle.rank_rows.specs.Greatest.{is_behind, greater, greatest_from, greatest_of, IsOf}
use Rattle.rank_rows.proofs.Growing.{digits_are}

not_both : (b : Bool) → b ≡ true → b ≡ false → ⊥
not_both true is not = absurd cc
not_both false is not = absurd cc

less : (o : Ordering) → is_lt o ≡ true → o ≡ Less
less Less is = refl
less Equal is = absurd cc
less Greater is = absurd cc

behind-trans : (a b c : List ℕ) → is_lt (slice_cmp nat_cmp a b) ≡ true → is_lt (slice_cmp nat_cmp b c) ≡ true → is_lt (slice_cmp nat_cmp a c) ≡ true
behind-trans a b c first second = rw (nat_list_cmp_total.trans a b c (less (slice_cmp nat_cmp a b) first) (less (slice_cmp nat_cmp b c) second)) refl

-- behind the greatest, behind each that went into it
behind_first : (greatest : List ℕ) (rows : List Rank) (name : List ℕ) → is_behind (greatest_from (Some greatest) rows) name ≡ true → is_lt (slice_cmp nat_cmp greatest name) ≡ true
behind_first greatest [] name is = is
behind_first greatest (r ∷ rows) name is = elim (cases_Bool (is_lt (slice_cmp nat_cmp greatest r.node))) [
  | inl less ↦ behind-trans greatest r.node name less (behind_first r.node rows name (rw less at is))
  | inr not ↦ behind_first greatest rows name (rw not at is)
]

-- a name behind the first row's isn't the first row's
not_itself : (a b : List ℕ) → is_lt (slice_cmp nat_cmp a b) ≡ true → pointwise ◌==◌ a b ≡ false
not_itself a b is = elim (cases_Bool (pointwise ◌==◌ a b)) [
  | inl same ↦ absurd (not_both (is_lt (slice_cmp nat_cmp b b)) (rw (digits_are a b same) at is) (rw (tied_itself nat_list_cmp_total b) refl))
  | inr other ↦ other
]

none_from : (greatest : List ℕ) (rows : List Rank) (name : List ℕ) → is_behind (greatest_from (Some greatest) rows) name ≡ true → has_name rows name ≡ false
none_from greatest [] name is = refl
none_from greatest (r ∷ rows) name is = elim (cases_Bool (is_lt (slice_cmp nat_cmp greatest r.node))) [
  | inl less ↦
      let then = rw less at is in
      rw (not_itself r.node name (behind_first r.node rows name then)) (none_from r.node rows name then)
  | inr not ↦
      let then = rw not at is in
      let first : is_lt (slice_cmp nat_cmp greatest name) ≡ true = behind_first greatest rows name then in
      rw (differs r.node greatest name first not) (none_from greatest rows name then)
]
  where
    differs : (node greatest name : List ℕ) → is_lt (slice_cmp nat_cmp greatest name) ≡ true → is_lt (slice_cmp nat_cmp greatest node) ≡ false → pointwise ◌==◌ node name ≡ false
    differs node greatest name first not = elim (cases_Bool (pointwise ◌==◌ node name)) [
      | inl same ↦ absurd (not_both (is_lt (slice_cmp nat_cmp greatest name)) first (rw (digits_are node name same) at not))
      | inr other ↦ other
    ]

-- a name behind the greatest is new
pub behind_none : (rows : List Rank) (name : List ℕ) → is_behind (greatest_of rows) name ≡ true → has_name rows name ≡ false
behind_none [] name is = refl
behind_none (r ∷ rows) name is = rw (not_itself r.node name (behind_first r.node rows name is)) (none_from r.node rows name is)

-- a row more
greatest-push : (greatest : Option (List ℕ)) (rows : List Rank) (r : Rank) → greatest_from greatest (rows ++ r ∷ []) ≡ greater (greatest_from greatest rows) r.node
greatest-push greatest [] r = refl
greatest-push greatest (s ∷ rows) r = greatest-push (greater greatest s.node) rows r

of-push : (greatest : Greatest) (run : List Rank) (r : Rank) → IsOf greatest run → IsOf greatest (run ++ r ∷ [])
of-push greatest run r is = record {
  within = omega (arith, is.within, length-append run (r ∷ []));
  name = ap (λ rs. greatest_from greatest.name rs) (drop-append-le greatest.rows run (r ∷ []) is.within) ∙ (greatest-push greatest.name (drop greatest.rows run) r ∙ (ap (λ g. greater g r.node) is.name ∙ sym (greatest-push None run r)));
}

-- a row more in a run
pub push_of : (greatest : Greatest) (rows : List Rank) (begin : ℕ) (r : Rank) → begin ≤ length rows → IsOf greatest (drop begin rows) → IsOf greatest (drop begin (rows ++ r ∷ []))
push_of greatest rows begin r within is = rw (drop-append-le begin rows (r ∷ []) within) (of-push greatest (drop begin rows) r is)

-- that of no row, whatever the run
pub of_none : (greatest : Greatest) (run : List Rank) → greatest ≡ record { name = None; rows = 0; asked = 0 } → IsOf greatest run
of_none greatest run is = rw is (record { within = omega arith; name = refl })
