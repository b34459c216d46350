-- Runs stay runs when a row is added.
use Rattle.std.proofs.Common.{◌≡◌, ℕ, ◌==◌, ◌&&◌, ◌||◌, ◌++◌, Bool, true, false, cond, List, [], ◌∷◌, Option, Some, None, is_some, refl, sym, ap, ◌∙◌, inl, inr, arith, length, drop, length-append, length-drop, ◌<◌, rules}
use Rattle.std.specs.Cmp.{IsEquivalence}
use Rattle.std.specs.Cmp.Rules.{comparing}
use Rattle.std.specs.Prelude.{MatchOption, IfOk, OnErr, Result, Ok, Err, is_none}
use Rattle.std.specs.Option.{option_or}
use Rattle.std.specs.Cmp.Lexicographic.{pointwise, same_text}
use Rattle.std.proofs.lemmas.Bool.{cases_Bool}
use Rattle.std.proofs.lemmas.List.{drop-append-le}
use Rattle.std.proofs.Math.Seq.{drop-append_seam}
use Rattle.rank_rows.specs.declared.rank.Rank.{Rank}
use Rattle.rank_rows.specs.declared.runs.Added.{Added}
use Rattle.rank_rows.specs.declared.runs.Added.TheVariants.{Yes, Twice, Apart}
use Rattle.rank_rows.specs.Adding.{Adds}
use Rattle.rank_rows.specs.Ranks.{is_of, rank_of, EndsWith}
use Rattle.rank_rows.specs.Runs.{rank_in_run, begins_with, has_name, begin_of, HasNone, AreOf, IsRun, AreRuns}

-- ---- rows of another prefix

run-other : (rows : List Rank) (r : Rank) (name prefix : List ℕ) → pointwise ◌==◌ r.prefix prefix ≡ false → rank_in_run (rows ++ r ∷ []) name prefix ≡ rank_in_run rows name prefix
run-other [] r name prefix other = rw other refl
run-other (s ∷ rows) r name prefix other = rw (run-other rows r name prefix other) refl

not_of : (r : Rank) (name prefix : List ℕ) → pointwise ◌==◌ r.prefix prefix ≡ false → is_of r name prefix ≡ false
not_of r name prefix other = rw other (elim (pointwise ◌==◌ r.node name) as (λ b. (b && false) ≡ false) [ true ↦ refl | false ↦ refl ])

rank-other : (rows : List Rank) (r : Rank) (name prefix : List ℕ) → pointwise ◌==◌ r.prefix prefix ≡ false → rank_of (rows ++ r ∷ []) name prefix ≡ rank_of rows name prefix
rank-other [] r name prefix other = rw (not_of r name prefix other) refl
rank-other (s ∷ rows) r name prefix other = rw (rank-other rows r name prefix other) refl

each-other : (rows : List Rank) (r : Rank) (prefix : List ℕ) → pointwise ◌==◌ r.prefix prefix ≡ false → (o : Option ℕ) → MatchOption o (HasNone rows prefix) (IsRun rows prefix) → MatchOption o (HasNone (rows ++ r ∷ []) prefix) (IsRun (rows ++ r ∷ []) prefix)
each-other rows r prefix other None none = λ name. rank-other rows r name prefix other ∙ none name
each-other rows r prefix other (Some place) run = record {
  within = omega (arith, run.within, length-append rows (r ∷ []));
  ranks = λ name. rank-other rows r name prefix other ∙ run.ranks name ∙ sym (ap (λ rs. rank_in_run rs name prefix) (drop-append-le place rows (r ∷ []) run.within) ∙ run-other (drop place rows) r name prefix other);
}

-- ---- rows of the same prefix

digits_alike : IsEquivalence (pointwise ◌==◌)
digits_alike = search (comparing, rules)

pub same_digits : (p : List ℕ) → pointwise ◌==◌ p p ≡ true
same_digits p = digits_alike.refl p

or_same : (b : Bool) (x : ℕ) (o p : Option ℕ) → cond b (Some x) (option_or o p) ≡ option_or (cond b (Some x) o) p
or_same true x o p = refl
or_same false x o p = refl

pub rank-push : (rows : List Rank) (r : Rank) (name prefix : List ℕ) → rank_of (rows ++ r ∷ []) name prefix ≡ option_or (rank_of rows name prefix) (rank_of (r ∷ []) name prefix)
rank-push [] r name prefix = refl
rank-push (s ∷ rows) r name prefix = ap (cond (is_of s name prefix) (Some s.rank)) (rank-push rows r name prefix) ∙ or_same (is_of s name prefix) s.rank (rank_of rows name prefix) (rank_of (r ∷ []) name prefix)

run-push : (rows : List Rank) (r : Rank) (name prefix : List ℕ) → AreOf rows prefix → rank_in_run (rows ++ r ∷ []) name prefix ≡ option_or (rank_in_run rows name prefix) (rank_in_run (r ∷ []) name prefix)
run-push [] r name prefix all = refl
run-push (s ∷ rows) r name prefix all =
    let here : pointwise ◌==◌ s.prefix prefix ≡ true = rw all.0 (same_digits prefix) in
    rw here (ap (cond (pointwise ◌==◌ s.node name) (Some s.rank)) (run-push rows r name prefix all.1) ∙ or_same (pointwise ◌==◌ s.node name) s.rank (rank_in_run rows name prefix) (rank_in_run (r ∷ []) name prefix))

one_row : (r : Rank) (name prefix : List ℕ) → rank_of (r ∷ []) name prefix ≡ rank_in_run (r ∷ []) name prefix
one_row r name prefix = by (pointwise ◌==◌ r.node name) (pointwise ◌==◌ r.prefix prefix)
  where
    by : (a b : Bool) → cond (a && b) (Some r.rank) None ≡ cond b (cond a (Some r.rank) None) None
    by true true = refl
    by true false = refl
    by false true = refl
    by false false = refl

are-push : (rows : List Rank) (r : Rank) (prefix : List ℕ) → AreOf rows prefix → r.prefix ≡ prefix → AreOf (rows ++ r ∷ []) prefix
are-push [] r prefix all same = (same, tt)
are-push (s ∷ rows) r prefix all same = (all.0, are-push rows r prefix all.1 same)

-- the rank of a name in a run is there where the name is
pub run_known : (rows : List Rank) (name prefix : List ℕ) → AreOf rows prefix → is_some (rank_in_run rows name prefix) ≡ has_name rows name
run_known [] name prefix all = refl
run_known (s ∷ rows) name prefix all =
    let here : pointwise ◌==◌ s.prefix prefix ≡ true = rw all.0 (same_digits prefix) in
    rw here (by (pointwise ◌==◌ s.node name) s.rank (run_known rows name prefix all.1))
  where
    by : (b : Bool) (x : ℕ) → is_some (rank_in_run rows name prefix) ≡ has_name rows name → is_some (cond b (Some x) (rank_in_run rows name prefix)) ≡ (b || has_name rows name)
    by true x rest = refl
    by false x rest = rest

pub digits_are : (p q : List ℕ) → pointwise ◌==◌ p q ≡ true → p ≡ q
digits_are p q is = same_text p q (sym is)

-- the run of the last row's prefix
pub last_run : (rows : List Rank) (begins : List (List ℕ × ℕ)) (last : ℕ) (prefix : List ℕ) → AreRuns rows begins last → begins_with (drop last rows) prefix ≡ true → IsRun rows prefix last
last_run rows begins last prefix runs is = rw (runs.last_begins prefix is) at (runs.each prefix)

-- the pair of a row of that prefix is there where the run has its name
pub last_known : (rows : List Rank) (begins : List (List ℕ × ℕ)) (last : ℕ) (r : Rank) → AreRuns rows begins last → begins_with (drop last rows) r.prefix ≡ true → is_some (rank_of rows r.node r.prefix) ≡ has_name (drop last rows) r.node
last_known rows begins last r runs is =
    ap is_some ((last_run rows begins last r.prefix runs is).ranks r.node) ∙ run_known (drop last rows) r.node r.prefix (runs.last_goes_on r.prefix is)

pub begins-push : (rows : List Rank) (r : Rank) (p prefix : List ℕ) → begins_with rows p ≡ true → begins_with (rows ++ r ∷ []) prefix ≡ begins_with rows prefix
begins-push [] r p prefix is = absurd cc
begins-push (s ∷ rows) r p prefix is = refl

both_begin : (rows : List Rank) (p q : List ℕ) → begins_with rows p ≡ true → begins_with rows q ≡ true → p ≡ q
both_begin [] p q is also = absurd cc
both_begin (s ∷ rows) p q is also = sym (digits_are s.prefix p is) ∙ digits_are s.prefix q also

-- a row behind the last run, of its prefix
pub push_last : (rows : List Rank) (begins : List (List ℕ × ℕ)) (last : ℕ) (r : Rank) → AreRuns rows begins last → begins_with (drop last rows) r.prefix ≡ true → AreRuns (rows ++ r ∷ []) begins last
push_last rows begins last r runs is = record {
  each = λ prefix. elim (cases_Bool (pointwise ◌==◌ r.prefix prefix)) [
    | inl same ↦ here prefix (digits_are r.prefix prefix same)
    | inr other ↦ each-other rows r prefix other (begin_of begins prefix) (runs.each prefix)
  ];
  last_begins = λ prefix also. runs.last_begins prefix (was prefix also);
  last_goes_on = λ prefix also. rw cut (are-push (drop last rows) r prefix (runs.last_goes_on prefix (was prefix also)) (both_begin (drop last rows) r.prefix prefix is (was prefix also)));
}
  where
    run : IsRun rows r.prefix last
    run = last_run rows begins last r.prefix runs is

    cut : drop last (rows ++ r ∷ []) ≡ drop last rows ++ r ∷ []
    cut = drop-append-le last rows (r ∷ []) run.within

    was : (prefix : List ℕ) → begins_with (drop last (rows ++ r ∷ [])) prefix ≡ true → begins_with (drop last rows) prefix ≡ true
    was prefix also = sym (ap (λ rs. begins_with rs prefix) cut ∙ begins-push (drop last rows) r r.prefix prefix is) ∙ also

    longer : IsRun (rows ++ r ∷ []) r.prefix last
    longer = record {
      within = omega (arith, run.within, length-append rows (r ∷ []));
      ranks = λ name. rank-push rows r name r.prefix ∙ (rw (run.ranks name, one_row r name r.prefix) refl) ∙ sym (ap (λ rs. rank_in_run rs name r.prefix) cut ∙ run-push (drop last rows) r name r.prefix (runs.last_goes_on r.prefix is));
    }

    here : (prefix : List ℕ) → r.prefix ≡ prefix → MatchOption (begin_of begins prefix) (HasNone (rows ++ r ∷ []) prefix) (IsRun (rows ++ r ∷ []) prefix)
    here prefix same = rw (← same) (rw (runs.last_begins r.prefix is) longer)

-- a row of a new prefix
pub push_new : (rows : List Rank) (begins more : List (List ℕ × ℕ)) (last : ℕ) (r : Rank) → AreRuns rows begins last → begin_of begins r.prefix ≡ None
    → ((p : List ℕ) → begin_of more p ≡ cond (pointwise ◌==◌ r.prefix p) (Some (length rows)) (begin_of begins p)) → AreRuns (rows ++ r ∷ []) more (length rows)
push_new rows begins more last r runs new known = record {
  each = λ prefix. elim (cases_Bool (pointwise ◌==◌ r.prefix prefix)) [
    | inl same ↦ here prefix same (digits_are r.prefix prefix same)
    | inr other ↦ let is : begin_of more prefix ≡ begin_of begins prefix = known prefix ∙ rw other refl in rw is (each-other rows r prefix other (begin_of begins prefix) (runs.each prefix))
  ];
  last_begins = λ prefix is. known prefix ∙ rw (first prefix is) refl;
  last_goes_on = λ prefix is. rw cut (digits_are r.prefix prefix (first prefix is), tt);
}
  where
    cut : drop (length rows) (rows ++ r ∷ []) ≡ r ∷ []
    cut = drop-append_seam rows (r ∷ [])

    first : (prefix : List ℕ) → begins_with (drop (length rows) (rows ++ r ∷ [])) prefix ≡ true → pointwise ◌==◌ r.prefix prefix ≡ true
    first prefix is = rw cut at is

    none : HasNone rows r.prefix
    none = rw new at (runs.each r.prefix)

    begun : IsRun (rows ++ r ∷ []) r.prefix (length rows)
    begun = record {
      within = omega (arith, length-append rows (r ∷ []));
      ranks = λ name. rank-push rows r name r.prefix ∙ (rw (none name, one_row r name r.prefix) refl) ∙ sym (ap (λ rs. rank_in_run rs name r.prefix) cut);
    }

    here : (prefix : List ℕ) → pointwise ◌==◌ r.prefix prefix ≡ true → r.prefix ≡ prefix → MatchOption (begin_of more prefix) (HasNone (rows ++ r ∷ []) prefix) (IsRun (rows ++ r ∷ []) prefix)
    here prefix is same =
        let known_here : begin_of more prefix ≡ Some (length rows) = known prefix ∙ rw is refl in
        rw (known_here, ← same) begun

-- whatever becomes of a row of the last run's prefix
pub after_run : {E : Type 0} (rows new : List Rank) (begins : List (List ℕ × ℕ)) (last : ℕ) (r : Rank) (known : Bool) (a : Result Added E) → AreRuns rows begins last → begins_with (drop last rows) r.prefix ≡ true
    → IfOk a (λ added. Adds known rows r added new) → OnErr a (new ≡ rows) → AreRuns new begins last
after_run rows new begins last r known (Ok Yes) runs is ok err = rw ok.1 (push_last rows begins last r runs is)
after_run rows new begins last r known (Ok Twice) runs is ok err = rw ok.1 runs
after_run rows new begins last r known (Ok Apart) runs is ok err = rw ok runs
after_run rows new begins last r known (Err e) runs is ok err = rw err runs

-- ---- a row of the last row's prefix

of_last : (rows : List Rank) (r : Rank) (prefix : List ℕ) → AreOf (rows ++ r ∷ []) prefix → r.prefix ≡ prefix
of_last [] r prefix all = all.0
of_last (s ∷ rows) r prefix all = of_last rows r prefix all.1

-- the last run is that of the last row's prefix
pub begins_last : (rows : List Rank) (begins : List (List ℕ × ℕ)) (last : ℕ) (prefix : List ℕ) → AreRuns rows begins last → last < length rows → EndsWith prefix rows → begins_with (drop last rows) prefix ≡ true
begins_last rows begins last prefix runs within ends = by (drop last rows) refl
  where
    by : (rest : List Rank) → drop last rows ≡ rest → begins_with rest prefix ≡ true
    by [] is = absurd (omega (arith, length-drop last rows, ap length is))
    by (s ∷ rest) is =
        let first : begins_with (drop last rows) s.prefix ≡ true = rw is (same_digits s.prefix) in
        let end : drop last rows ≡ drop last ends.front ++ ends.last ∷ [] =
        ap (drop last) ends.whole ∙ drop-append-le last ends.front (ends.last ∷ []) (omega (arith, ap length ends.whole, length-append ends.front (ends.last ∷ []))) in
        let same : ends.last.prefix ≡ s.prefix = of_last (drop last ends.front) ends.last s.prefix (rw end at (runs.last_goes_on s.prefix first)) in
        let here : s.prefix ≡ prefix = sym same ∙ ends.is in
        rw here (same_digits prefix)

-- a prefix that had a place keeps it, and so do all others
pub begins_known : (old new : List (List ℕ × ℕ)) (prefix : List ℕ) (place : ℕ) (o : Option ℕ) → is_some o ≡ true → ((q : List ℕ) → begin_of new q ≡ cond (is_none o && pointwise ◌==◌ prefix q) (Some place) (begin_of old q)) → (q : List ℕ) → begin_of new q ≡ begin_of old q
begins_known old new prefix place None some put q = absurd cc
begins_known old new prefix place (Some x) some put q = put q
