-- A run with the names of the run before it.
use Rattle.std.proofs.Common.{◌≡◌, ℕ, zero, suc, ◌<◌, ◌≤◌, ◌==◌, ◌++◌, Bool, true, false, cond, List, [], ◌∷◌, Option, Some, None, refl, sym, ap, ◌∙◌, inl, inr, arith, length, take, drop, get_or, length-drop, append_assoc, append-nil}
use Rattle.std.specs.Prelude.{◌≢◌, Result, Ok, Err}
use Rattle.std.specs.Option.{option_or}
use Rattle.std.specs.Cmp.Lexicographic.{pointwise}
use Rattle.std.proofs.lemmas.Bool.{cases_Bool}
use Rattle.std.proofs.lemmas.List.{drop-append-le}
use Rattle.std.proofs.Math.Seq.{drop-append_seam}
use Rattle.std.proofs.Math.ListN.{drop_of_length-le}
use Rattle.card_digits.specs.Digits.{IsPrefix}
use Rattle.rank_rows.specs.declared.rank.Rank.{Rank}
use Rattle.rank_rows.specs.Ranks.{rank_of, like_rows, AddsRows, IsCert, EndsWith}
use Rattle.rank_rows.specs.Runs.{begins_with, begin_of, AreOf, AreRuns, CanRepeat}
use Rattle.rank_rows.specs.Marks.{AreMarked}
use Rattle.rank_rows.proofs.Growing.{same_digits, rank-push, last_run, begins-push, push_last, push_new}

-- ---- they are a run

like_of : (run : List Rank) (prefix ranks : List ℕ) → AreOf (like_rows run prefix ranks) prefix
like_of [] prefix ranks = tt
like_of (r ∷ run) prefix [] = tt
like_of (r ∷ run) prefix (k ∷ ks) = (refl, like_of run prefix ks)

pub like_some : (run : List Rank) (prefix ranks : List ℕ) → 0 < length run → 0 < length ranks → 0 < length (like_rows run prefix ranks)
like_some [] prefix ranks rows some = absurd (omega (arith, rows))
like_some (r ∷ run) prefix [] rows some = absurd (omega (arith, some))
like_some (r ∷ run) prefix (k ∷ ks) rows some = omega arith

like_none : (run : List Rank) (prefix : List ℕ) → like_rows run prefix [] ≡ []
like_none [] prefix = refl
like_none (r ∷ run) prefix = refl

-- no rank is left
pub like_end : (run : List Rank) (prefix ranks : List ℕ) (i : ℕ) → length ranks ≤ i → like_rows run prefix (drop i ranks) ≡ []
like_end run prefix ranks i all = rw (drop_of_length-le ranks all) (like_none run prefix)

-- one rank more
pub like-push : (run : List Rank) (prefix ranks : List ℕ) (k : ℕ) (d : Rank) → length ranks < length run
    → like_rows run prefix (ranks ++ k ∷ []) ≡ like_rows run prefix ranks ++ record { node = (get_or run (length ranks) d).node; prefix = prefix; rank = k } ∷ []
like-push [] prefix ranks k d within = absurd (omega (arith, within))
like-push (r ∷ run) prefix [] k d within =
    let only : Rank = record { node = r.node; prefix = prefix; rank = k } in
    ap (λ (rs : List Rank). only ∷ rs) (like_none run prefix)
like-push (r ∷ run) prefix (j ∷ ranks) k d within =
    let first : Rank = record { node = r.node; prefix = prefix; rank = j } in
    ap (λ (rs : List Rank). first ∷ rs) (like-push run prefix ranks k d (omega (arith, within)))

-- the marks of their names
like_marked : (marks : List Bool) (run : List Rank) (prefix ranks : List ℕ) → AreMarked marks run → AreMarked marks (like_rows run prefix ranks)
like_marked marks [] prefix ranks marked = tt
like_marked marks (r ∷ run) prefix [] marked = tt
like_marked marks (r ∷ run) prefix (k ∷ ks) marked = (marked.0, like_marked marks run prefix ks marked.1)

-- rows behind the last run, of its prefix
push_all : (rows more : List Rank) (begins : List (List ℕ × ℕ)) (last : ℕ) (prefix : List ℕ) → AreRuns rows begins last → begins_with (drop last rows) prefix ≡ true → AreOf more prefix → AreRuns (rows ++ more) begins last
push_all rows [] begins last prefix runs is all = rw append-nil runs
push_all rows (r ∷ more) begins last prefix runs is all =
    let here : begins_with (drop last rows) r.prefix ≡ true = rw all.0 is in
    let within : last ≤ length rows = (last_run rows begins last prefix runs is).within in
    let still : begins_with (drop last (rows ++ r ∷ [])) prefix ≡ true =
    ap (λ rs. begins_with rs prefix) (drop-append-le last rows (r ∷ []) within) ∙ (begins-push (drop last rows) r prefix prefix is ∙ is) in
    rw (← append_assoc rows (r ∷ []) more) (push_all (rows ++ r ∷ []) more begins last prefix (push_last rows begins last r runs here) still all.1)

-- rows of a new prefix
push_run : (rows more : List Rank) (begins known : List (List ℕ × ℕ)) (last : ℕ) (prefix : List ℕ) → AreRuns rows begins last → begin_of begins prefix ≡ None
    → ((p : List ℕ) → begin_of known p ≡ cond (pointwise ◌==◌ prefix p) (Some (length rows)) (begin_of begins p)) → AreOf more prefix → 0 < length more → AreRuns (rows ++ more) known (length rows)
push_run rows [] begins known last prefix runs new knows all some = absurd (omega (arith, some))
push_run rows (r ∷ more) begins known last prefix runs new knows all some =
    let first = push_new rows begins known last r runs (rw all.0 new) (λ p. rw all.0 (knows p)) in
    let is : begins_with (drop (length rows) (rows ++ r ∷ [])) prefix ≡ true = rw (drop-append_seam rows (r ∷ [])) (rw all.0 (same_digits prefix)) in
    rw (← append_assoc rows (r ∷ []) more) (push_all (rows ++ r ∷ []) more known (length rows) prefix first is all.1)

-- a run of the names of the last one
pub repeated_runs : (rows new : List Rank) (begins known : List (List ℕ × ℕ)) (last place : ℕ) (prefix ranks : List ℕ) → AreRuns rows begins last → place ≡ last → place < length rows → 0 < length ranks
    → begin_of begins prefix ≡ None → ((p : List ℕ) → begin_of known p ≡ cond (pointwise ◌==◌ prefix p) (Some (length rows)) (begin_of begins p)) → new ≡ rows ++ like_rows (drop place rows) prefix ranks
    → AreRuns new known (length rows)
repeated_runs rows new begins known last place prefix ranks runs here within some none knows whole =
    let run = drop place rows in
    let many : 0 < length run = omega (arith, length-drop place rows, within) in
    rw whole (push_run rows (like_rows run prefix ranks) begins known last prefix runs none knows (like_of run prefix ranks) (like_some run prefix ranks many some))

-- the marks of the run before it are marks of its names
pub repeated_marked : (marks : List Bool) (rows new : List Rank) (last place : ℕ) (prefix ranks : List ℕ) → AreMarked marks (drop last rows) → place ≡ last → new ≡ rows ++ like_rows (drop place rows) prefix ranks
    → AreMarked marks (drop (length rows) new)
repeated_marked marks rows new last place prefix ranks marked here whole =
    rw (whole, drop-append_seam rows (like_rows (drop place rows) prefix ranks), here) (like_marked marks (drop last rows) prefix ranks marked)

pub can_repeat : (rows : List Rank) (begins : List (List ℕ × ℕ)) (last : ℕ) (prefix : List ℕ) → AreRuns rows begins last → begin_of begins prefix ≡ None → CanRepeat rows last prefix
can_repeat rows begins last prefix runs new = by (drop last rows) refl
  where
    by : (rest : List Rank) → drop last rows ≡ rest → CanRepeat rows last prefix
    by [] is = record { last = []; one = rw is tt; none = rw new at (runs.each prefix) }
    by (r ∷ rest) is = record {
      last = r.prefix;
      one = runs.last_goes_on r.prefix (rw is (same_digits r.prefix));
      none = rw new at (runs.each prefix);
    }

-- ---- their pairs are new

adds_from : (done rows : List Rank) (place : ℕ) → AddsRows done rows → AddsRows (done ++ take place rows) (drop place rows)
adds_from done rows zero h = rw append-nil h
adds_from done [] (suc place) h = tt
adds_from done (r ∷ rows) (suc place) h = rw (← append_assoc done (r ∷ []) (take place rows)) (adds_from (done ++ r ∷ []) rows place h.2)

adds_more : (done rows more : List Rank) → AddsRows done rows → AddsRows (done ++ rows) more → AddsRows done (rows ++ more)
adds_more done [] more h adds = rw append-nil at adds
adds_more done (r ∷ rows) more h adds = (h.0, h.1, adds_more (done ++ r ∷ []) rows more h.2 (rw append_assoc adds))

both_none : (o p : Option ℕ) → option_or o p ≡ None → (o ≡ None) × (p ≡ None)
both_none None p is = (refl, is)
both_none (Some x) p is = absurd cc

-- a name that isn't the row's has no rank by the row
not_named : (r : Rank) (k : ℕ) (name p prefix : List ℕ) → r.prefix ≡ p → rank_of (r ∷ []) name p ≡ None → rank_of (record { node = r.node; prefix = prefix; rank = k } ∷ []) name prefix ≡ None
not_named r k name p prefix of none = elim (cases_Bool (pointwise ◌==◌ r.node name)) [
  | inl same ↦
      let there : rank_of (r ∷ []) name p ≡ Some r.rank = rw (same, of, same_digits p) refl in
      absurd cc
  | inr other ↦ rw other refl
]

-- a row for each row of one prefix, where each name without a rank there has none at the other prefix
like_adds : (run : List Rank) (p prefix ranks : List ℕ) (before done : List Rank) → IsPrefix prefix → ((i : ℕ) → get_or ranks i 0 < 65536) → AddsRows before run → AreOf run p
    → ((name : List ℕ) → rank_of before name p ≡ None → rank_of done name prefix ≡ None) → AddsRows done (like_rows run prefix ranks)
like_adds [] p prefix ranks before done form small h all new = tt
like_adds (r ∷ run) p prefix [] before done form small h all new = tt
like_adds (r ∷ run) p prefix (k ∷ ks) before done form small h all new =
    let row : Rank = record { node = r.node; prefix = prefix; rank = k } in
    let first : rank_of before r.node p ≡ None = rw all.0 at h.1 in (
      record { node = h.0.node; prefix = form; rank = small 0 },
      new r.node first,
      like_adds run p prefix ks (before ++ r ∷ []) (done ++ row ∷ []) form (λ i. small (suc i)) h.2 all.1 (λ name is.
          let none = both_none (rank_of before name p) (rank_of (r ∷ []) name p) (sym (rank-push before r name p) ∙ is) in
          rank-push done row name prefix ∙ (rw (new name none.0) (not_named r k name p prefix all.0 none.1))),
    )

-- whatever becomes of them
pub IsCert-repeat : {E : Type 0} (rows new : List Rank) (place : ℕ) (prefix ranks : List ℕ) (a : Result Bool E) → IsCert rows → IsPrefix prefix → ((i : ℕ) → get_or ranks i 0 < 65536)
    → (a ≡ Ok true → CanRepeat rows place prefix) → (a ≡ Ok true → new ≡ rows ++ like_rows (drop place rows) prefix ranks) → (a ≢ Ok true → new ≡ rows) → IsCert new
IsCert-repeat rows new place prefix ranks (Ok true) h form small may adds stays =
    let can = may refl in
    rw (adds refl) (adds_more [] rows (like_rows (drop place rows) prefix ranks) h (like_adds (drop place rows) can.last prefix ranks (take place rows) rows form small (adds_from [] rows place h) can.one (λ name is. can.none name)))
IsCert-repeat rows new place prefix ranks (Ok false) h form small may adds stays = rw (stays (λ is. cc)) h
IsCert-repeat rows new place prefix ranks (Err e) h form small may adds stays = rw (stays (λ is. cc)) h

-- rows behind others
adds_behind : (done rows more : List Rank) → AddsRows done (rows ++ more) → AddsRows (done ++ rows) more
adds_behind done [] more h = rw append-nil h
adds_behind done (r ∷ rows) more h = rw (← append_assoc done (r ∷ []) rows) (adds_behind (done ++ r ∷ []) rows more h.2)

pub IsCert-behind : (rows more : List Rank) → IsCert (rows ++ more) → AddsRows rows more
IsCert-behind rows more h = adds_behind [] rows more h

ends_all : (rows more : List Rank) (prefix : List ℕ) → AreOf more prefix → 0 < length more → EndsWith prefix (rows ++ more)
ends_all rows [] prefix all some = absurd (omega (arith, some))
ends_all rows (r ∷ []) prefix all some = record { front = rows; last = r; whole = refl; is = all.0 }
ends_all rows (r ∷ s ∷ more) prefix all some = rw (← append_assoc rows (r ∷ []) (s ∷ more)) (ends_all (rows ++ r ∷ []) (s ∷ more) prefix all.1 (omega arith))

-- the last of them has their prefix
pub ends_like : (rows run : List Rank) (prefix ranks : List ℕ) → 0 < length run → 0 < length ranks → EndsWith prefix (rows ++ like_rows run prefix ranks)
ends_like rows run prefix ranks some more = ends_all rows (like_rows run prefix ranks) prefix (like_of run prefix ranks) (like_some run prefix ranks some more)
