-- One row more.
use Rattle.std.proofs.Common.{◌≡◌, ℕ, suc, ◌+◌, ◌<◌, ◌++◌, ◌==◌, ◌&&◌, length, get_or, drop, drop-cons, add-one, ap, sym, ◌∙◌, true, false, cond, List, [], ◌∷◌, Option, Some, None, is_some, refl, append_assoc, append-nil}
use Rattle.std.specs.Cmp.Lexicographic.{pointwise}
use Rattle.std.specs.Option.{option_map, option_or}
use Rattle.std.specs.Prelude.{All, is_none, Bool, Result, Ok, Err, IfOk, OnErr}
use Rattle.std.proofs.lemmas.List.Elements.{All-nil, All-cons}
use Rattle.rank_rows.specs.declared.rank.Rank.{Rank}
use Rattle.rank_rows.specs.declared.pair.Pair.{Pair}
use Rattle.rank_rows.specs.declared.pair.Found.{Found}
use Rattle.rank_rows.specs.Apart.{is_same_pair, AreFound}
use Rattle.rank_rows.specs.Ranks.{rank_of, IsRow, AddsRows, IsCert}
use Rattle.rank_rows.proofs.Growing.{rank-push, digits_are}

adds-push : (done rows : List Rank) (r : Rank) → AddsRows done rows → IsRow r → rank_of (done ++ rows) r.node r.prefix ≡ None → AddsRows done (rows ++ r ∷ [])
adds-push done [] r h row new = (row, rw append-nil at new, tt)
adds-push done (s ∷ rows) r h row new =
    (h.0, h.1, adds-push (done ++ s ∷ []) rows r h.2 row (rw append_assoc new))

none_there : (o : Option ℕ) → is_none o ≡ true → o ≡ None
none_there None h = refl
none_there (Some x) h = absurd cc

-- whatever becomes of a row
pub IsCert-add : {E : Type 0} (rows new : List Rank) (r : Rank) (a : Result Bool E) → IsCert rows → IsRow r → IfOk a (λ b. b ≡ is_none (rank_of rows r.node r.prefix))
    → (a ≡ Ok true → new ≡ rows ++ r ∷ []) → (a ≡ Ok false → new ≡ rows) → OnErr a (new ≡ rows) → IsCert new
IsCert-add rows new r (Ok true) h row added longer stays err = rw (longer refl) (adds-push [] rows r h row (none_there (rank_of rows r.node r.prefix) (sym added)))
IsCert-add rows new r (Ok false) h row added longer stays err = rw (stays refl) h
IsCert-add rows new r (Err e) h row added longer stays err = rw err h

-- one row more is among those that are found by their pairs
pub moved : {E : Type 0} (apart new rows : List Rank) (i : ℕ) (r : Rank) (a : Result Bool E) → i < length rows → r ≡ get_or rows i r → apart ++ drop i rows ≡ rows → AddsRows apart (drop i rows)
    → IfOk a (λ b. b ≡ is_none (rank_of apart r.node r.prefix)) → (a ≡ Ok true → new ≡ apart ++ r ∷ []) → (b : Bool) → a ≡ Ok b → (new ++ drop (i + 1) rows ≡ rows) × AddsRows new (drop (i + 1) rows)
moved apart new rows i r a within is whole rest added longer b ok =
    let next : drop i rows ≡ r ∷ drop (i + 1) rows = rw add-one (drop-cons rows i r within ∙ ap (λ s. s ∷ drop (suc i) rows) (sym is)) in
    let adds : AddsRows apart (r ∷ drop (i + 1) rows) = rw next at rest in
    let fresh : b ≡ true = (rw ok at added) ∙ ap is_none adds.1 in
    let more : new ≡ apart ++ r ∷ [] = longer (ok ∙ ap Ok fresh) in
    (rw more (append_assoc apart (r ∷ []) (drop (i + 1) rows) ∙ (ap (λ rs. apart ++ rs) (sym next) ∙ whole)), rw more adds.2)

both : (a b : Bool) → (a && b) ≡ true → (a ≡ true) × (b ≡ true)
both true true is = (refl, refl)
both true false is = absurd cc
both false b is = absurd cc

or_none : (o : Option ℕ) → o ≡ option_or o None
or_none None = refl
or_none (Some x) = refl

-- the pair of one row more is found too
pub found_push : (rows : List Rank) (old new : Pair → Option Found) (r : Rank) (p : Pair) (f : Found) → p.node ≡ r.node → p.prefix ≡ r.prefix → f.rank ≡ r.rank → rank_of rows r.node r.prefix ≡ None
    → AreFound rows old → ((q : Pair) → new q ≡ cond (is_same_pair p q) (Some f) (old q)) → AreFound (rows ++ r ∷ []) new
found_push rows old new r p f node prefix rank none are put q =
    rw (put q, rank-push rows r q.node q.prefix, ← node, ← prefix, ← rank) (by (is_same_pair p q) refl)
  where
    none_here : is_same_pair p q ≡ true → rank_of rows q.node q.prefix ≡ None
    none_here is =
        let same = both (pointwise ◌==◌ p.node q.node) (pointwise ◌==◌ p.prefix q.prefix) is in
        rw (← digits_are p.node q.node same.0, ← digits_are p.prefix q.prefix same.1, node, prefix) none

    by : (b : Bool) → is_same_pair p q ≡ b → option_map (λ (g : Found). g.rank) (cond b (Some f) (old q)) ≡ option_or (rank_of rows q.node q.prefix) (cond b (Some f.rank) None)
    by true is = rw (none_here is) refl
    by false is = are q ∙ or_none (rank_of rows q.node q.prefix)

-- the same is found
pub found_same : (rows : List Rank) (old new : Pair → Option Found) → AreFound rows old → ((q : Pair) → new q ≡ old q) → AreFound rows new
found_same rows old new are same q = ap (option_map (λ (f : Found). f.rank)) (same q) ∙ are q

-- what becomes of a row whose pair finds this
pub found_or_push : (rows : List Rank) (old new : Pair → Option Found) (r : Rank) (p : Pair) (f : Found) (had : Option Found) → p.node ≡ r.node → p.prefix ≡ r.prefix → f.rank ≡ r.rank → had ≡ old p
    → AreFound rows old → ((q : Pair) → new q ≡ cond (is_none had && is_same_pair p q) (Some f) (old q)) → had ≡ None → AreFound (rows ++ r ∷ []) new
found_or_push rows old new r p f had node prefix rank is are put none =
    found_push rows old new r p f node prefix rank (rw (← node, ← prefix) (sym (are p) ∙ ap (option_map (λ (f : Found). f.rank)) (sym is ∙ none))) are (λ q. put q ∙ rw none refl)

pub found_again : (rows : List Rank) (old new : Pair → Option Found) (p : Pair) (f : Found) (had : Option Found) → AreFound rows old → ((q : Pair) → new q ≡ cond (is_none had && is_same_pair p q) (Some f) (old q)) → is_some had ≡ true → AreFound rows new
found_again rows old new p f None are put some = absurd cc
found_again rows old new p f (Some g) are put some = found_same rows old new are put

pub each_row : (done rows : List Rank) → AddsRows done rows → All IsRow rows
each_row done [] h = All-nil IsRow
each_row done (r ∷ rows) h = All-cons IsRow r rows h.0 (each_row (done ++ r ∷ []) rows h.2)

pub nothing_found : (o : Option Found) → is_some o ≡ false → o ≡ None
nothing_found None h = refl
nothing_found (Some f) h = absurd cc
