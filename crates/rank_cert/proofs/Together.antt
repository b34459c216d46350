-- Some rows of a certificate, which stand together.
use Rattle.std.proofs.Common.{◌≡◌, ℕ, zero, suc, ◌==◌, ◌++◌, Bool, true, false, cond, List, [], ◌∷◌, Some, None, is_some, refl, sym, drop}
use Rattle.std.specs.Cmp.Lexicographic.{pointwise, same_text}
use Rattle.std.proofs.lemmas.Bool.{and_parts}
use Rattle.rank_rows.specs.declared.rank.Rank.{Rank}
use Rattle.rank_rows.specs.Ranks.{is_of, rank_of, AddsRows, IsCert}

-- a rank stays behind more rows
still_ranked : (done : List Rank) (r : Rank) (name prefix : List ℕ) → is_some (rank_of done name prefix) ≡ true → is_some (rank_of (done ++ r ∷ []) name prefix) ≡ true
still_ranked [] r name prefix h = absurd cc
still_ranked (s ∷ done) r name prefix h = by (is_of s name prefix) (still_ranked done r name prefix) h
  where
    by : (b : Bool) → (is_some (rank_of done name prefix) ≡ true → is_some (rank_of (done ++ r ∷ []) name prefix) ≡ true) → is_some (cond b (Some s.rank) (rank_of done name prefix)) ≡ true → is_some (cond b (Some s.rank) (rank_of (done ++ r ∷ []) name prefix)) ≡ true
    by true rest h = refl
    by false rest h = rest h

-- the last row has the rank of its pair, where no row before it has
last_ranked : (done : List Rank) (r : Rank) (name prefix : List ℕ) → is_of r name prefix ≡ true → is_some (rank_of (done ++ r ∷ []) name prefix) ≡ true
last_ranked [] r name prefix h = rw h refl
last_ranked (s ∷ done) r name prefix h = by (is_of s name prefix) (last_ranked done r name prefix h)
  where
    by : (b : Bool) → is_some (rank_of (done ++ r ∷ []) name prefix) ≡ true → is_some (cond b (Some s.rank) (rank_of (done ++ r ∷ []) name prefix)) ≡ true
    by true rest = refl
    by false rest = rest

-- a row of a pair has its name and its prefix
of_pair : (done : List Rank) (r : Rank) (name prefix : List ℕ) → is_of r name prefix ≡ true → rank_of done r.node r.prefix ≡ None → rank_of done name prefix ≡ None
of_pair done r name prefix h new =
    let parts = and_parts (pointwise ◌==◌ r.node name) (pointwise ◌==◌ r.prefix prefix) h in
    let names : r.node ≡ name = same_text r.node name (sym parts.0) in
    let prefixes : r.prefix ≡ prefix = same_text r.prefix prefix (sym parts.1) in
    rw (← names, ← prefixes) new

-- a pair that has a rank has none behind
none_behind : (done rows : List Rank) (name prefix : List ℕ) → AddsRows done rows → is_some (rank_of done name prefix) ≡ true → rank_of rows name prefix ≡ None
none_behind done [] name prefix h there = refl
none_behind done (r ∷ rows) name prefix h there = by (is_of r name prefix) refl (none_behind (done ++ r ∷ []) rows name prefix h.2 (still_ranked done r name prefix there))
  where
    by : (b : Bool) → is_of r name prefix ≡ b → rank_of rows name prefix ≡ None → cond b (Some r.rank) (rank_of rows name prefix) ≡ None
    by true is rest = let none = of_pair done r name prefix is h.1 in absurd cc
    by false is rest = rest

-- a rank behind some rows is that of all of them
behind : (done rows : List Rank) (place : ℕ) (name prefix : List ℕ) (rank : ℕ) → AddsRows done rows → rank_of (drop place rows) name prefix ≡ Some rank → rank_of rows name prefix ≡ Some rank
behind done rows zero name prefix rank h is = is
behind done [] (suc place) name prefix rank h is = absurd cc
behind done (r ∷ rows) (suc place) name prefix rank h is = by (is_of r name prefix) refl (behind (done ++ r ∷ []) rows place name prefix rank h.2 is)
  where
    by : (b : Bool) → is_of r name prefix ≡ b → rank_of rows name prefix ≡ Some rank → cond b (Some r.rank) (rank_of rows name prefix) ≡ Some rank
    by true same rest = let none = none_behind (done ++ r ∷ []) rows name prefix h.2 (last_ranked done r name prefix same) in absurd cc
    by false same rest = rest

pub rank_here : (rows : List Rank) (place : ℕ) (name prefix : List ℕ) (rank : ℕ) → IsCert rows → rank_of (drop place rows) name prefix ≡ Some rank → rank_of rows name prefix ≡ Some rank
rank_here rows place name prefix rank h is = behind [] rows place name prefix rank h is
