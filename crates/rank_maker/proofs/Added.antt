-- Rows of a class that are added one by one or at once.
use Rattle.std.proofs.Common.{◌≡◌, ℕ, zero, suc, ◌+◌, ◌-◌, ◌≤◌, List, [], ◌∷◌, ◌++◌, length, drop, append-nil, append_assoc, length-append, length-drop, refl, ap, ◌∙◌, arith}
use Rattle.rank_rows.specs.declared.rank.Rank.{Rank}
use Rattle.rank_rows.specs.Ranks.{like_rows}
use Rattle.rank_rows.specs.Runs.{AreOf}
use Rattle.rank_maker.specs.Adding.{AddsOf}

pub none_added : (class : List ℕ) (rows : List Rank) → AddsOf class 0 rows rows
none_added class rows = record { more = []; whole = rw append-nil refl; many = refl; class_is = tt }

of_push : (rows : List Rank) (r : Rank) (class : List ℕ) → AreOf rows class → r.prefix ≡ class → AreOf (rows ++ r ∷ []) class
of_push [] r class all same = (same, tt)
of_push (s ∷ rows) r class all same = (all.0, of_push rows r class all.1 same)

pub one_added : (class : List ℕ) (count : ℕ) (old rows new : List Rank) (r : Rank) → AddsOf class count old rows → new ≡ rows ++ r ∷ [] → r.prefix ≡ class → AddsOf class (count + 1) old new
one_added class count old rows new r h whole same = record {
  more = h.more ++ r ∷ [];
  whole = whole ∙ rw h.whole (append_assoc old h.more (r ∷ []));
  many = rw (length-append, h.many) refl;
  class_is = of_push h.more r class h.class_is same;
}

of_like : (run : List Rank) (class ranks : List ℕ) → AreOf (like_rows run class ranks) class
of_like [] class ranks = tt
of_like (r ∷ run) class [] = tt
of_like (r ∷ run) class (k ∷ ranks) = (refl, of_like run class ranks)

many_like : (run : List Rank) (class ranks : List ℕ) → length run ≡ length ranks → length (like_rows run class ranks) ≡ length ranks
many_like [] class [] e = refl
many_like [] class (k ∷ ranks) e = absurd (omega arith)
many_like (r ∷ run) class [] e = absurd (omega arith)
many_like (r ∷ run) class (k ∷ ranks) e = ap (λ (n : ℕ). suc n) (many_like run class ranks (omega arith))

pub all_added : (class ranks : List ℕ) (old new : List Rank) (place : ℕ) → length old ≡ place + length ranks → new ≡ old ++ like_rows (drop place old) class ranks → AddsOf class (length ranks) old new
all_added class ranks old new place e whole =
    let run = drop place old in
    let many : length run ≡ length ranks = omega (arith, length-drop place old) in
    record { more = like_rows run class ranks; whole = whole; many = many_like run class ranks many; class_is = of_like run class ranks }
