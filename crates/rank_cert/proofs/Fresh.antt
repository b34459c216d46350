-- Lines whose rows have the names of a run, one after the other, and a prefix that has no row.
use Rattle.std.proofs.Common.{◌≡◌, ℕ, ◌+◌, ◌<◌, ◌≤◌, ◌++◌, List, [], ◌∷◌, Some, refl, sym, ap, ◌∙◌, arith, length, take, drop, set, get_or, append_assoc, append-nil}
use Rattle.std.proofs.lemmas.List.{take_more_set, length-take-le}
use Rattle.card_digits.specs.Lines.{lines}
use Rattle.rank_rows.specs.declared.rank.Rank.{Rank}
use Rattle.rank_rows.specs.Ranks.{like_rows, AddsRows, IsCert}
use Rattle.rank_cert.specs.Reading.{rows_in, rows_with}
use Rattle.rank_cert.specs.Like.{IsLike, AreLike}
use Rattle.rank_cert.proofs.LineFields.{one_more}
use Rattle.rank_rows.proofs.Repeated.{like_some, like-push, IsCert-behind}

-- ---- the lines are read one after the other

are_like-push : (text : List ℕ) (rows : List Rank) (rest behind : List ℕ) (r : Rank) → AreLike text rows rest → IsLike rest r behind → AreLike text (rows ++ r ∷ []) behind
are_like-push text [] rest behind r like is = (behind, rw like is, refl)
are_like-push text (s ∷ rows) rest behind r like is = (like.0, like.1, are_like-push like.0 rows rest behind r like.2 is)

pub are_shorter : (text : List ℕ) (rows : List Rank) (rest : List ℕ) → AreLike text rows rest → length rest ≤ length text
are_shorter text [] rest like = omega (arith, ap length like)
are_shorter text (r ∷ rows) rest like = omega (arith, like.1.shorter, are_shorter like.0 rows rest like.2)

-- the first row is that of the line in front of them
pub none_yet : (run : List Rank) (prefix ranks : List ℕ) → drop 1 (like_rows run prefix (take 1 ranks)) ≡ []
none_yet [] prefix ranks = refl
none_yet (r ∷ run) prefix [] = refl
none_yet (r ∷ []) prefix (k ∷ ranks) = refl
none_yet (r ∷ s ∷ run) prefix (k ∷ ranks) = refl

behind_first : (rows : List Rank) (r : Rank) → 0 < length rows → drop 1 (rows ++ r ∷ []) ≡ drop 1 rows ++ r ∷ []
behind_first [] r some = absurd (omega (arith, some))
behind_first (s ∷ rows) r some = refl

-- one line more
pub one_read : (text rest behind : List ℕ) (run : List Rank) (prefix ranks : List ℕ) (i k : ℕ) (d : Rank) → 0 < i → i < length run → i < length ranks
    → AreLike text (drop 1 (like_rows run prefix (take i ranks))) rest → IsLike rest (record { node = (get_or run i d).node; prefix = prefix; rank = k }) behind
    → AreLike text (drop 1 (like_rows run prefix (take (i + 1) (set ranks i k)))) behind
one_read text rest behind run prefix ranks i k d some within room like is =
    let row : Rank = record { node = (get_or run i d).node; prefix = prefix; rank = k } in
    let count : length (take i ranks) ≡ i = length-take-le i ranks (omega (arith, room)) in
    let next : like_rows run prefix (take (i + 1) (set ranks i k)) ≡ like_rows run prefix (take i ranks) ++ row ∷ [] =
    ap (like_rows run prefix) (take_more_set ranks i k room)
    ∙ (like-push run prefix (take i ranks) k d (omega (arith, count, within))
    ∙ ap (λ (j : ℕ). like_rows run prefix (take i ranks) ++ record { node = (get_or run j d).node; prefix = prefix; rank = k } ∷ []) count) in
    rw (next, behind_first (like_rows run prefix (take i ranks)) row (like_some run prefix (take i ranks) (omega (arith, within)) (omega (arith, count, some))))
    (are_like-push text (drop 1 (like_rows run prefix (take i ranks))) rest behind row like is)

-- ---- their rows are new

all_new : (done : List Rank) (text : List ℕ) (more : List Rank) (rest : List ℕ) → AddsRows done more → AreLike text more rest → rows_in done (lines text) ≡ rows_in (done ++ more) (lines rest)
all_new done text [] rest adds like = rw (like, append-nil) refl
all_new done text (r ∷ more) rest adds like =
    one_more done (done ++ r ∷ []) text like.0 r like.1 (rw adds.1 refl) refl
    ∙ (all_new (done ++ r ∷ []) like.0 more rest adds.2 like.2 ∙ ap (λ (rows : List Rank). rows_in rows (lines rest)) (append_assoc done (r ∷ []) more))

-- a row and those behind it
pub with_all : (old new run : List Rank) (row : Rank) (ranks text rest : List ℕ) → IsCert new → new ≡ old ++ like_rows run row.prefix ranks → 0 < length run → 0 < length ranks
    → ((r : Rank) (rs : List Rank) → run ≡ r ∷ rs → r.node ≡ row.node) → get_or ranks 0 0 ≡ row.rank → AreLike text (drop 1 (like_rows run row.prefix ranks)) rest
    → rows_with old (Some row) (lines text) ≡ rows_in new (lines rest)
with_all old new [] row ranks text rest cert whole some more named first like = absurd (omega (arith, some))
with_all old new (r ∷ run) row [] text rest cert whole some more named first like = absurd (omega (arith, more))
with_all old new (r ∷ run) row (k ∷ ranks) text rest cert whole some more named first like =
    let behind = like_rows run row.prefix ranks in
    let at : like_rows (r ∷ run) row.prefix (k ∷ ranks) ≡ row ∷ behind = rw (named r run refl, first) refl in
    let all : new ≡ old ++ row ∷ behind = whole ∙ ap (λ (rs : List Rank). old ++ rs) at in
    let adds : AddsRows old (row ∷ behind) = IsCert-behind old (row ∷ behind) (rw all at cert) in
    let goes_on : rows_in (old ++ row ∷ []) (lines text) ≡ rows_in new (lines rest) =
    all_new (old ++ row ∷ []) text behind rest adds.2 like ∙ ap (λ (rs : List Rank). rows_in rs (lines rest)) (append_assoc old (row ∷ []) behind ∙ sym all) in
    rw adds.1 goes_on
