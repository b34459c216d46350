-- Ids that stand twice, and timers that run too long, one after the other.
use Rattle.std.proofs.Common.{◌≡◌, ℕ, ◌+◌, ◌<◌, List, ◌++◌, length, map, take, drop, get_or, refl, ◌∙◌, append_assoc, arith}
use Rattle.std.proofs.lemmas.List.{drop_more, take_more, length-take-le}
use Rattle.net_rows.specs.Network.{Network}
use Rattle.net_rows.specs.declared.row.Link.{Link}
use Rattle.table_checker.specs.declared.refusal.Refusal.{Refusal}
use Rattle.all_refusals.specs.declared.row.RowRefusal.{RowRefusal}
use Rattle.all_refusals.specs.Rows.{Row, LinkAt, Refused, shown, Adds}
use Rattle.all_refusals.specs.Found.{of_row, again, repeated, too_long, long_from}

pub repeated_next : (refusal : List ℕ → Refusal) (row : ℕ → Row) (xs : List (List ℕ)) (i : ℕ) (x : List ℕ) → i < length xs → x ≡ get_or xs i x
    → repeated refusal row (take i xs) (drop i xs) ≡ of_row (row i) (again refusal (take i xs) x) ++ repeated refusal row (take (i + 1) xs) (drop (i + 1) xs)
repeated_next refusal row xs i x lt is = rw (drop_more xs i x, ← is) (rw (take_more xs i x, ← is, length-take-le i xs (omega arith)) refl)

pub long_next : (links : List Link) (i : ℕ) (l : Link) → i < length links → l ≡ get_or links i l → long_from i (drop i links) ≡ of_row (LinkAt i) (too_long l i) ++ long_from (i + 1) (drop (i + 1) links)
long_next links i l lt is = rw (drop_more links i l, ← is) refl

-- what was found, and what is still to be found
pub found_next : (t : Network) (found new : List RowRefusal) (here rest whole : List Refused) (all : List Refused) → Adds t found new here → whole ≡ here ++ rest → map (shown t) found ++ whole ≡ all → map (shown t) new ++ rest ≡ all
found_next t found new here rest whole all adds is before =
    rw adds (append_assoc (map (shown t) found) here rest ∙ (rw (← is) before))
