-- A pair more, after those that were read.
use Rattle.std.proofs.Common.{◌≡◌, ℕ, List, [], ◌∷◌, ◌++◌, Option, Some, None, option_map, option_and_then, refl, ◌∙◌}
use Rattle.toml.specs.Data.{Members, get_member}
use Rattle.toml.specs.Tables.{Nodes, no_nodes, close, put, key_value, value, along_dots}
use Rattle.toml.proofs.Turns.{at_key_new}
use Rattle.toml_rows.specs.Rows.{Pair, pair_line, AreLines, with_pairs, IsLine, ArePairs, with_member}
use Rattle.toml_rows.proofs.Members.{close_insert, none_there}
use Rattle.toml_rows.proofs.Documents.{closed}

lines_more : (ps : List Pair) (p : Pair) (text next rest : List ℕ) → AreLines ps text next → IsLine (pair_line p) next rest → AreLines (ps ++ p ∷ []) text rest
lines_more [] p text next rest are is = (rest, rw (← are) at is, refl)
lines_more (q ∷ ps) p text next rest are is =
    let (after, here, below) = are in
    (after, here, lines_more ps p after next rest below is)

pairs_more : (ps : List Pair) (p : Pair) (ns : Nodes) → with_pairs (ps ++ p ∷ []) ns ≡ option_and_then (put ([], p.0) p.1) (with_pairs ps ns)
pairs_more [] p ns = one (put ([], p.0) p.1 ns)
  where
    one : (o : Option Nodes) → option_and_then (with_pairs []) o ≡ o
    one None = refl
    one (Some new) = refl
pairs_more (q ∷ ps) p ns = go (put ([], q.0) q.1 ns) (λ new. pairs_more ps p new)
  where
    go : (o : Option Nodes) → ((new : Nodes) → with_pairs (ps ++ p ∷ []) new ≡ option_and_then (put ([], p.0) p.1) (with_pairs ps new))
        → option_and_then (with_pairs (ps ++ p ∷ [])) o ≡ option_and_then (put ([], p.0) p.1) (option_and_then (with_pairs ps) o)
    go None more = refl
    go (Some new) more = more new

put_new : (p : Pair) (ns : Nodes) → get_member p.0 (close ns) ≡ None → option_map close (put ([], p.0) p.1 ns) ≡ Some (with_member p.0 p.1 (close ns))
unfolding along_dots
put_new p ns none = rw (at_key_new p.0 (key_value p.1) ns (none_there p.0 ns none), close_insert p.0 (value p.1) ns)

pub pair_more : (p : Pair) (members : Members) (text next rest : List ℕ) → ArePairs members text next → IsLine (pair_line p) next rest → get_member p.0 members ≡ None
    → ArePairs (with_member p.0 p.1 members) text rest
pair_more p members text next rest are is none =
    let (ns, made, same) = closed (with_pairs are.pairs no_nodes) members are.make in
    record {
      pairs = are.pairs ++ p ∷ [];
      stand = lines_more are.pairs p text next rest are.stand is;
      make = rw (pairs_more are.pairs p no_nodes, made) (put_new p ns (rw same none) ∙ rw same);
    }
