-- Links and their ends in checked tables.
use Rattle.std.proofs.Common.{◌≡◌, ℕ, zero, suc, ◌<◌, List, [], ◌∷◌, length, Option, Some, None, Bool, true, false, cond, eqb, refl, subst, ◌||◌}
use Rattle.std.specs.Prelude.{slice_get}
use Rattle.std.specs.List.{AllByRecursion}
use Rattle.std.specs.Option.{option_map_or}
use Rattle.std.proofs.lemmas.Option.{slice_get_within}
use Rattle.net_rows.specs.Network.{Network, other_end}
use Rattle.net_rows.specs.Sound.{HasEnds}
use Rattle.net_rows.specs.declared.row.Link.{Link}
use Rattle.network_law.specs.Checked.{IsChecked}
use Rattle.network_law.specs.Tables.{is_link_of}

at_place : {X : Type 0} (P : X → Type 0) (xs : List X) (i : ℕ) (x : X) → AllByRecursion P xs → slice_get xs i ≡ Some x → P x
at_place P [] i x all e = absurd (no e)
  where
    no : None ≡ Some x → ⊥
    no p = cc
at_place {X = X} P (y ∷ xs) zero x all e = subst P (same e) all.0
  where
    same : ◌≡◌ {A = Option X} (Some y) (Some x) → y ≡ x
    same p = cc
at_place P (y ∷ xs) (suc i) x all e = at_place P xs i x all.1 e

-- a link of a node is a link of the tables
pub link_there : (t : Network) (n l : ℕ) → is_link_of t n l ≡ true → l < length t.links
link_there t n l own = go (slice_get t.links l) refl own
  where
    go : (o : Option Link) → slice_get t.links l ≡ o → option_map_or (λ (k : Link). eqb k.from n || eqb k.to n) o false ≡ true → l < length t.links
    go None at e = cc
    go (Some k) at e = slice_get_within t.links l k at

-- and its other end a node of them
pub end_there : (t : Network) → IsChecked t → (n l : ℕ) → is_link_of t n l ≡ true → other_end t n l < length t.nodes
end_there t checked n l own = go (slice_get t.links l) refl own
  where
    go : (o : Option Link) → slice_get t.links l ≡ o → option_map_or (λ (k : Link). eqb k.from n || eqb k.to n) o false ≡ true → option_map_or (λ (k : Link). cond (eqb k.from n) k.to k.from) (slice_get t.links l) n < length t.nodes
    go None at e = cc
    go (Some k) at e = rw at (either (eqb k.from n))
      where
        ends : HasEnds (length t.nodes) k
        ends = at_place (HasEnds (length t.nodes)) t.links l k checked.sound.ends at

        either : (b : Bool) → cond b k.to k.from < length t.nodes
        either true = ends.to
        either false = ends.from
