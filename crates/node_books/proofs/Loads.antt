-- The places taken, by rows.
use Rattle.std.specs.Prelude.{count_by}
use Rattle.node_machine.specs.Books.{Stored}
use Rattle.std.proofs.Common.{◌≡◌, ◌+◌, ◌*◌, length, List, [], ◌∷◌, ℕ, Bool, true, false, cond, Some, None, refl, sym, subst, ◌∙◌, ap, inl, inr}
use Rattle.message_keys.specs.Keys.{key_eq}
use Rattle.message_keys.proofs.Equality.{key_eq_refl, key_eq_is}
use Rattle.network_law.specs.Traces.{IsIn}
use Rattle.net_rows.specs.Network.{Network}
use Rattle.node_machine.specs.Machine as machine
use Rattle.node_machine.specs.Lists as lists
use Rattle.node_machine.specs.Lists.{Row, Lists, of_key, row_key, view}
use Rattle.node_machine.proofs.Readings as readings
use Rattle.pending_book.specs.Rows.{IsUnique}

pub one_row : (rows : List Row) → IsUnique rows → (r : Row) → IsIn r rows → of_key (row_key r) rows ≡ Some r
one_row [] u r m = absurd m
one_row (y ∷ ys) u r (inl e) = subst (λ z. cond (key_eq (row_key y) (row_key z)) (Some y) (of_key (row_key z) ys) ≡ Some z) e (let k = key_eq_refl (row_key y) in rw k refl)
one_row (y ∷ ys) u r (inr m) = go (one_row ys u.1 r m) (key_eq (row_key y) (row_key r)) refl
  where
    go : of_key (row_key r) ys ≡ Some r → (b : Bool) → key_eq (row_key y) (row_key r) ≡ b → cond (key_eq (row_key y) (row_key r)) (Some y) (of_key (row_key r) ys) ≡ Some r
    go rest true e = let none : of_key (row_key r) ys ≡ None = subst (λ k. of_key k ys ≡ None) (key_eq_is (row_key y) (row_key r) e) u.0 in cc
    go rest false e = rw e rest

pub load_is : (t : Network) (n : ℕ) (x : Lists) → IsUnique x.rows → lists.places x ≡ machine.load (view t n x)
load_is t n x u = sym (readings.load_is t n x (one_row x.rows u))

pub load_at : (t : Network) (n : ℕ) (x : Lists) (stored : List Stored) (rows : List Row) → IsUnique rows → x.store ≡ stored → x.rows ≡ rows → length stored + 2 * count_by lists.row_pending rows ≡ machine.load (view t n x)
load_at t n x stored rows u e f = ap (λ z. length z + 2 * count_by lists.row_pending rows) (sym e) ∙ (ap (λ z. length x.store + 2 * count_by lists.row_pending z) (sym f) ∙ load_is t n x (subst IsUnique (sym f) u))
