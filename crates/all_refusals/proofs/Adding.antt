-- Refusals that come behind others.
use Rattle.std.proofs.Common.{◌≡◌, ℕ, ◌+◌, ◌<◌, List, [], ◌∷◌, ◌++◌, length, map, take, get_or, slice_get, nat_lt, true, Some, refl, sym, ap, ◌∙◌, append_assoc}
use Rattle.std.specs.List.{flat_map}
use Rattle.std.proofs.lemmas.Bool.{ltb-true}
use Rattle.std.proofs.lemmas.Option.{slice_get-get_or}
use Rattle.std.proofs.lemmas.List.{take_more, flat_map_more, map-append, append-nil}
use Rattle.net_rows.specs.Network.{Network}
use Rattle.all_refusals.specs.declared.row.RowRefusal.{RowRefusal}
use Rattle.all_refusals.specs.Rows.{Refused, shown, Adds}

pub none_added : (t : Network) (found : List RowRefusal) → Adds t found found []
none_added t found = sym (append-nil (map (shown t) found))

pub then : (t : Network) (old mid new : List RowRefusal) (xs ys : List Refused) → Adds t old mid xs → Adds t mid new ys → Adds t old new (xs ++ ys)
then t old mid new xs ys one two = two ∙ (rw one (append_assoc (map (shown t) old) xs ys))

-- an item more
pub next : {A : Type 0} (t : Network) (f : A → List Refused) (xs : List A) (i : ℕ) (x : A) (old mid new : List RowRefusal) → i < length xs → x ≡ get_or xs i x
    → Adds t old mid (flat_map f (take i xs)) → Adds t mid new (f x) → Adds t old new (flat_map f (take (i + 1) xs))
next t f xs i x old mid new lt is one two =
    then t old mid new (flat_map f (take i xs)) (f x) one two ∙ ap (λ (more : List Refused). map (shown t) old ++ more) (rw (take_more xs i x, ← is) (flat_map_more f [] (take i xs) x))

-- several lists, one behind the other
pub joined : {A : Type 0} (a b c d e : List A) → (((a ++ b) ++ c) ++ d) ++ e ≡ a ++ (b ++ (c ++ (d ++ (e ++ []))))
joined a b c d e =
    rw (append-nil e, append_assoc ((a ++ b) ++ c) d e, append_assoc (a ++ b) c (d ++ e), append_assoc a b (c ++ (d ++ e))) refl

pub behind : (xs a b c : List Refused) → ((xs ++ a) ++ b) ++ c ≡ xs ++ (a ++ (b ++ c))
behind xs a b c = rw (append_assoc (xs ++ a) b c, append_assoc xs a (b ++ c)) refl

-- what is shown of several lists
pub shown_each : {K : Type 0} (t : Network) (f : K → List RowRefusal) (g : K → List Refused) → ((k : K) → map (shown t) (f k) ≡ g k) → (ks : List K) → map (shown t) (flat_map f ks) ≡ flat_map g ks
shown_each t f g same [] = refl
shown_each t f g same (k ∷ ks) = map-append (shown t) (f k) (flat_map f ks) ∙ rw (same k, shown_each t f g same ks) refl

pub same_added : (t : Network) (old new : List RowRefusal) (xs ys : List Refused) → Adds t old new xs → xs ≡ ys → Adds t old new ys
same_added t old new xs ys adds is = adds ∙ ap (λ (more : List Refused). map (shown t) old ++ more) is

-- the row that a look-up gives
pub got : {A : Type 0} (xs : List A) (i : ℕ) (x : A) → true ≡ nat_lt i (length xs) → x ≡ get_or xs i x → slice_get xs i ≡ Some x
got xs i x lt is = slice_get-get_or xs i x (ltb-true i (length xs) (sym lt)) ∙ ap Some (sym is)
