-- The way of a card, node by node.
use Rattle.std.proofs.Common.{◌≡◌, ◌≢◌, ℕ, zero, suc, ◌-◌, true, false, List, [], ◌∷◌, ◌++◌, codes, slice_get, Some, refl}
use Rattle.std.proofs.Math.Numerals.{sub-one}
use Rattle.net_rows.specs.Network.{Network, issuer, route, other_end}
use Rattle.card_view.specs.View.{is_home, links_of, hops_text, way_text}

pub way_home : (t : Network) (card : List ℕ) (k n : ℕ) → k ≢ 0 → is_home (issuer t card) n ≡ true → way_text t card k n ≡ codes " home"
way_home t card zero n some home = absurd (some refl)
way_home t card (suc k) n some home = rw home refl

pub way_stops : (t : Network) (card : List ℕ) (k n : ℕ) → k ≢ 0 → is_home (issuer t card) n ≡ false → links_of (route t n card) ≡ [] → way_text t card k n ≡ codes " no route"
way_stops t card zero n some away none = absurd (some refl)
way_stops t card (suc k) n some away none = rw (away, none) refl

pub way_goes : (t : Network) (card : List ℕ) (k n l : ℕ) (links : List ℕ) → k ≢ 0 → is_home (issuer t card) n ≡ false → links ≡ links_of (route t n card) → slice_get links 0 ≡ Some l
    → (hops_text t n links ++ codes ";") ++ way_text t card (k - 1) (other_end t n l) ≡ way_text t card k n
way_goes t card zero n l links some away is first = absurd (some refl)
way_goes t card (suc k) n l [] some away is first = absurd cc
way_goes t card (suc k) n l (x ∷ xs) some away is first =
    let one : x ≡ l = cc in
    rw (sub-one (suc k), away, ← is, one) refl
