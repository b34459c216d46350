-- The way of a card, node by node.
use Rattle.std.proofs.Common.{◌≡◌, ◌≢◌, ℕ, zero, suc, ◌-◌, true, false, List, [], ◌∷◌, ◌++◌, codes, slice_get, Some, refl, append_assoc}
use Rattle.std.proofs.Math.Numerals.{sub-one}
use Rattle.net_rows.specs.Network.{Network, issuer, route, other_end}
use Rattle.serde_json.specs.Data.{Data}
use Rattle.card_view.specs.View.{is_home, links_of}
use Rattle.card_json.specs.CardJson.{hop_data, way_end, way_hops}

-- at the home, and at a node without a row, the way ends

pub hops_home : (t : Network) (card : List ℕ) (k n : ℕ) → k ≢ 0 → is_home (issuer t card) n ≡ true → way_hops t card k n ≡ []
hops_home t card zero n some home = absurd (some refl)
hops_home t card (suc k) n some home = rw home refl

pub end_home : (t : Network) (card : List ℕ) (k n : ℕ) → k ≢ 0 → is_home (issuer t card) n ≡ true → way_end t card k n ≡ codes "home"
end_home t card zero n some home = absurd (some refl)
end_home t card (suc k) n some home = rw home refl

pub hops_stop : (t : Network) (card : List ℕ) (k n : ℕ) → k ≢ 0 → is_home (issuer t card) n ≡ false → links_of (route t n card) ≡ [] → way_hops t card k n ≡ []
hops_stop t card zero n some away none = absurd (some refl)
hops_stop t card (suc k) n some away none = rw (away, none) refl

pub end_stops : (t : Network) (card : List ℕ) (k n : ℕ) → k ≢ 0 → is_home (issuer t card) n ≡ false → links_of (route t n card) ≡ [] → way_end t card k n ≡ codes "no route"
end_stops t card zero n some away none = absurd (some refl)
end_stops t card (suc k) n some away none = rw (away, none) refl

-- elsewhere it goes on from the other end of the first link

pub hops_go : (t : Network) (card : List ℕ) (k n l : ℕ) (links : List ℕ) (before : List Data) → k ≢ 0 → is_home (issuer t card) n ≡ false → links ≡ links_of (route t n card) → slice_get links 0 ≡ Some l
    → (before ++ hop_data t n links ∷ []) ++ way_hops t card (k - 1) (other_end t n l) ≡ before ++ way_hops t card k n
hops_go t card zero n l links before some away is first = absurd (some refl)
hops_go t card (suc k) n l [] before some away is first = absurd cc
hops_go t card (suc k) n l (x ∷ xs) before some away is first =
    let one : x ≡ l = cc in
    rw (append_assoc, sub-one (suc k), away, ← is, one) refl

pub end_goes : (t : Network) (card : List ℕ) (k n l : ℕ) (links : List ℕ) → k ≢ 0 → is_home (issuer t card) n ≡ false → links ≡ links_of (route t n card) → slice_get links 0 ≡ Some l
    → way_end t card (k - 1) (other_end t n l) ≡ way_end t card k n
end_goes t card zero n l links some away is first = absurd (some refl)
end_goes t card (suc k) n l [] some away is first = absurd cc
end_goes t card (suc k) n l (x ∷ xs) some away is first =
    let one : x ≡ l = cc in
    rw (sub-one (suc k), away, ← is, one) refl
