-- Text that grows by a piece.
use Rattle.std.proofs.Common.{◌≡◌, ℕ, ◌<◌, ◌+◌, List, [], ◌++◌, take, get_or, length, codes}
use Rattle.std.proofs.lemmas.List.{take_more, flat_map_more}
use Rattle.net_rows.specs.Network.{Network}
use Rattle.net_rows.specs.declared.row.Acquirer.{Acquirer}
use Rattle.card_view.specs.View.{hop_text, fallbacks_text, acquirer_line, acquirer_lines}

pub fallbacks_more : (t : Network) (n : ℕ) (links : List ℕ) (i l : ℕ) → i < length links → l ≡ get_or links i l
    → fallbacks_text t n (take i links) ++ (codes ", fallback " ++ hop_text t n l) ≡ fallbacks_text t n (take (i + 1) links)
fallbacks_more t n links i l lt is = rw (take_more links i l, ← is) (flat_map_more (λ (m : ℕ). codes ", fallback " ++ hop_text t n m) [] (take i links) l)

pub acquirers_more : (t : Network) (card : List ℕ) (rows : List Acquirer) (i : ℕ) (a : Acquirer) → i < length rows → a ≡ get_or rows i a
    → acquirer_lines t card (take i rows) ++ acquirer_line t card a ≡ acquirer_lines t card (take (i + 1) rows)
acquirers_more t card rows i a lt is = rw (take_more rows i a, ← is) (flat_map_more (acquirer_line t card) [] (take i rows) a)
