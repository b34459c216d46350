-- The text of a step in pieces.
use Rattle.std.proofs.Common.{◌≡◌, ℕ, List, [], ◌∷◌, ◌++◌, codes, sym, ap, ◌∙◌, append_assoc, append-nil}
use Rattle.std.specs.Fmt.{decimal}
use Rattle.std.specs.List.{concat, flat_map}
use Rattle.net_rows.specs.Network.{Network}
use Rattle.bundle_text.specs.Lines.{node_name}
use Rattle.net_replay.specs.Steps.{Step}
use Rattle.replay_text.specs.Lines.{output_text, step_text}

-- the first line of a step, and the lines behind it
pub step_pieces : (t : Network) (number : ℕ) (s : Step) (digits name : List ℕ) → digits ≡ decimal number → name ≡ node_name t s.node → concat (digits ∷ codes " " ∷ name ∷ codes "\n" ∷ []) ++ flat_map (output_text t) s.entry.outputs ≡ step_text t number s
step_pieces t number s digits name d n = rw (d, n) (ap (λ z. z ++ flat_map (output_text t) s.entry.outputs) (ap (λ z. decimal number ++ z) (ap (λ z. codes " " ++ (node_name t s.node ++ z)) (append-nil (codes "\n"))) ∙ same))
  where
    same : decimal number ++ (codes " " ++ (node_name t s.node ++ codes "\n")) ≡ ((decimal number ++ 32 ∷ node_name t s.node) ++ codes "\n")
    same = sym (append_assoc (decimal number) (32 ∷ node_name t s.node) (codes "\n"))
