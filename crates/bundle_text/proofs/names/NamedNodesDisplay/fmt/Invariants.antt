use Rattle.std.proofs.Common.{◌∷◌, ℕ, take}
use Rattle.std.specs.List.{flat_map}
use Rattle.std.specs.Fmt.{HasWritten, IsPlainFormatter}
use Rattle.bundle_text.specs.Lines.{node_name}
use Rattle.bundle_text.proofs.names.NamedNodesDisplay.fmt.Given as goal

abbrev pub invariant-loop-node : goal.invariant-loop-node
invariant-loop-node g l = IsPlainFormatter l.initial.f → HasWritten g.W.Write.write_str_gives l.initial.f (flat_map (λ (n : ℕ). 32 ∷ node_name l.tables n) (take l.node-index l.node-items)) l.f
