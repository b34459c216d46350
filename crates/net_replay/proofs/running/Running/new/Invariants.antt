use Rattle.std.proofs.Common.{◌≡◌, ℕ, ◌<◌, [], length, replicate, Some}
use Rattle.std.specs.Prelude.{slice_get}
use Rattle.net_replay.proofs.running.Running.new.Given as goal

abbrev pub invariant-loop-node : goal.invariant-loop-node
invariant-loop-node l =
    (length l.nodes.items ≡ l.node) × (length l.sent.items ≡ l.node)
    × ((n : ℕ) → n < l.node → slice_get l.nodes.items n ≡ Some (record { t = l.tables; n = n; trace = [] }))
    × ((n : ℕ) → n < l.node → slice_get l.sent.items n ≡ Some (replicate (length l.tables.links) []))
