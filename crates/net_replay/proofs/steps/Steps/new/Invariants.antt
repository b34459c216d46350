use Rattle.std.proofs.Common.{◌≡◌, map, take}
use Rattle.net_replay.proofs.Merging.{rests_of}
use Rattle.net_replay.proofs.steps.Steps.new.Given as goal

abbrev pub invariant-loop-node : goal.invariant-loop-node
invariant-loop-node l = map (λ r. r.now) l.rests.items ≡ rests_of (take l.node-index l.nodes)
