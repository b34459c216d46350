use Rattle.std.proofs.Common.{◌≡◌, drop}
use Rattle.net_replay.specs.Packets.{put_all}
use Rattle.net_replay.proofs.packets.Packets.put_all.Given as goal

abbrev pub invariant-loop-index : goal.invariant-loop-index
invariant-loop-index l = put_all l.self l.entry l.index (drop l.index l.outputs) ≡ put_all l.initial.self l.entry 0 l.outputs
