use Rattle.std.proofs.Common.{◌≡◌, [], replicate}
use Rattle.net_replay.proofs.packets.Packets.new.Given as goal

abbrev pub invariant-loop : goal.invariant-loop
invariant-loop l = l.links.items ≡ replicate l.counter []
