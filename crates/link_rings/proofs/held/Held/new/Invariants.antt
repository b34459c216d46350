use Rattle.std.proofs.Common.{◌≡◌, [], replicate}
use Rattle.link_rings.proofs.held.Held.new.Given as goal

abbrev pub invariant-loop : goal.invariant-loop
invariant-loop l = l.rings.items ≡ replicate l.counter []
