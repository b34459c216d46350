use Rattle.std.proofs.Common.{◌≡◌, take}
use Rattle.std.specs.Prelude.{map}
use Rattle.rows_in_force.specs.LinkEnds.{ends_of}
use Rattle.rows_in_force.proofs.link_ends.LinkEnds.new.Given as goal

abbrev pub invariant-loop-place : goal.invariant-loop-place
invariant-loop-place l = take l.place l.ends ≡ map ends_of (take l.place l.links)
