use Rattle.std.proofs.Common.{◌≡◌, ◌≤◌, ◌+◌, ◌-◌, ◌^◌, ℕ, List, Option, min, length}
use Rattle.std.specs.Io.KnownBytes.{Consumes}
use Rattle.bundle_input.proofs.input.read_all.Given as goal

pub record IsTaken (old new : Option (List ℕ)) (failures_old failures_new : ℕ) (first turns count : ℕ) (input : List ℕ) : Type 0 where
  pub taken : Consumes old new input
  pub few : length input ≤ 16_777_216
  pub unfailed : failures_new ≡ failures_old
  pub counted : min turns (2 ^ 64 - 1) ≡ min (first + count) (2 ^ 64 - 1)

abbrev pub invariant-loop : goal.invariant-loop
invariant-loop g l = IsTaken (g.R.Source.remaining l.fn.reader) (g.R.Source.remaining l.reader) (g.R.Source.failures l.fn.reader) (g.R.Source.failures l.reader) (g.R.Source.turns l.fn.reader) (g.R.Source.turns l.reader) l.counter l.input.items
