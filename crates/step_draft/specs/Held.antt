-- Outputs as an entry keeps them.
use Rattle.std.specs.Prelude.{List, [], ◌∷◌}
use Rattle.network_law.specs.Entries.{Output}
use Rattle.step_draft.specs.declared.outputs.Held.{Held}
use Rattle.step_draft.specs.declared.outputs.Held.TheVariants as held

-- in order
abbrev pub held_outputs : Held → List Output
held_outputs held.Nothing = []
held_outputs (held.One o) = o ∷ []
held_outputs (held.Several v) = v.items
