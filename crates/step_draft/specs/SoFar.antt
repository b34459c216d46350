-- Own approvals among the changes so far.
use Rattle.std.specs.Prelude.{List, [], ◌∷◌}
use Rattle.node_machine.specs.Books.{Taken}
use Rattle.node_machine.specs.Lists.{forget}
use Rattle.node_books.specs.declared.effect.Effect.{Effect}
use Rattle.node_books.specs.declared.effect.Effect.TheVariants as effects

-- own approvals, with their whole amounts
abbrev pub approved_in : List Effect → List Taken
approved_in [] = []
approved_in (effects.Approved a ∷ es) = forget a ∷ approved_in es
approved_in (e ∷ es) = approved_in es
