use Rattle.std.proofs.Common.{◌≡◌, ◌≤◌, ℕ, List, length}
use Rattle.std.specs.Vec.Iter.{drain_items}
use Rattle.node_machine.specs.Lists.{Lists}
use Rattle.node_books.specs.declared.effect.Effect.{Effect}
use Rattle.node_books.specs.Effects.{applied}
use Rattle.node_books.specs.Values.{AreFew}
use Rattle.entry_changes.proofs.changes.apply_each.Given as goal

-- the changes that are left give what all of them give
pub record Rest (rest all : List Effect) (room : ℕ) (now before : Lists) : Type 0 where
  pub same : applied rest now ≡ applied all before
  pub fits : length rest ≤ room
  pub few : AreFew (applied rest now)

abbrev pub invariant-loop-effect : goal.invariant-loop-effect
invariant-loop-effect l = Rest (drain_items l.effect-iterator) (drain_items l.initial.effect-iterator) l.books.room l.books.lists l.fn.books.lists
