use Rattle.std.proofs.Common.{◌≡◌, ◌≤◌, ◌-◌, ◌∷◌, ◌++◌}
use Rattle.rows_in_force.specs.Own.{places_from}
use Rattle.rows_in_force.proofs.own.push_run.Given as goal

abbrev pub invariant-loop-next : goal.invariant-loop-next
invariant-loop-next l = record {
  from : l.place ≤ l.next;
  items : l.before.items ≡ l.fn.before.items ++ l.fn.earlier ∷ places_from l.place (l.next - l.place);
}
