use Rattle.std.proofs.Common.{◌≡◌, ◌+◌, ◌*◌, ◌≤◌, drop}
use Rattle.network_law.specs.Traces.{added}
use Rattle.step_draft.specs.SoFar.{approved_in}
use Rattle.step_draft.specs.Used.{counted_by}
use Rattle.step_draft.proofs.used.approved_total.Given as goal

-- the sum so far and that of the rest make all, and each amount is below 10^12
abbrev pub invariant-loop-effect : goal.invariant-loop-effect
invariant-loop-effect l = record {
  whole : l.sum + added (counted_by l.books.lists.marks l.card l.date) (approved_in (drop l.effect-index l.effects)) ≡ added (counted_by l.books.lists.marks l.card l.date) (approved_in l.effects);
  small : l.sum ≤ 1000000000000 * l.effect-index;
}
