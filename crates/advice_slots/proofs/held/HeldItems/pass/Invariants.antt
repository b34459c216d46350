use Rattle.std.proofs.Common.{◌≡◌, ◌+◌, ◌%◌}
use Rattle.advice_slots.proofs.held.HeldItems.pass.Given as goal

abbrev pub invariant-loop : goal.invariant-loop
invariant-loop l = record {
  turn : l.self.turn ≡ (l.fn.self.turn + l.counter) % l.fn.self.ticks;
  rest : l.self ≡ record l.fn.self { turn = l.self.turn; visits = l.self.visits };
}
