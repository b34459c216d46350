use Rattle.advice_slots.specs.Kept.{IsLooked, order}
use Rattle.advice_slots.proofs.wheel.find_in.Given as goal

abbrev pub invariant-loop : goal.invariant-loop
invariant-loop l = IsLooked l.wanted l.wheel.slots (order l.wheel) l.counter l.cursor
