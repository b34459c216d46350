-- What is counted of a pump once turns have passed.
use Rattle.std.specs.Prelude.{ℕ, ◌-◌, min}
use Rattle.link_rings.specs.Held.{turns_to_due}
use Rattle.plan_threads.specs.Turns.{turns_to_event}
use Rattle.plan_threads.specs.declared.pumps.Pump.{Pump}

-- after how many turns something happens
abbrev pub turns_ahead : Pump → ℕ
turns_ahead p = turns_to_event p.turns (turns_to_due p.held)

-- of the turns of the clock that were not counted, those in which nothing happens: in the last one it does
abbrev pub idle_turns : ℕ → Pump → ℕ
idle_turns now p = min (now - p.counted) (turns_ahead p - 1)
