-- Turns that pass, and what happens in them.
use Rattle.std.specs.Prelude.{ℕ, ◌-◌, ◌==◌, min, Option, Some, None, if◌then◌else◌}
use Rattle.turn_clock.specs.Sooner.{sooner}

-- the turns that a pump has left, after how many of them a tick comes, and how many there were since the last; no tick comes after none
pub record PumpTurnsView : Type 0 where
  pub left : ℕ
  pub tick_every : ℕ
  pub since_tick : ℕ

-- the turns that a host has left, or a session for one of its lines, and those of the clock up to which these are counted
pub record ClockTurnsView : Type 0 where
  pub left : ℕ
  pub counted : ℕ

-- how many turns it takes until a tick, where there are ticks
abbrev pub turns_to_tick : PumpTurnsView → Option ℕ
turns_to_tick t = if t.tick_every == 0 then None else Some (t.tick_every - t.since_tick)

-- the least number of turns after which something happens: a tick, a packet that was held back is taken, or they are over
abbrev pub turns_to_event : PumpTurnsView → Option ℕ → ℕ
turns_to_event t held = least (sooner (turns_to_tick t) held)
  where
    least : Option ℕ → ℕ
    least None = t.left
    least (Some turns) = min turns t.left
