-- Whose turn it is among sessions.
use Rattle.std.specs.Prelude.{ℕ, ◌+◌, Bool, true, false, List, drop, Option, Some, None, slice_set, if◌then◌else◌}
use Rattle.std.specs.List.{position}
use Rattle.plan_threads.specs.declared.queue.Standing.{Standing}
use Rattle.plan_threads.specs.declared.queue.Standing.TheVariants.{Out, Queued}

-- whose turn it is, and how each session stands
pub record QueueView : Type 0 where
  pub turn : Option ℕ
  pub standings : List Standing

-- whose turn it is once a session wants it
abbrev pub whose_turn : ℕ → QueueView → ℕ
whose_turn session q = whose q.turn
  where
    whose : Option ℕ → ℕ
    whose None = session
    whose (Some other) = other

-- it waits for its turn
abbrev pub is_queued : Standing → Bool
is_queued Out = false
is_queued Queued = true

-- whose turn it is behind a session: the first behind it that waits, or, where none does there, the first of all
abbrev pub next_queued : ℕ → List Standing → Option ℕ
next_queued session standings = next (position is_queued (drop (session + 1) standings))
  where
    next : Option ℕ → Option ℕ
    next None = position is_queued standings
    next (Some place) = Some (session + 1 + place)

-- nobody, or one of the sessions, waits no more
abbrev pub out : Option ℕ → List Standing → List Standing
out None standings = standings
out (Some session) standings = slice_set standings session Out

-- how the sessions stand once one goes on no more: it waits for its turn where there is more to do for it, and otherwise where it was called
abbrev pub standing_after : Bool → ℕ → List Standing → List Standing
standing_after more session standings = if more then slice_set standings session Queued else standings
