-- How the threads of a plan are told apart.
use Rattle.std.specs.Prelude.{ℕ, ◌+◌, ◌-◌, ◌^◌, min, nat_lt, Option, Some, None, if◌then◌else◌}
use Rattle.plan_threads.specs.declared.numbers.ThreadNumbers.{ThreadNumbers}

-- the host at a place, where it has one
abbrev pub host_at : ThreadNumbers → ℕ → Option ℕ
host_at threads n = if nat_lt n threads.hosts then Some (min (threads.pumps + n) (2 ^ 64 - 1)) else None

-- the place whose host has this number
abbrev pub node_of_host : ThreadNumbers → ℕ → ℕ
node_of_host threads thread = thread - threads.pumps

-- a session, by its place in the plan
abbrev pub session_at : ThreadNumbers → ℕ → ℕ
session_at threads place = min (min (threads.pumps + threads.hosts) (2 ^ 64 - 1) + place) (2 ^ 64 - 1)

-- the place in the plan of the session that has this number
abbrev pub place_of_session : ThreadNumbers → ℕ → ℕ
place_of_session threads thread = thread - min (threads.pumps + threads.hosts) (2 ^ 64 - 1)
