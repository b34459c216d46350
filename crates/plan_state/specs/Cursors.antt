-- Where somebody who reads a trace goes on.
use Rattle.std.specs.Prelude.{ℕ, if◌then◌else◌, nat_lt}
use Rattle.plan_state.specs.declared.trace_search.Cursor.{Cursor}

-- before the first output of an entry, where that is a later one
abbrev pub skipped : ℕ → Cursor → Cursor
skipped entry c = if nat_lt c.entry entry then record { entry = entry; output = 0 } else c
