-- How long requests wait.
use Rattle.std.specs.Prelude.{ℕ, ◌+◌, ◌==◌, ◌&&◌, Bool, false, List, Option, Some, None, slice_index_or, if◌then◌else◌}
use Rattle.std.specs.Option.{option_map_or}
use Rattle.node_machine.specs.Lists.{Row, row_pending}

-- for how many ticks a request waits on each link, by its number, and for the host
pub record WaitsView : Type 0 where
  pub links : List ℕ
  pub host : ℕ

-- for how many ticks a request waits that was put on a link, or was asked of the host
abbrev pub waits_by : WaitsView → Option ℕ → Bool → Option ℕ
waits_by w (Some l) asked = Some (slice_index_or w.links l 0)
waits_by w None asked = if asked then Some w.host else None

-- pending, and its time is over at this count of ticks
abbrev pub is_over : WaitsView → ℕ → Row → Bool
is_over w now r = row_pending r && option_map_or (λ ticks. r.count + ticks == now) (waits_by w r.link r.asked) false
