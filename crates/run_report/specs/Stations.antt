-- What nodes approved by themselves and what they posted, as the law of the network has it.
use Rattle.std.specs.Prelude.{ℕ, Bool, true, false, length, count_by}
use Rattle.network_law.specs.Entries.{history}
use Rattle.network_law.specs.Traces.{Event, Out, History, Post, approvals}
use Rattle.net_threads.specs.Station.{StationView}

-- how many keys the node approved by itself: the own approvals of its history
abbrev pub own_approvals : StationView → ℕ
own_approvals s = length (approvals s.t (history s.trace))

-- the event posts an advice
abbrev pub is_posting : Event → Bool
is_posting (Out i (Post m)) = true
is_posting _ = false

-- how many advices a history posts
abbrev pub posts_in : History → ℕ
posts_in h = count_by is_posting h

-- how many advices the node posted
abbrev pub posts : StationView → ℕ
posts s = posts_in (history s.trace)
