-- Who is to be told.
use Rattle.std.specs.Prelude.{ℕ, Bool, List, ◌||◌, ◌==◌}
use Rattle.std.specs.List.{list_any}

-- sessions, hosts and pumps that are to be told, by their numbers, and whether all are
pub record CallsView : Type 0 where
  pub sessions : List ℕ
  pub hosts : List ℕ
  pub pumps : List ℕ
  pub all : Bool

-- a thread is to be told
abbrev pub is_called : ℕ → CallsView → Bool
is_called thread calls = calls.all || list_any (λ t. t == thread) calls.sessions || list_any (λ t. t == thread) calls.hosts || list_any (λ t. t == thread) calls.pumps
