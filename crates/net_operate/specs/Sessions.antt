-- What sessions end with.
use Rattle.std.specs.Prelude.{◌≡◌, ℕ, List, ⊤}
use Rattle.std.specs.List.{AllZip}
use Rattle.plan_state.specs.Keys.{IsAnswerTo}
use Rattle.run_plan.specs.declared.plan.Session.{Session}
use Rattle.net_threads.specs.declared.ended.LineEnd.{LineEnd}
use Rattle.net_threads.specs.declared.ended.LineEnd.TheVariants.{Answer, Nothing, Refused}
use Rattle.net_threads.specs.declared.ended.SessionEnd.{SessionEnd}

-- an answer has the key of its line
abbrev pub LineFits : List ℕ → LineEnd → Type 0
LineFits line (Answer bytes) = IsAnswerTo line bytes.items
LineFits line Nothing = ⊤
LineFits line (Refused fault) = ⊤

-- one end for each line, at the session's node
pub record SessionFits (s : Session) (e : SessionEnd) : Type 0 where
  pub node : e.node ≡ s.node
  pub lines : AllZip (λ l. LineFits l.now) s.lines.items e.lines.items
