-- What the lines of a plan say together.
use Rattle.std.specs.Prelude.{◌≡◌, ◌⊎◌, ℕ, ◌+◌, ◌-◌, ◌==◌, ◌++◌, nat_le, List, [], ◌∷◌, length, map, replicate, codes, bytes_eq, slice_get, slice_set, Option, Some, None, Result, Ok, Err, MatchResult, if◌then◌else◌, option_and_then}
use Rattle.std.specs.List.{list_any, position}
use Rattle.std.specs.Option.{option_map, is_some}
use Rattle.card_digits.specs.Numbers.{pad11}
use Rattle.net_rows.specs.Network.{Network}
use Rattle.run_plan.specs.declared.fault.PlanFault.{PlanFault}
use Rattle.run_plan.specs.declared.fault.PlanFault.TheVariants.{Line, Acquirer, NoEnd, Memory}
use Rattle.run_plan.specs.declared.faults.LinkFaults.{LinkFaults}
use Rattle.run_plan.specs.declared.line.Setting.{Setting}
use Rattle.run_plan.specs.declared.line.Setting.TheVariants.{Host, Lose, Delay, Repeat, Lend}
use Rattle.replay_script.specs.declared.command.Loan.{Loan}
use Rattle.run_plan.specs.declared.faults.Delay.{Delay as DelayOf}
use Rattle.run_plan.specs.declared.plan.Session.{Session}
use Rattle.run_plan.specs.declared.plan.Plan.{Plan}
use Rattle.run_plan.specs.Faults.{sound}
use Rattle.run_plan.specs.Lines as said
use Rattle.run_plan.specs.Lines.{numbered, read_line}

-- a session at a node, and the messages that are sent in it
pub record SessionView : Type 0 where
  pub node : ℕ
  pub lines : List (List ℕ)

abbrev pub session_of : Session → SessionView
session_of s = record { node = s.node; lines = map (λ l. l.now) s.lines.items }

-- what lines behind the head say so far
pub record DraftView : Type 0 where
  pub limits : List ℕ
  pub faults : List LinkFaults
  pub loans : List Loan
  pub sessions : List SessionView
  pub hosts : List ℕ  -- the nodes whose hosts have a line
  pub acquirers : List ℕ  -- the rows of the acquirers that have a session

-- at first no host approves anything, and no link has faults
abbrev pub nothing : Network → DraftView
nothing t = record { limits = replicate (length t.nodes) 0; faults = replicate (length t.links) sound; loans = []; sessions = []; hosts = []; acquirers = [] }

-- each host has one line
abbrev pub set_host : DraftView → ℕ → ℕ → Option DraftView
set_host d n amount = if list_any (λ h. h == n) d.hosts then None else Some (record d { limits = slice_set d.limits n amount; hosts = d.hosts ++ n ∷ [] })

abbrev pub lose : ℕ → LinkFaults → Option LinkFaults
lose every f = if is_some f.lose then None else Some (record f { lose = Some every })

abbrev pub delay : DelayOf → LinkFaults → Option LinkFaults
delay d f = if is_some f.delay then None else Some (record f { delay = Some d })

abbrev pub repeat : ℕ → LinkFaults → Option LinkFaults
repeat every f = if is_some f.repeat then None else Some (record f { repeat = Some every })

abbrev pub set_faults : DraftView → ℕ → Option LinkFaults → Option DraftView
set_faults d l faults = option_map (λ f. record d { faults = slice_set d.faults l f }) faults

-- each link has one line of each kind
abbrev pub set : DraftView → Setting → Option DraftView
set d (Host n amount) = set_host d n amount
set d (Lose l every) = set_faults d l (option_and_then (lose every) (slice_get d.faults l))
set d (Delay l bad) = set_faults d l (option_and_then (delay bad) (slice_get d.faults l))
set d (Repeat l every) = set_faults d l (option_and_then (repeat every) (slice_get d.faults l))
set d (Lend loan) = Some (record d { loans = d.loans ++ loan ∷ [] })

-- settings stand before the first session
abbrev pub before_sessions : DraftView → Setting → Option DraftView
before_sessions d s = if length d.sessions == 0 then set d s else None

-- the row of the acquirer with this padded id
abbrev pub place_of : Network → List ℕ → Option ℕ
place_of t id = position (λ row. bytes_eq (pad11 row.id) id) t.acquirers

abbrev pub session_at : Network → DraftView → ℕ → Option DraftView
session_at t d place = if list_any (λ p. p == place) d.acquirers then None
    else option_map (λ row. record d { sessions = d.sessions ++ (record { node = row.node; lines = [] }) ∷ []; acquirers = d.acquirers ++ place ∷ [] }) (slice_get t.acquirers place)

-- an acquirer has one session, at its node
abbrev pub new_session : Network → DraftView → List ℕ → Option DraftView
new_session t d id = option_and_then (session_at t d) (place_of t id)

-- one more message of the last session
abbrev pub with_message : DraftView → List ℕ → SessionView → Option DraftView
with_message d message s = if nat_le 10000 (length s.lines) then None
    else Some (record d { sessions = slice_set d.sessions (length d.sessions - 1) (record s { lines = s.lines ++ message ∷ [] }) })

abbrev pub send : DraftView → List ℕ → Option DraftView
send d message = option_and_then (with_message d message) (slice_get d.sessions (length d.sessions - 1))

abbrev pub or_fault : {A : Type 0} → PlanFault → Option A → Result A PlanFault
or_fault fault None = Err fault
or_fault fault (Some a) = Ok a

-- what the line of this number adds
abbrev pub add : Network → DraftView → ℕ → said.Line → Result DraftView PlanFault
add t d number (said.Set s) = or_fault (Line number) (before_sessions d s)
add t d number (said.Session id) = if nat_le 256 (length d.sessions) then Err (Line number) else or_fault (Acquirer number) (new_session t d id)
add t d number (said.Send message) = or_fault (Line number) (send d message)

abbrev pub add_said : Network → DraftView → ℕ → Option said.Line → Result DraftView PlanFault
add_said t d number None = Err (Line number)
add_said t d number (Some l) = add t d number l

abbrev pub and_then : {A B : Type 0} → Result A PlanFault → (A → Result B PlanFault) → Result B PlanFault
and_then (Ok a) f = f a
and_then (Err fault) f = Err fault

-- nothing stands behind the end
abbrev pub ended : DraftView → ℕ → List (List ℕ) → Result DraftView PlanFault
ended d number [] = Ok d
ended d number (line ∷ lines) = Err (Line number)

-- what lines up to the end add, of which the first has this number; or the fault of the first that has one
abbrev pub add_lines : Network → DraftView → ℕ → List (List ℕ) → Result DraftView PlanFault
add_lines t d number [] = Err NoEnd
add_lines t d number (line ∷ lines) =
    if bytes_eq line (codes "END") then ended d (number + 1) lines
    else and_then (add_said t d number (read_line t line)) (λ e. add_lines t e (number + 1) lines)

-- what a plan says
pub record Said : Type 0 where
  pub turns : ℕ
  pub tick_every : ℕ
  pub draft : DraftView

abbrev pub behind_head : Network → ℕ → ℕ → List (List ℕ) → Result Said PlanFault
behind_head t turns tick_every lines = and_then (add_lines t (nothing t) 4 lines) (λ d. Ok (record { turns = turns; tick_every = tick_every; draft = d }))

-- the head: `PLAN 1`, the turns, and the turns from one tick to the next

abbrev pub third_line : Network → ℕ → List (List ℕ) → Result Said PlanFault
third_line t turns [] = Err NoEnd
third_line t turns (line ∷ lines) = and_then (or_fault (Line 3) (numbered (codes "tick_every") 0 4000000000 line)) (λ n. behind_head t turns n lines)

abbrev pub second_line : Network → List (List ℕ) → Result Said PlanFault
second_line t [] = Err NoEnd
second_line t (line ∷ lines) = and_then (or_fault (Line 2) (numbered (codes "turns") 1 4000000000 line)) (λ n. third_line t n lines)

abbrev pub plan_in : Network → List (List ℕ) → Result Said PlanFault
plan_in t [] = Err NoEnd
plan_in t (line ∷ lines) = if bytes_eq line (codes "PLAN 1") then second_line t lines else Err (Line 1)

-- the plan is what was said
pub record IsPlan (p : Plan) (s : Said) : Type 0 where
  pub turns : p.turns ≡ s.turns
  pub tick_every : p.tick_every ≡ s.tick_every
  pub limits : p.limits.items ≡ s.draft.limits
  pub faults : p.faults.links.items ≡ s.draft.faults
  pub loans : p.loans.items ≡ s.draft.loans
  pub sessions : map session_of p.sessions.items ≡ s.draft.sessions

-- want of memory aside, the draft that is said to come of this, or the fault
abbrev pub Drafts : Result DraftView PlanFault → DraftView → Result (Unit {0}) PlanFault → Type 0
Drafts said d r = MatchResult r (λ _. said ≡ Ok d) (λ f. (f ≡ Memory) ⊎ (said ≡ Err f))

-- want of memory aside, the plan that the lines say, or their fault
abbrev pub Reads : Network → List (List ℕ) → Result Plan PlanFault → Type 0
Reads t lines r = MatchResult r (λ p. (s : Said) × (plan_in t lines ≡ Ok s) × IsPlan p s) (λ f. (f ≡ Memory) ⊎ (plan_in t lines ≡ Err f))
