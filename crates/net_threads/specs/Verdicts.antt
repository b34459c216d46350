-- What the verdicts say of stations.
use Rattle.std.specs.Prelude.{◌≡◌, ℕ, suc, List, [], Bool, Option, Some, None, slice_get, All, MatchBool, ⊤}
use Rattle.net_rows.specs.Network.{Network, other_end}
use Rattle.network_law.specs.Cards.{Bytes}
use Rattle.network_law.specs.Traces.{IsIn}
use Rattle.network_law.specs.Entries.{Entry, Input, Take, Answer}
use Rattle.network_law.specs.Runs.{IsRun, WasPut}
use Rattle.net_threads.specs.Station.{StationView}
use Rattle.net_threads.specs.declared.ended.Ended.{Ended}
use Rattle.net_threads.specs.declared.ended.SessionEnd.{SessionEnd}
use Rattle.net_threads.specs.declared.ended.LineEnd.{LineEnd}
use Rattle.net_threads.specs.declared.ended.LineEnd.TheVariants as ends
use Rattle.net_threads.specs.declared.judge.Judged.{Judged}
use Rattle.net_threads.specs.declared.ended.Verdict.{Verdict}
use Rattle.net_threads.specs.declared.ended.Verdict.TheVariants.{Linked, LinkStrange, AnswerStrange, StationStrange}

-- the answer is whether it is so
abbrev pub Decides : Bool → Type 0 → Type 0
Decides answer P = MatchBool answer P (¬ P)

abbrev pub trace_or_none : Option StationView → List Entry
trace_or_none None = []
trace_or_none (Some s) = s.trace

-- the trace of each node
abbrev pub trace_of : List StationView → ℕ → List Entry
trace_of stations n = trace_or_none (slice_get stations n)

-- the trace gave this answer
abbrev pub WasAnswered : List Entry → Bytes → Type 0
WasAnswered trace bytes = (f : Entry) × IsIn f trace × IsIn (Answer bytes) f.outputs

-- the station holds this node of these tables
abbrev pub IsOf : Network → ℕ → StationView → Type 0
IsOf t n s = (s.t ≡ t) × (s.n ≡ n)

abbrev pub AreOf : Network → List StationView → Type 0
AreOf t stations = (n : ℕ) (s : StationView) → slice_get stations n ≡ Some s → IsOf t n s

-- what was taken was put at the link's other end
abbrev pub IsLinked : Network → List StationView → ℕ → Input → Type 0
IsLinked t stations n (Take l s bytes) = WasPut (trace_of stations (other_end t n l)) l s bytes
IsLinked t stations n _ = ⊤

abbrev pub AreLinked : Network → List StationView → Type 0
AreLinked t stations = (n : ℕ) (v : StationView) → slice_get stations n ≡ Some v → (e : Entry) → IsIn e v.trace → IsLinked t stations n e.input

-- a packet with this serial was taken there from the link, and wasn't put at its other end
pub record IsStrange (t : Network) (stations : List StationView) (n l s : ℕ) (i : Input) : Type 0 where
  pub bytes : Bytes
  pub takes : i ≡ Take l s bytes
  pub not_put : ¬ WasPut (trace_of stations (other_end t n l)) l s bytes

pub record HasStrange (t : Network) (stations : List StationView) (l s : ℕ) : Type 0 where
  pub n : ℕ
  pub station : StationView
  pub there : slice_get stations n ≡ Some station
  pub entry : Entry
  pub is_entry : IsIn entry station.trace
  pub strange : IsStrange t stations n l s entry.input

-- the trace of the node at the other end of a link, of the stations that are judged
abbrev pub far_trace : Judged → ℕ → ℕ → List Entry
far_trace judged n l = trace_of judged.stations.now (other_end judged.tables.now n l)

-- what is said of the tables and the stations that are judged
abbrev pub here : {B : Type 1} → Judged → (Network → List StationView → B) → B
here judged said = said judged.tables.now judged.stations.now

-- an answer stands in the trace of the session's node
abbrev pub IsGiven : List StationView → ℕ → LineEnd → Type 0
IsGiven stations n (ends.Answer bytes) = WasAnswered (trace_of stations n) bytes.items
IsGiven stations n ends.Nothing = ⊤
IsGiven stations n (ends.Refused fault) = ⊤

abbrev pub AreGiven : List StationView → Ended → Type 0
AreGiven stations ended = (k : ℕ) (s : SessionEnd) → slice_get ended.sessions.items k ≡ Some s → All (IsGiven stations s.node) s.lines.items

-- the line at this place of the session has an answer that was not given there
abbrev pub IsUngiven : List StationView → SessionEnd → ℕ → Type 0
IsUngiven stations session j = (end : LineEnd) × (slice_get session.lines.items j ≡ Some end) × ¬ IsGiven stations session.node end

pub record HasUngiven (stations : List StationView) (ended : Ended) (session line : ℕ) : Type 0 where
  pub end : SessionEnd
  pub is_end : slice_get ended.sessions.items session ≡ Some end
  pub line_end : LineEnd
  pub is_line : slice_get end.lines.items line ≡ Some line_end
  pub not_given : ¬ IsGiven stations end.node line_end

-- What a verdict says. Stations are looked at first, then links, then answers: what was looked at before is as it should be. Sessions and
-- lines count from 1.
abbrev pub Holds : Network → List StationView → Ended → Verdict → Type 0
Holds t stations ended Linked = IsRun t (trace_of stations) × AreGiven stations ended × AreOf t stations
Holds t stations ended (LinkStrange l s) = HasStrange t stations l s × AreOf t stations
Holds t stations ended (AnswerStrange session line) = ((i : ℕ) × (j : ℕ) × (session ≡ suc i) × (line ≡ suc j) × HasUngiven stations ended i j) × AreOf t stations × AreLinked t stations
Holds t stations ended (StationStrange n) = (s : StationView) × (slice_get stations n ≡ Some s) × ¬ IsOf t n s
