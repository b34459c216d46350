-- What a report says.
use Rattle.std.specs.Prelude.{ℕ, List, [], ◌∷◌, ◌++◌, codes, slice_get, sum_by}
use Rattle.std.specs.Fmt.{decimal}
use Rattle.std.specs.Option.{option_map_or}
use Rattle.std.specs.Str.Lossy.{utf8_lossy}
use Rattle.net_rows.specs.Network.{Network}
use Rattle.net_threads.specs.declared.ended.Ended.{Ended}
use Rattle.net_threads.specs.declared.ended.Finished.{Finished}
use Rattle.net_threads.specs.declared.ended.Verdict.{Verdict}
use Rattle.net_threads.specs.declared.ended.Verdict.TheVariants.{Linked, LinkStrange, AnswerStrange, StationStrange}
use Rattle.net_threads.specs.Station.{StationView}
use Rattle.serde_json.specs.Data.{Data, number, unsigned, string, object, member, no_members}
use Rattle.run_report.specs.Answers.{answers_data}
use Rattle.run_report.specs.Counted.{counted}
use Rattle.run_report.specs.Stations.{own_approvals, posts}

-- the name of a node; names of tables are ASCII, and bytes that were no text would be replaced
abbrev pub node_name : Network → ℕ → List ℕ
node_name t n = option_map_or (λ k. utf8_lossy k.name) (slice_get t.nodes n) []

-- likewise of a link
abbrev pub link_name : Network → ℕ → List ℕ
link_name t l = option_map_or (λ k. utf8_lossy k.name) (slice_get t.links l) []

-- the words of a verdict
abbrev pub verdict_text : Network → Verdict → List ℕ
verdict_text t Linked = codes "yes"
verdict_text t (StationStrange n) = codes "station " ++ node_name t n
verdict_text t (LinkStrange l serial) = codes "link " ++ (link_name t l ++ (32 ∷ decimal serial))
verdict_text t (AnswerStrange session line) = codes "answer " ++ (decimal session ++ (32 ∷ decimal line))

-- how many keys the nodes approved by themselves
abbrev pub own_total : List StationView → ℕ
own_total stations = counted (sum_by own_approvals stations)

-- how many advices were posted
abbrev pub posts_total : List StationView → ℕ
posts_total stations = counted (sum_by posts stations)

-- the keys of a report, in byte order
abbrev pub object_of : Data → List ℕ → ℕ → ℕ → Data
object_of answers linked own posts =
    object (member (codes "answers") answers
    (member (codes "linked") (string linked)
    (member (codes "own") (number (unsigned own))
    (member (codes "posts") (number (unsigned posts)) no_members))))

-- the report of a run
abbrev pub report_data : Network → Ended → Finished → Data
report_data t ended finished = object_of (answers_data ended) (verdict_text t finished.verdict) (own_total finished.stations.items) (posts_total finished.stations.items)
