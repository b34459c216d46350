-- What the answers and outputs of a legal trace show is what the law says of its history, over any tables whose rows are sound.
use Rattle.std.proofs.Common.{◌≡◌, ℕ, List, length, sym, ap, ◌∙◌, ⊎_elim}
use Rattle.std.proofs.lemmas.Bool.{cases_lt}
use Rattle.net_rows.specs.Network.{Network}
use Rattle.net_rows.specs.Sound.{IsSound}
use Rattle.network_law.specs.Entries.{Entry, history}
use Rattle.network_law.specs.Runs.{IsLegal}
use Rattle.network_law.specs.Traces.{approvals}
use Rattle.network_law.proofs.Reading.{legible}
use Rattle.run_report.specs.Stations.{posts_in}
use Rattle.run_report.specs.Own.{own_among, own_of, posts_of}
use Rattle.run_report.proofs.OwnCounts.{own_is_law, posts_is_law}
use Rattle.run_report.proofs.Unknown.{Idle, idle, idle_approvals, idle_posts}

pub own_is_lawful : (t : Network) (n : ℕ) (es : List Entry) → IsSound t → IsLegal t n es → own_of es ≡ length (approvals t (history es))
own_is_lawful t n es sound l = ⊎_elim (λ less. own_is_law t n (legible t n sound less) es l) (λ unknown. ap own_among (Idle.answers (idle t n sound unknown es l)) ∙ sym (ap length (idle_approvals t n sound unknown es l))) (cases_lt n (length t.nodes))

pub posts_are_lawful : (t : Network) (n : ℕ) (es : List Entry) → IsSound t → IsLegal t n es → posts_of es ≡ posts_in (history es)
posts_are_lawful t n es sound l = ⊎_elim (λ less. posts_is_law t n (legible t n sound less) es l) (λ unknown. Idle.posts (idle t n sound unknown es l) ∙ sym (idle_posts t n sound unknown es l)) (cases_lt n (length t.nodes))
