use Rattle.std.proofs.Common.{◌≡◌, ◌∙◌, ℕ, List, Bor, map}
use Rattle.std.proofs.lemmas.Result.{IfOk-weaker}
use Rattle.clap.specs.Words.{Text}
use Rattle.view_command.specs.Line.{job_asked}
use Rattle.view_command.proofs.Lines.{both_ok, line_asked, refused, taken}
use Rattle.view_command.proofs.parse.job_of.Goals as goal

pub returns-in-Ok : goal.returns-in-Ok
returns-in-Ok c =
    let words : List Text = map (λ (w : Bor (List ℕ)). w.now) c.args.words.now in
    let asked : c.job_in.result ≡ job_asked words = c.job_in.ensures ∙ taken words c.in-Ok.matches c.in-Ok.ensures.matches c.in-Ok.ensures.fault in
    record { asked = asked; usage = λ job is. asked ∙ line_asked job words is }

pub returns-in-Err : goal.returns-in-Err
returns-in-Err c =
    let words : List Text = map (λ (w : Bor (List ℕ)). w.now) c.args.words.now in
    let asked = both_ok c.no_job.result _ _ (λ found none other. none ∙ refused words c.in-Err.fault c.in-Err.ensures.fault other) c.no_job.ensures.none c.no_job.ensures.other in
    record { asked = asked; usage = IfOk-weaker c.no_job.result _ _ (λ found h job is. h ∙ line_asked job words is) asked }
