use Rattle.std.proofs.Common.{◌∙◌, ℕ, List, Bor, map, is_some, sym}
use Rattle.std.proofs.lemmas.Bool.{false≢true}
use Rattle.std.proofs.lemmas.Result.{IfOk-weaker}
use Rattle.clap.specs.Words.{Kinds, fault_of}
use Rattle.view_command.specs.App.{program}
use Rattle.view_command.proofs.Lines.{help_asked, help_given, one_fault}
use Rattle.view_command.proofs.parse.help_of.Goals as goal

pub returns-in-Ok : goal.returns-in-Ok
returns-in-Ok c = record { asked = λ h. absurd (false≢true h); given = λ is. absurd (one_fault (sym is ∙ c.in-Ok.ensures.fault)) }

pub returns-in-Err : goal.returns-in-Err
returns-in-Err c =
    let kinds : Kinds = fault_of program (map (λ (w : Bor (List ℕ)). w.now) c.args.words.now) in
    record {
      asked = IfOk-weaker c.help_in.result _ _ (λ help h some. help_asked kinds c.in-Err.fault c.in-Err.ensures.fault (h some)) c.help_in.ensures.some;
      given = IfOk-weaker c.help_in.result _ _ (λ help h is. help_given (is_some help) kinds c.in-Err.fault c.in-Err.ensures.fault h is) c.help_in.ensures.none;
    }
