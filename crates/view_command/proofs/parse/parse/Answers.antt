use Rattle.std.proofs.Common.{◌∙◌, List, map, subst, ap}
use Rattle.std.proofs.lemmas.Result.{IfOk-weaker}
use Rattle.clap.specs.Words.{App, FailsBy, HasMatchesOf, Text, fault_of, is_simple_and_free}
use Rattle.view_command.proofs.Lines.{program_free}
use Rattle.view_command.proofs.parse.parse.Goals as goal

pub returns : goal.returns
returns c =
    let words : List Text = map (λ w. w.now) c.args.words.now in
    let parse = c.try_get_matches_from in
    let is = c.in_ok-program.ensures in
    record {
      matches = IfOk-weaker parse.result _ _ (λ m h. subst (λ (a : App). HasMatchesOf a words m) is h) parse.ensures.matches;
      fault = subst (λ (a : App). FailsBy (fault_of a words) parse.result) is (parse.ensures.kinds (ap is_simple_and_free is ∙ program_free));
    }
