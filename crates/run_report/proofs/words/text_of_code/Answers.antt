use Rattle.std.proofs.Common.{sym, ◌∙◌, subst}
use Rattle.std.specs.Str.{IsUtf8}
use Rattle.std.proofs.lemmas.Result.{IfOk-weaker}
use Rattle.run_report.proofs.Texts.{code_is_utf8}
use Rattle.run_report.proofs.words.text_of_code.Goals as goal

pub returns : goal.returns
returns c =
    let text = c.as_slice.ensures in
    IfOk-weaker c.from_utf8_lossy.result _ _ (λ s h. h (subst IsUtf8 (sym text.value) (code_is_utf8 c.args.code.now text.text)) ∙ text.value) c.from_utf8_lossy.ensures.ok
