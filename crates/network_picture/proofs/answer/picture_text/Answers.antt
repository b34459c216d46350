use Rattle.std.proofs.Common.{◌∙◌, ℕ, List, Option, ap}
use Rattle.std.proofs.lemmas.Result.{IfOk-weaker}
use Rattle.network_picture.specs.Answers.{picture_at}
use Rattle.network_picture.proofs.Pictured.{same_drawn}
use Rattle.network_picture.proofs.answer.picture_text.Goals as goal

pub returns : goal.returns
returns c =
    let same = c.in_ok-picture.ensures ∙ ap (λ (class : Option (List ℕ)). picture_at c.args.tables.now c.args.cert.now c.args.found.now class) c.in_ok-class.ensures in
    IfOk-weaker c.drawn.result _ _ (λ v is. same_drawn c.args.job.now.drawing c.args.line.now v.items _ _ same is) c.drawn.ensures
