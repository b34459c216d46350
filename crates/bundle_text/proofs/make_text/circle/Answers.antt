use Rattle.std.proofs.Common.{rules, ap, ◌≡◌, ◌∙◌, List, ℕ}
use Rattle.bundle_text.specs.declared.answer.Status.TheVariants.{Refused}
use Rattle.bundle_text.specs.Answers.{Said, IsCircleOf}
use Rattle.bundle_text.specs.Lines.{circle_line}
use Rattle.bundle_text.proofs.make_text.circle.Goals as goal

pub returns : goal.returns
returns c =
    let text : c.into_bytes.result.items ≡ circle_line c.args.tables.now c.args.class.now c.args.nodes.now = search rules in
    IsCircleOf c.args.class.now c.args.nodes.now (search rules) (c.is_circle.ensures.0 (search rules))
    (c.new.ensures ∙ ap (λ (t : List ℕ). let s : Said = record { text = t; status = Refused } in s) text)
