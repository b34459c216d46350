use Rattle.std.proofs.Common.{◌++◌, ◌∷◌, [], ℕ, List, ap, sym, subst, ◌∙◌}
use Rattle.bundle_text.specs.Parts.{between_feeds}
use Rattle.bundle_text.proofs.Trimming.{IsSoFar, line_on, finished}
use Rattle.bundle_text.proofs.input_parts.copy_without_returns.Goals as goal

pub loop-line-preserved : goal.loop-line-preserved
loop-line-preserved c =
    let l = c.loop-line in
    let kept = c.in_ok-extend_from_slice.ensures.items ∙ ap (λ (t : List ℕ). l.text.items ++ t) c.without_return.ensures in
    let is = c.in_ok-push.ensures.items ∙ ap (λ (t : List ℕ). t ++ 10 ∷ []) kept in
    subst (λ (t : List ℕ). IsSoFar t c.in-Some.behind.now c.args.input.now) (sym is) (line_on l.text.items l.rest.now c.args.input.now c.in-Some.line.now c.in-Some.behind.now l.invariant c.in-Some.ensures)

pub returns : goal.returns
returns c =
    let l = c.loop-line in
    ap between_feeds c.in_ok-extend_from_slice-2.ensures.items ∙ finished l.text.items l.rest.now c.args.input.now l.invariant c.in_default.ensures
