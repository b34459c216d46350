use Rattle.std.proofs.Common.{refl, arith}
use Rattle.step_draft.proofs.Refused.{if_refused}
use Rattle.step_draft.proofs.draft.Draft.new.Goals as goal

pub invariant_of-result : goal.invariant_of-result
invariant_of-result c = rw (c.new-2.ensures, c.new-3.ensures, c.new-4.ensures.items) (refl, record { sum = λ day. refl; small = λ day. omega arith })

pub returns-in_err-no_outputs : goal.returns-in_err-no_outputs
returns-in_err-no_outputs c = if_refused _ c.from_residual.result c.from_residual.ensures.0
