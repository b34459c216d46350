use Rattle.std.proofs.Common.{sym, ◌∙◌}
use Rattle.message_keys.proofs.AmountLemmas.{replacement_front, actual_none, actual_some}
use Rattle.message_keys.proofs.amount.actual_amount.Goals as goal

pub returns-in_err-amounts : goal.returns-in_err-amounts
returns-in_err-amounts c = c.from_residual.ensures ∙ actual_none c.args.message.now (sym c.in_err-amounts.ensures)

pub slice_bounds-read-end : goal.slice_bounds-read-end
slice_bounds-read-end c = sym (replacement_front c.args.message.now c.kind.ensures.is_message _ (sym c.in_ok-amounts.ensures))

pub returns : goal.returns
returns c = actual_some c.args.message.now c.kind.ensures.is_message _ c.read.result c.ok.result (sym c.in_ok-amounts.ensures) c.read.ensures c.ok.ensures.value
