use Rattle.std.proofs.Common.{sym, arith}
use Rattle.message_elements.proofs.TableLemmas.{in_table, past_table}
use Rattle.message_elements.proofs.form.form_at.Goals as goal

pub returns-then-place-lt129 : goal.returns-then-place-lt129
returns-then-place-lt129 c = in_table c.args.number (omega arith)

pub returns : goal.returns
returns c = sym (past_table c.args.number (omega arith))
