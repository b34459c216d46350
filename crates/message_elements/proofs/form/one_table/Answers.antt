use Rattle.message_elements.proofs.TableLemmas.{in_table}
use Rattle.message_elements.proofs.form.one_table.Goals as goal

pub returns : goal.returns
returns c n h = in_table n h
