use Rattle.std.proofs.Common.{◌≡◌, List, true, subst, sym, ap, ◌∙◌}
use Rattle.message_keys.specs.Keys.{identity_of}
use Rattle.iso_message.specs.Made.{made_reversal}
use Rattle.network_law.specs.Tables.{node_id}
use Rattle.network_law.specs.Traces.{Opening, known}
use Rattle.network_law.specs.Entries.{ReadEntry, read_history, read_trace, history}
use Rattle.network_law.specs.Legal.{marked_failed}
use Rattle.network_law.proofs.every_legal_trace_is_read.Goals as goal
use Rattle.network_law.proofs.Node.{legal_facts}
use Rattle.network_law.proofs.Reading.{Legible, legible, EntryRead, entry_read}
use Rattle.network_law.proofs.Leaves.{legal_leaves, legal_left}
use Rattle.network_law.proofs.Marks.{fails_are_marked, fails_are_reversed}

pub returns-clause-marked : goal.returns-clause-marked
unfolding history
returns-clause-marked c t sound n e es i k less legal at =
    let r = entry_read t n e es i sound less legal at in
    ap (λ (z : List ReadEntry). marked_failed t (read_history z) k) (EntryRead.is r) ∙ fails_are_marked t n (record { input = i; outputs = EntryRead.outputs r }) (read_trace es) k (EntryRead.legal r)

pub returns-clause-reversed : goal.returns-clause-reversed
unfolding history
returns-clause-reversed c t sound n e es i k less legal at f =
    let r = entry_read t n e es i sound less legal at in
    let w = fails_are_reversed t n (record { input = i; outputs = EntryRead.outputs r }) (read_trace es) k (EntryRead.legal r) f in
    (w.0, w.1, subst (λ (z : List ReadEntry). known t n (read_history z) (identity_of (made_reversal (Opening.message w.0) (node_id t n))) ≡ true) (sym (EntryRead.is r)) w.2)

pub returns-clause-decided : goal.returns-clause-decided
unfolding history read_history
returns-clause-decided c t checked n e es i less legal at =
    let r = entry_read t n e es i checked less legal at in
    ap read_history (EntryRead.is r) ∙ (EntryRead.legal r).1.outputs

pub returns-clause-forwards_once : goal.returns-clause-forwards_once
unfolding history
returns-clause-forwards_once c t checked n trace i j l s k u x y less legal has has' r r' e =
    (legal_facts t n (read_trace trace) (Legible.legal (legible t n checked.sound less trace legal))).one_put i j l s k u x y has has' r r' e

pub returns-clause-leave_less : goal.returns-clause-leave_less
unfolding history
returns-clause-leave_less c t checked n trace a x less legal m mx own r = legal_leaves t n (read_trace trace) (Legible.legal (legible t n checked.sound less trace legal)) a x m mx own r

pub returns-clause-decide : goal.returns-clause-decide
unfolding history
returns-clause-decide c t checked n trace a less legal m rev = legal_left t n (read_trace trace) (Legible.legal (legible t n checked.sound less trace legal)) a m rev
