-- Inputs as code takes them.
use Rattle.network_law.specs.Entries.{Input, Enter, Take, LinkUp, LinkDown, Tick, HostAnswer, NewDate, Lend}
use Rattle.switch_node.specs.declared.input.Case.{Case}
use Rattle.switch_node.specs.declared.input.Case.TheVariants as cases

abbrev pub input_of : Case → Input
input_of (cases.Enter bytes) = Enter bytes
input_of (cases.Take l s bytes) = Take l s bytes
input_of (cases.LinkUp l) = LinkUp l
input_of (cases.LinkDown l) = LinkDown l
input_of cases.Tick = Tick
input_of (cases.HostAnswer a code) = HostAnswer a code
input_of (cases.NewDate date) = NewDate date
input_of (cases.Lend order) = Lend order.borrower order.card order.date order.amount
