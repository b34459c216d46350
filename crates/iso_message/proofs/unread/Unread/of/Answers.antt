use Rattle.iso_message.specs.Messages.{read}
use Rattle.iso_message.specs.Unread.{read_on}
use Rattle.iso_message.proofs.Good.{announced_ascend}
use Rattle.iso_message.proofs.ReadingLaws.{at_once}
use Rattle.iso_message.proofs.unread.Unread.of.Goals as goal

pub returns-clause-read : goal.returns-clause-read
unfolding read read_on
returns-clause-read c = rw (c.in_ok-kind.ensures, c.in_ok-first.ensures, c.in_ok-high.ensures) (at_once c.in_ok-kind.kind c.in_ok-first.first (c.in_ok-high.high, c.in_ok-high.body.now))

pub returns-clause-order : goal.returns-clause-order
returns-clause-order c = announced_ascend c.in_ok-first.first c.in_ok-high.high
