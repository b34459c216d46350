use Rattle.iso_message.proofs.ReadingLaws.{is_found, is_only, is_fault}
use Rattle.iso_message.proofs.message.Message.read_again.Goals as goal

pub returns-clause-found : goal.returns-clause-found
returns-clause-found c = is_found (λ (_ : Unit {0}). c.fill.new.self) c.args.bytes.now c.fill.result c.fill.ensures.exact

pub returns-clause-only : goal.returns-clause-only
returns-clause-only c m h = is_only (λ (_ : Unit {0}). c.fill.new.self) c.args.bytes.now c.fill.result m h c.fill.ensures.exact

pub returns-clause-fault : goal.returns-clause-fault
returns-clause-fault c = is_fault (λ (_ : Unit {0}). c.fill.new.self) c.args.bytes.now c.fill.result c.fill.ensures.exact
