use Rattle.std.proofs.lemmas.Result.{IfOk-weaker}
use Rattle.iso_message.specs.Spelling.{IsMessage}
use Rattle.iso_message.specs.Grammar.{Spells}
use Rattle.iso_message.proofs.Good.{is_message}
use Rattle.iso_message.specs.Fields.{Fields}
use Rattle.iso_message.proofs.ReadingLaws.{is_found, is_only, is_fault}
use Rattle.iso_message.proofs.reading.decode.Goals as goal

pub returns-clause-found : goal.returns-clause-found
returns-clause-found c = is_found (λ (m : Fields). m) c.args.bytes.now c.whole.result c.whole.ensures.exact

pub returns-clause-only : goal.returns-clause-only
returns-clause-only c m h = is_only (λ (n : Fields). n) c.args.bytes.now c.whole.result m h c.whole.ensures.exact

pub returns-clause-fault : goal.returns-clause-fault
returns-clause-fault c = is_fault (λ (m : Fields). m) c.args.bytes.now c.whole.result c.whole.ensures.exact

pub returns-clause-is_message : goal.returns-clause-is_message
returns-clause-is_message c = IfOk-weaker c.whole.result (λ (m : Fields). Spells c.args.bytes.now m) IsMessage (λ m h. is_message c.args.bytes.now m h) (is_found (λ (m : Fields). m) c.args.bytes.now c.whole.result c.whole.ensures.exact)
