use Rattle.kept_messages.proofs.FirstElement.{behind_is, not_short}
use Rattle.kept_messages.proofs.first_element.behind_type.Goals as goal

pub returns-then-bytes-lt4 : goal.returns-then-bytes-lt4
returns-then-bytes-lt4 c = λ m kind e. absurd (not_short c.args.bytes.now m e c.if-bytes-lt4.true)

pub returns : goal.returns
returns c = λ m kind e. behind_is c.args.bytes.now c.split_at.result.1.now m kind c.split_at.ensures.back e
