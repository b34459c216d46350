use Rattle.std.proofs.Common.{rules}
use Rattle.network_picture.proofs.Pictured.{accepted_is}
use Rattle.network_picture.proofs.answer.accepted.Goals as goal

pub returns : goal.returns
returns c = accepted_is c.args.job.now c.args.tables.now c.args.cert.now c.new.result _ _ c.requires c.new.ensures c.in_ok-text.ensures (search rules)
