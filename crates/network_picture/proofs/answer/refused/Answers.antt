use Rattle.std.proofs.Common.{rules}
use Rattle.network_picture.proofs.Pictured.{refused_is}
use Rattle.network_picture.proofs.answer.refused.Goals as goal

pub returns : goal.returns
returns c =
    refused_is c.args.job.now c.args.tables.now c.args.cert.now c.in_ok-found.found.items c.deref.result.now c.args.refusal.now c.new.result _ _ c.requires c.in_ok-found.ensures.all c.new.ensures c.in_ok-text.ensures (search rules) (search rules)
