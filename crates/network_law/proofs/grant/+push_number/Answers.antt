use Rattle.std.proofs.Common.{arith}
use Rattle.network_law.proofs.GrantTexts.{number_more}
use Rattle.network_law.proofs.grant.+push_number.Goals as goal

pub returns : goal.returns
returns t c = number_more c.args.width c.args.number c.args.out.now.items c.push_number.new.out.items c.push.new.self.items (omega (arith, c.if-width-eq0.false)) c.in_ok-push_number.ensures c.in_ok-push.ensures.items
