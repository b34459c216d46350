use Rattle.std.proofs.Common.{sym}
use Rattle.network_law.proofs.GrantTexts.{short_no_grant, other_no_grant}
use Rattle.network_law.proofs.grant.is_grant.Goals.{then-bytes-lt38-via-then-bytes-lt38, then-bytes-lt38-via-else-bytes-lt38+then-not-all_digits}
use Rattle.network_law.proofs.grant.is_grant.Goals as goal

pub returns-then-bytes-lt38 : goal.returns-then-bytes-lt38
returns-then-bytes-lt38 c = elim c.then-bytes-lt38.branch [ then-bytes-lt38-via-then-bytes-lt38 w ↦ sym (short_no_grant c.args.bytes.now w.if-bytes-lt38.true) | then-bytes-lt38-via-else-bytes-lt38+then-not-all_digits w ↦ sym (other_no_grant c.args.bytes.now (sym w.if-not-all_digits.ensures)) ]
