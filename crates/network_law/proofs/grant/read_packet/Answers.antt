use Rattle.std.proofs.Common.{sym, refl}
use Rattle.std.specs.Prelude.{codes}
use Rattle.network_law.proofs.PacketsExact.{digits_part, word_parts}
use Rattle.network_law.proofs.grant.read_packet.Goals as goal

pub decimal-requires-clause-digits : goal.decimal-requires-clause-digits
decimal-requires-clause-digits c = digits_part 15 11 10 c.args.bytes.now refl (word_parts (codes "GACK") 21 c.args.bytes.now (sym c.if-is_word_and_digits.ensures)).2
