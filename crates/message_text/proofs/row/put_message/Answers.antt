use Rattle.std.proofs.Common.{arith}
use Rattle.message_text.proofs.RoomLemmas.{few_lines}
use Rattle.message_text.proofs.row.put_message.Goals as goal

pub put_left-requires-clause-room : goal.put_left-requires-clause-room
put_left-requires-clause-room c = omega (arith, few_lines c.in_ok-kind.unread.numbers c.in_ok-kind.ensures.order, c.put-at.ensures.end, c.put-at.ensures.size, c.put_heading-at.ensures.end, c.put_heading-at.ensures.size, c.kind_line.ensures.size, c.requires)
