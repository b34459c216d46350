use Rattle.std.proofs.Common.{arith}
use Rattle.iso_message.proofs.Steps.{top_bit-le, marks_next}
use Rattle.iso_message.proofs.reading.take_mark.Goals as goal

pub overflow_sub-map : goal.overflow_sub-map
overflow_sub-map c = top_bit-le c.args.map.now c.requires.some (omega arith)

pub returns : goal.returns
returns c = marks_next c.args.last c.args.map.now c.requires.some (omega arith)
