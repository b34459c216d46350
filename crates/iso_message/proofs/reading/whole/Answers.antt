use Rattle.iso_message.specs.Fields.{Fields}
use Rattle.iso_message.proofs.ReadingLaws.{read_takes}
use Rattle.iso_message.proofs.Good.{is_message}
use Rattle.iso_message.proofs.reading.whole.Goals as goal

pub invariant_of-result : goal.invariant_of-result
invariant_of-result c =
    let m : Fields = record { kind = c.in_ok-kind.kind; elements = c.read_into.new.elements } in
    is_message c.args.bytes.now m (read_takes c.args.bytes.now m c.in_ok-kind.ensures.exact)
