use Rattle.iso_message.specs.Fields.{Fields}
use Rattle.iso_message.proofs.ReadingLaws.{read_takes}
use Rattle.iso_message.proofs.Good.{is_message}
use Rattle.iso_message.proofs.message.Message.fill.Goals as goal

pub invariant_of-self-2 : goal.invariant_of-self-2
invariant_of-self-2 c =
    let m : Fields = record { kind = c.in_ok-found.found; elements = c.read_into.new.elements } in
    is_message c.args.bytes.now m (read_takes c.args.bytes.now m c.in_ok-found.ensures.exact)
