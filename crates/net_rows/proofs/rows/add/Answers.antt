use Rattle.std.proofs.Common.{arith}
use Rattle.net_rows.proofs.Tries.{kept_at, added_at}
use Rattle.net_rows.proofs.rows.add.Goals as goal

pub returns-in-Ok : goal.returns-in-Ok
returns-in-Ok c =
    let many = c.in_ok-grow.ensures.many in
    added_at c.args.key c.args.place c.args.tries.now.items c.grow.new.tries.items c.grow.ensures.same c.slot-slot.result c.index_mut.result.now c.insert.new.self c.slot-slot.ensures (omega arith) c.index_mut.ensures.value c.in-Ok.ensures.added c.in-Ok.ensures.new

pub returns-in-Present : goal.returns-in-Present
returns-in-Present c =
    let many = c.in_ok-grow.ensures.many in
    kept_at c.args.key c.args.place c.args.tries.now.items c.grow.new.tries.items c.grow.ensures.same c.slot-slot.result c.index_mut.result.now c.insert.new.self c.slot-slot.ensures (omega arith) c.index_mut.ensures.value c.in-Err.ensures.kept (c.in-Err.ensures.present c.in-Present.is)
