use Rattle.std.proofs.Common.{◌∙◌, []}
use Rattle.node_machine.specs.Lists.{Take}
use Rattle.standin_book.specs.Approvals.{lessened}
use Rattle.standin_book.proofs.Mapped.{set_mapped}
use Rattle.standin_book.proofs.standin.lessen_all.Goals as goal

pub loop-i-preserved : goal.loop-i-preserved
loop-i-preserved c =
    let d : Take = record { key = c.args.key; card = []; date = []; amount = 0; left = 0 } in
    record {
      takes = c.lessen_at.ensures.takes d ∙ set_mapped (lessened c.args.key c.args.actual) c.args.takes.now c.loop-i.takes c.loop-i.i d c.loop-i-test.true c.loop-i.auto.takes c.loop-i.invariant.takes;
      sums = c.lessen_at.ensures.sums;
      room = c.lessen_at.ensures.room ∙ c.loop-i.invariant.room;
    }
