use Rattle.network_picture.proofs.Prefixes.{class_step}
use Rattle.network_picture.proofs.class.longest_of.Goals as goal

pub loop-class-preserved : goal.loop-class-preserved
loop-class-preserved c = class_step c.args.classes.now c.loop-class.class-index c.class-item.result c.args.digits.now _ _ c.loop-class-test.true c.class-item.is c.loop-class.invariant c.longer-longest.ensures
