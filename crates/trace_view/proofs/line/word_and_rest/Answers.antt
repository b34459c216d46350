use Rattle.replay_script.proofs.Spaces.{cut_is}
use Rattle.trace_view.proofs.line.word_and_rest.Goals as goal

pub returns : goal.returns
returns c = cut_is c.args.text.now c.cut.result c.cut.ensures
