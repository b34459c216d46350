use Rattle.replay_script.proofs.Spaces.{cut_is}
use Rattle.replay_script.proofs.words.word_and_rest.Goals as goal

pub returns : goal.returns
returns c = cut_is c.args.text.now c.cut.result c.cut.ensures
