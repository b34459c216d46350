use Rattle.std.proofs.Common.{◌∙◌, sym}
use Rattle.command_line.proofs.Lines.{same_words, words_same}
use Rattle.command_line.proofs.parse.is_line.Goals as goal

pub returns : goal.returns
returns c = (
  λ yes'. same_words c.args.words.now c.line.result.now (sym c.eq.ensures ∙ yes') ∙ c.line.ensures,
  λ is. c.eq.ensures ∙ words_same c.args.words.now c.line.result.now (is ∙ sym c.line.ensures),
)
