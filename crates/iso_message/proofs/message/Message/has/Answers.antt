use Rattle.std.proofs.Common.{ap, ◌∙◌}
use Rattle.std.specs.Prelude.{is_some}
use Rattle.iso_message.specs.Fields.{has}
use Rattle.iso_message.proofs.MessageLemmas.{copied_there}
use Rattle.iso_message.proofs.message.Message.has.Goals as goal

pub returns : goal.returns
unfolding has
returns c = c.is_some.ensures ∙ copied_there c.get.result ∙ ap is_some c.get.ensures
