use Rattle.std.proofs.Common.{ap, ◌∙◌}
use Rattle.iso_message.specs.Fields.{Fields, get}
use Rattle.iso_message.proofs.MessageLemmas.{copied}
use Rattle.iso_message.proofs.message.Message.get.Goals as goal

pub returns : goal.returns
unfolding get
returns c = copied c.get.result _ c.get.ensures ∙ ap (λ (m : Fields). get m c.args.number) c.self.view_is
