use Rattle.std.proofs.Common.{◌∙◌, sym}
use Rattle.std.proofs.lemmas.List.{length-map}
use Rattle.advice_slots.specs.Items.{stored_of}
use Rattle.advice_store.proofs.node.NodeAdvices.len.Goals as goal

pub returns : goal.returns
returns c = let i = c.self.inside in rw (← c.self.view_is) (c.len.ensures ∙ sym (length-map i.store.items stored_of))
