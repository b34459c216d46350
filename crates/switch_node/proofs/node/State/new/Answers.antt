use Rattle.std.proofs.Common.{refl, ◌∙◌}
use Rattle.switch_node.proofs.Stepped.{new_node}
use Rattle.switch_node.proofs.node.State.new.Goals as goal

pub returns-clause-is_node : goal.returns-clause-is_node
returns-clause-is_node c = new_node c.args.tables.now c.args.node c.in_ok-draft.draft c.requires.checked c.requires.bounded c.requires.there (c.in_ok-draft.ensures ∙ rw (c.in_ok-books.ensures, c.settings-settings.ensures, c.links-2.ensures.links) refl)
