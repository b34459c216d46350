use Rattle.std.proofs.Common.{◌≡◌, ap, sym, ◌∙◌}
use Rattle.iso_message.specs.Fields.{Fields}
use Rattle.iso_message.specs.Made.{response}
use Rattle.iso_message.specs.Spelling.{spelling}
use Rattle.kept_messages.specs.Spelled.{message_in}
use Rattle.kept_messages.proofs.Spelled.{of_kept}
use Rattle.kept_messages.proofs.kept_message.KeptMessage.response.Goals as goal

pub invariant_of-result : goal.invariant_of-result
invariant_of-result c =
    let spelled : c.args.bytes ≡ spelling (response (message_in c.self.inside.bytes) c.args.code) = c.requires ∙ ap (λ (m : Fields). spelling (response m c.args.code)) (sym c.self.view_is) in
    (of_kept c.self.inside.bytes c.args.bytes c.self.inside.kind c.response.result c.self.inside.code c.args.code c.self.invariant c.as_slice.ensures.two c.as_slice.ensures.text c.response.ensures spelled).0

pub returns : goal.returns
returns c =
    let spelled : c.args.bytes ≡ spelling (response (message_in c.self.inside.bytes) c.args.code) = c.requires ∙ ap (λ (m : Fields). spelling (response m c.args.code)) (sym c.self.view_is) in
    (of_kept c.self.inside.bytes c.args.bytes c.self.inside.kind c.response.result c.self.inside.code c.args.code c.self.invariant c.as_slice.ensures.two c.as_slice.ensures.text c.response.ensures spelled).1 ∙ ap (λ (m : Fields). response m c.args.code) c.self.view_is
