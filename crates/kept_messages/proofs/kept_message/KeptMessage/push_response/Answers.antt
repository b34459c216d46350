use Rattle.std.proofs.Common.{◌≡◌, ◌++◌, Bool, Ok, ap, ◌∙◌}
use Rattle.iso_message.specs.Fields.{Fields}
use Rattle.iso_message.specs.Made.{response}
use Rattle.iso_message.specs.Spelling.{spelling, IsMessage}
use Rattle.kept_messages.specs.Spelled.{message_in, IsSpelled}
use Rattle.kept_messages.proofs.Spelled.{kept_message}
use Rattle.kept_messages.proofs.kept_message.KeptMessage.push_response.Goals as goal

pub returns-then-made-clause-made : goal.returns-then-made-clause-made
returns-then-made-clause-made c =
    let m = message_in c.self.inside.bytes in
    let g : IsMessage m = kept_message c.self.inside.bytes c.self.inside.kind c.self.inside.code c.self.invariant in
    let bytes : c.as_slice.result.now ≡ spelling m = c.as_slice.ensures ∙ IsSpelled.spells c.self.invariant in
    let appended = c.push_response.ensures.made m g bytes (c.in_ok-made.was ∙ ap (λ (b : Bool). Ok b) c.if-made.true) in
    appended ∙ ap (λ (n : Fields). c.args.out.now.items ++ spelling (response n c.args.code)) c.self.view_is
