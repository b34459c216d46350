use Rattle.std.proofs.Common.{ap, ◌∙◌}
use Rattle.std.specs.Char.{is_ascii_digit}
use Rattle.std.specs.List.{list_all}
use Rattle.kept_messages.specs.Spelled.{message_in, IsSpelled}
use Rattle.kept_messages.proofs.Spelled.{kept_message}
use Rattle.kept_messages.proofs.FirstElement.{card_is, card_has_digits}
use Rattle.kept_messages.proofs.kept_message.KeptMessage.card_number.Goals as goal

pub returns-clause-card : goal.returns-clause-card
returns-clause-card c =
    let m = message_in c.self.inside.bytes in
    let g = kept_message c.self.inside.bytes c.self.inside.kind c.self.inside.code c.self.invariant in
    card_is m c.args.self.now c.card_number.result.now (c.card_number.ensures m g (c.as_slice.ensures ∙ IsSpelled.spells c.self.invariant)) c.self.view_is

pub returns-clause-digits : goal.returns-clause-digits
returns-clause-digits c =
    let m = message_in c.self.inside.bytes in
    let g = kept_message c.self.inside.bytes c.self.inside.kind c.self.inside.code c.self.invariant in
    ap (list_all is_ascii_digit) (c.card_number.ensures m g (c.as_slice.ensures ∙ IsSpelled.spells c.self.invariant)) ∙ card_has_digits m g
