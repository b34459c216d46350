use Rattle.std.proofs.Common.{◌<◌, ◌≤◌, ◌^◌, subst}
use Rattle.kept_messages.proofs.FirstElement.{no_card, card_value, found_some}
use Rattle.kept_messages.proofs.first_element.card_number.Goals as goal

pub returns-then-elements-lt-CARD_NUMBER : goal.returns-then-elements-lt-CARD_NUMBER
returns-then-elements-lt-CARD_NUMBER c = λ m h e.
    let found = found_some m c.elements_of.result _ _ c.in-Some.is (c.elements_of.ensures m h e) in
    no_card m h (subst (λ n. n < 2 ^ 62) found.0 c.if-elements-lt-CARD_NUMBER.true)

pub returns : goal.returns
returns c = λ m h e.
    let found = found_some m c.elements_of.result _ _ c.in-Some.is (c.elements_of.ensures m h e) in
    card_value m c.in-Some.values.now c.first_value.result.now h (subst (λ n. 2 ^ 62 ≤ n) found.0 c.if-elements-lt-CARD_NUMBER.false) found.1 c.first_value.ensures
