use Rattle.std.proofs.Common.{sym, ◌∙◌, arith}
use Rattle.step_rules.proofs.CardsRead.{number_digits, number_few, no_number, short_number, long_number}
use Rattle.step_rules.proofs.cards.has_good_card.Goals as goal

pub returns-in_default : goal.returns-in_default
returns-in_default c = no_number c.args.message.now (sym c.in_default.ensures)

pub returns-then-number-lt-LEAST_DIGITS : goal.returns-then-number-lt-LEAST_DIGITS
returns-then-number-lt-LEAST_DIGITS c = short_number c.args.message.now c.in-Some.number.now c.kind.ensures.is_message (sym c.in-Some.ensures) c.if-number-lt-LEAST_DIGITS.true

pub luhn_text-requires-clause-digits : goal.luhn_text-requires-clause-digits
luhn_text-requires-clause-digits c = number_digits c.args.message.now c.in-Some.number.now c.kind.ensures.is_message (sym c.in-Some.ensures)

pub luhn_text-requires-clause-few : goal.luhn_text-requires-clause-few
luhn_text-requires-clause-few c = number_few c.args.message.now c.in-Some.number.now c.kind.ensures.is_message (sym c.in-Some.ensures)

pub returns : goal.returns
returns c =
    let long = c.if-number-lt-LEAST_DIGITS.false in
    c.luhn_text.ensures ∙ long_number c.args.message.now c.in-Some.number.now c.kind.ensures.is_message (sym c.in-Some.ensures) (omega (arith, long))
