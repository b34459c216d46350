use Rattle.std.proofs.Common.{rules, ◌∙◌}
use Rattle.card_digits.proofs.BytesInOrder.{words_in_order}
use Rattle.card_digits.proofs.words.order_of_words.Goals as goal

pub returns : goal.returns
returns c =
    c.cmp.ensures ∙ rw (c.from_be_bytes.ensures, c.from_be_bytes-2.ensures)
    (words_in_order c.args.word c.args.other (search rules) (search rules) (search rules) (search rules))
