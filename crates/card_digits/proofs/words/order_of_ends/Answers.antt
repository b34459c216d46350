use Rattle.card_digits.proofs.BytesInOrder.{ends_in_order}
use Rattle.card_digits.proofs.words.order_of_ends.Goals as goal

pub returns : goal.returns
returns c =
    let front = c.in-Some-Some.ensures.cases in
    let back = c.in-Some-Some.ensures'.cases in
    let other_front = c.in-Some-Some-2.ensures.cases in
    let other_back = c.in-Some-Some-2.ensures'.cases in
    rw (c.then.ensures, c.order_of_words.ensures, c.order_of_words-2.ensures, front.same, back.1.same, other_front.same, other_back.1.same)
    (ends_in_order 8 c.args.bytes.now c.args.others.now c.requires.least c.requires.most c.requires.lengths)
