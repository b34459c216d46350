use Rattle.card_digits.proofs.Ends.{decided}
use Rattle.card_digits.proofs.words.same_ends.Goals as goal

pub returns : goal.returns
returns g c =
    let front = c.in-Some-Some.ensures.cases in
    let back = c.in-Some-Some.ensures'.cases in
    let other_front = c.in-Some-Some-2.ensures.cases in
    let other_back = c.in-Some-Some-2.ensures'.cases in
    rw (c.eq-same_front.ensures, c.eq-same_end.ensures, front.same, back.1.same, other_front.same, other_back.1.same)
    (decided g.row.W c.args.bytes.now c.args.others.now c.requires.least c.requires.most c.requires.lengths)
