use Rattle.iso_message.proofs.RunLemmas.{good_got, got_there}
use Rattle.iso_message.proofs.elements.push_next.Goals as goal

pub push_piece-requires : goal.push_piece-requires
push_piece-requires c = rw (c.start.ensures, c.end.ensures) (good_got c.args.values.now c.args.spans.now c.args.place _ c.requires.good (got_there c.args.spans.now c.args.place c.requires.at))

pub touching-next-requires-clause-at : goal.touching-next-requires-clause-at
touching-next-requires-clause-at c = got_there c.args.spans.now c.args.place c.requires.at
