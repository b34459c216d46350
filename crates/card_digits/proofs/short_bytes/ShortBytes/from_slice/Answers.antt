use Rattle.card_digits.proofs.Filling.{filled_front}
use Rattle.card_digits.proofs.short_bytes.ShortBytes.from_slice.Goals as goal

pub invariant_of-result : goal.invariant_of-result
invariant_of-result g c = rw c.copy_from_slice.ensures.after (filled_front g.row.N c.args.text.now c.requires.fits)
