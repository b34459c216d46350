use Rattle.card_digits.proofs.Within.{padded_id}
use Rattle.card_digits.proofs.name.Id.padded.Goals as goal

pub invariant_of-result : goal.invariant_of-result
invariant_of-result c = rw (c.from_slice.ensures, c.pad11.ensures, c.as_slice.ensures.text) (padded_id c.args.self.now (rw c.as_slice.ensures.text at c.as_slice.ensures.form))
