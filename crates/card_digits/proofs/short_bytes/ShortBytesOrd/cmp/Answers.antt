use Rattle.card_digits.proofs.BytesInOrder.{padded_in_order}
use Rattle.card_digits.proofs.short_bytes.ShortBytesOrd.cmp.Goals as goal

pub returns : goal.returns
returns g c =
    rw (c.then.ensures, c.order_of_bytes.ensures, c.cmp.ensures, ← c.self.view_is, ← c.other.view_is)
    (padded_in_order g.row.N c.self.inside.len c.other.inside.len c.self.inside.bytes c.other.inside.bytes c.self.invariant c.other.invariant)
