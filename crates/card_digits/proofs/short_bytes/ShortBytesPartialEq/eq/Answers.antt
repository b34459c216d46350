use Rattle.std.proofs.Common.{◌∙◌}
use Rattle.card_digits.proofs.Padded.{same_bytes, other_len}
use Rattle.card_digits.proofs.short_bytes.ShortBytesPartialEq.eq.Goals as goal

-- src/short_bytes.rt:86:5
pub returns-then-self-other : goal.returns-then-self-other
returns-then-self-other g c = rw (← c.self.view_is, ← c.other.view_is)
    (c.same_bytes.ensures ∙ same_bytes g.row.N c.self.inside.len c.other.inside.len c.self.inside.bytes c.other.inside.bytes c.self.invariant c.other.invariant c.if-self-other.true)

-- src/short_bytes.rt:86:5
pub returns-else-self-other : goal.returns-else-self-other
returns-else-self-other g c = rw (← c.self.view_is, ← c.other.view_is)
    (other_len g.row.N c.self.inside.len c.other.inside.len c.self.inside.bytes c.other.inside.bytes c.self.invariant c.other.invariant c.if-self-other.false)
