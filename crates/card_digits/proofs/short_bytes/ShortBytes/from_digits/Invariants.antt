use Rattle.std.proofs.Common.{take}
use Rattle.card_digits.specs.Digits.{digits_of}
use Rattle.card_digits.proofs.Filling.{IsFilled}
use Rattle.card_digits.proofs.short_bytes.ShortBytes.from_digits.Given as goal

abbrev pub invariant-loop-i : goal.invariant-loop-i
invariant-loop-i g l = IsFilled g.row.N l.i l.bytes (digits_of (take l.i l.text))
