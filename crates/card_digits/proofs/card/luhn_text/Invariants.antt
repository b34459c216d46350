use Rattle.std.proofs.Common.{◌≡◌, ◌≤◌, ◌+◌, ◌*◌, ℕ, List, drop}
use Rattle.card_digits.specs.Digits.{digits_of}
use Rattle.card_digits.specs.Numbers.{luhn_sum}
use Rattle.card_digits.proofs.card.luhn_text.Given as goal

pub record IsSummedTo (sum i : ℕ) (text : List ℕ) : Type 0 where
  pub rest : sum + luhn_sum (digits_of (drop i text)) ≡ luhn_sum (digits_of text)
  pub bound : sum ≤ 255 * i

abbrev pub invariant-loop-i : goal.invariant-loop-i
invariant-loop-i l = IsSummedTo l.sum l.i l.text
