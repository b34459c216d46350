use Rattle.std.proofs.Common.{◌≡◌, length, take, ◌∙◌}
use Rattle.std.proofs.Math.Nat.{min_comm}
use Rattle.std.proofs.lemmas.List.{take_min}
use Rattle.card_digits.proofs.Within.{card_front}
use Rattle.card_digits.proofs.prefix.Prefix.of.Goals as goal

pub invariant_of-result : goal.invariant_of-result
invariant_of-result c =
    let ds = c.digits-digits.result.now in
    let front : c.from_slice.result ≡ take 12 ds = c.from_slice.ensures ∙ rw (c.min-len.ensures, min_comm (length ds) 12) (take_min 12 ds) in
    rw front (card_front ds c.digits-digits.ensures.form)
