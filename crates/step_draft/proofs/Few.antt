-- Card numbers and settlement dates that messages carry.
use Rattle.std.proofs.Common.{◌≡◌, ℕ, List, [], Option, Some, None, refl, arith}
use Rattle.std.specs.Prelude.{unwrap_or}
use Rattle.message_elements.specs.Table.{table, form_of}
use Rattle.iso_message.specs.Fields.{Fields, get, el}
use Rattle.iso_message.specs.Spelling.{IsMessage}
use Rattle.iso_message.proofs.Found.{good_found}
use Rattle.step_rules.proofs.Values as values
use Rattle.step_rules.proofs.Values.{AreFew}

pub card_few : (m : Fields) → IsMessage m → AreFew 19 (el m 2)
card_few m g = values.card_few m g

pub date_few : (m : Fields) → IsMessage m → AreFew 4 (el m 15)
unfolding el form_of table
date_few m g = go (get m 15) refl
  where
    go : (o : Option (List ℕ)) → get m 15 ≡ o → AreFew 4 (unwrap_or o [])
    go None e = record { few = omega arith; digits = refl }
    go (Some v) e = let good = good_found m 15 v g e in record { few = omega (arith, good.0); digits = good.1 }
