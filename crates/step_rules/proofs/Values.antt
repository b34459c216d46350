-- The values of elements that a node reads as numbers and digits.
use Rattle.std.proofs.Common.{◌≡◌, ℕ, ◌≤◌, true, List, [], length, Option, Some, None, refl, arith}
use Rattle.std.specs.Prelude.{unwrap_or}
use Rattle.std.specs.Char.{is_ascii_digit}
use Rattle.std.specs.List.{list_all}
use Rattle.message_elements.specs.Table.{table, form_of}
use Rattle.iso_message.specs.Fields.{Fields, get, el}
use Rattle.message_keys.specs.Keys.{own_key}
use Rattle.iso_message.specs.Spelling.{IsMessage}
use Rattle.iso_message.proofs.Found.{good_found}
use Rattle.card_digits.specs.Numbers.{pad11}
use Rattle.net_rows.specs.Network.{Network}
use Rattle.network_law.specs.Tables.{node_id}
use Rattle.std.proofs.lemmas.Option.{slice_get_past}
use Rattle.card_digits.specs.Digits.{IsId}
use Rattle.message_elements.specs.Values.{set_fault}
use Rattle.std.proofs.lemmas.Bool.{le-leb}

pub own_acquirer : (m : Fields) → (own_key m).acquirer ≡ pad11 (el m 32)
unfolding own_key
own_acquirer m = refl

-- digits, so many at most
pub record AreFew (most : ℕ) (text : List ℕ) : Type 0 where
  pub few : length text ≤ most
  pub digits : list_all is_ascii_digit text ≡ true

module _ (m : Fields) (g : IsMessage m) where
  pub card_few : AreFew 19 (el m 2)
  unfolding el form_of table
  card_few = go (get m 2) refl
    where
      go : (o : Option (List ℕ)) → get m 2 ≡ o → AreFew 19 (unwrap_or o [])
      go None e = record { few = omega arith; digits = refl }
      go (Some v) e = let good = good_found m 2 v g e in record { few = good.0; digits = good.2 }

  pub amount_few : AreFew 12 (el m 4)
  unfolding el form_of table
  amount_few = go (get m 4) refl
    where
      go : (o : Option (List ℕ)) → get m 4 ≡ o → AreFew 12 (unwrap_or o [])
      go None e = record { few = omega arith; digits = refl }
      go (Some v) e = let good = good_found m 4 v g e in record { few = omega (arith, good.0); digits = good.1 }

-- element 33 takes the id of a node, and what stands for none
pub id_fits : (id : List ℕ) → IsId id → set_fault (form_of 33) 33 id ≡ None
unfolding form_of table
id_fits id h = rw (le-leb (length id) 11 h.few, h.digits) refl

pub no_id_fits : set_fault (form_of 33) 33 [] ≡ None
unfolding form_of table
no_id_fits = refl

-- beyond the nodes there is no id
pub no_node : (t : Network) (n : ℕ) → length t.nodes ≤ n → [] ≡ node_id t n
no_node t n h = rw (slice_get_past t.nodes n h) refl
