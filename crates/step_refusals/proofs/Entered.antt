-- What is entered finds no place, by its elements before it is handled.
use Rattle.std.proofs.Common.{◌≡◌, ℕ, ◌+◌, ◌-◌, nat_lt, not, ◌&&◌, true, false, cond, List, Option, Some, None, is_some, refl, sym, ap, ◌∙◌, inl, inr}
use Rattle.std.proofs.lemmas.Bool.{cases_Bool}
use Rattle.card_digits.specs.Numbers.{pad11}
use Rattle.message_elements.specs.declared.kind.Kind.{Kind}
use Rattle.message_elements.specs.declared.kind.Kind.TheVariants.{K0100, K0101, K0110, K0120, K0121, K0130, K0400, K0401, K0410, K0420, K0421, K0430}
use Rattle.iso_message.specs.Fields.{Fields, remove_element, set_element}
use Rattle.message_elements.specs.Groups.{group, is_request, is_reversal, is_04xx, is_advice_group}
use Rattle.message_keys.specs.Keys.{part, key_of, own_key, original_key, content, content_eq, identity_of, advice_kind, padded_or_zeros}
use Rattle.iso_message.specs.Made.{without_forwarder}
use Rattle.iso_message.proofs.Changes.{get_remove_same}
use Rattle.net_rows.specs.Network.{Network, issuer}
use Rattle.network_law.specs.Cards.{card_of, is_good_card}
use Rattle.network_law.specs.Traces.{dated, home_is}
use Rattle.network_law.proofs.Node.{el_remove}
use Rattle.node_machine.specs.Books.{Request}
use Rattle.node_machine.specs.Lists.{Lists, view, is_among}
use Rattle.node_machine.specs.Machine.{finds_no_place, load, other_content}
use Rattle.step_refusals.specs.Keyed.{request_at, is_pending_at}
use Rattle.step_refusals.specs.Places.{finds_no_place_as, entered_identity}

no_advice : (k : Kind) → is_request k ≡ true → is_advice_group (group k) ≡ false
no_advice K0100 e = refl
no_advice K0101 e = refl
no_advice K0110 e = refl
no_advice K0120 e = absurd cc
no_advice K0121 e = absurd cc
no_advice K0130 e = refl
no_advice K0400 e = absurd cc
no_advice K0401 e = absurd cc
no_advice K0410 e = refl
no_advice K0420 e = absurd cc
no_advice K0421 e = absurd cc
no_advice K0430 e = refl

module _ (m : Fields) where
  abbrev plain : Fields
  plain = remove_element m 33

  same_key : key_of plain ≡ key_of m
  unfolding key_of own_key original_key remove_element
  same_key =
      let e90 = el_remove m 33 90 refl in
      let e32 = el_remove m 33 32 refl in
      let e11 = el_remove m 33 11 refl in
      let e7 = el_remove m 33 7 refl in
      λ j. cond (is_04xx m.kind) (record { acquirer = part 20 11 (e90 j); trace = part 4 6 (e90 j); time = part 10 10 (e90 j) }) (record { acquirer = pad11 (e32 j); trace = e11 j; time = e7 j })

  same_identity : identity_of plain ≡ entered_identity m
  unfolding identity_of remove_element
  same_identity =
      let none = get_remove_same m 33 in
      λ j. record { kind = advice_kind (is_04xx m.kind); key = same_key j; forwarder = padded_or_zeros (none j) }

  same_card : card_of plain ≡ card_of m
  unfolding card_of
  same_card = ap Rattle.card_digits.specs.Digits.digits_of (el_remove m 33 2 refl)

  same_content : content plain ≡ content m
  unfolding content
  same_content =
      let e2 = el_remove m 33 2 refl in
      let e3 = el_remove m 33 3 refl in
      let e4 = el_remove m 33 4 refl in
      let e49 = el_remove m 33 49 refl in
      λ j. record { card = e2 j; processing = e3 j; amount = e4 j; currency = e49 j }

  same_other : (o : Option Request) → other_content o plain ≡ other_content o m
  same_other None = refl
  same_other (Some r) = ap (λ z. not (content_eq (content r.message) z)) same_content

  plain_is : (t : Network) (n : ℕ) (x : Lists) → finds_no_place t n (view t n x) plain ≡ finds_no_place_as t n x m (entered_identity m)
  unfolding identity_of remove_element
  plain_is t n x =
      let e2 = el_remove m 33 2 refl in
      let other : other_content (request_at x (key_of plain)) plain ≡ other_content (request_at x (key_of m)) m = same_other (request_at x (key_of plain)) ∙ ap (λ k. other_content (request_at x k) m) same_key in
      λ j. is_advice_group (group m.kind) && is_good_card (e2 j) && is_some (issuer t (same_card j)) && not (is_reversal m.kind && other j) && not (is_among (same_identity j) x.known)
      && (not (home_is n (issuer t (same_card j))) && nat_lt 65536 (load (view t n x) - cond (is_reversal m.kind && is_pending_at x (same_key j)) 2 0 + 1))

  pub entered_is : (t : Network) (n : ℕ) (x : Lists) (date : List ℕ) → finds_no_place t n (view t n x) (dated date (without_forwarder m)) ≡ finds_no_place_as t n x m (entered_identity m)
  unfolding remove_element set_element
  entered_is t n x date = elim (cases_Bool (is_request m.kind)) [
    | inl request ↦ let none = no_advice m.kind request in rw (request, none) refl
    | inr other ↦ rw other (plain_is t n x)
  ]

  -- no other message finds no place
  pub none_entered : (t : Network) (n : ℕ) (x : Lists) (date : List ℕ) → is_advice_group (group m.kind) ≡ false → false ≡ finds_no_place t n (view t n x) (dated date (without_forwarder m))
  none_entered t n x date none = sym (entered_is t n x date ∙ rw none refl)

  pub none_taken : (t : Network) (n : ℕ) (x : Lists) → is_advice_group (group m.kind) ≡ false → false ≡ finds_no_place t n (view t n x) m
  none_taken t n x none = rw none refl

  pub taken_is : (t : Network) (n : ℕ) (x : Lists) → finds_no_place t n (view t n x) m ≡ finds_no_place_as t n x m (identity_of m)
  unfolding identity_of
  taken_is t n x = refl
