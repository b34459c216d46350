-- A message that was not refused has what it is handled by.
use Rattle.std.proofs.Common.{◌≡◌, ℕ, ◌==◌, List, [], ◌∷◌, Bool, true, false, cond, Option, Some, None, refl, sym, ap, ◌∙◌, inl, inr}
use Rattle.std.specs.Prelude.{◌&&◌, not, is_some}
use Rattle.std.specs.Option.{option_or, option_map}
use Rattle.std.proofs.lemmas.Bool.{cases_Bool, and_parts, and_from, not-false, eqb-true}
use Rattle.message_elements.specs.declared.kind.Kind.{Kind}
use Rattle.message_elements.specs.declared.kind.Kind.TheVariants.{K0100, K0101, K0110, K0120, K0121, K0130, K0400, K0401, K0410, K0420, K0421, K0430}
use Rattle.message_elements.specs.declared.kind.Group.{Group}
use Rattle.message_elements.specs.declared.kind.Group.TheVariants as groups
use Rattle.iso_message.specs.Fields.{Fields, get, has, set_element, remove_element}
use Rattle.message_elements.specs.Groups.{group, is_request, is_answer, is_04xx, is_advice_group}
use Rattle.iso_message.specs.Made.{has_own_key, is_one_of, with_date, without_forwarder}
use Rattle.message_keys.specs.Keys.{has_key, has_identity, is_identified}
use Rattle.iso_message.proofs.Changes.{get_set, get_remove}
use Rattle.net_rows.specs.Network.{Network}
use Rattle.network_law.specs.declared.fault.StepFault.{StepFault}
use Rattle.network_law.specs.declared.fault.StepFault.TheVariants.{Missing, TypeNotForGate}
use Rattle.network_law.specs.Cards.{text_of}
use Rattle.network_law.specs.Refusals.{when, first_missing, missing, required_entered, required_taken, entered_kind, taken_kind}
use Rattle.network_law.specs.Traces as messages
use Rattle.network_law.proofs.Refused.{or_none, when_none}
use Rattle.node_machine.specs.Books.{Books}
use Rattle.node_machine.specs.Machine.{refuse}
use Rattle.step_refusals.proofs.Present.{present, entered_known, taken_known, answer_known}
use Rattle.message_steps.specs.Coming.{is_complete}

-- what is handled has the elements of what came

module _ (m h : Fields) (kind : h.kind ≡ m.kind) (same : (n : ℕ) → is_one_of (7 ∷ 11 ∷ 32 ∷ 39 ∷ 90 ∷ []) n ≡ true → has h n ≡ has m n) where
  same_key : has_key h ≡ has_key m
  unfolding has_key has_own_key
  same_key = λ j. cond (is_04xx (kind j)) (same 90 refl j) (same 32 refl j && same 11 refl j && same 7 refl j)

  same_identity : has_identity h ≡ has_identity m
  unfolding has_identity
  same_identity = λ j. is_identified (group (kind j)) && same_key j

  same_group : (g : Group) → is_complete g h ≡ is_complete g m
  same_group groups.AuthorizationRequest = same_key
  same_group groups.AuthorizationResponse = λ j. same_key j && same 39 refl j
  same_group groups.Advice = same_identity
  same_group groups.Reversal = same_identity
  same_group groups.AdviceResponse = same_identity
  same_group groups.ReversalResponse = refl

  same_complete : is_complete (group h.kind) h ≡ is_complete (group m.kind) m
  same_complete = ap (λ k. is_complete (group k) h) kind ∙ same_group (group m.kind)

has_set : (m : Fields) (k n : ℕ) (v : List ℕ) → (k == n) ≡ false → has (set_element m k v) n ≡ has m n
unfolding has
has_set m k n v other = ap is_some (get_set m k n v other)

has_remove : (m : Fields) (k n : ℕ) → (k == n) ≡ false → has (remove_element m k) n ≡ has m n
unfolding has
has_remove m k n other = ap is_some (get_remove m k n other)

other_numbers : (n : ℕ) → is_one_of (7 ∷ 11 ∷ 32 ∷ 39 ∷ 90 ∷ []) n ≡ true → ((15 == n) ≡ false) × ((33 == n) ≡ false)
other_numbers n one = elim (cases_Bool (15 == n)) [
  | inl fifteen ↦ absurd (let wrong : false ≡ true = ap (is_one_of (7 ∷ 11 ∷ 32 ∷ 39 ∷ 90 ∷ [])) (eqb-true 15 n fifteen) ∙ one in cc)
  | inr not_15 ↦ elim (cases_Bool (33 == n)) [
    | inl thirty_three ↦ absurd (let wrong : false ≡ true = ap (is_one_of (7 ∷ 11 ∷ 32 ∷ 39 ∷ 90 ∷ [])) (eqb-true 33 n thirty_three) ∙ one in cc)
    | inr not_33 ↦ (not_15, not_33)
  ]
]

complete_dated : (date : List ℕ) (m : Fields) → is_complete (group (messages.dated date m).kind) (messages.dated date m) ≡ is_complete (group m.kind) m
unfolding set_element
complete_dated date m = go (is_request m.kind)
  where
    go : (b : Bool) → let h = cond b (with_date (text_of date) m) m in is_complete (group h.kind) h ≡ is_complete (group m.kind) m
    go true = same_complete m (with_date (text_of date) m) refl (λ n one. has_set m 15 n (text_of date) (other_numbers n one).0)
    go false = refl

complete_plain : (m : Fields) → is_complete (group m.kind) (without_forwarder m) ≡ is_complete (group m.kind) m
unfolding remove_element
complete_plain m = same_complete m (without_forwarder m) refl (λ n one. has_remove m 33 n (other_numbers n one).1)

-- a message as it is handled
pub complete_handled : (date : List ℕ) (m h : Fields) → h ≡ messages.dated date (without_forwarder m) → is_complete (group m.kind) m ≡ true → is_complete (group h.kind) h ≡ true
unfolding remove_element
complete_handled date m h is whole = ap (λ (z : Fields). is_complete (group z.kind) z) is ∙ (complete_dated date (without_forwarder m) ∙ (complete_plain m ∙ whole))

-- what is required is there

module _ (m : Fields) where
  own_there : (k : Kind) (ns : List ℕ) → m.kind ≡ k → is_04xx k ≡ false → first_missing m ns ≡ None → (is_one_of ns 32 && is_one_of ns 11 && is_one_of ns 7) ≡ true → has_key m ≡ true
  unfolding has_key has_own_key
  own_there k ns e plain none all =
      let (two, c) = and_parts (is_one_of ns 32 && is_one_of ns 11) (is_one_of ns 7) all in
      let (a, b) = and_parts (is_one_of ns 32) (is_one_of ns 11) two in
      rw (e, plain, present m ns 32 none a, present m ns 11 none b, present m ns 7 none c) refl

  original_there : (k : Kind) → m.kind ≡ k → is_04xx k ≡ true → has m 90 ≡ true → has_key m ≡ true
  unfolding has_key
  original_there k e reversing there = rw (e, reversing, there) refl

  identified : (k : Kind) → m.kind ≡ k → is_identified (group k) ≡ true → has_key m ≡ true → has_identity m ≡ true
  unfolding has_identity
  identified k e is key = and_from _ _ (ap (λ z. is_identified (group z)) e ∙ is) key

  taken_kinds : (k : Kind) → m.kind ≡ k → missing m (required_taken (group m.kind) m.kind) ≡ None → first_missing m (required_taken (group k) k) ≡ None → is_complete (group k) m ≡ true
  taken_kinds K0100 e whole none = own_there K0100 (required_taken groups.AuthorizationRequest K0100) e refl none refl
  taken_kinds K0101 e whole none = own_there K0101 (required_taken groups.AuthorizationRequest K0101) e refl none refl
  taken_kinds K0110 e whole none = and_from _ _ (answer_known m (ap is_answer e) whole) (present m (required_taken groups.AuthorizationResponse K0110) 39 none refl)
  taken_kinds K0120 e whole none = taken_known m whole (ap (λ k. is_advice_group (group k)) e)
  taken_kinds K0121 e whole none = taken_known m whole (ap (λ k. is_advice_group (group k)) e)
  taken_kinds K0130 e whole none = identified K0130 e refl (own_there K0130 (required_taken groups.AdviceResponse K0130) e refl none refl)
  taken_kinds K0400 e whole none = taken_known m whole (ap (λ k. is_advice_group (group k)) e)
  taken_kinds K0401 e whole none = taken_known m whole (ap (λ k. is_advice_group (group k)) e)
  taken_kinds K0410 e whole none = refl
  taken_kinds K0420 e whole none = taken_known m whole (ap (λ k. is_advice_group (group k)) e)
  taken_kinds K0421 e whole none = taken_known m whole (ap (λ k. is_advice_group (group k)) e)
  taken_kinds K0430 e whole none = identified K0430 e refl (original_there K0430 e refl (present m (required_taken groups.AdviceResponse K0430) 90 none refl))

  entered_kinds : (k : Kind) → m.kind ≡ k → entered_kind k ≡ true → missing m (required_entered (group m.kind)) ≡ None → first_missing m (required_entered (group k)) ≡ None → is_complete (group k) m ≡ true
  entered_kinds K0100 e kind whole none = own_there K0100 (required_entered groups.AuthorizationRequest) e refl none refl
  entered_kinds K0101 e kind whole none = own_there K0101 (required_entered groups.AuthorizationRequest) e refl none refl
  entered_kinds K0400 e kind whole none = entered_known m (ap entered_kind e ∙ kind) whole (ap (λ k. is_advice_group (group k)) e)
  entered_kinds K0401 e kind whole none = entered_known m (ap entered_kind e ∙ kind) whole (ap (λ k. is_advice_group (group k)) e)
  entered_kinds K0420 e kind whole none = entered_known m (ap entered_kind e ∙ kind) whole (ap (λ k. is_advice_group (group k)) e)
  entered_kinds K0421 e kind whole none = entered_known m (ap entered_kind e ∙ kind) whole (ap (λ k. is_advice_group (group k)) e)
  entered_kinds K0110 e kind whole none = cc
  entered_kinds K0120 e kind whole none = cc
  entered_kinds K0121 e kind whole none = cc
  entered_kinds K0130 e kind whole none = cc
  entered_kinds K0410 e kind whole none = cc
  entered_kinds K0430 e kind whole none = cc

-- what is missing is a fault

none_missing : (m : Fields) (ns : List ℕ) (other : Option StepFault) → option_or (option_map Missing (missing m ns)) other ≡ None → missing m ns ≡ None
none_missing m ns other e = go (missing m ns) (or_none (option_map Missing (missing m ns)) other e).0
  where
    go : (w : Option ℕ) → option_map Missing w ≡ None → w ≡ None
    go None none = refl
    go (Some number) none = cc

pub entered_complete : (t : Network) (n : ℕ) (b : Books) (m : Fields) → None ≡ refuse t n b (messages.Enter m) → is_complete (group m.kind) m ≡ true
unfolding refuse
entered_complete t n b m accepted =
    let a = or_none (when (not (entered_kind m.kind)) TypeNotForGate) _ (sym accepted) in
    let kind = not-false _ (when_none (not (entered_kind m.kind)) TypeNotForGate a.0) in
    let whole = none_missing m (required_entered (group m.kind)) _ a.1 in
    entered_kinds m m.kind refl kind whole (or_none (first_missing m (required_entered (group m.kind))) _ whole).0

pub taken_complete : (t : Network) (n : ℕ) (b : Books) (l s : ℕ) (m : Fields) → None ≡ refuse t n b (messages.Take l s m) → is_complete (group m.kind) m ≡ true
unfolding refuse
taken_complete t n b l s m accepted =
    let a = or_none (when (not (taken_kind m.kind)) TypeNotForGate) _ (sym accepted) in
    let whole = none_missing m (required_taken (group m.kind) m.kind) _ a.1 in
    taken_kinds m m.kind refl whole (or_none (first_missing m (required_taken (group m.kind) m.kind)) _ whole).0

-- what is read of a complete message

pub acknowledged_known : (g : Group) (m : Fields) (approves : Bool) → (messages.is_ack g && approves) ≡ true → is_complete g m ≡ true → has_identity m ≡ true
acknowledged_known groups.AdviceResponse m approves ack complete = complete
acknowledged_known groups.AuthorizationRequest m approves ack complete = cc
acknowledged_known groups.AuthorizationResponse m approves ack complete = cc
acknowledged_known groups.Advice m approves ack complete = cc
acknowledged_known groups.Reversal m approves ack complete = cc
acknowledged_known groups.ReversalResponse m approves ack complete = cc

pub not_absent : (m : Fields) (n : ℕ) → has m n ≡ true → None ≡ get m n → ⊥
unfolding has
not_absent m n there none = let wrong : false ≡ true = ap is_some none ∙ there in cc
