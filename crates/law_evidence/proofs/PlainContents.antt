-- The plain words of what is asked, open and approved, and of what advices hold, say the same.
use Rattle.std.proofs.Common.{◌≡◌, ℕ, ◌≤◌, List, [], ◌∷◌, ◌++◌, map, filter, find, length, Option, Some, None, Bool, true, false, cond, ◌&&◌, ◌||◌, refl, sym, ap, ◌∙◌, inl, inr, ⊎_elim, ◌⊎◌, bytes_eq, arith}
use Rattle.std.proofs.lemmas.Bool.{or_parts}
use Rattle.std.proofs.lemmas.Option.{same_Some}
use Rattle.std.proofs.lemmas.List.Folds.{list_any-append}
use Rattle.std.specs.Option.{option_and_then, option_map, option_or}
use Rattle.std.specs.List.{list_any}
use Rattle.card_digits.specs.declared.key.Key.{Key}
use Rattle.iso_message.specs.Fields.{Fields}
use Rattle.message_elements.specs.Groups.{group, is_advice_group}
use Rattle.message_keys.specs.Keys.{key_of, key_eq, identity_of, identity_eq, code_of}
use Rattle.message_elements.specs.Codes.{code_00}
use Rattle.iso_message.specs.Made.{made_reversal, made_stand_in}
use Rattle.message_keys.specs.declared.keys.AdviceId.{AdviceId}
use Rattle.message_keys.proofs.Equality.{identity_eq_is, key_eq_is, key_eq_refl}
use Rattle.net_rows.specs.Network.{Network}
use Rattle.network_law.specs.Tables.{node_id}
use Rattle.network_law.specs.Traces.{ReadInput, Enter, Take, LinkUp, LinkDown, Tick, HostAnswer, NewDate, TakePacket, Lend, ReadOutput, Put, Answer, Ask, Post, PutPacket, Event, In, Out, History, count_of, Handled, handled, Opening, opening, asks, asked, sent, has_00, is_00_of, own_approval, Approval, approval_by, approval_of, approvals, Advice, advices, add_advice, add_made, add_accepted, acked_by, has_identity, is_ack, late_key, failed_key, is_ok_ack, as_kept, known}
use Rattle.network_law.specs.Plain.{inputs, Asked, asked_in, all_asked}
use Rattle.law_evidence.specs.PlainContents.{AskedByAsks, OpenedInOrder, ApprovalsOnce, made_of, accepted_of, all_advices, as_stored, AdviceIsFirst, acks, AckedAfterStoring}
use Rattle.network_law.proofs.Used.{own_now}
use Rattle.network_law.proofs.Provenance.{identity_acked}
use Rattle.network_law.proofs.Plain.{find_append, filter_append, keys_in_order}

not_both : (b : Bool) → b ≡ true → b ≡ false → ⊥
not_both b p q = cc

or_false : (b : Bool) → (b || false) ≡ b
or_false true = refl
or_false false = refl

or_none : {X : Type 0} (o : Option X) → option_or o None ≡ o
or_none (Some x) = refl
or_none None = refl

-- asks and openings

abbrev is_asked : Key → Asked → Bool
is_asked k p = key_eq (key_of p.message) k

asks_found : (k : Key) (o : ReadOutput) → asks k o ≡ list_any (is_asked k) (asked_in o)
asks_found k (Ask a m) = sym (or_false (key_eq (key_of m) k))
asks_found k (Put l s m) = refl
asks_found k (Answer m) = refl
asks_found k (Post m) = refl
asks_found k (PutPacket l s p) = refl

pub asked_by_asks : AskedByAsks
unfolding asked all_asked
asked_by_asks [] k = refl
asked_by_asks (In i ∷ h) k = asked_by_asks h k
asked_by_asks (Out i o ∷ h) k = ap (λ b. b || asks k o) (asked_by_asks h k) ∙ (ap (λ b. list_any (is_asked k) (all_asked h) || b) (asks_found k o) ∙ sym (list_any-append (is_asked k) (all_asked h) (asked_in o)))

pub opened_in_order : OpenedInOrder
opened_in_order t h = keys_in_order t h

-- own approvals

abbrev of_key : Key → Approval → Bool
of_key k a = key_eq a.key k

-- what is approved in an output is no key of which none is
not_approved : (h : History) (i : ReadInput) (o : ReadOutput) (j k : Key) → own_approval h i o ≡ Some j → is_00_of k (sent o) ≡ false → key_eq j k ≡ false
not_approved h i o j k own none = go (key_eq j k) refl
  where
    go : (b : Bool) → key_eq j k ≡ b → key_eq j k ≡ false
    go false at = at
    go true at =
        let w = own_now h i o j own in
        let is : is_00_of j (sent o) ≡ true = rw (w.is, w.answer_kind, w.key, key_eq_refl j, w.code) refl in
        absurd (not_both (is_00_of k (sent o)) (ap (λ z. is_00_of z (sent o)) (sym (key_eq_is j k at)) ∙ is) none)

none_approved : (t : Network) (h : History) (k : Key) → has_00 h k ≡ false → filter (of_key k) (approvals t h) ≡ []
unfolding approvals has_00
none_approved t [] k e = refl
none_approved t (In i ∷ h) k e = none_approved t h k e
none_approved t (Out i o ∷ h) k e = filter_append (of_key k) (approval_of t h (own_approval h i o)) (approvals t h) ∙ (ap (λ z. z ++ filter (of_key k) (approvals t h)) (now (own_approval h i o) refl) ∙ none_approved t h k (or_parts (has_00 h k) (is_00_of k (sent o)) e).0)
  where
    now : (w : Option Key) → own_approval h i o ≡ w → filter (of_key k) (approval_of t h w) ≡ []
    now None at = refl
    now (Some j) at = by (opening t h j)
      where
        by : (op : Option Opening) → filter (of_key k) (approval_by j op) ≡ []
        by None = refl
        by (Some op) = rw (not_approved h i o j k at (or_parts (has_00 h k) (is_00_of k (sent o)) e).1) refl

pub approvals_once : ApprovalsOnce
unfolding approvals
approvals_once t [] k = omega arith
approvals_once t (In i ∷ h) k = approvals_once t h k
approvals_once t (Out i o ∷ h) k = go (own_approval h i o) refl (approvals_once t h k)
  where
    go : (w : Option Key) → own_approval h i o ≡ w → length (filter (of_key k) (approvals t h)) ≤ 1 → length (filter (of_key k) (approval_of t h w ++ approvals t h)) ≤ 1
    go None at ih = ih
    go (Some j) at ih = by (opening t h j)
      where
        one : (a : Approval) (b : Bool) → a.key ≡ j → key_eq j k ≡ b → length (filter (of_key k) (a ∷ approvals t h)) ≤ 1
        one a false is at' = let f : key_eq a.key k ≡ false = ap (λ z. key_eq z k) is ∙ at' in rw f ih
        one a true is at' =
            let f : key_eq a.key k ≡ true = ap (λ z. key_eq z k) is ∙ at' in
            let w = own_now h i o j at in
            let none = none_approved t h k (ap (has_00 h) (sym (key_eq_is j k at')) ∙ w.none_before) in
            rw (f, none) (omega arith)

        by : (op : Option Opening) → length (filter (of_key k) (approval_by j op ++ approvals t h)) ≤ 1
        by None = ih
        by (Some op) = one (record { key = j; request = op.message }) (key_eq j k) refl refl

-- advices

-- the first advice of an identity, as it was stored
abbrev first_of : AdviceId → List Advice → Option Advice
first_of id as' = option_map as_stored (find (has_identity id) as')

abbrev fresh : Fields → ℕ → Bool → Advice
fresh m count own = record { message = m; count = count; own = own; acked = false }

found : (id : AdviceId) (as' : List Advice) → list_any (has_identity id) as' ≡ true → (x : Advice) × (find (has_identity id) as' ≡ Some x)
found id [] e = absurd (not_both false e refl)
found id (a ∷ as') e = go (has_identity id a) refl (found id as')
  where
    go : (b : Bool) → has_identity id a ≡ b → (list_any (has_identity id) as' ≡ true → (x : Advice) × (find (has_identity id) as' ≡ Some x)) → (x : Advice) × (find (has_identity id) (a ∷ as') ≡ Some x)
    go true at rest = (a, rw at refl)
    go false at rest = let r = rest (rw at at e) in (r.0, rw at r.1)

not_found : (id : AdviceId) (as' : List Advice) → list_any (has_identity id) as' ≡ false → find (has_identity id) as' ≡ None
not_found id [] e = refl
not_found id (a ∷ as') e = let p = or_parts (has_identity id a) (list_any (has_identity id) as') e in rw p.0 (not_found id as' p.1)

first_added : (id : AdviceId) (m : Fields) (count : ℕ) (own : Bool) (as' : List Advice) → first_of id (add_advice (fresh m count own) as') ≡ option_or (first_of id as') (find (has_identity id) (fresh m count own ∷ []))
first_added id m count own as' = go (list_any (has_identity (identity_of m)) as') refl (identity_eq (identity_of m) id) refl
  where
    go : (b : Bool) → list_any (has_identity (identity_of m)) as' ≡ b → (c : Bool) → identity_eq (identity_of m) id ≡ c → first_of id (add_advice (fresh m count own) as') ≡ option_or (first_of id as') (find (has_identity id) (fresh m count own ∷ []))
    go true at true at' =
        let same : identity_of m ≡ id = identity_eq_is (identity_of m) id at' in
        let r = found id as' (ap (λ z. list_any (has_identity z) as') (sym same) ∙ at) in
        let is = r.1 in
        rw (at, at', is) refl
    go false at true at' =
        let same : identity_of m ≡ id = identity_eq_is (identity_of m) id at' in
        let none = not_found id as' (ap (λ z. list_any (has_identity z) as') (sym same) ∙ at) in
        rw (at, at', none) refl
    go true at false at' = rw (at, at') (sym (or_none (first_of id as')))
    go false at false at' = rw (at, at') (sym (or_none (first_of id as')))

first_made : (id : AdviceId) (make : Fields → Fields) (count : ℕ) (o : Option Opening) (as' : List Advice) → first_of id (add_made make count o as') ≡ option_or (first_of id as') (find (has_identity id) (made_of make count o))
first_made id make count None as' = sym (or_none (first_of id as'))
first_made id make count (Some op) as' = first_added id (make op.message) count true as'

first_accepted : (id : AdviceId) (count : ℕ) (b : Bool) (o : Option Handled) (as' : List Advice) → first_of id (add_accepted count b o as') ≡ option_or (first_of id as') (find (has_identity id) (accepted_of count b o))
first_accepted id count false o as' = sym (or_none (first_of id as'))
first_accepted id count true None as' = sym (or_none (first_of id as'))
first_accepted id count true (Some x) as' = go (is_advice_group (group x.message.kind)) refl
  where
    go : (b : Bool) → is_advice_group (group x.message.kind) ≡ b → first_of id (add_accepted count true (Some x) as') ≡ option_or (first_of id as') (find (has_identity id) (accepted_of count true (Some x)))
    go true at = rw at (first_added id (as_kept x.message) count false as')
    go false at = rw at (sym (or_none (first_of id as')))

-- what acknowledges changes nothing else
same_identity : (id : AdviceId) (i : ReadInput) (a : Advice) → has_identity id (acked_by i a) ≡ has_identity id a
same_identity id (Take l s m) a = refl
same_identity id (Enter m) a = refl
same_identity id (LinkUp l) a = refl
same_identity id (LinkDown l) a = refl
same_identity id Tick a = refl
same_identity id (HostAnswer b c) a = refl
same_identity id (NewDate d) a = refl
same_identity id (TakePacket l s p) a = refl
same_identity id (Lend m c d x) a = refl

same_stored : (i : ReadInput) (a : Advice) → as_stored (acked_by i a) ≡ as_stored a
same_stored (Take l s m) a = refl
same_stored (Enter m) a = refl
same_stored (LinkUp l) a = refl
same_stored (LinkDown l) a = refl
same_stored Tick a = refl
same_stored (HostAnswer b c) a = refl
same_stored (NewDate d) a = refl
same_stored (TakePacket l s p) a = refl
same_stored (Lend m c d x) a = refl

first_acked : (id : AdviceId) (i : ReadInput) (as' : List Advice) → first_of id (map (acked_by i) as') ≡ first_of id as'
first_acked id i [] = refl
first_acked id i (a ∷ as') = go (has_identity id a) refl (first_acked id i as')
  where
    go : (b : Bool) → has_identity id a ≡ b → first_of id (map (acked_by i) as') ≡ first_of id as' → option_map as_stored (cond (has_identity id (acked_by i a)) (Some (acked_by i a)) (find (has_identity id) (map (acked_by i) as'))) ≡ option_map as_stored (cond (has_identity id a) (Some a) (find (has_identity id) as'))
    go true at ih = let f : has_identity id (acked_by i a) ≡ true = same_identity id i a ∙ at in rw (f, at) (ap Some (same_stored i a))
    go false at ih = let f : has_identity id (acked_by i a) ≡ false = same_identity id i a ∙ at in rw (f, at) ih

or_left : {X : Type 0} (a b c : Option X) → a ≡ b → option_or a c ≡ option_or b c
or_left a b c e = ap (λ z. option_or z c) e

pub advice_is_first : AdviceIsFirst
unfolding advices all_advices
advice_is_first t n [] id = refl
advice_is_first t n (In i ∷ h) id =
    let make : Fields → Fields = λ m. made_reversal m (node_id t n) in
    let late = option_and_then (opening t h) (late_key h (advices t n h) i) in
    first_made id make (count_of h) late (map (acked_by i) (advices t n h))
    ∙ (or_left _ _ (find (has_identity id) (made_of make (count_of h) late)) (first_acked id i (advices t n h) ∙ advice_is_first t n h id)
    ∙ sym (find_append (has_identity id) (all_advices t n h) (made_of make (count_of h) late)))
advice_is_first t n (Out i o ∷ h) id =
    let failed = option_and_then (opening t h) (failed_key t h i (sent o)) in
    let own = option_and_then (opening t h) (own_approval h i o) in
    let reversals : List Advice = made_of (λ m. made_reversal m (node_id t n)) (count_of h) failed in
    let stand_ins : List Advice = made_of (λ m. made_stand_in m (node_id t n)) (count_of h) own in
    let accepted : List Advice = accepted_of (count_of h) (is_ok_ack (sent o)) (handled t h i) in
    let with_reversal = add_made (λ m. made_reversal m (node_id t n)) (count_of h) failed (advices t n h) in
    let with_stand_in = add_made (λ m. made_stand_in m (node_id t n)) (count_of h) own with_reversal in
    first_accepted id (count_of h) (is_ok_ack (sent o)) (handled t h i) with_stand_in
    ∙ (or_left _ _ (find (has_identity id) accepted)
    (first_made id (λ m. made_stand_in m (node_id t n)) (count_of h) own with_reversal
    ∙ (or_left _ _ (find (has_identity id) stand_ins)
    (first_made id (λ m. made_reversal m (node_id t n)) (count_of h) failed (advices t n h)
    ∙ (or_left _ _ (find (has_identity id) reversals) (advice_is_first t n h id)
    ∙ sym (find_append (has_identity id) (all_advices t n h) reversals)))
    ∙ sym (find_append (has_identity id) (all_advices t n h ++ reversals) stand_ins)))
    ∙ sym (find_append (has_identity id) ((all_advices t n h ++ reversals) ++ stand_ins) accepted))

-- acknowledging

abbrev ack_of : AdviceId → List Advice → Option Bool
ack_of id as' = option_map (λ (a : Advice). a.acked) (find (has_identity id) as')

abbrev IsFresh : Option Bool → Type 0
IsFresh o = (o ≡ None) ⊎ (o ≡ Some false)

no_ack : (id : AdviceId) (as' : List Advice) → list_any (has_identity id) as' ≡ false → IsFresh (ack_of id as')
no_ack id as' e = let none = not_found id as' e in inl (rw none refl)

fresh_added : (id : AdviceId) (m : Fields) (count : ℕ) (own : Bool) (as' : List Advice) → IsFresh (ack_of id as') → IsFresh (ack_of id (add_advice (fresh m count own) as'))
fresh_added id m count own as' f = go (list_any (has_identity (identity_of m)) as') refl (identity_eq (identity_of m) id) refl
  where
    go : (b : Bool) → list_any (has_identity (identity_of m)) as' ≡ b → (c : Bool) → identity_eq (identity_of m) id ≡ c → IsFresh (ack_of id (add_advice (fresh m count own) as'))
    go true at c at' = rw at f
    go false at true at' = rw (at, at') (inr refl)
    go false at false at' = rw (at, at') f

fresh_made : (id : AdviceId) (make : Fields → Fields) (count : ℕ) (o : Option Opening) (as' : List Advice) → IsFresh (ack_of id as') → IsFresh (ack_of id (add_made make count o as'))
fresh_made id make count None as' f = f
fresh_made id make count (Some op) as' f = fresh_added id (make op.message) count true as' f

fresh_accepted : (id : AdviceId) (count : ℕ) (b : Bool) (o : Option Handled) (as' : List Advice) → IsFresh (ack_of id as') → IsFresh (ack_of id (add_accepted count b o as'))
fresh_accepted id count false o as' f = f
fresh_accepted id count true None as' f = f
fresh_accepted id count true (Some x) as' f = go (is_advice_group (group x.message.kind)) refl
  where
    go : (b : Bool) → is_advice_group (group x.message.kind) ≡ b → IsFresh (ack_of id (add_accepted count true (Some x) as'))
    go true at = rw at (fresh_added id (as_kept x.message) count false as' f)
    go false at = rw at f

-- what stands there stays as it is
stays_added : (id : AdviceId) (b : Bool) (m : Fields) (count : ℕ) (own : Bool) (as' : List Advice) → ack_of id as' ≡ Some b → ack_of id (add_advice (fresh m count own) as') ≡ Some b
stays_added id b m count own as' e = go (list_any (has_identity (identity_of m)) as') refl (identity_eq (identity_of m) id) refl
  where
    none_some : None ≡ Some b → ⊥
    none_some p = cc

    go : (x : Bool) → list_any (has_identity (identity_of m)) as' ≡ x → (y : Bool) → identity_eq (identity_of m) id ≡ y → ack_of id (add_advice (fresh m count own) as') ≡ Some b
    go true at y at' = rw at e
    go false at false at' = rw (at, at') e
    go false at true at' =
        let same : identity_of m ≡ id = identity_eq_is (identity_of m) id at' in
        let none = not_found id as' (ap (λ z. list_any (has_identity z) as') (sym same) ∙ at) in
        absurd (none_some (rw none at e))

stays_made : (id : AdviceId) (b : Bool) (make : Fields → Fields) (count : ℕ) (o : Option Opening) (as' : List Advice) → ack_of id as' ≡ Some b → ack_of id (add_made make count o as') ≡ Some b
stays_made id b make count None as' e = e
stays_made id b make count (Some op) as' e = stays_added id b (make op.message) count true as' e

stays_accepted : (id : AdviceId) (b : Bool) (count : ℕ) (yes : Bool) (o : Option Handled) (as' : List Advice) → ack_of id as' ≡ Some b → ack_of id (add_accepted count yes o as') ≡ Some b
stays_accepted id b count false o as' e = e
stays_accepted id b count true None as' e = e
stays_accepted id b count true (Some x) as' e = go (is_advice_group (group x.message.kind)) refl
  where
    go : (c : Bool) → is_advice_group (group x.message.kind) ≡ c → ack_of id (add_accepted count true (Some x) as') ≡ Some b
    go true at = rw at (stays_added id b (as_kept x.message) count false as' e)
    go false at = rw at e

acked_is : (id : AdviceId) (i : ReadInput) (a : Advice) → identity_of a.message ≡ id → Advice.acked (acked_by i a) ≡ (a.acked || acks id i)
acked_is id (Take l s m) a same = ap (λ z. a.acked || (is_ack (group m.kind) && bytes_eq (code_of m) code_00 && identity_eq z (identity_of m))) same
acked_is id (Enter m) a same = sym (or_false a.acked)
acked_is id (LinkUp l) a same = sym (or_false a.acked)
acked_is id (LinkDown l) a same = sym (or_false a.acked)
acked_is id Tick a same = sym (or_false a.acked)
acked_is id (HostAnswer b c) a same = sym (or_false a.acked)
acked_is id (NewDate d) a same = sym (or_false a.acked)
acked_is id (TakePacket l s p) a same = sym (or_false a.acked)
acked_is id (Lend m c d x) a same = sym (or_false a.acked)

ack_after : (id : AdviceId) (i : ReadInput) (b : Bool) (as' : List Advice) → ack_of id as' ≡ Some b → ack_of id (map (acked_by i) as') ≡ Some (b || acks id i)
ack_after id i b [] e = absurd (none_some e)
  where
    none_some : None ≡ Some b → ⊥
    none_some p = cc
ack_after id i b (a ∷ as') e = go (has_identity id a) refl (ack_after id i b as')
  where
    go : (c : Bool) → has_identity id a ≡ c → (ack_of id as' ≡ Some b → ack_of id (map (acked_by i) as') ≡ Some (b || acks id i)) → ack_of id (map (acked_by i) (a ∷ as')) ≡ Some (b || acks id i)
    go true at rest =
        let f : has_identity id (acked_by i a) ≡ true = same_identity id i a ∙ at in
        let is : a.acked ≡ b = same_Some _ _ (rw at at e) in
        rw f (ap Some (acked_is id i a (identity_eq_is (identity_of a.message) id at) ∙ ap (λ z. z || acks id i) is))
    go false at rest = let f : has_identity id (acked_by i a) ≡ false = same_identity id i a ∙ at in rw f (rest (rw at at e))

-- the event that makes an identity known stores it unacknowledged
fresh_in : (t : Network) (n : ℕ) (e : Event) (past : History) (id : AdviceId) → known t n past id ≡ false → IsFresh (ack_of id (advices t n (e ∷ past)))
unfolding advices known
fresh_in t n (In i) past id new = fresh_made id (λ m. made_reversal m (node_id t n)) (count_of past) (option_and_then (opening t past) (late_key past (advices t n past) i)) (map (acked_by i) (advices t n past)) (no_ack id (map (acked_by i) (advices t n past)) (identity_acked id i (advices t n past) ∙ new))
fresh_in t n (Out i o) past id new =
    let failed = add_made (λ m. made_reversal m (node_id t n)) (count_of past) (option_and_then (opening t past) (failed_key t past i (sent o))) (advices t n past) in
    let stood = add_made (λ m. made_stand_in m (node_id t n)) (count_of past) (option_and_then (opening t past) (own_approval past i o)) failed in
    fresh_accepted id (count_of past) (is_ok_ack (sent o)) (handled t past i) stood
    (fresh_made id (λ m. made_stand_in m (node_id t n)) (count_of past) (option_and_then (opening t past) (own_approval past i o)) failed
    (fresh_made id (λ m. made_reversal m (node_id t n)) (count_of past) (option_and_then (opening t past) (failed_key t past i (sent o))) (advices t n past) (no_ack id (advices t n past) new)))

is_stored : (id : AdviceId) (as' : List Advice) → list_any (has_identity id) as' ≡ true → IsFresh (ack_of id as') → ack_of id as' ≡ Some false
is_stored id as' e f = ⊎_elim (λ none. absurd (no none)) (λ p. p) f
  where
    some_none : (b : Bool) → Some b ≡ None → ⊥
    some_none b p = cc

    no : ack_of id as' ≡ None → ⊥
    no none = let r = found id as' e in let is = r.1 in some_none r.0.acked (rw is at none)

pub acked_after_storing : AckedAfterStoring
unfolding advices known inputs
acked_after_storing t n [] e past id new now = is_stored id (advices t n (e ∷ past)) now (fresh_in t n e past id new)
acked_after_storing t n (In i ∷ later) e past id new now =
    let h = later ++ e ∷ past in
    let b = list_any (acks id) (inputs later) in
    let said : (b || acks id i) ≡ list_any (acks id) (inputs later ++ i ∷ []) = ap (λ z. b || z) (sym (or_false (acks id i))) ∙ sym (list_any-append (acks id) (inputs later) (i ∷ [])) in
    stays_made id (b || acks id i) (λ m. made_reversal m (node_id t n)) (count_of h) (option_and_then (opening t h) (late_key h (advices t n h) i)) (map (acked_by i) (advices t n h)) (ack_after id i b (advices t n h) (acked_after_storing t n later e past id new now))
    ∙ ap Some said
acked_after_storing t n (Out i o ∷ later) e past id new now =
    let h = later ++ e ∷ past in
    let b = list_any (acks id) (inputs later) in
    let failed = add_made (λ m. made_reversal m (node_id t n)) (count_of h) (option_and_then (opening t h) (failed_key t h i (sent o))) (advices t n h) in
    let stood = add_made (λ m. made_stand_in m (node_id t n)) (count_of h) (option_and_then (opening t h) (own_approval h i o)) failed in
    stays_accepted id b (count_of h) (is_ok_ack (sent o)) (handled t h i) stood
    (stays_made id b (λ m. made_stand_in m (node_id t n)) (count_of h) (option_and_then (opening t h) (own_approval h i o)) failed
    (stays_made id b (λ m. made_reversal m (node_id t n)) (count_of h) (option_and_then (opening t h) (failed_key t h i (sent o))) (advices t n h) (acked_after_storing t n later e past id new now)))
