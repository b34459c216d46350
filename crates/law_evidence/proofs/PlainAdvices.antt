-- The plain words of own approvals and of advices say the same.
use Rattle.std.proofs.Common.{◌≡◌, ℕ, ◌+◌, ◌*◌, ◌≤◌, List, [], ◌∷◌, ◌++◌, map, filter, reverse, length, Option, Some, None, Bool, true, false, cond, not, ◌&&◌, ◌||◌, refl, sym, ap, ◌∙◌, subst, inl, inr, ⊎_elim, ◌⊎◌, bytes_eq, arith}
use Rattle.std.proofs.lemmas.Bool.{and_parts, or_parts, or_cases, or_right, cond_both, not-true}
use Rattle.std.proofs.lemmas.List.Sums.{length-filter}
use Rattle.std.proofs.lemmas.List.Folds.{list_any-append}
use mathlib.Core.List.{reverse-cons}
use Rattle.std.specs.Option.{option_and_then}
use Rattle.std.specs.List.{list_any, count_by}
use Rattle.card_digits.specs.declared.key.Key.{Key}
use Rattle.iso_message.specs.Fields.{Fields}
use Rattle.message_elements.specs.Groups.{group, is_advice_group}
use Rattle.message_keys.specs.Keys.{key_of, identity_of, identity_eq}
use Rattle.iso_message.specs.Made.{made_reversal, made_stand_in}
use Rattle.message_keys.specs.declared.keys.AdviceId.{AdviceId}
use Rattle.net_rows.specs.Network.{Network}
use Rattle.network_law.specs.Tables.{node_id}
use Rattle.network_law.specs.Traces.{ReadInput, ReadOutput, Put, Answer, Ask, Post, PutPacket, Event, In, Out, History, IsIn, Has, Handled, handled, Opening, opening, opened, sent, has_00, is_00_of, brings_00, key_of_00, own_approval, Approval, approval_by, approval_of, approvals, Advice, advices, add_advice, add_made, add_accepted, acked_by, has_identity, late_key, failed_key, is_ok_ack, as_kept, known, is_at_home, stored, pending, load, was_put, is_put_of, count_of}
use Rattle.network_law.specs.Plain.{said_in, said, openings, opened_key}
use Rattle.law_evidence.specs.PlainAdvices.{Has00BySaid, FirstOwn, ApprovedByFirst, FirstApproves, is_made, is_accepted, KnownAfterInput, KnownAfterOutput, AdvicesOnce, KnownHasAdvice, AdviceIsKnown, ReversedHasAdvice, AdviceReverses, StoredAreAdvices, AdvicesAreStored, WasPutHasPut, PutWasPut, LoadIsSum}
use Rattle.network_law.proofs.Emits.{in_filter, filtered_in, in_reverse}
use Rattle.network_law.proofs.Used.{own_now}
use Rattle.network_law.proofs.Provenance.{identity_acked}
use Rattle.network_law.proofs.Accounts.{any_is, is_any}
use Rattle.network_law.proofs.Approvals.{is_00_parts}
use Rattle.message_keys.proofs.Equality.{identity_eq_is, identity_eq_refl, key_eq_refl}
use Rattle.network_law.proofs.Leaves.{approval_cases, Reverses, by_reversed, reversed_by, reverses_parts}
use Rattle.network_law.proofs.Plain.{keys_in_order}
use Rattle.network_law.proofs.PlainGrants.{filter_reverse, reverse_length}

not_both : (b : Bool) → b ≡ true → b ≡ false → ⊥
not_both b p q = cc

-- own approvals

or_false : (b : Bool) → (b || false) ≡ b
or_false true = refl
or_false false = refl

said_00 : (k : Key) (o : ReadOutput) → is_00_of k (sent o) ≡ list_any (λ m. is_00_of k (Some m)) (said_in o)
said_00 k (Put l s m) = sym (or_false (is_00_of k (Some m)))
said_00 k (Answer m) = sym (or_false (is_00_of k (Some m)))
said_00 k (Ask a m) = refl
said_00 k (Post m) = refl
said_00 k (PutPacket l s p) = refl

pub has_00_by_said : Has00BySaid
unfolding has_00 said
has_00_by_said [] k = refl
has_00_by_said (In i ∷ h) k = has_00_by_said h k
has_00_by_said (Out i o ∷ h) k = ap (λ b. b || is_00_of k (sent o)) (has_00_by_said h k) ∙ (ap (λ b. list_any (λ m. is_00_of k (Some m)) (said h) || b) (said_00 k o) ∙ sym (list_any-append (λ m. is_00_of k (Some m)) (said h) (said_in o)))

later_own : (t : Network) (e : Event) (h : History) (a : Approval) → FirstOwn t h a → FirstOwn t (e ∷ h) a
later_own t e h a f = record { later = e ∷ f.later; input = f.input; output = f.output; past = f.past; op = f.op; is = ap (λ z. e ∷ z) f.is; approves = f.approves; first = f.first; not_brought = f.not_brought; opened = f.opened; request = f.request }

pub approved_by_first : ApprovedByFirst
unfolding approvals
approved_by_first t [] a m = absurd m
approved_by_first t (In i ∷ h) a m = later_own t (In i) h a (approved_by_first t h a m)
approved_by_first t (Out i o ∷ h) a m = ⊎_elim now (λ old. later_own t (Out i o) h a (approved_by_first t h a old)) (approval_cases t h i o a m)
  where
    now : (own_approval h i o ≡ Some a.key) × Rattle.network_law.proofs.Leaves.ApprovedAs t h a → FirstOwn t (Out i o ∷ h) a
    now p =
        let w = own_now h i o a.key p.0 in
        let yes' : is_00_of a.key (sent o) ≡ true = rw (w.is, w.answer_kind, w.key, key_eq_refl a.key, w.code) refl in
        record { later = []; input = i; output = o; past = h; op = p.1.op; is = refl; approves = yes'; first = w.none_before; not_brought = w.not_brought; opened = p.1.opens; request = p.1.is }

approves_now : (t : Network) (past : History) (i : ReadInput) (o : ReadOutput) (a : Approval) (op : Opening) → is_00_of a.key (sent o) ≡ true → has_00 past a.key ≡ false → brings_00 past a.key i ≡ false → opening t past a.key ≡ Some op → a.request ≡ op.message → IsIn a (approvals t (Out i o ∷ past))
unfolding approvals
approves_now t past i o a op is none not' opens request =
    let k : key_of_00 (sent o) ≡ Some a.key = key_00 (sent o) is in
    let own : own_approval past i o ≡ Some a.key = rw (k, none, not') refl in
    let one : approval_of t past (own_approval past i o) ≡ record { key = a.key; request = op.message } ∷ [] = ap (approval_of t past) own ∙ ap (approval_by a.key) opens in
    let back = sym request in
    rw one (inl (λ j. record { key = a.key; request = back j }))
  where
    key_00 : (w : Option Fields) → is_00_of a.key w ≡ true → key_of_00 w ≡ Some a.key
    key_00 None e = absurd (not_both false e refl)
    key_00 (Some m) e = let p = is_00_parts a.key m e in rw (p.answer_kind, p.code, p.key) refl

in_front : {X : Type 0} (xs ys : List X) (x : X) → IsIn x ys → IsIn x (xs ++ ys)
in_front [] ys x m = m
in_front (z ∷ zs) ys x m = inr (in_front zs ys x m)

still_approved : (t : Network) (later : History) (h : History) (a : Approval) → IsIn a (approvals t h) → IsIn a (approvals t (later ++ h))
unfolding approvals
still_approved t [] h a m = m
still_approved t (In i ∷ later) h a m = still_approved t later h a m
still_approved t (Out i o ∷ later) h a m = in_front (approval_of t (later ++ h) (own_approval (later ++ h) i o)) (approvals t (later ++ h)) a (still_approved t later h a m)

pub first_approves : FirstApproves
first_approves t h a f = subst (λ z. IsIn a (approvals t z)) (sym f.is) (still_approved t f.later (Out f.input f.output ∷ f.past) a (approves_now t f.past f.input f.output a f.op f.approves f.first f.not_brought f.opened f.request))

-- what is known

add_known : (id : AdviceId) (a : Advice) (as' : List Advice) → list_any (has_identity id) (add_advice a as') ≡ (list_any (has_identity id) as' || identity_eq (identity_of a.message) id)
add_known id a as' = go (list_any (has_identity (identity_of a.message)) as') refl (identity_eq (identity_of a.message) id) refl
  where
    turn : (x y : Bool) → (x || y) ≡ (y || x)
    turn true true = refl
    turn true false = refl
    turn false true = refl
    turn false false = refl

    with_true : (x : Bool) → (x || true) ≡ true
    with_true true = refl
    with_true false = refl

    go : (b : Bool) → list_any (has_identity (identity_of a.message)) as' ≡ b → (c : Bool) → identity_eq (identity_of a.message) id ≡ c → list_any (has_identity id) (add_advice a as') ≡ (list_any (has_identity id) as' || identity_eq (identity_of a.message) id)
    go true at false at' = rw (at, at') (sym (or_false (list_any (has_identity id) as')))
    go true at true at' =
        let same : identity_of a.message ≡ id = identity_eq_is (identity_of a.message) id at' in
        let has : list_any (has_identity id) as' ≡ true = ap (λ z. list_any (has_identity z) as') (sym same) ∙ at in
        rw (at, at') (has ∙ sym (with_true (list_any (has_identity id) as')))
    go false at c at' = rw at (turn (identity_eq (identity_of a.message) id) (list_any (has_identity id) as'))

made_known : (id : AdviceId) (make : Fields → Fields) (count : ℕ) (o : Option Opening) (as' : List Advice) → list_any (has_identity id) (add_made make count o as') ≡ (list_any (has_identity id) as' || is_made make id o)
made_known id make count None as' = sym (or_false (list_any (has_identity id) as'))
made_known id make count (Some op) as' = add_known id (record { message = make op.message; count = count; own = true; acked = false }) as'

accepted_known : (id : AdviceId) (count : ℕ) (b : Bool) (o : Option Handled) (as' : List Advice) → list_any (has_identity id) (add_accepted count b o as') ≡ (list_any (has_identity id) as' || is_accepted id b o)
accepted_known id count false o as' = sym (or_false (list_any (has_identity id) as'))
accepted_known id count true None as' = sym (or_false (list_any (has_identity id) as'))
accepted_known id count true (Some x) as' = go (is_advice_group (group x.message.kind)) refl
  where
    go : (b : Bool) → is_advice_group (group x.message.kind) ≡ b → list_any (has_identity id) (add_accepted count true (Some x) as') ≡ (list_any (has_identity id) as' || (is_advice_group (group x.message.kind) && identity_eq (identity_of (as_kept x.message)) id))
    go true at = rw at (add_known id (record { message = as_kept x.message; count = count; own = false; acked = false }) as')
    go false at = rw at (sym (or_false (list_any (has_identity id) as')))

pub known_after_input : KnownAfterInput
unfolding known advices
known_after_input t n i h id = made_known id (λ m. made_reversal m (node_id t n)) (count_of h) (option_and_then (opening t h) (late_key h (advices t n h) i)) (map (acked_by i) (advices t n h)) ∙ ap (λ b. b || is_made (λ m. made_reversal m (node_id t n)) id (option_and_then (opening t h) (late_key h (advices t n h) i))) (identity_acked id i (advices t n h))

pub known_after_output : KnownAfterOutput
unfolding known advices
known_after_output t n i o h id =
    let failed = add_made (λ m. made_reversal m (node_id t n)) (count_of h) (option_and_then (opening t h) (failed_key t h i (sent o))) (advices t n h) in
    let stood = add_made (λ m. made_stand_in m (node_id t n)) (count_of h) (option_and_then (opening t h) (own_approval h i o)) failed in
    accepted_known id (count_of h) (is_ok_ack (sent o)) (handled t h i) stood
    ∙ ap (λ b. b || is_accepted id (is_ok_ack (sent o)) (handled t h i)) (made_known id (λ m. made_stand_in m (node_id t n)) (count_of h) (option_and_then (opening t h) (own_approval h i o)) failed
    ∙ ap (λ b. b || is_made (λ m. made_stand_in m (node_id t n)) id (option_and_then (opening t h) (own_approval h i o))) (made_known id (λ m. made_reversal m (node_id t n)) (count_of h) (option_and_then (opening t h) (failed_key t h i (sent o))) (advices t n h)))

pub known_has_advice : KnownHasAdvice
unfolding known
known_has_advice t n h id e = any_is id (advices t n h) e

pub advice_is_known : AdviceIsKnown
unfolding known
advice_is_known t n h a m = is_any (identity_of a.message) a (advices t n h) m refl

-- once

abbrev IsOnce : AdviceId → List Advice → Type 0
IsOnce id as' = length (filter (has_identity id) as') ≤ 1

none_of : (id : AdviceId) (as' : List Advice) → list_any (has_identity id) as' ≡ false → filter (has_identity id) as' ≡ []
none_of id [] e = refl
none_of id (a ∷ as') e = let p = or_parts (has_identity id a) (list_any (has_identity id) as') e in rw p.0 (none_of id as' p.1)

add_once : (id : AdviceId) (a : Advice) (as' : List Advice) → IsOnce id as' → IsOnce id (add_advice a as')
add_once id a as' q = cond_both (list_any (has_identity (identity_of a.message)) as') as' (a ∷ as') (IsOnce id) (λ _. q) (λ new. go new (has_identity id a) refl)
  where
    go : list_any (has_identity (identity_of a.message)) as' ≡ false → (b : Bool) → has_identity id a ≡ b → length (cond (has_identity id a) (a ∷ filter (has_identity id) as') (filter (has_identity id) as')) ≤ 1
    go new true at =
        let same : identity_of a.message ≡ id = identity_eq_is (identity_of a.message) id at in
        let none = none_of id as' (ap (λ z. list_any (has_identity z) as') (sym same) ∙ new) in
        rw (at, none) (omega arith)
    go new false at = rw at q

made_once : (id : AdviceId) (make : Fields → Fields) (count : ℕ) (o : Option Opening) (as' : List Advice) → IsOnce id as' → IsOnce id (add_made make count o as')
made_once id make count None as' q = q
made_once id make count (Some op) as' q = add_once id (record { message = make op.message; count = count; own = true; acked = false }) as' q

accepted_once : (id : AdviceId) (count : ℕ) (b : Bool) (o : Option Handled) (as' : List Advice) → IsOnce id as' → IsOnce id (add_accepted count b o as')
accepted_once id count true (Some x) as' q = cond_both (is_advice_group (group x.message.kind)) _ as' (IsOnce id) (λ _. add_once id (record { message = as_kept x.message; count = count; own = false; acked = false }) as' q) (λ _. q)
accepted_once id count true None as' q = q
accepted_once id count false o as' q = q

acked_count : (id : AdviceId) (i : ReadInput) (as' : List Advice) → length (filter (has_identity id) (map (acked_by i) as')) ≡ length (filter (has_identity id) as')
acked_count id i [] = refl
acked_count id i (a ∷ as') = go (has_identity id a) refl (acked_count id i as')
  where
    same : has_identity id (acked_by i a) ≡ has_identity id a
    same = sym (or_false (has_identity id (acked_by i a))) ∙ (identity_acked id i (a ∷ []) ∙ or_false (has_identity id a))

    go : (b : Bool) → has_identity id a ≡ b → length (filter (has_identity id) (map (acked_by i) as')) ≡ length (filter (has_identity id) as') → length (cond (has_identity id (acked_by i a)) (acked_by i a ∷ filter (has_identity id) (map (acked_by i) as')) (filter (has_identity id) (map (acked_by i) as'))) ≡ length (cond (has_identity id a) (a ∷ filter (has_identity id) as') (filter (has_identity id) as'))
    go true at ih = let f : has_identity id (acked_by i a) ≡ true = same ∙ at in rw (f, at) (ap (λ k. Rattle.std.proofs.Common.suc k) ih)
    go false at ih = let f : has_identity id (acked_by i a) ≡ false = same ∙ at in rw (f, at) ih

pub advices_once : AdvicesOnce
unfolding advices
advices_once t n [] id = omega arith
advices_once t n (In i ∷ h) id = made_once id (λ m. made_reversal m (node_id t n)) (count_of h) (option_and_then (opening t h) (late_key h (advices t n h) i)) (map (acked_by i) (advices t n h)) (let e = acked_count id i (advices t n h) in let q = advices_once t n h id in omega (arith, e, q))
advices_once t n (Out i o ∷ h) id =
    let failed = add_made (λ m. made_reversal m (node_id t n)) (count_of h) (option_and_then (opening t h) (failed_key t h i (sent o))) (advices t n h) in
    let stood = add_made (λ m. made_stand_in m (node_id t n)) (count_of h) (option_and_then (opening t h) (own_approval h i o)) failed in
    accepted_once id (count_of h) (is_ok_ack (sent o)) (handled t h i) stood
    (made_once id (λ m. made_stand_in m (node_id t n)) (count_of h) (option_and_then (opening t h) (own_approval h i o)) failed
    (made_once id (λ m. made_reversal m (node_id t n)) (count_of h) (option_and_then (opening t h) (failed_key t h i (sent o))) (advices t n h) (advices_once t n h id)))

-- reversed

pub reversed_has_advice : ReversedHasAdvice
reversed_has_advice t n h k e = let r = by_reversed t n h k e in let p = reverses_parts k r.advice r.reverses in (r.advice, r.stands, r.own, p.0, p.1)

pub advice_reverses : AdviceReverses
advice_reverses t n h a m own kind = reversed_by t n h (key_of a.message) a m own (rw kind (key_eq_refl (key_of a.message)))

-- the store

into_reverse : {X : Type 0} (xs : List X) (x : X) → IsIn x xs → IsIn x (reverse xs)
into_reverse [] x m = m
into_reverse (y ∷ ys) x m = subst (IsIn x) (sym (reverse-cons y ys)) (⊎_elim (λ e. in_front (reverse ys) (y ∷ []) x (inl e)) (λ r. in_back (reverse ys) (y ∷ []) x (into_reverse ys x r)) m)
  where
    in_back : {X : Type 0} (as' bs : List X) (z : X) → IsIn z as' → IsIn z (as' ++ bs)
    in_back [] bs z m = absurd m
    in_back (a ∷ as') bs z m = ⊎_elim inl (λ r. inr (in_back as' bs z r)) m

into_filter : {X : Type 0} (p : X → Bool) (xs : List X) (x : X) → IsIn x xs → p x ≡ true → IsIn x (filter p xs)
into_filter p [] x m e = m
into_filter p (y ∷ ys) x m e = go (p y) refl (into_filter p ys x)
  where
    go : (b : Bool) → p y ≡ b → (IsIn x ys → p x ≡ true → IsIn x (filter p ys)) → IsIn x (cond (p y) (y ∷ filter p ys) (filter p ys))
    go true at rest = rw at (⊎_elim inl (λ r. inr (rest r e)) m)
    go false at rest = rw at (⊎_elim (λ same. absurd (not_both (p y) (ap p same ∙ e) at)) (λ r. rest r e) m)

pub stored_are_advices : StoredAreAdvices
unfolding stored
stored_are_advices t n h a m =
    let r = in_reverse (filter (λ (x : Advice). not x.acked && not (is_at_home t n x.message)) (advices t n h)) a m in
    let p = and_parts (not a.acked) (not (is_at_home t n a.message)) (in_filter (λ (x : Advice). not x.acked && not (is_at_home t n x.message)) (advices t n h) a r) in
    (filtered_in (λ (x : Advice). not x.acked && not (is_at_home t n x.message)) (advices t n h) a r, not-true _ p.0, not-true _ p.1)

pub advices_are_stored : AdvicesAreStored
unfolding stored
advices_are_stored t n h a m unacked away = into_reverse (filter (λ (x : Advice). not x.acked && not (is_at_home t n x.message)) (advices t n h)) a (into_filter (λ (x : Advice). not x.acked && not (is_at_home t n x.message)) (advices t n h) a m (rw (unacked, away) refl))

-- puts

put_is : (id : AdviceId) (o : ReadOutput) → is_put_of id o ≡ true → (l : ℕ) × (s : ℕ) × (m : Fields) × (o ≡ Put l s m) × (is_advice_group (group m.kind) ≡ true) × (identity_of m ≡ id)
put_is id (Put l s m) e = let p = and_parts (is_advice_group (group m.kind)) (identity_eq (identity_of m) id) e in (l, s, m, refl, p.0, identity_eq_is (identity_of m) id p.1)
put_is id (Answer m) e = absurd (not_both false e refl)
put_is id (Ask a m) e = absurd (not_both false e refl)
put_is id (Post m) e = absurd (not_both false e refl)
put_is id (PutPacket l s p) e = absurd (not_both false e refl)

pub was_put_has_put : WasPutHasPut
unfolding was_put
was_put_has_put [] id e = absurd (not_both false e refl)
was_put_has_put (In i ∷ h) id e = let r = was_put_has_put h id e in (r.0, r.1, r.2, r.3, inr r.4, r.5, r.6)
was_put_has_put (Out i o ∷ h) id e = ⊎_elim (λ old. older (was_put_has_put h id old)) now (or_cases (was_put h id) (is_put_of id o) e)
  where
    older : ((j : ReadInput) × (l : ℕ) × (s : ℕ) × (m : Fields) × Has (Out j (Put l s m)) h × (is_advice_group (group m.kind) ≡ true) × (identity_of m ≡ id)) → (j : ReadInput) × (l : ℕ) × (s : ℕ) × (m : Fields) × Has (Out j (Put l s m)) (Out i o ∷ h) × (is_advice_group (group m.kind) ≡ true) × (identity_of m ≡ id)
    older r = (r.0, r.1, r.2, r.3, inr r.4, r.5, r.6)

    now : is_put_of id o ≡ true → (j : ReadInput) × (l : ℕ) × (s : ℕ) × (m : Fields) × Has (Out j (Put l s m)) (Out i o ∷ h) × (is_advice_group (group m.kind) ≡ true) × (identity_of m ≡ id)
    now p = let r = put_is id o p in (i, r.0, r.1, r.2, inl (ap (Out i) r.3), r.4, r.5)

pub put_was_put : PutWasPut
unfolding was_put
put_was_put [] i l s m has g = absurd has
put_was_put (In j ∷ h) i l s m has g = ⊎_elim (λ e. absurd (no e)) (λ below. put_was_put h i l s m below g) has
  where
    no : In j ≡ Out i (Put l s m) → ⊥
    no e = cc
put_was_put (Out j o ∷ h) i l s m has g = ⊎_elim here (λ below. rw (put_was_put h i l s m below g) refl) has
  where
    same : Out j o ≡ Out i (Put l s m) → o ≡ Put l s m
    same e = cc

    here : Out j o ≡ Out i (Put l s m) → (was_put h (identity_of m) || is_put_of (identity_of m) o) ≡ true
    here e = or_right (was_put h (identity_of m)) (is_put_of (identity_of m) o) (ap (is_put_of (identity_of m)) (same e) ∙ rw g (identity_eq_refl (identity_of m)))

-- the load

pub load_is_sum : LoadIsSum
unfolding load
load_is_sum t n h =
    let a : length (filter (pending t h) (opened t h)) ≡ count_by (pending t h) (opened t h) = length-filter (pending t h) (opened t h) in
    let b : length (filter (pending t h) (reverse (opened t h))) ≡ length (filter (pending t h) (opened t h)) = ap length (filter_reverse (pending t h) (opened t h)) ∙ reverse_length (filter (pending t h) (opened t h)) in
    let c : length (filter (pending t h) (reverse (opened t h))) ≡ length (filter (pending t h) (map opened_key (openings t h))) = ap (λ ks. length (filter (pending t h) ks)) (keys_in_order t h) in
    omega (arith, a, b, c)
