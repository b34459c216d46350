-- No key fails twice at one input.
use Rattle.std.proofs.Common.{◌≡◌, List, [], ◌∷◌, ◌++◌, filter, reverse, Option, Some, None, is_none, Bool, true, false, cond, refl, sym, ◌∙◌, subst, inl, inr, ⊎_elim, arith}
use Rattle.std.proofs.lemmas.Bool.{cond_both}
use Rattle.std.specs.Option.{option_or, option_and_then}
use mathlib.Core.List.{reverse-cons}
use Rattle.net_rows.specs.Network.{Network}
use Rattle.network_law.specs.Traces.{Source, Gate, ByLink, ReadInput, Enter, Take, LinkUp, LinkDown, Tick, HostAnswer, NewDate, TakePacket, Lend, ReadOutput, Put, Answer, Ask, Post, PutPacket, In, Out, History, Handled, handled, Opening, opening, opened, with_new, key_handled, answer, answers, sent, has_00, is_00_of, brings_00, own_approval, Advice, advices, add_advice, add_made, add_accepted, acked_by, has_identity, late_key, comes_late, code_is_not_00, failed_key, is_ok_ack, is_ack_kind, as_kept, is_timer, is_link, forwarded, forwards, pending, fails, count_of, known, reversed, is_at_home, ask_key, ask_count, put_count, Lent, grants, load, was_put, is_up, IsIn, Has}
use Rattle.network_law.specs.Decision.{failing}
use Rattle.message_keys.proofs.Equality.{key_eq_refl}
use Rattle.network_law.proofs.Emits.{opening_now, filtered_in, in_append, in_reverse}
use Rattle.message_elements.specs.Groups.{is_request, is_advice_group}
use Rattle.card_digits.specs.declared.key.Key.{Key}
use Rattle.message_keys.specs.Keys.{key_of}
use Rattle.network_law.proofs.AdviceMarks.{none_some, NoRepeat}

pub in_opened : (t : Network) (h : History) (k : Key) → IsIn k (opened t h) → (op : Opening) × (opening t h k ≡ Some op)
unfolding opened opening
in_opened t [] k m = absurd m
in_opened t (Out i o ∷ h) k m = in_opened t h k m
in_opened t (In i ∷ h) k m = go (is_none (option_and_then (opening t h) (key_handled (handled t h i)))) (handled t h i) refl (in_opened t h k) m
  where
    old : (op : Opening) × (opening t h k ≡ Some op) → (op : Opening) × (option_or (opening t h k) (Rattle.network_law.specs.Traces.opened_by k (count_of h) i (handled t h i)) ≡ Some op)
    old r = (r.0, rw (r.1) refl)

    new : (x : Handled) → handled t h i ≡ Some x → is_request x.message.kind ≡ true → key_of x.message ≡ k → (op : Opening) × (option_or (opening t h k) (Rattle.network_law.specs.Traces.opened_by k (count_of h) i (handled t h i)) ≡ Some op)
    new x e r key = by (opening t h k) refl
      where
        by : (w : Option Opening) → opening t h k ≡ w → (op : Opening) × (option_or (opening t h k) (Rattle.network_law.specs.Traces.opened_by k (count_of h) i (handled t h i)) ≡ Some op)
        by (Some op) at = (op, rw at refl)
        by None at = (opening_now h i x.message x.source, rw (at, e, r, key, key_eq_refl k) refl)

    go : (b : Bool) (w : Option Handled) → handled t h i ≡ w → (IsIn k (opened t h) → (op : Opening) × (opening t h k ≡ Some op)) → IsIn k (with_new b (key_handled w) (opened t h)) → (op : Opening) × (option_or (opening t h k) (Rattle.network_law.specs.Traces.opened_by k (count_of h) i (handled t h i)) ≡ Some op)
    go false w e rest m = old (rest m)
    go true None e rest m = old (rest m)
    go true (Some x) e rest m = by_kind (is_request x.message.kind) refl m
      where
        by_kind : (r : Bool) → is_request x.message.kind ≡ r → IsIn k (with_new true (cond (is_request x.message.kind) (Some (key_of x.message)) None) (opened t h)) → (op : Opening) × (option_or (opening t h k) (Rattle.network_law.specs.Traces.opened_by k (count_of h) i (handled t h i)) ≡ Some op)
        by_kind true r m = ⊎_elim (λ here. new x e r here) (λ there. old (rest there)) (rw r at m)
        by_kind false r m = old (rest (rw r at m))

pub opened_once : (t : Network) (h : History) → NoRepeat (opened t h)
unfolding opened
opened_once t [] = omega arith
opened_once t (Out i o ∷ h) = opened_once t h
opened_once t (In i ∷ h) = go (key_handled (handled t h i)) (opened_once t h)
  where
    go : (w : Option Key) → NoRepeat (opened t h) → NoRepeat (with_new (is_none (option_and_then (opening t h) w)) w (opened t h))
    go None rest = rest
    go (Some k) rest = by (opening t h k) refl
      where
        by : (v : Option Opening) → opening t h k ≡ v → NoRepeat (with_new (is_none (opening t h k)) (Some k) (opened t h))
        by None at = rw at (λ m. (let r = in_opened t h k m in none_some r.0 (sym at ∙ r.1)), rest)
        by (Some op) at = rw at rest

once_last : (xs : List Key) (y : Key) → NoRepeat xs → (IsIn y xs → ⊥) → NoRepeat (xs ++ (y ∷ []))
once_last [] y q other = (λ m. m, omega arith)
once_last (x ∷ xs) y q other = (λ m. ⊎_elim (λ old. q.0 old) (λ b. ⊎_elim (λ e. other (inl (sym e))) (λ c. c) b) (in_append xs (y ∷ []) x m), once_last xs y q.1 (λ m. other (inr m)))

pub once_reverse : (xs : List Key) → NoRepeat xs → NoRepeat (reverse xs)
once_reverse [] q = q
once_reverse (x ∷ xs) q = subst NoRepeat (sym (reverse-cons x xs)) (once_last (reverse xs) x (once_reverse xs q.1) (λ m. q.0 (in_reverse xs x m)))

pub once_filter : (p : Key → Bool) (xs : List Key) → NoRepeat xs → NoRepeat (filter p xs)
once_filter p [] q = q
once_filter p (x ∷ xs) q = cond_both (p x) (x ∷ filter p xs) (filter p xs) NoRepeat (λ _. (λ m. q.0 (filtered_in p xs x m), once_filter p xs q.1)) (λ _. once_filter p xs q.1)

pub failing_once : (t : Network) (past : History) (i : ReadInput) → NoRepeat (failing t past i)
unfolding failing
failing_once t past i = once_filter (fails t past i) (reverse (opened t past)) (once_reverse (opened t past) (opened_once t past))
