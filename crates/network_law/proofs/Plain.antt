-- The plain words say the same.
use Rattle.std.proofs.Common.{◌≡◌, ℕ, ◌+◌, List, [], ◌∷◌, ◌++◌, map, filter, find, fold, sum, reverse, length, Option, Some, None, is_some, is_none, Bool, true, false, cond, not, ◌&&◌, refl, sym, ap, ◌∙◌, subst, inl, inr, ⊎_elim, bytes_eq, arith, eqb, ◌≤◌, ◌⊎◌, unwrap_or}
use Rattle.std.specs.Prelude.{min}
use Rattle.std.proofs.lemmas.Bool.{and_parts, or_parts, not-true, cases_lt}
use Rattle.std.proofs.lemmas.Option.{same_Some}
use Rattle.std.proofs.lemmas.List.{append-nil, length-append, reverse-append}
use Rattle.std.specs.Option.{option_map_or, option_or, option_map, option_and_then}
use Rattle.card_digits.specs.Numbers.{decimal}
use Rattle.card_digits.specs.declared.key.Key.{Key}
use Rattle.iso_message.specs.Fields.{Fields, el}
use Rattle.message_elements.specs.Groups.{is_request, is_answer, group}
use Rattle.message_keys.specs.Keys.{key_of, key_eq, code_of}
use Rattle.message_elements.specs.Codes.{code_00, code_05, code_96}
use Rattle.net_rows.specs.Network.{Network}
use Rattle.iso_message.specs.Made.{made_reversal}
use Rattle.message_elements.specs.declared.kind.Kind.{Kind}
use Rattle.message_elements.specs.declared.kind.Kind.TheVariants.{K0100, K0101, K0110, K0120, K0121, K0130, K0400, K0401, K0410, K0420, K0421, K0430}
use Rattle.std.specs.List.{list_any}
use Rattle.message_elements.specs.declared.kind.Group.TheVariants as groups
use Rattle.network_law.specs.Tables.{node_id}
use Rattle.network_law.specs.Cards.{card_of, label_of, Bytes}
use Rattle.message_keys.specs.Amounts.{actual_amount}
use Rattle.network_law.specs.Traces.{key_asked, ask_count, asks_in, put_count, puts_on, up_after, is_up, date_after, date_of, ReadInput, Enter, Take, LinkUp, LinkDown, Tick, HostAnswer, NewDate, TakePacket, Lend, ReadOutput, Put, Answer, Ask, Post, PutPacket, In, Out, History, IsIn, count_of, ticks_in, Handled, handled, Opening, opening, opened_by, opened, key_handled, with_new, answer, answers, sent, forwarded, forwards, fails, approvals, reversed, left_by, left_of, left, used, added, Advice, advices, comes_late, code_is_not_00, reverses_key, pending, late_key, is_link, ask_key}
use Rattle.network_law.specs.Decision.{failing, decide, keep, on_code, on_answer, on_host}
use Rattle.network_law.specs.Plain.{Asked, asked_in, all_asked, AskedByNumber, CountsAsks, CountsPuts, sets_link, sets_up, UpByLast, sets_date, date_in, DatedByLast, inputs, requests, request_of, openings, opened_key, OpenedByFirst, OpenedOnce, EachIsOfItsKey, FailInOpeningOrder, is_answer_of, said_in, said, AnsweredByFirst, OnLink, put_in, puts, ForwardedByFirst, link_in, links_put, is_tick, CountsTicks, UsedIsSum, LeavesLeast, LeavesOne, LeavesNoMore, LeavesAll, LateIsReversed}
use Rattle.network_law.proofs.Used.{left_by_less, left_less}
use Rattle.message_keys.proofs.Equality.{key_eq_is, key_eq_refl}
use Rattle.network_law.proofs.Emits.{in_append}

pub find_append : {X : Type 0} (p : X → Bool) (xs ys : List X) → find p (xs ++ ys) ≡ option_or (find p xs) (find p ys)
find_append p [] ys = refl
find_append p (x ∷ xs) ys = go (p x) refl (find_append p xs ys)
  where
    go : (b : Bool) → p x ≡ b → find p (xs ++ ys) ≡ option_or (find p xs) (find p ys) → cond (p x) (Some x) (find p (xs ++ ys)) ≡ option_or (cond (p x) (Some x) (find p xs)) (find p ys)
    go true at ih = rw at refl
    go false at ih = rw at ih

pub or_same : {X : Type 0} (a b c d : Option X) → a ≡ c → b ≡ d → option_or a b ≡ option_or c d
or_same a b c d e f = ap (λ z. option_or z b) e ∙ ap (option_or c) f

-- requests

request_found : (k : Key) (n : ℕ) (i : ReadInput) (o : Option Handled) → opened_by k n i o ≡ find (λ op. key_eq (opened_key op) k) (request_of n i o)
request_found k n i None = refl
request_found k n i (Some x) = go (is_request x.message.kind) refl (key_eq (key_of x.message) k) refl
  where
    now : Opening
    now = record { message = x.message; source = x.source; count = n; input = i }

    go : (b : Bool) → is_request x.message.kind ≡ b → (c : Bool) → key_eq (key_of x.message) k ≡ c → cond (is_request x.message.kind && key_eq (key_of x.message) k) (Some (record { message = x.message; source = x.source; count = n; input = i })) None ≡ find (λ op. key_eq (opened_key op) k) (cond (is_request x.message.kind) (record { message = x.message; source = x.source; count = n; input = i } ∷ []) [])
    go false at c at' = rw at refl
    go true at true at' = rw (at, at') refl
    go true at false at' = rw (at, at') refl

pub opened_by_first : OpenedByFirst
unfolding opening requests
opened_by_first t [] k = refl
opened_by_first t (In i ∷ h) k = or_same (opening t h k) (opened_by k (count_of h) i (handled t h i)) _ _ (opened_by_first t h k) (request_found k (count_of h) i (handled t h i)) ∙ sym (find_append (λ op. key_eq (opened_key op) k) (requests t h) (request_of (count_of h) i (handled t h i)))
opened_by_first t (Out i o ∷ h) k = opened_by_first t h k

-- a request of a key that is open is none that opens
request_opens : (t : Network) (h : History) (k : Key) (ops : List Opening) → opening t h k ≡ None → find (λ op. key_eq (opened_key op) k) ops ≡ find (λ op. key_eq (opened_key op) k) (filter (λ op. is_none (opening t h (opened_key op))) ops)
request_opens t h k [] none = refl
request_opens t h k (op ∷ ops) none = go (key_eq (opened_key op) k) refl (is_none (opening t h (opened_key op))) refl (request_opens t h k ops none)
  where
    p : Opening → Bool
    p x = key_eq (opened_key x) k

    q : Opening → Bool
    q x = is_none (opening t h (opened_key x))

    go : (b : Bool) → key_eq (opened_key op) k ≡ b → (c : Bool) → is_none (opening t h (opened_key op)) ≡ c → find (λ x. key_eq (opened_key x) k) ops ≡ find (λ x. key_eq (opened_key x) k) (filter (λ x. is_none (opening t h (opened_key x))) ops) → cond (key_eq (opened_key op) k) (Some op) (find (λ x. key_eq (opened_key x) k) ops) ≡ find (λ x. key_eq (opened_key x) k) (cond (is_none (opening t h (opened_key op))) (op ∷ filter (λ x. is_none (opening t h (opened_key x))) ops) (filter (λ x. is_none (opening t h (opened_key x))) ops))
    go true at c at' ih =
        let fresh : is_none (opening t h (opened_key op)) ≡ true = ap (λ z. is_none (opening t h z)) (key_eq_is (opened_key op) k at) ∙ ap is_none none in
        rw (fresh, at) refl
    go false at true at' ih = rw (at', at) ih
    go false at false at' ih = rw (at', at) ih

pub opened_once : OpenedOnce
unfolding opening openings
opened_once t [] k = refl
opened_once t (In i ∷ h) k = go (opening t h k) refl (opened_once t h k)
  where
    new : List Opening
    new = request_of (count_of h) i (handled t h i)

    parts : find (λ op. key_eq (opened_key op) k) (openings t h ++ filter (λ op. is_none (opening t h (opened_key op))) (request_of (count_of h) i (handled t h i))) ≡ option_or (find (λ op. key_eq (opened_key op) k) (openings t h)) (find (λ op. key_eq (opened_key op) k) (filter (λ op. is_none (opening t h (opened_key op))) (request_of (count_of h) i (handled t h i))))
    parts = find_append (λ op. key_eq (opened_key op) k) (openings t h) (filter (λ op. is_none (opening t h (opened_key op))) (request_of (count_of h) i (handled t h i)))

    go : (o : Option Opening) → opening t h k ≡ o → opening t h k ≡ find (λ op. key_eq (opened_key op) k) (openings t h) → option_or (opening t h k) (opened_by k (count_of h) i (handled t h i)) ≡ find (λ op. key_eq (opened_key op) k) (openings t h ++ filter (λ op. is_none (opening t h (opened_key op))) (request_of (count_of h) i (handled t h i)))
    go (Some op) at ih = ap (λ z. option_or z (opened_by k (count_of h) i (handled t h i))) at ∙ (ap (λ z. option_or z (find (λ x. key_eq (opened_key x) k) (filter (λ x. is_none (opening t h (opened_key x))) (request_of (count_of h) i (handled t h i))))) (sym at ∙ ih) ∙ sym parts)
    go None at ih = or_same (opening t h k) (opened_by k (count_of h) i (handled t h i)) _ _ ih (request_found k (count_of h) i (handled t h i) ∙ request_opens t h k (request_of (count_of h) i (handled t h i)) at) ∙ sym parts
opened_once t (Out i o ∷ h) k = opened_once t h k

in_filter_both : {X : Type 0} (p : X → Bool) (xs : List X) (x : X) → IsIn x (filter p xs) → IsIn x xs × (p x ≡ true)
in_filter_both p [] x m = absurd m
in_filter_both p (y ∷ ys) x m = go (p y) refl (in_filter_both p ys x) m
  where
    go : (b : Bool) → p y ≡ b → (IsIn x (filter p ys) → IsIn x ys × (p x ≡ true)) → IsIn x (cond (p y) (y ∷ filter p ys) (filter p ys)) → IsIn x (y ∷ ys) × (p x ≡ true)
    go true at rest m = ⊎_elim (λ e. (inl e, subst (λ z. p z ≡ true) e at)) (λ r. (let z = rest r in (inr z.0, z.1))) (rw at at m)
    go false at rest m = let z = rest (rw at at m) in (inr z.0, z.1)

request_is : (n : ℕ) (i : ReadInput) (o : Option Handled) (op : Opening) → IsIn op (request_of n i o) → opened_by (opened_key op) n i o ≡ Some op
request_is n i None op m = absurd m
request_is n i (Some x) op m = go (is_request x.message.kind) refl m
  where
    now : Opening
    now = record { message = x.message; source = x.source; count = n; input = i }

    go : (b : Bool) → is_request x.message.kind ≡ b → IsIn op (cond (is_request x.message.kind) (record { message = x.message; source = x.source; count = n; input = i } ∷ []) []) → cond (is_request x.message.kind && key_eq (key_of x.message) (opened_key op)) (Some (record { message = x.message; source = x.source; count = n; input = i })) None ≡ Some op
    go false at m = absurd (rw at at m)
    go true at m = ⊎_elim here (λ bad. absurd bad) (rw at at m)
      where
        here : record { message = x.message; source = x.source; count = n; input = i } ≡ op → cond (is_request x.message.kind && key_eq (key_of x.message) (opened_key op)) (Some (record { message = x.message; source = x.source; count = n; input = i })) None ≡ Some op
        here e =
            let same : key_eq (key_of x.message) (opened_key op) ≡ true = ap (λ (z : Opening). key_eq (key_of x.message) (opened_key z)) (sym e) ∙ key_eq_refl (key_of x.message) in
            rw (at, same) (ap (λ (z : Opening). Some z) e)

pub each_of_its_key : EachIsOfItsKey
unfolding opening openings
each_of_its_key t [] op m = absurd m
each_of_its_key t (In i ∷ h) op m = ⊎_elim (λ old. ap (λ z. option_or z (opened_by (opened_key op) (count_of h) i (handled t h i))) (each_of_its_key t h op old)) now (in_append (openings t h) (filter (λ x. is_none (opening t h (opened_key x))) (request_of (count_of h) i (handled t h i))) op m)
  where
    none_is : (o : Option Opening) → is_none o ≡ true → o ≡ None
    none_is None e = refl
    none_is (Some x) e = cc

    now : IsIn op (filter (λ x. is_none (opening t h (opened_key x))) (request_of (count_of h) i (handled t h i))) → option_or (opening t h (opened_key op)) (opened_by (opened_key op) (count_of h) i (handled t h i)) ≡ Some op
    now new =
        let p = in_filter_both (λ x. is_none (opening t h (opened_key x))) (request_of (count_of h) i (handled t h i)) op new in
        ap (λ z. option_or z (opened_by (opened_key op) (count_of h) i (handled t h i))) (none_is (opening t h (opened_key op)) p.1) ∙ request_is (count_of h) i (handled t h i) op p.0
each_of_its_key t (Out i o ∷ h) op m = each_of_its_key t h op m

-- the open keys

pub map_append : {X Y : Type 0} (f : X → Y) (xs ys : List X) → map f (xs ++ ys) ≡ map f xs ++ map f ys
map_append f [] ys = refl
map_append f (x ∷ xs) ys = ap (λ z. f x ∷ z) (map_append f xs ys)

new_key : (t : Network) (h : History) (n : ℕ) (i : ReadInput) (o : Option Handled) (ks : List Key) → reverse (with_new (is_none (option_and_then (opening t h) (key_handled o))) (key_handled o) ks) ≡ reverse ks ++ map opened_key (filter (λ op. is_none (opening t h (opened_key op))) (request_of n i o))
new_key t h n i None ks = sym (append-nil (reverse ks))
new_key t h n i (Some x) ks = go (is_request x.message.kind) refl (is_none (opening t h (key_of x.message))) refl
  where
    go : (b : Bool) → is_request x.message.kind ≡ b → (c : Bool) → is_none (opening t h (key_of x.message)) ≡ c → reverse (with_new (is_none (option_and_then (opening t h) (cond (is_request x.message.kind) (Some (key_of x.message)) None))) (cond (is_request x.message.kind) (Some (key_of x.message)) None) ks) ≡ reverse ks ++ map opened_key (filter (λ op. is_none (opening t h (opened_key op))) (cond (is_request x.message.kind) (record { message = x.message; source = x.source; count = n; input = i } ∷ []) []))
    go false at c at' = rw at (sym (append-nil (reverse ks)))
    go true at true at' = rw (at, at') (reverse-append (key_of x.message ∷ []) ks)
    go true at false at' = rw (at, at') (sym (append-nil (reverse ks)))

pub keys_in_order : (t : Network) (h : History) → reverse (opened t h) ≡ map opened_key (openings t h)
unfolding opened openings
keys_in_order t [] = refl
keys_in_order t (In i ∷ h) = new_key t h (count_of h) i (handled t h i) (opened t h) ∙ (ap (λ z. z ++ map opened_key (filter (λ op. is_none (opening t h (opened_key op))) (request_of (count_of h) i (handled t h i)))) (keys_in_order t h) ∙ sym (map_append opened_key (openings t h) (filter (λ op. is_none (opening t h (opened_key op))) (request_of (count_of h) i (handled t h i)))))
keys_in_order t (Out i o ∷ h) = keys_in_order t h

filter_map : {X Y : Type 0} (f : X → Y) (p : Y → Bool) (xs : List X) → filter p (map f xs) ≡ map f (filter (λ x. p (f x)) xs)
filter_map f p [] = refl
filter_map f p (x ∷ xs) = go (p (f x)) refl (filter_map f p xs)
  where
    go : (b : Bool) → p (f x) ≡ b → filter p (map f xs) ≡ map f (filter (λ y. p (f y)) xs) → cond (p (f x)) (f x ∷ filter p (map f xs)) (filter p (map f xs)) ≡ map f (cond (p (f x)) (x ∷ filter (λ y. p (f y)) xs) (filter (λ y. p (f y)) xs))
    go true at ih = rw at (ap (λ z. f x ∷ z) ih)
    go false at ih = rw at ih

pub fail_in_opening_order : FailInOpeningOrder
unfolding failing
fail_in_opening_order t past i = ap (filter (fails t past i)) (keys_in_order t past) ∙ filter_map opened_key (fails t past i) (openings t past)

-- answers and forwards

answer_found : (k : Key) (o : ReadOutput) → answers k (sent o) ≡ find (is_answer_of k) (said_in o)
answer_found k (Put l s m) = refl
answer_found k (Answer m) = refl
answer_found k (Ask a m) = refl
answer_found k (Post m) = refl
answer_found k (PutPacket l s p) = refl

pub answered_by_first : AnsweredByFirst
unfolding answer said
answered_by_first [] k = refl
answered_by_first (In i ∷ h) k = answered_by_first h k
answered_by_first (Out i o ∷ h) k = or_same (answer h k) (answers k (sent o)) _ _ (answered_by_first h k) (answer_found k o) ∙ sym (find_append (is_answer_of k) (said h) (said_in o))

map_or : {X Y : Type 0} (f : X → Y) (a b : Option X) → option_map f (option_or a b) ≡ option_or (option_map f a) (option_map f b)
map_or f None b = refl
map_or f (Some x) b = refl

forward_found : (k : Key) (o : ReadOutput) → forwards k o ≡ option_map (λ (p : OnLink). p.link) (find (λ (p : OnLink). is_request p.message.kind && key_eq (key_of p.message) k) (put_in o))
forward_found k (Put l s m) = go (is_request m.kind && key_eq (key_of m) k) refl
  where
    go : (b : Bool) → (is_request m.kind && key_eq (key_of m) k) ≡ b → cond (is_request m.kind && key_eq (key_of m) k) (Some l) None ≡ option_map (λ (p : OnLink). p.link) (cond (is_request m.kind && key_eq (key_of m) k) (Some (record { link = l; message = m })) None)
    go true at = rw at refl
    go false at = rw at refl
forward_found k (Answer m) = refl
forward_found k (Ask a m) = refl
forward_found k (Post m) = refl
forward_found k (PutPacket l s p) = refl

pub forwarded_by_first : ForwardedByFirst
unfolding forwarded puts
forwarded_by_first [] k = refl
forwarded_by_first (In i ∷ h) k = forwarded_by_first h k
forwarded_by_first (Out i o ∷ h) k =
    or_same (forwarded h k) (forwards k o) _ _ (forwarded_by_first h k) (forward_found k o)
    ∙ (sym (map_or (λ (p : OnLink). p.link) (find (λ (p : OnLink). is_request p.message.kind && key_eq (key_of p.message) k) (puts h)) (find (λ (p : OnLink). is_request p.message.kind && key_eq (key_of p.message) k) (put_in o)))
    ∙ ap (option_map (λ (p : OnLink). p.link)) (sym (find_append (λ (p : OnLink). is_request p.message.kind && key_eq (key_of p.message) k) (puts h) (put_in o))))

-- the count

pub filter_append : {X : Type 0} (p : X → Bool) (xs ys : List X) → filter p (xs ++ ys) ≡ filter p xs ++ filter p ys
filter_append p [] ys = refl
filter_append p (x ∷ xs) ys = go (p x) refl (filter_append p xs ys)
  where
    go : (b : Bool) → p x ≡ b → filter p (xs ++ ys) ≡ filter p xs ++ filter p ys → cond (p x) (x ∷ filter p (xs ++ ys)) (filter p (xs ++ ys)) ≡ cond (p x) (x ∷ filter p xs) (filter p xs) ++ filter p ys
    go true at ih = rw at (ap (λ z. x ∷ z) ih)
    go false at ih = rw at ih

-- asks and serials

asked_found : (a : ℕ) (o : ReadOutput) → key_asked a o ≡ option_map (λ (p : Asked). key_of p.message) (find (λ (p : Asked). eqb a p.ask) (asked_in o))
asked_found a (Ask b m) = go (eqb a b) refl
  where
    go : (c : Bool) → eqb a b ≡ c → cond (eqb a b) (Some (key_of m)) None ≡ option_map (λ (p : Asked). key_of p.message) (cond (eqb a b) (Some (record { ask = b; message = m })) None)
    go true at = rw at refl
    go false at = rw at refl
asked_found a (Put l s m) = refl
asked_found a (Answer m) = refl
asked_found a (Post m) = refl
asked_found a (PutPacket l s p) = refl

pub asked_by_number : AskedByNumber
unfolding ask_key all_asked
asked_by_number [] a = refl
asked_by_number (In i ∷ h) a = asked_by_number h a
asked_by_number (Out i o ∷ h) a =
    or_same (ask_key h a) (key_asked a o) _ _ (asked_by_number h a) (asked_found a o)
    ∙ (sym (map_or (λ (p : Asked). key_of p.message) (find (λ (p : Asked). eqb a p.ask) (all_asked h)) (find (λ (p : Asked). eqb a p.ask) (asked_in o)))
    ∙ ap (option_map (λ (p : Asked). key_of p.message)) (sym (find_append (λ (p : Asked). eqb a p.ask) (all_asked h) (asked_in o))))

one_ask : (o : ReadOutput) → asks_in o ≡ length (asked_in o)
one_ask (Ask a m) = refl
one_ask (Put l s m) = refl
one_ask (Answer m) = refl
one_ask (Post m) = refl
one_ask (PutPacket l s p) = refl

pub counts_asks : CountsAsks
unfolding ask_count all_asked
counts_asks [] = refl
counts_asks (In i ∷ h) = counts_asks h
counts_asks (Out i o ∷ h) =
    let a = counts_asks h in
    let b = length-append (all_asked h) (asked_in o) in
    let c = one_ask o in
    omega (arith, a, b, c)

one_link : (k l : ℕ) → cond (eqb k l) 1 0 ≡ length {A = ℕ} (cond (eqb k l) (k ∷ []) [])
one_link k l = go (eqb k l) refl
  where
    go : (c : Bool) → eqb k l ≡ c → cond (eqb k l) 1 0 ≡ length {A = ℕ} (cond (eqb k l) (k ∷ []) [])
    go true at = rw at refl
    go false at = rw at refl

one_put_on : (l : ℕ) (o : ReadOutput) → puts_on l o ≡ length (filter (λ k. eqb k l) (link_in o))
one_put_on l (Put k s m) = one_link k l
one_put_on l (PutPacket k s p) = one_link k l
one_put_on l (Answer m) = refl
one_put_on l (Ask a m) = refl
one_put_on l (Post m) = refl

pub counts_puts : CountsPuts
unfolding put_count links_put
counts_puts [] l = refl
counts_puts (In i ∷ h) l = counts_puts h l
counts_puts (Out i o ∷ h) l =
    let a = counts_puts h l in
    let b = ap length (filter_append (λ k. eqb k l) (links_put h) (link_in o)) in
    let c = length-append (filter (λ k. eqb k l) (links_put h)) (filter (λ k. eqb k l) (link_in o)) in
    let d = one_put_on l o in
    omega (arith, a, b, c, d)

-- links and dates

up_last : (i : ReadInput) (l : ℕ) (is : List ReadInput) (old : Bool) → old ≡ option_map_or sets_up (find (sets_link l) is) true → up_after i l old ≡ option_map_or sets_up (find (sets_link l) (i ∷ is)) true
up_last (LinkUp k) l is old e = go (eqb k l) refl
  where
    go : (c : Bool) → eqb k l ≡ c → cond (eqb k l) true old ≡ option_map_or sets_up (cond (eqb k l) (Some (LinkUp k)) (find (sets_link l) is)) true
    go true at = rw at refl
    go false at = rw at e
up_last (LinkDown k) l is old e = go (eqb k l) refl
  where
    go : (c : Bool) → eqb k l ≡ c → cond (eqb k l) false old ≡ option_map_or sets_up (cond (eqb k l) (Some (LinkDown k)) (find (sets_link l) is)) true
    go true at = rw at refl
    go false at = rw at e
up_last (Enter m) l is old e = e
up_last (Take k s m) l is old e = e
up_last Tick l is old e = e
up_last (HostAnswer a c) l is old e = e
up_last (NewDate d) l is old e = e
up_last (TakePacket lk sr pk) l is old e = e
up_last (Lend br cd dt am) l is old e = e

pub up_by_last : UpByLast
unfolding is_up inputs
up_by_last [] l = refl
up_by_last (In i ∷ h) l = up_last i l (reverse (inputs h)) (is_up h l) (up_by_last h l) ∙ ap (λ is. option_map_or sets_up (find (sets_link l) is) true) (sym (reverse-append (inputs h) (i ∷ [])))
up_by_last (Out i o ∷ h) l = up_by_last h l

date_last : (i : ReadInput) (is : List ReadInput) (first old : List ℕ) → old ≡ option_map_or date_in (find sets_date is) first → date_after i old ≡ option_map_or date_in (find sets_date (i ∷ is)) first
date_last (NewDate d) is first old e = refl
date_last (TakePacket lk sr pk) is first old e = e
date_last (Lend br cd dt am) is first old e = e
date_last (Enter m) is first old e = e
date_last (Take k s m) is first old e = e
date_last (LinkUp k) is first old e = e
date_last (LinkDown k) is first old e = e
date_last Tick is first old e = e
date_last (HostAnswer a c) is first old e = e

pub dated_by_last : DatedByLast
unfolding date_of inputs
dated_by_last t [] = refl
dated_by_last t (In i ∷ h) = date_last i (reverse (inputs h)) t.settings.date (date_of t h) (dated_by_last t h) ∙ ap (λ is. option_map_or date_in (find sets_date is) t.settings.date) (sym (reverse-append (inputs h) (i ∷ [])))
dated_by_last t (Out i o ∷ h) = dated_by_last t h

one_tick : (i : ReadInput) → ticks_in i ≡ length (filter is_tick (i ∷ []))
one_tick Tick = refl
one_tick (Enter m) = refl
one_tick (Take l s m) = refl
one_tick (LinkUp l) = refl
one_tick (LinkDown l) = refl
one_tick (HostAnswer a c) = refl
one_tick (NewDate d) = refl
one_tick (TakePacket lk sr pk) = refl
one_tick (Lend br cd dt am) = refl

pub counts_ticks : CountsTicks
unfolding count_of inputs
counts_ticks [] = refl
counts_ticks (In i ∷ h) =
    let a = counts_ticks h in
    let b = ap length (filter_append is_tick (inputs h) (i ∷ [])) in
    let c = length-append (filter is_tick (inputs h)) (filter is_tick (i ∷ [])) in
    let d = one_tick i in
    omega (arith, a, b, c, d)
counts_ticks (Out i o ∷ h) = counts_ticks h

-- sums

sum_from : (a : ℕ) (xs : List ℕ) → fold (λ s x. s + x) a xs ≡ a + fold (λ s x. s + x) 0 xs
sum_from a [] = omega arith
sum_from a (x ∷ xs) =
    let p = sum_from (a + x) xs in
    let q = sum_from (0 + x) xs in
    omega (arith, p, q)

sum_more : (x : ℕ) (xs : List ℕ) → sum (x ∷ xs) ≡ x + sum xs
sum_more x xs = let p = sum_from (0 + x) xs in omega (arith, p)

pub summed : {X : Type 0} (p : X → Bool) (f : X → ℕ) (xs : List X) → added (λ x. cond (p x) (f x) 0) xs ≡ sum (map f (filter p xs))
summed p f [] = refl
summed p f (x ∷ xs) = go (p x) refl (summed p f xs)
  where
    go : (b : Bool) → p x ≡ b → added (λ y. cond (p y) (f y) 0) xs ≡ sum (map f (filter p xs)) → cond (p x) (f x) 0 + added (λ y. cond (p y) (f y) 0) xs ≡ sum (map f (cond (p x) (x ∷ filter p xs) (filter p xs)))
    go true at ih = rw at (ap (λ z. f x + z) ih ∙ sym (sum_more (f x) (map f (filter p xs))))
    go false at ih = rw at (let e = ih in omega (arith, e))

pub used_is_sum : UsedIsSum
unfolding used
used_is_sum t n h card date = summed (λ a. bytes_eq (card_of a.request) card && bytes_eq (label_of a.request) date) (left t n h) (approvals t h)

left_least : (k : Key) (as' : List Advice) (amount : ℕ) (x : Advice) → IsIn x as' → x.own ≡ false → reverses_key k x ≡ true → left_of k as' amount ≤ unwrap_or (actual_amount x.message) 0
left_least k [] amount x m own r = absurd m
left_least k (a ∷ as') amount x m own r = ⊎_elim here (λ below. older (left_least k as' amount x below own r)) m
  where
    least : (y rest : ℕ) → min y rest ≤ y
    least y rest = omega arith

    here : a ≡ x → left_by k a (left_of k as' amount) ≤ unwrap_or (actual_amount x.message) 0
    here e = subst (λ (z : Advice). left_by k z (left_of k as' amount) ≤ unwrap_or (actual_amount x.message) 0) (sym e) (rw (own, r) (least (unwrap_or (actual_amount x.message) 0) (left_of k as' amount)))

    older : left_of k as' amount ≤ unwrap_or (actual_amount x.message) 0 → left_by k a (left_of k as' amount) ≤ unwrap_or (actual_amount x.message) 0
    older le = (let p = left_by_less k a (left_of k as' amount) in omega (arith, p, le))

pub leaves_least : LeavesLeast
unfolding left
leaves_least t n h a x m own r = left_least a.key (advices t n h) (decimal (el a.request 4)) x m own r

-- what one reversal leaves
left_by_one : (k : Key) (a : Advice) (rest : ℕ) → (left_by k a rest ≡ rest) ⊎ ((a.own ≡ false) × (reverses_key k a ≡ true) × (left_by k a rest ≡ unwrap_or (actual_amount a.message) 0))
left_by_one k a rest = go (not a.own && reverses_key k a) refl
  where
    go : (b : Bool) → (not a.own && reverses_key k a) ≡ b → (left_by k a rest ≡ rest) ⊎ ((a.own ≡ false) × (reverses_key k a ≡ true) × (left_by k a rest ≡ unwrap_or (actual_amount a.message) 0))
    go false at = inl (rw at refl)
    go true at =
        let p = and_parts (not a.own) (reverses_key k a) at in
        let y = unwrap_or (actual_amount a.message) 0 in
        ⊎_elim
        (λ less. inr (not-true _ p.0, p.1, rw at (omega (arith, less))))
        (λ le. inl (rw at (omega (arith, le))))
        (cases_lt y rest)

left_one : (k : Key) (as' : List Advice) (amount : ℕ) → (left_of k as' amount ≡ amount) ⊎ ((x : Advice) × IsIn x as' × (x.own ≡ false) × (reverses_key k x ≡ true) × (left_of k as' amount ≡ unwrap_or (actual_amount x.message) 0))
left_one k [] amount = inl refl
left_one k (a ∷ as') amount = ⊎_elim (λ same. rest same (left_one k as' amount)) (λ e. inr (a, inl refl, e.0, e.1, e.2)) (left_by_one k a (left_of k as' amount))
  where
    rest : left_by k a (left_of k as' amount) ≡ left_of k as' amount → (left_of k as' amount ≡ amount) ⊎ ((x : Advice) × IsIn x as' × (x.own ≡ false) × (reverses_key k x ≡ true) × (left_of k as' amount ≡ unwrap_or (actual_amount x.message) 0)) → (left_by k a (left_of k as' amount) ≡ amount) ⊎ ((x : Advice) × IsIn x (a ∷ as') × (x.own ≡ false) × (reverses_key k x ≡ true) × (left_by k a (left_of k as' amount) ≡ unwrap_or (actual_amount x.message) 0))
    rest e older = ⊎_elim (λ same. inl (e ∙ same)) (λ f. inr (f.0, inr f.1, f.2, f.3, e ∙ f.4)) older

pub leaves_one : LeavesOne
unfolding left
leaves_one t n h a = left_one a.key (advices t n h) (decimal (el a.request 4))

pub leaves_no_more : LeavesNoMore
leaves_no_more t n h a = left_less t n h a

left_all : (k : Key) (as' : List Advice) (amount : ℕ) → list_any (λ a. not a.own && reverses_key k a) as' ≡ false → left_of k as' amount ≡ amount
left_all k [] amount e = refl
left_all k (a ∷ as') amount e =
    let p = or_parts (not a.own && reverses_key k a) (list_any (λ b. not b.own && reverses_key k b) as') e in
    rw p.0 (left_all k as' amount p.1)

pub leaves_all : LeavesAll
unfolding left reversed
leaves_all t n h a e = left_all a.key (advices t n h) (decimal (el a.request 4)) e

-- late approvals

not_pending : (t : Network) (past : History) (k : Key) (as' : List Advice) → comes_late past as' k ≡ true → pending t past k ≡ false
not_pending t past k as' late = go (answer past k) refl (and_parts (code_is_not_00 (answer past k)) (not (list_any (reverses_key k) as')) late).0
  where
    false_right : (b : Bool) → (b && false) ≡ false
    false_right true = refl
    false_right false = refl

    go : (a : Option Fields) → answer past k ≡ a → code_is_not_00 (answer past k) ≡ true → (is_some (opening t past k) && is_none (answer past k)) ≡ false
    go None at e = absurd (no (rw at at e))
      where
        no : false ≡ true → ⊥
        no p = cc
    go (Some a) at e = rw at (false_right (is_some (opening t past k)))

late_code : (t : Network) (n : ℕ) (past : History) (i : ReadInput) (k : Key) (c other : Bytes) (op : Opening) → bytes_eq c code_00 ≡ true → comes_late past (advices t n past) k ≡ true → on_code t n past i k c other (Some op) ≡ keep t n past i (made_reversal op.message (node_id t n)) (In i ∷ past)
late_code t n past i k c other op e late = rw (not_pending t past k (advices t n past) late, e, late) refl

answer_group : (k : Kind) → is_answer k ≡ true → group k ≡ groups.AuthorizationResponse
answer_group K0100 e = cc
answer_group K0101 e = cc
answer_group K0110 e = refl
answer_group K0120 e = cc
answer_group K0121 e = cc
answer_group K0130 e = cc
answer_group K0400 e = cc
answer_group K0401 e = cc
answer_group K0410 e = cc
answer_group K0420 e = cc
answer_group K0421 e = cc
answer_group K0430 e = cc

when_true : {X : Type 0} (b : Bool) (x y : X) → cond b (Some x) None ≡ Some y → (b ≡ true) × (x ≡ y)
when_true true x y e = (refl, same_Some x y e)
when_true false x y e = cc

late_take : (t : Network) (n : ℕ) (past : History) (l s : ℕ) (m : Fields) (k : Key) (op : Opening) → late_key past (advices t n past) (Take l s m) ≡ Some k → opening t past k ≡ Some op → decide t n past (Take l s m) ≡ keep t n past (Take l s m) (made_reversal op.message (node_id t n)) (In (Take l s m) ∷ past)
unfolding decide handled on_answer
late_take t n past l s m k op e o =
    let w = when_true (is_answer m.kind && bytes_eq (code_of m) code_00 && is_link l (forwarded past (key_of m)) && comes_late past (advices t n past) (key_of m)) (key_of m) k e in
    let a = and_parts (is_answer m.kind && bytes_eq (code_of m) code_00 && is_link l (forwarded past (key_of m))) (comes_late past (advices t n past) (key_of m)) w.0 in
    let b = and_parts (is_answer m.kind && bytes_eq (code_of m) code_00) (is_link l (forwarded past (key_of m))) a.0 in
    let c = and_parts (is_answer m.kind) (bytes_eq (code_of m) code_00) b.0 in
    let o' : opening t past (key_of m) ≡ Some op = ap (opening t past) w.1 ∙ o in
    rw (answer_group m.kind c.0, b.1, o') (late_code t n past (Take l s m) (key_of m) (code_of m) code_96 op c.1 a.1)

late_host : (t : Network) (n : ℕ) (past : History) (a : ℕ) (c : Bytes) (k : Key) (op : Opening) → late_key past (advices t n past) (HostAnswer a c) ≡ Some k → opening t past k ≡ Some op → decide t n past (HostAnswer a c) ≡ keep t n past (HostAnswer a c) (made_reversal op.message (node_id t n)) (In (HostAnswer a c) ∷ past)
unfolding decide on_host
late_host t n past a c k op e o = go (ask_key past a) refl e
  where
    go : (w : Option Key) → ask_key past a ≡ w → option_and_then (λ j. cond (bytes_eq c code_00 && comes_late past (advices t n past) j) (Some j) None) (ask_key past a) ≡ Some k → on_host t n past (HostAnswer a c) c (ask_key past a) ≡ keep t n past (HostAnswer a c) (made_reversal op.message (node_id t n)) (In (HostAnswer a c) ∷ past)
    go None at e = absurd (no (rw at at e))
      where
        no : None ≡ Some k → ⊥
        no p = cc
    go (Some j) at e =
        let w = when_true (bytes_eq c code_00 && comes_late past (advices t n past) j) j k (rw at at e) in
        let p = and_parts (bytes_eq c code_00) (comes_late past (advices t n past) j) w.0 in
        let o' : opening t past j ≡ Some op = ap (opening t past) w.1 ∙ o in
        rw (at, o') (late_code t n past (HostAnswer a c) j c code_05 op p.0 p.1)

pub late_is_reversed : LateIsReversed
late_is_reversed t n past (Take l s m) k op e o = late_take t n past l s m k op e o
late_is_reversed t n past (HostAnswer a c) k op e o = late_host t n past a c k op e o
late_is_reversed t n past (Enter m) k op e o = cc
late_is_reversed t n past (LinkUp l) k op e o = cc
late_is_reversed t n past (LinkDown l) k op e o = cc
late_is_reversed t n past Tick k op e o = cc
late_is_reversed t n past (NewDate d) k op e o = cc
late_is_reversed t n past (TakePacket lk sr pk) k op e o = cc
late_is_reversed t n past (Lend br cd dt am) k op e o = cc
