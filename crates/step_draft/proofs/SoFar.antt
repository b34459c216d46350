-- What is read change by change is what the books are after the changes.
use Rattle.std.proofs.Common.{◌≡◌, ℕ, List, [], ◌∷◌, ◌++◌, map, filter, Bool, true, false, cond, ◌&&◌, ◌||◌, not, Option, Some, None, refl, sym, ap, subst, ◌∙◌, inl, inr}
use Rattle.std.specs.Prelude.{is_some}
use Rattle.std.specs.Option.{option_or, option_map, option_and_then}
use Rattle.std.specs.List.{list_any}
use Rattle.std.proofs.lemmas.Bool.{cases_Bool}
use Rattle.std.proofs.lemmas.List.Folds.{list_any-append}
use Rattle.card_digits.specs.declared.key.Key.{Key}
use Rattle.message_keys.specs.declared.keys.AdviceId.{AdviceId}
use Rattle.message_keys.specs.Keys.{key_eq, key_of, identity_of, identity_eq}
use Rattle.message_keys.proofs.Equality.{key_eq_is, identity_eq_is}
use Rattle.network_law.specs.declared.grant.GrantPacket.{GrantPacket}
use Rattle.network_law.specs.Traces.{ReadOutput, PutPacket, forwards, is_put_of}
use Rattle.node_machine.specs.Books.{Stored, Advised, Granted}
use Rattle.node_machine.specs.Machine.{was_put, marked, packet_acks}
use Rattle.node_machine.specs.Lists.{Row, Lists, of_key, row_key, row_link, row_after, row_has, is_among}
use Rattle.node_machine.proofs.Views.{found_after, found_more}
use Rattle.node_books.specs.declared.effect.Effect.{Effect}
use Rattle.node_books.specs.declared.effect.Effect.TheVariants as effects
use Rattle.advice_store.specs.Advices.{has_id, packet_acked}
use Rattle.pending_book.specs.Rows.{opened}
use Rattle.node_books.specs.Values.{NewAdvice}
use Rattle.node_books.specs.Effects.{applied, applied_one, keep_in}
use Rattle.entry_changes.specs.SoFar.{forwarding, forward_step, forward_from, advice_state, advice_step, advice_from, count_step, count_from}
use Rattle.entry_changes.specs.declared.so_far.AdviceState.{AdviceState}
use Rattle.entry_changes.specs.declared.so_far.Forwarding.{Forwarding}

-- requests

pub found_key : (k : Key) (rows : List Row) (r : Row) → of_key k rows ≡ Some r → key_of r.message ≡ k
found_key k [] r e = cc
found_key k (x ∷ xs) r e = elim (cases_Bool (row_has k x)) [
  | inl t ↦ (let same : Some x ≡ Some r = rw t at e in let is : x ≡ r = cc in subst (λ (z : Row). key_of z.message ≡ k) is (key_eq_is (key_of x.message) k t))
  | inr f ↦ found_key k xs r (rw f at e)
]

abbrev forwarding_in : Option Row → Forwarding
forwarding_in w = record { there = is_some w; link = option_and_then row_link w }

sent_forwards : (k : Key) (o : ReadOutput) (rows : List Row) → forwarding k (map (row_after o) rows) ≡ forward_step k (effects.Sent o) (forwarding k rows)
sent_forwards k o rows = go (of_key k rows) refl
  where
    go : (w : Option Row) → of_key k rows ≡ w → forwarding k (map (row_after o) rows) ≡ forward_step k (effects.Sent o) (forwarding k rows)
    go None at = ap forwarding_in (found_after o k rows ∙ ap (option_map (row_after o)) at) ∙ sym (rw at refl)
    go (Some r) at = ap forwarding_in (found_after o k rows ∙ ap (option_map (row_after o)) at) ∙ (ap (λ z. record { there = true; link = option_or r.link (forwards z o) }) (found_key k rows r at) ∙ sym (rw at refl))

open_forwards : (k : Key) (r : Row) (rows : List Row) → forwarding k (opened r rows) ≡ forward_step k (effects.Opened r) (forwarding k rows)
open_forwards k r rows = go (of_key (row_key r) rows) refl (of_key k rows) refl (key_eq (row_key r) k) refl
  where
    go : (w : Option Row) → of_key (row_key r) rows ≡ w → (v : Option Row) → of_key k rows ≡ v → (b : Bool) → key_eq (row_key r) k ≡ b → forwarding k (opened r rows) ≡ forward_step k (effects.Opened r) (forwarding k rows)
    go None at (Some s) at' b e = let f : of_key k (rows ++ r ∷ []) ≡ Some s = found_more k rows r ∙ rw at' refl in rw (at, at', f) refl
    go None at None at' true e = let f : of_key k (rows ++ r ∷ []) ≡ Some r = found_more k rows r ∙ rw (at', e) refl in rw (at, at', e, f) refl
    go None at None at' false e = let f : of_key k (rows ++ r ∷ []) ≡ None = found_more k rows r ∙ rw (at', e) refl in rw (at, at', e, f) refl
    go (Some q) at (Some s) at' b e = rw (at, at') refl
    go (Some q) at None at' false e = rw (at, at', e) refl
    go (Some q) at None at' true e = let same : row_key r ≡ k = key_eq_is (row_key r) k e in let none : of_key (row_key r) rows ≡ None = subst (λ z. of_key z rows ≡ None) (sym same) at' in cc

forward_one : (k : Key) (e : Effect) (x : Lists) → forwarding k (applied_one e x).rows ≡ forward_step k e (forwarding k x.rows)
forward_one k (effects.Sent o) x = sent_forwards k o x.rows
forward_one k (effects.Kept a) x = elim (cases_Bool (is_among (identity_of a.message) x.known)) [ inl t ↦ rw t refl | inr f ↦ rw f refl ]
forward_one k (effects.Approved a) x = refl
forward_one k (effects.Opened r) x = open_forwards k r x.rows
forward_one k (effects.Acknowledged id) x = refl
forward_one k (effects.LinkIs l up) x = refl
forward_one k (effects.Dated d) x = refl
forward_one k effects.Ticked x = refl
forward_one k (effects.PacketSent l s p) x = ap (forwarding k) (packet_rows l s p x.rows)
  where
    or_none : {X : Type 0} (w : Option X) → option_or w None ≡ w
    or_none None = refl
    or_none (Some y) = refl

    or_false : (b : Bool) → (b || false) ≡ b
    or_false true = refl
    or_false false = refl

    packet_rows : (l s : ℕ) (p : GrantPacket) (rows : List Row) → map (row_after (PutPacket l s p)) rows ≡ rows
    packet_rows l s p [] = refl
    packet_rows l s p (r ∷ rs) = rw (or_none r.link, or_none r.answer, or_false r.asked, packet_rows l s p rs) refl
forward_one k (effects.Lent g) x = refl
forward_one k (effects.PacketTaken p) x = refl

pub forward_is : (k : Key) (es : List Effect) (x : Lists) → forward_from k es (forwarding k x.rows) ≡ forwarding k (applied es x).rows
forward_is k [] x = refl
forward_is k (e ∷ es) x = ap (forward_from k es) (sym (forward_one k e x)) ∙ forward_is k es (applied_one e x)

pub forwarded_some : (k : Key) (es : List Effect) (x : Lists) (r : Row) (l : Option ℕ) → Some r ≡ of_key k x.rows → l ≡ r.link → (forward_from k es (record { there = true; link = l })).link ≡ option_and_then row_link (of_key k (applied es x).rows)
forwarded_some k es x r l found e = ap (λ z. (forward_from k es (record { there = true; link = z })).link) e ∙ (ap (λ w. (forward_from k es (forwarding_in w)).link) found ∙ ap (λ (s : Forwarding). s.link) (forward_is k es x))

pub forwarded_none : (k : Key) (es : List Effect) (x : Lists) → None ≡ of_key k x.rows → (forward_from k es (record { there = false; link = None })).link ≡ option_and_then row_link (of_key k (applied es x).rows)
forwarded_none k es x none = ap (λ w. (forward_from k es (forwarding_in w)).link) none ∙ ap (λ (s : Forwarding). s.link) (forward_is k es x)

-- advices

or_false : (b : Bool) → (b || false) ≡ b
or_false true = refl
or_false false = refl

or_true : (b : Bool) → (b || true) ≡ true
or_true true = refl
or_true false = refl

stored_sent : (id : AdviceId) (o : ReadOutput) (xs : List Stored) → list_any (has_id id) (map (marked o) xs) ≡ list_any (has_id id) xs
stored_sent id o [] = refl
stored_sent id o (Advised a ∷ xs) = ap (λ z. identity_eq (identity_of a.message) id || z) (stored_sent id o xs)
stored_sent id o (Granted g ∷ xs) = stored_sent id o xs

mix : (a b p q r : Bool) → ((a && (p || r)) || (b || (q && r))) ≡ (((a && p) || b) || ((a || q) && r))
mix true true true q r = refl
mix true true false q true = refl
mix true true false q false = refl
mix true false true q r = refl
mix true false false q true = refl
mix true false false true false = refl
mix true false false false false = refl
mix false true p q r = refl
mix false false p q r = refl

put_sent : (id : AdviceId) (o : ReadOutput) (xs : List Stored) → list_any (was_put id) (map (marked o) xs) ≡ (list_any (was_put id) xs || (list_any (has_id id) xs && is_put_of id o))
put_sent id o [] = refl
put_sent id o (Granted g ∷ xs) = put_sent id o xs
put_sent id o (Advised a ∷ xs) = go (put_sent id o xs) (identity_eq (identity_of a.message) id) refl
  where
    go : list_any (was_put id) (map (marked o) xs) ≡ (list_any (was_put id) xs || (list_any (has_id id) xs && is_put_of id o)) → (b : Bool) → identity_eq (identity_of a.message) id ≡ b → ((identity_eq (identity_of a.message) id && (a.put || is_put_of (identity_of a.message) o)) || list_any (was_put id) (map (marked o) xs)) ≡ (((identity_eq (identity_of a.message) id && a.put) || list_any (was_put id) xs) || ((identity_eq (identity_of a.message) id || list_any (has_id id) xs) && is_put_of id o))
    go rest true e = ap (λ z. (identity_eq (identity_of a.message) id && (a.put || is_put_of z o)) || list_any (was_put id) (map (marked o) xs)) (identity_eq_is (identity_of a.message) id e) ∙ (ap (λ z. (identity_eq (identity_of a.message) id && (a.put || is_put_of id o)) || z) rest ∙ mix (identity_eq (identity_of a.message) id) (list_any (was_put id) xs) a.put (list_any (has_id id) xs) (is_put_of id o))
    go rest false e = rw e rest

-- what is acknowledged leaves the store

stored_acked : (id other : AdviceId) (xs : List Stored) → list_any (has_id id) (filter (λ a. not (has_id other a)) xs) ≡ cond (identity_eq id other) false (list_any (has_id id) xs)
stored_acked id other [] = go (identity_eq id other)
  where
    go : (b : Bool) → false ≡ cond b false false
    go true = refl
    go false = refl
stored_acked id other (Granted g ∷ xs) = stored_acked id other xs
stored_acked id other (Advised a ∷ xs) = go (stored_acked id other xs) (identity_eq (identity_of a.message) other) refl (identity_eq (identity_of a.message) id) refl
  where
    go : list_any (has_id id) (filter (λ a. not (has_id other a)) xs) ≡ cond (identity_eq id other) false (list_any (has_id id) xs) → (b : Bool) → identity_eq (identity_of a.message) other ≡ b → (c : Bool) → identity_eq (identity_of a.message) id ≡ c → list_any (has_id id) (filter (λ z. not (has_id other z)) (Advised a ∷ xs)) ≡ cond (identity_eq id other) false (identity_eq (identity_of a.message) id || list_any (has_id id) xs)
    go rest true e false f = rw (e, f) rest
    go rest false e false f = rw (e, f) rest
    go rest true e true f = let same : identity_eq id other ≡ true = subst (λ z. identity_eq z other ≡ true) (identity_eq_is (identity_of a.message) id f) e in rw e (rest ∙ rw same refl)
    go rest false e true f = let same : identity_eq id other ≡ false = subst (λ z. identity_eq z other ≡ false) (identity_eq_is (identity_of a.message) id f) e in rw (e, f, same) refl

put_acked : (id other : AdviceId) (xs : List Stored) → list_any (was_put id) (filter (λ a. not (has_id other a)) xs) ≡ cond (identity_eq id other) false (list_any (was_put id) xs)
put_acked id other [] = go (identity_eq id other)
  where
    go : (b : Bool) → false ≡ cond b false false
    go true = refl
    go false = refl
put_acked id other (Granted g ∷ xs) = put_acked id other xs
put_acked id other (Advised a ∷ xs) = go (put_acked id other xs) (identity_eq (identity_of a.message) other) refl (identity_eq (identity_of a.message) id) refl
  where
    go : list_any (was_put id) (filter (λ a. not (has_id other a)) xs) ≡ cond (identity_eq id other) false (list_any (was_put id) xs) → (b : Bool) → identity_eq (identity_of a.message) other ≡ b → (c : Bool) → identity_eq (identity_of a.message) id ≡ c → list_any (was_put id) (filter (λ z. not (has_id other z)) (Advised a ∷ xs)) ≡ cond (identity_eq id other) false ((identity_eq (identity_of a.message) id && a.put) || list_any (was_put id) xs)
    go rest true e false f = rw (e, f) rest
    go rest false e false f = rw (e, f) rest
    go rest true e true f = let same : identity_eq id other ≡ true = subst (λ z. identity_eq z other ≡ true) (identity_eq_is (identity_of a.message) id f) e in rw e (rest ∙ rw same refl)
    go rest false e true f = let same : identity_eq id other ≡ false = subst (λ z. identity_eq z other ≡ false) (identity_eq_is (identity_of a.message) id f) e in let less : list_any (was_put id) (filter (λ z. not (has_id other z)) xs) ≡ list_any (was_put id) xs = rest ∙ rw same refl in rw (e, f, same) (ap (λ z. a.put || z) less)

-- packets take no advice from the store

stored_packet : (id : AdviceId) (p : GrantPacket) (xs : List Stored) → list_any (has_id id) (filter (λ a. not (packet_acked p a)) xs) ≡ list_any (has_id id) xs
stored_packet id p [] = refl
stored_packet id p (Advised a ∷ xs) = ap (λ z. identity_eq (identity_of a.message) id || z) (stored_packet id p xs)
stored_packet id p (Granted g ∷ xs) = elim (cases_Bool (packet_acks p g)) [ inl t ↦ rw t (stored_packet id p xs) | inr f ↦ rw f (stored_packet id p xs) ]

put_packet : (id : AdviceId) (p : GrantPacket) (xs : List Stored) → list_any (was_put id) (filter (λ a. not (packet_acked p a)) xs) ≡ list_any (was_put id) xs
put_packet id p [] = refl
put_packet id p (Advised a ∷ xs) = ap (λ z. (identity_eq (identity_of a.message) id && a.put) || z) (put_packet id p xs)
put_packet id p (Granted g ∷ xs) = elim (cases_Bool (packet_acks p g)) [ inl t ↦ rw t (put_packet id p xs) | inr f ↦ rw f (put_packet id p xs) ]

last_any : {X : Type 0} (f : X → Bool) (xs : List X) (y : X) → list_any f (xs ++ y ∷ []) ≡ (list_any f xs || f y)
last_any f xs y = list_any-append f xs (y ∷ []) ∙ ap (λ z. list_any f xs || z) (or_false (f y))

kept_state : (id : AdviceId) (a : NewAdvice) (x : Lists) → advice_state id (keep_in a x) ≡ advice_step id (effects.Kept a) (advice_state id x)
kept_state id a x = go (is_among (identity_of a.message) x.known) refl (identity_eq (identity_of a.message) id) refl a.home refl
  where
    new : Stored
    new = Advised (record { message = a.message; count = a.count; put = a.put })

    known_at : (c : Bool) → identity_eq (identity_of a.message) id ≡ c → is_among id (x.known ++ identity_of a.message ∷ []) ≡ (is_among id x.known || c)
    known_at c f = last_any (λ z. identity_eq z id) x.known (identity_of a.message) ∙ ap (λ z. is_among id x.known || z) f

    stored_at : (c : Bool) → identity_eq (identity_of a.message) id ≡ c → list_any (has_id id) (x.store ++ Advised (record { message = a.message; count = a.count; put = a.put }) ∷ []) ≡ (list_any (has_id id) x.store || c)
    stored_at c f = last_any (has_id id) x.store (Advised (record { message = a.message; count = a.count; put = a.put })) ∙ ap (λ z. list_any (has_id id) x.store || z) f

    put_at : (c : Bool) → identity_eq (identity_of a.message) id ≡ c → list_any (was_put id) (x.store ++ Advised (record { message = a.message; count = a.count; put = a.put }) ∷ []) ≡ (list_any (was_put id) x.store || (c && a.put))
    put_at c f = last_any (was_put id) x.store (Advised (record { message = a.message; count = a.count; put = a.put })) ∙ ap (λ z. list_any (was_put id) x.store || (z && a.put)) f

    go : (k : Bool) → is_among (identity_of a.message) x.known ≡ k → (c : Bool) → identity_eq (identity_of a.message) id ≡ c → (h : Bool) → a.home ≡ h → advice_state id (keep_in a x) ≡ advice_step id (effects.Kept a) (advice_state id x)
    go true e true f h g = let s : is_among id x.known ≡ true = subst (λ z. is_among z x.known ≡ true) (identity_eq_is (identity_of a.message) id f) e in rw (e, f, s) refl
    go true e false f h g = rw (e, f) refl
    go false e true f true g =
        let s : is_among id x.known ≡ false = subst (λ z. is_among z x.known ≡ false) (identity_eq_is (identity_of a.message) id f) e in
        let kn : is_among id (x.known ++ identity_of a.message ∷ []) ≡ true = known_at true f ∙ or_true (is_among id x.known) in
        rw (e, f, g, s) (λ j. record { known = kn j; stored = sym (or_false (list_any (has_id id) x.store)) j; put = sym (or_false (list_any (was_put id) x.store)) j })
    go false e true f false g =
        let s : is_among id x.known ≡ false = subst (λ z. is_among z x.known ≡ false) (identity_eq_is (identity_of a.message) id f) e in
        let kn : is_among id (x.known ++ identity_of a.message ∷ []) ≡ true = known_at true f ∙ or_true (is_among id x.known) in
        rw (e, f, g, s) (λ j. record { known = kn j; stored = stored_at true f j; put = put_at true f j })
    go false e false f true g =
        let kn : is_among id (x.known ++ identity_of a.message ∷ []) ≡ is_among id x.known = known_at false f ∙ or_false (is_among id x.known) in
        rw (e, f, g) (λ j. record { known = kn j; stored = list_any (has_id id) x.store; put = list_any (was_put id) x.store })
    go false e false f false g =
        let kn : is_among id (x.known ++ identity_of a.message ∷ []) ≡ is_among id x.known = known_at false f ∙ or_false (is_among id x.known) in
        let st = stored_at false f ∙ or_false (list_any (has_id id) x.store) in
        let pu = put_at false f ∙ or_false (list_any (was_put id) x.store) in
        rw (e, f, g) (λ j. record { known = kn j; stored = st j; put = pu j })

same_state : (a a' b b' c c' : Bool) → a ≡ a' → b ≡ b' → c ≡ c' → Path AdviceState (record { known = a; stored = b; put = c }) (record { known = a'; stored = b'; put = c' })
same_state a a' b b' c c' e f g = λ j. record { known = e j; stored = f j; put = g j }

acked_state : (id other : AdviceId) (x : Lists) → advice_state id (applied_one (effects.Acknowledged other) x) ≡ advice_step id (effects.Acknowledged other) (advice_state id x)
acked_state id other x = go (identity_eq id other) refl
  where
    go : (b : Bool) → identity_eq id other ≡ b → advice_state id (applied_one (effects.Acknowledged other) x) ≡ advice_step id (effects.Acknowledged other) (advice_state id x)
    go true e =
        let st : list_any (has_id id) (filter (λ a. not (has_id other a)) x.store) ≡ false = stored_acked id other x.store ∙ rw e refl in
        let pu : list_any (was_put id) (filter (λ a. not (has_id other a)) x.store) ≡ false = put_acked id other x.store ∙ rw e refl in
        rw e (λ j. record { known = is_among id x.known; stored = st j; put = pu j })
    go false e =
        let st : list_any (has_id id) (filter (λ a. not (has_id other a)) x.store) ≡ list_any (has_id id) x.store = stored_acked id other x.store ∙ rw e refl in
        let pu : list_any (was_put id) (filter (λ a. not (has_id other a)) x.store) ≡ list_any (was_put id) x.store = put_acked id other x.store ∙ rw e refl in
        rw e (λ j. record { known = is_among id x.known; stored = st j; put = pu j })

pub advice_one : (id : AdviceId) (e : Effect) (x : Lists) → advice_state id (applied_one e x) ≡ advice_step id e (advice_state id x)
advice_one id (effects.Sent o) x = same_state _ _ _ _ _ _ refl (stored_sent id o x.store) (put_sent id o x.store)
advice_one id (effects.Kept a) x = kept_state id a x
advice_one id (effects.Approved a) x = refl
advice_one id (effects.Opened r) x = refl
advice_one id (effects.Acknowledged other) x = acked_state id other x
advice_one id (effects.LinkIs l up) x = refl
advice_one id (effects.Dated d) x = refl
advice_one id effects.Ticked x = refl
advice_one id (effects.PacketSent l s p) x = same_state _ _ _ _ _ _ refl (stored_sent id (PutPacket l s p) x.store) (put_sent id (PutPacket l s p) x.store ∙ (ap (λ z. list_any (was_put id) x.store || z) (and_false (list_any (has_id id) x.store)) ∙ or_false (list_any (was_put id) x.store)))
  where
    and_false : (b : Bool) → (b && false) ≡ false
    and_false true = refl
    and_false false = refl
advice_one id (effects.Lent g) x = same_state _ _ _ _ _ _ refl (last_any (has_id id) x.store (Granted g) ∙ or_false (list_any (has_id id) x.store)) (last_any (was_put id) x.store (Granted g) ∙ or_false (list_any (was_put id) x.store))
advice_one id (effects.PacketTaken p) x = same_state _ _ _ _ _ _ refl (stored_packet id p x.store) (put_packet id p x.store)

pub advice_are : (id : AdviceId) (es : List Effect) (x : Lists) → advice_from id es (advice_state id x) ≡ advice_state id (applied es x)
advice_are id [] x = refl
advice_are id (e ∷ es) x = ap (advice_from id es) (sym (advice_one id e x)) ∙ advice_are id es (applied_one e x)

-- ticks

count_one : (e : Effect) (x : Lists) → (applied_one e x).count ≡ count_step e x.count
count_one (effects.Sent o) x = refl
count_one (effects.Kept a) x = elim (cases_Bool (is_among (identity_of a.message) x.known)) [ inl t ↦ rw t refl | inr f ↦ rw f refl ]
count_one (effects.Approved a) x = refl
count_one (effects.Opened r) x = refl
count_one (effects.Acknowledged other) x = refl
count_one (effects.LinkIs l up) x = refl
count_one (effects.Dated d) x = refl
count_one effects.Ticked x = refl
count_one (effects.PacketSent l s p) x = refl
count_one (effects.Lent g) x = refl
count_one (effects.PacketTaken p) x = refl

pub count_is : (es : List Effect) (x : Lists) → count_from es x.count ≡ (applied es x).count
count_is [] x = refl
count_is (e ∷ es) x = ap (count_from es) (sym (count_one e x)) ∙ count_is es (applied_one e x)
