-- The plain words of lent amounts say the same.
use Rattle.std.proofs.Common.{◌≡◌, ℕ, suc, ◌+◌, ◌≤◌, ◌<◌, List, [], ◌∷◌, ◌++◌, map, filter, find, reverse, length, Option, Some, None, Bool, true, false, cond, not, ◌&&◌, ◌||◌, is_some, refl, sym, ap, ◌∙◌, ⊎_elim, bytes_eq, arith, eqb, leb}
use Rattle.std.proofs.lemmas.Bool.{and_parts, or_parts, eqb-true, eq-eqb, ne_eqb, le-leb, lt-leb, cases_lt, cond_both}
use Rattle.std.proofs.lemmas.List.{append-nil, length-append, length-map}
use Rattle.std.proofs.lemmas.List.Folds.{list_any-append}
use mathlib.Core.List.{reverse-cons}
use Rattle.std.specs.Option.{option_or, option_and_then}
use Rattle.std.specs.List.{list_any}
use Rattle.card_digits.specs.Numbers.{pad11}
use Rattle.iso_message.specs.Fields.{Fields}
use Rattle.message_elements.specs.Groups.{group, is_advice_group}
use Rattle.iso_message.specs.Made.{made_reversal, made_stand_in}
use Rattle.net_rows.specs.Network.{Network}
use Rattle.network_law.specs.Cards.{Bytes}
use Rattle.network_law.specs.Tables.{node_id}
use Rattle.network_law.specs.declared.grant.Grant.{Grant}
use Rattle.network_law.specs.declared.grant.GrantPacket.TheVariants as packets
use Rattle.network_law.specs.Traces.{ReadInput, Enter, Take, LinkUp, LinkDown, Tick, HostAnswer, NewDate, TakePacket, Lend, Event, In, Out, History, count_of, Handled, handled, Opening, opening, sent, own_approval, Advice, advices, acked_by, add_advice, add_made, add_accepted, late_key, failed_key, is_ok_ack, is_at_home, stored, Lent, lent_acked, grants, stored_grants, has_number, taken, borrowed, lent}
use Rattle.network_law.specs.Decision.{Due, DueAdvice, DueGrant, grants_made_after, in_order, is_due_again, is_sent_again, due}
use Rattle.network_law.specs.PlainGrants.{Lending, lends, numbered, GrantsAreLends, takes, TakenByFirst, TakenOnce, RepeatsAddNothing, NewAdds, BorrowedIsSum, LentIsSum, grants_of, advices_of, StoredGrantsAreDue, StoredAdvicesAreDue}
use Rattle.message_keys.proofs.Equality.{bytes_eq_is}
use Rattle.network_law.proofs.Plain.{find_append, summed, map_append, filter_append}

-- sums

pub borrowed_is_sum : BorrowedIsSum
unfolding borrowed
borrowed_is_sum h card date = summed (λ g. bytes_eq g.card card && bytes_eq g.date date) (λ g. g.amount) (taken h)

pub lent_is_sum : LentIsSum
unfolding lent
lent_is_sum t n h card date = summed (λ (g : Lent). bytes_eq g.grant.card card && bytes_eq g.grant.date date) (λ (g : Lent). g.grant.amount) (grants t n h)

-- taking

any_reverse : {X : Type 0} (p : X → Bool) (xs : List X) (x : X) → find p (xs ++ x ∷ []) ≡ None → find p xs ≡ None
any_reverse p [] x e = refl
any_reverse p (y ∷ ys) x e = go (p y) refl (any_reverse p ys x) e
  where
    go : (b : Bool) → p y ≡ b → (find p (ys ++ x ∷ []) ≡ None → find p ys ≡ None) → cond (p y) (Some y) (find p (ys ++ x ∷ [])) ≡ None → cond (p y) (Some y) (find p ys) ≡ None
    go true at rest e = absurd (no (rw at at e))
      where
        no : Some y ≡ None → ⊥
        no q = cc
    go false at rest e = rw at (rest (rw at at e))

last_none : {X : Type 0} (p : X → Bool) (xs : List X) (x : X) → find p (xs ++ x ∷ []) ≡ None → p x ≡ false
last_none p [] x e = go (p x) refl
  where
    go : (b : Bool) → p x ≡ b → p x ≡ false
    go true at = absurd (no (rw at at e))
      where
        no : Some x ≡ None → ⊥
        no q = cc
    go false at = at
last_none p (y ∷ ys) x e = go (p y) refl (last_none p ys x) e
  where
    go : (b : Bool) → p y ≡ b → (find p (ys ++ x ∷ []) ≡ None → p x ≡ false) → cond (p y) (Some y) (find p (ys ++ x ∷ [])) ≡ None → p x ≡ false
    go true at rest e = absurd (no (rw at at e))
      where
        no : Some y ≡ None → ⊥
        no q = cc
    go false at rest e = rest (rw at at e)

none_any : {X : Type 0} (p : X → Bool) (xs : List X) → find p (reverse xs) ≡ None → list_any p xs ≡ false
none_any p [] e = refl
none_any p (x ∷ xs) e =
    let f : find p (reverse xs ++ x ∷ []) ≡ None = ap (find p) (sym (reverse-cons x xs)) ∙ e in
    rw (last_none p (reverse xs) x f) (none_any p xs (any_reverse p (reverse xs) x f))

-- grants of one number are told from others alike
same_number : (g x : Grant) (xs : List Grant) → has_number g x ≡ true → list_any (has_number x) xs ≡ list_any (has_number g) xs
same_number g x xs e =
    let p = and_parts (bytes_eq g.lender x.lender) (eqb g.number x.number) e in
    let a : g.lender ≡ x.lender = bytes_eq_is g.lender x.lender p.0 in
    let b : g.number ≡ x.number = eqb-true g.number x.number p.1 in
    ap (λ l. list_any (λ (y : Grant). bytes_eq l y.lender && eqb x.number y.number) xs) (sym a) ∙ ap (λ k. list_any (λ (y : Grant). bytes_eq g.lender y.lender && eqb k y.number) xs) (sym b)

not_both : (b : Bool) → b ≡ true → b ≡ false → ⊥
not_both b p q = cc

taken_more : (g x : Grant) (old came : List Grant) → find (has_number g) (reverse old) ≡ find (has_number g) came → find (has_number g) (reverse (cond (list_any (has_number x) old) old (x ∷ old))) ≡ find (has_number g) (came ++ x ∷ [])
taken_more g x old came ih = go (list_any (has_number x) old) refl
  where
    parts : find (has_number g) (came ++ x ∷ []) ≡ option_or (find (has_number g) came) (find (has_number g) (x ∷ []))
    parts = find_append (has_number g) came (x ∷ [])

    known : list_any (has_number x) old ≡ true → (w : Option Grant) → find (has_number g) came ≡ w → find (has_number g) came ≡ option_or (find (has_number g) came) (find (has_number g) (x ∷ []))
    known at (Some y) is = rw is refl
    known at None is = by_number (has_number g x) refl
      where
        by_number : (b : Bool) → has_number g x ≡ b → find (has_number g) came ≡ option_or (find (has_number g) came) (find (has_number g) (x ∷ []))
        by_number true e = absurd (not_both (list_any (has_number g) old) (sym (same_number g x old e) ∙ at) (none_any (has_number g) old (ih ∙ is)))
        by_number false e = rw (is, e) refl

    go : (b : Bool) → list_any (has_number x) old ≡ b → find (has_number g) (reverse (cond (list_any (has_number x) old) old (x ∷ old))) ≡ find (has_number g) (came ++ x ∷ [])
    go true at = rw at (ih ∙ (known at (find (has_number g) came) refl ∙ sym parts))
    go false at = rw at (ap (find (has_number g)) (reverse-cons x old) ∙ (find_append (has_number g) (reverse old) (x ∷ []) ∙ (ap (λ z. option_or z (find (has_number g) (x ∷ []))) ih ∙ sym parts)))

pub taken_by_first : TakenByFirst
unfolding taken takes
taken_by_first [] g = refl
taken_by_first (Out i o ∷ h) g = taken_by_first h g
taken_by_first (In (TakePacket l s (packets.Grant x)) ∷ h) g = taken_more g x (taken h) (takes h) (taken_by_first h g)
taken_by_first (In (TakePacket l s (packets.Ack lender number)) ∷ h) g = taken_by_first h g ∙ ap (find (has_number g)) (sym (append-nil (takes h)))
taken_by_first (In (Enter m) ∷ h) g = taken_by_first h g ∙ ap (find (has_number g)) (sym (append-nil (takes h)))
taken_by_first (In (Take l s m) ∷ h) g = taken_by_first h g ∙ ap (find (has_number g)) (sym (append-nil (takes h)))
taken_by_first (In (LinkUp l) ∷ h) g = taken_by_first h g ∙ ap (find (has_number g)) (sym (append-nil (takes h)))
taken_by_first (In (LinkDown l) ∷ h) g = taken_by_first h g ∙ ap (find (has_number g)) (sym (append-nil (takes h)))
taken_by_first (In Tick ∷ h) g = taken_by_first h g ∙ ap (find (has_number g)) (sym (append-nil (takes h)))
taken_by_first (In (HostAnswer a c) ∷ h) g = taken_by_first h g ∙ ap (find (has_number g)) (sym (append-nil (takes h)))
taken_by_first (In (NewDate d) ∷ h) g = taken_by_first h g ∙ ap (find (has_number g)) (sym (append-nil (takes h)))
taken_by_first (In (Lend m c d a) ∷ h) g = taken_by_first h g ∙ ap (find (has_number g)) (sym (append-nil (takes h)))

-- what is taken is what came

find_any : {X : Type 0} (p : X → Bool) (xs : List X) → list_any p xs ≡ is_some (find p xs)
find_any p [] = refl
find_any p (x ∷ xs) = go (p x) refl (find_any p xs)
  where
    go : (b : Bool) → p x ≡ b → list_any p xs ≡ is_some (find p xs) → (p x || list_any p xs) ≡ is_some (cond (p x) (Some x) (find p xs))
    go true at ih = rw at refl
    go false at ih = rw at ih

any_turned : {X : Type 0} (p : X → Bool) (xs : List X) → list_any p (reverse xs) ≡ list_any p xs
any_turned p [] = refl
any_turned p (x ∷ xs) = ap (list_any p) (reverse-cons x xs) ∙ (list_any-append p (reverse xs) (x ∷ []) ∙ (ap (λ b. b || (p x || false)) (any_turned p xs) ∙ turn (list_any p xs) (p x)))
  where
    turn : (a b : Bool) → (a || (b || false)) ≡ (b || a)
    turn true true = refl
    turn true false = refl
    turn false true = refl
    turn false false = refl

taken_came : (h : History) (g : Grant) → list_any (has_number g) (taken h) ≡ list_any (has_number g) (takes h)
taken_came h g = sym (any_turned (has_number g) (taken h)) ∙ (find_any (has_number g) (reverse (taken h)) ∙ (ap is_some (taken_by_first h g) ∙ sym (find_any (has_number g) (takes h))))

pub repeats_add_nothing : RepeatsAddNothing
unfolding borrowed taken
repeats_add_nothing h l s g card date came = rw (taken_came h g ∙ came) refl

pub new_adds : NewAdds
unfolding borrowed taken
new_adds h l s g card date new = rw (taken_came h g ∙ new) refl

none_left : (g : Grant) (xs : List Grant) → list_any (has_number g) xs ≡ false → filter (has_number g) xs ≡ []
none_left g [] e = refl
none_left g (x ∷ xs) e = let p = or_parts (has_number g x) (list_any (has_number g) xs) e in rw p.0 (none_left g xs p.1)

one_more : (g x : Grant) (old : List Grant) → length (filter (has_number g) old) ≤ 1 → length (filter (has_number g) (cond (list_any (has_number x) old) old (x ∷ old))) ≤ 1
one_more g x old le = cond_both (list_any (has_number x) old) old (x ∷ old) (λ z. length (filter (has_number g) z) ≤ 1) (λ _. le) (λ new. go new (has_number g x) refl)
  where
    go : list_any (has_number x) old ≡ false → (b : Bool) → has_number g x ≡ b → length (cond (has_number g x) (x ∷ filter (has_number g) old) (filter (has_number g) old)) ≤ 1
    go new true at = let e = none_left g old (sym (same_number g x old at) ∙ new) in rw (at, e) (omega arith)
    go new false at = rw at le

pub taken_once : TakenOnce
unfolding taken
taken_once [] g = omega arith
taken_once (Out i o ∷ h) g = taken_once h g
taken_once (In (TakePacket l s (packets.Grant x)) ∷ h) g = one_more g x (taken h) (taken_once h g)
taken_once (In (TakePacket l s (packets.Ack lender number)) ∷ h) g = taken_once h g
taken_once (In (Enter m) ∷ h) g = taken_once h g
taken_once (In (Take l s m) ∷ h) g = taken_once h g
taken_once (In (LinkUp l) ∷ h) g = taken_once h g
taken_once (In (LinkDown l) ∷ h) g = taken_once h g
taken_once (In Tick ∷ h) g = taken_once h g
taken_once (In (HostAnswer a c) ∷ h) g = taken_once h g
taken_once (In (NewDate d) ∷ h) g = taken_once h g
taken_once (In (Lend m c d a) ∷ h) g = taken_once h g

-- lending

abbrev made_of : Lent → Grant
made_of g = g.grant

pub map_reverse : {X Y : Type 0} (f : X → Y) (xs : List X) → map f (reverse xs) ≡ reverse (map f xs)
map_reverse f [] = refl
map_reverse f (x ∷ xs) = ap (map f) (reverse-cons x xs) ∙ (map_append f (reverse xs) (x ∷ []) ∙ (ap (λ z. z ++ f x ∷ []) (map_reverse f xs) ∙ sym (reverse-cons (f x) (map f xs))))

acked_made : (lender : Bytes) (number : ℕ) (gs : List Lent) → map made_of (map (lent_acked lender number) gs) ≡ map made_of gs
acked_made lender number [] = refl
acked_made lender number (g ∷ gs) = ap (λ z. g.grant ∷ z) (acked_made lender number gs)

numbered_length : (t : Network) (n k : ℕ) (xs : List Lending) → length (numbered t n k xs) ≡ length xs
numbered_length t n k [] = refl
numbered_length t n k (x ∷ xs) = ap suc (numbered_length t n (suc k) xs)

abbrev as_grant : Network → ℕ → ℕ → Lending → Grant
as_grant t n k x = record { lender = pad11 (node_id t n); number = suc k; borrower = pad11 (node_id t x.borrower); card = x.card; date = x.date; amount = x.amount }

numbered_append : (t : Network) (n k : ℕ) (xs : List Lending) (x : Lending) → numbered t n k (xs ++ x ∷ []) ≡ numbered t n k xs ++ as_grant t n (k + length xs) x ∷ []
numbered_append t n k [] x = let e : k + 0 ≡ k = omega arith in ap (λ z. as_grant t n z x ∷ []) (sym e)
numbered_append t n k (y ∷ ys) x =
    let e : suc k + length ys ≡ k + suc (length ys) = omega arith in
    ap (λ z. as_grant t n k y ∷ z) (numbered_append t n (suc k) ys x) ∙ ap (λ z. as_grant t n k y ∷ (numbered t n (suc k) ys ++ as_grant t n z x ∷ [])) e

pub reverse_length : {X : Type 0} (xs : List X) → length (reverse xs) ≡ length xs
reverse_length [] = refl
reverse_length (x ∷ xs) =
    let a = ap length (reverse-cons x xs) in
    let b = length-append (reverse xs) (x ∷ []) in
    let c = reverse_length xs in
    omega (arith, a, b, c)

grants_length : (t : Network) (n : ℕ) (gs : List Lent) (xs : List Lending) → map made_of (reverse gs) ≡ numbered t n 0 xs → length gs ≡ length xs
grants_length t n gs xs e =
    let a = ap length e in
    let b = length-map (reverse gs) made_of in
    let c = reverse_length gs in
    let d = numbered_length t n 0 xs in
    omega (arith, a, b, c, d)

same_lends : (t : Network) (n : ℕ) (xs : List Lending) (gs : List Grant) → gs ≡ numbered t n 0 xs → gs ≡ numbered t n 0 (xs ++ [])
same_lends t n xs gs e = e ∙ ap (numbered t n 0) (sym (append-nil xs))

pub grants_are_lends : GrantsAreLends
unfolding grants lends
grants_are_lends t n [] = refl
grants_are_lends t n (Out i o ∷ h) = grants_are_lends t n h
grants_are_lends t n (In (Enter m) ∷ h) = same_lends t n (lends h) _ (grants_are_lends t n h)
grants_are_lends t n (In (Take l s m) ∷ h) = same_lends t n (lends h) _ (grants_are_lends t n h)
grants_are_lends t n (In (LinkUp l) ∷ h) = same_lends t n (lends h) _ (grants_are_lends t n h)
grants_are_lends t n (In (LinkDown l) ∷ h) = same_lends t n (lends h) _ (grants_are_lends t n h)
grants_are_lends t n (In Tick ∷ h) = same_lends t n (lends h) _ (grants_are_lends t n h)
grants_are_lends t n (In (HostAnswer a c) ∷ h) = same_lends t n (lends h) _ (grants_are_lends t n h)
grants_are_lends t n (In (NewDate d) ∷ h) = same_lends t n (lends h) _ (grants_are_lends t n h)
grants_are_lends t n (In (TakePacket l s (packets.Grant g)) ∷ h) = same_lends t n (lends h) _ (grants_are_lends t n h)
grants_are_lends t n (In (TakePacket l s (packets.Ack lender number)) ∷ h) = same_lends t n (lends h) _ (map_reverse made_of (map (lent_acked lender number) (grants t n h)) ∙ (ap reverse (acked_made lender number (grants t n h)) ∙ (sym (map_reverse made_of (grants t n h)) ∙ grants_are_lends t n h)))
grants_are_lends t n (In (Lend m c d a) ∷ h) = next (grants_are_lends t n h)
  where
    x : Lending
    x = record { borrower = m; card = c; date = d; amount = a }

    new : Lent
    new = record { grant = as_grant t n (length (grants t n h)) (record { borrower = m; card = c; date = d; amount = a }); borrower = m; count = count_of h; advices = length (advices t n h); acked = false }

    next : map made_of (reverse (grants t n h)) ≡ numbered t n 0 (lends h) → map made_of (reverse (new ∷ grants t n h)) ≡ numbered t n 0 (lends h ++ x ∷ [])
    next ih =
        let e : length (grants t n h) ≡ 0 + length (lends h) = (let f = grants_length t n (grants t n h) (lends h) ih in omega (arith, f)) in
        ap (map made_of) (reverse-cons new (grants t n h)) ∙ (map_append made_of (reverse (grants t n h)) (new ∷ []) ∙ (ap (λ z. z ++ new.grant ∷ []) ih ∙ (ap (λ k. numbered t n 0 (lends h) ++ as_grant t n k x ∷ []) e ∙ sym (numbered_append t n 0 (lends h) x))))

-- what is due

pub filter_reverse : {X : Type 0} (p : X → Bool) (xs : List X) → filter p (reverse xs) ≡ reverse (filter p xs)
filter_reverse p [] = refl
filter_reverse p (x ∷ xs) = ap (filter p) (reverse-cons x xs) ∙ (filter_append p (reverse xs) (x ∷ []) ∙ (ap (λ z. z ++ filter p (x ∷ [])) (filter_reverse p xs) ∙ go (p x) refl))
  where
    go : (b : Bool) → p x ≡ b → reverse (filter p xs) ++ cond (p x) (x ∷ []) [] ≡ reverse (cond (p x) (x ∷ filter p xs) (filter p xs))
    go true at = rw at (sym (reverse-cons x (filter p xs)))
    go false at = rw at (append-nil (reverse (filter p xs)))

pub filter_and : {X : Type 0} (p q : X → Bool) (xs : List X) → filter (λ x. p x && q x) xs ≡ filter q (filter p xs)
filter_and p q [] = refl
filter_and p q (x ∷ xs) = go (p x) refl (q x) refl (filter_and p q xs)
  where
    go : (b : Bool) → p x ≡ b → (c : Bool) → q x ≡ c → filter (λ y. p y && q y) xs ≡ filter q (filter p xs) → cond (p x && q x) (x ∷ filter (λ y. p y && q y) xs) (filter (λ y. p y && q y) xs) ≡ filter q (cond (p x) (x ∷ filter p xs) (filter p xs))
    go true at true at' ih = rw (at, at') (ap (λ z. x ∷ z) ih)
    go true at false at' ih = rw (at, at') ih
    go false at c at' ih = rw at ih

grants_append : (xs ys : List Due) → grants_of (xs ++ ys) ≡ grants_of xs ++ grants_of ys
grants_append [] ys = refl
grants_append (DueAdvice a ∷ xs) ys = grants_append xs ys
grants_append (DueGrant g ∷ xs) ys = ap (λ z. g ∷ z) (grants_append xs ys)

advices_append : (xs ys : List Due) → advices_of (xs ++ ys) ≡ advices_of xs ++ advices_of ys
advices_append [] ys = refl
advices_append (DueAdvice a ∷ xs) ys = ap (λ z. a ∷ z) (advices_append xs ys)
advices_append (DueGrant g ∷ xs) ys = advices_append xs ys

grants_reverse : (xs : List Due) → grants_of (reverse xs) ≡ reverse (grants_of xs)
grants_reverse [] = refl
grants_reverse (DueAdvice a ∷ xs) = ap grants_of (reverse-cons (DueAdvice a) xs) ∙ (grants_append (reverse xs) (DueAdvice a ∷ []) ∙ (append-nil (grants_of (reverse xs)) ∙ grants_reverse xs))
grants_reverse (DueGrant g ∷ xs) = ap grants_of (reverse-cons (DueGrant g) xs) ∙ (grants_append (reverse xs) (DueGrant g ∷ []) ∙ (ap (λ z. z ++ g ∷ []) (grants_reverse xs) ∙ sym (reverse-cons g (grants_of xs))))

advices_reverse : (xs : List Due) → advices_of (reverse xs) ≡ reverse (advices_of xs)
advices_reverse [] = refl
advices_reverse (DueGrant g ∷ xs) = ap advices_of (reverse-cons (DueGrant g) xs) ∙ (advices_append (reverse xs) (DueGrant g ∷ []) ∙ (append-nil (advices_of (reverse xs)) ∙ advices_reverse xs))
advices_reverse (DueAdvice a ∷ xs) = ap advices_of (reverse-cons (DueAdvice a) xs) ∙ (advices_append (reverse xs) (DueAdvice a ∷ []) ∙ (ap (λ z. z ++ a ∷ []) (advices_reverse xs) ∙ sym (reverse-cons a (advices_of xs))))

pub grants_filter : (p : Due → Bool) (xs : List Due) → grants_of (filter p xs) ≡ filter (λ g. p (DueGrant g)) (grants_of xs)
grants_filter p [] = refl
grants_filter p (DueAdvice a ∷ xs) = cond_both (p (DueAdvice a)) (DueAdvice a ∷ filter p xs) (filter p xs) (λ z. grants_of z ≡ filter (λ g. p (DueGrant g)) (grants_of xs)) (λ _. grants_filter p xs) (λ _. grants_filter p xs)
grants_filter p (DueGrant g ∷ xs) = go (p (DueGrant g)) refl (grants_filter p xs)
  where
    go : (b : Bool) → p (DueGrant g) ≡ b → grants_of (filter p xs) ≡ filter (λ g. p (DueGrant g)) (grants_of xs) → grants_of (cond (p (DueGrant g)) (DueGrant g ∷ filter p xs) (filter p xs)) ≡ cond (p (DueGrant g)) (g ∷ filter (λ g. p (DueGrant g)) (grants_of xs)) (filter (λ g. p (DueGrant g)) (grants_of xs))
    go true at ih = rw at (ap (λ z. g ∷ z) ih)
    go false at ih = rw at ih

pub advices_filter : (p : Due → Bool) (xs : List Due) → advices_of (filter p xs) ≡ filter (λ a. p (DueAdvice a)) (advices_of xs)
advices_filter p [] = refl
advices_filter p (DueGrant g ∷ xs) = cond_both (p (DueGrant g)) (DueGrant g ∷ filter p xs) (filter p xs) (λ z. advices_of z ≡ filter (λ a. p (DueAdvice a)) (advices_of xs)) (λ _. advices_filter p xs) (λ _. advices_filter p xs)
advices_filter p (DueAdvice a ∷ xs) = go (p (DueAdvice a)) refl (advices_filter p xs)
  where
    go : (b : Bool) → p (DueAdvice a) ≡ b → advices_of (filter p xs) ≡ filter (λ a. p (DueAdvice a)) (advices_of xs) → advices_of (cond (p (DueAdvice a)) (DueAdvice a ∷ filter p xs) (filter p xs)) ≡ cond (p (DueAdvice a)) (a ∷ filter (λ a. p (DueAdvice a)) (advices_of xs)) (filter (λ a. p (DueAdvice a)) (advices_of xs))
    go true at ih = rw at (ap (λ z. a ∷ z) ih)
    go false at ih = rw at ih

grants_made : (gs : List Lent) → grants_of (map DueGrant gs) ≡ gs
grants_made [] = refl
grants_made (g ∷ gs) = ap (λ z. g ∷ z) (grants_made gs)

no_advices : (gs : List Lent) → advices_of (map DueGrant gs) ≡ []
no_advices [] = refl
no_advices (g ∷ gs) = no_advices gs

pub advices_order : (as' : List Advice) (gs : List Lent) → advices_of (in_order as' gs) ≡ as'
advices_order [] gs = no_advices (filter (λ g. eqb g.advices 0) gs)
advices_order (a ∷ as') gs = advices_append (grants_made_after (suc (length as')) gs) (DueAdvice a ∷ in_order as' gs) ∙ (ap (λ z. z ++ a ∷ advices_of (in_order as' gs)) (no_advices (filter (λ g. eqb g.advices (suc (length as'))) gs)) ∙ ap (λ z. a ∷ z) (advices_order as' gs))

-- grants stand in the order of the advices before them

abbrev pub Sorted : ℕ → List Lent → Type 0
Sorted k [] = 0 ≤ 0
Sorted k (g ∷ gs) = (g.advices ≤ k) × Sorted g.advices gs

abbrev pub upto : ℕ → List Lent → List Lent
upto k gs = filter (λ g. leb g.advices k) gs

abbrev pub just_at : ℕ → List Lent → List Lent
just_at k gs = filter (λ g. eqb g.advices k) gs

pub none_at : (k j : ℕ) (gs : List Lent) → j ≤ k → Sorted j gs → just_at (suc k) gs ≡ []
none_at k j [] le s = refl
none_at k j (g ∷ gs) le s =
    let a = s.0 in
    let e : eqb g.advices (suc k) ≡ false = ne_eqb g.advices (suc k) (λ same. omega (arith, a, le, same)) in
    rw e (none_at k g.advices gs (omega (arith, a, le)) s.1)

split_at : (k j : ℕ) (gs : List Lent) → Sorted j gs → just_at (suc k) gs ++ upto k gs ≡ upto (suc k) gs
split_at k j [] s = refl
split_at k j (g ∷ gs) s = ⊎_elim above (low (none_at k g.advices gs)) (cases_lt k g.advices) (split_at k g.advices gs s.1)
  where
    above : k < g.advices → just_at (suc k) gs ++ upto k gs ≡ upto (suc k) gs → just_at (suc k) (g ∷ gs) ++ upto k (g ∷ gs) ≡ upto (suc k) (g ∷ gs)
    above less ih = ⊎_elim higher here (cases_lt (suc k) g.advices)
      where
        not_low : leb g.advices k ≡ false
        not_low = lt-leb g.advices k less

        higher : suc k < g.advices → just_at (suc k) (g ∷ gs) ++ upto k (g ∷ gs) ≡ upto (suc k) (g ∷ gs)
        higher more =
            let e : eqb g.advices (suc k) ≡ false = ne_eqb g.advices (suc k) (λ same. omega (arith, more, same)) in
            let f : leb g.advices (suc k) ≡ false = lt-leb g.advices (suc k) more in
            rw (e, not_low, f) ih

        here : g.advices ≤ suc k → just_at (suc k) (g ∷ gs) ++ upto k (g ∷ gs) ≡ upto (suc k) (g ∷ gs)
        here le =
            let e : eqb g.advices (suc k) ≡ true = eq-eqb g.advices (suc k) (omega (arith, less, le)) in
            let f : leb g.advices (suc k) ≡ true = le-leb g.advices (suc k) le in
            rw (e, not_low, f) (ap (λ z. g ∷ z) ih)

    low : (g.advices ≤ k → Sorted g.advices gs → just_at (suc k) gs ≡ []) → g.advices ≤ k → just_at (suc k) gs ++ upto k gs ≡ upto (suc k) gs → just_at (suc k) (g ∷ gs) ++ upto k (g ∷ gs) ≡ upto (suc k) (g ∷ gs)
    low empty le ih =
        let e : eqb g.advices (suc k) ≡ false = ne_eqb g.advices (suc k) (λ same. omega (arith, le, same)) in
        let d : leb g.advices k ≡ true = le-leb g.advices k le in
        let f : leb g.advices (suc k) ≡ true = le-leb g.advices (suc k) (omega (arith, le)) in
        let none : just_at (suc k) gs ≡ [] = empty le s.1 in
        let same : upto k gs ≡ upto (suc k) gs = ap (λ z. z ++ upto k gs) (sym none) ∙ ih in
        rw (e, d, f) (ap (λ z. z ++ g ∷ upto k gs) none ∙ ap (λ z. g ∷ z) same)

pub sorted_weaker : (j k : ℕ) (gs : List Lent) → j ≤ k → Sorted j gs → Sorted k gs
sorted_weaker j k [] le s = s
sorted_weaker j k (g ∷ gs) le s = (let a = s.0 in omega (arith, a, le), s.1)

pub upto_all : (k : ℕ) (gs : List Lent) → Sorted k gs → upto k gs ≡ gs
upto_all k [] s = refl
upto_all k (g ∷ gs) s =
    let e : leb g.advices k ≡ true = le-leb g.advices k s.0 in
    rw e (ap (λ z. g ∷ z) (upto_all k gs (sorted_weaker g.advices k gs s.0 s.1)))

zero_at : (gs : List Lent) → just_at 0 gs ≡ upto 0 gs
zero_at [] = refl
zero_at (g ∷ gs) = ⊎_elim above here (cases_lt 0 g.advices) (zero_at gs)
  where
    above : 0 < g.advices → just_at 0 gs ≡ upto 0 gs → just_at 0 (g ∷ gs) ≡ upto 0 (g ∷ gs)
    above less ih =
        let e : eqb g.advices 0 ≡ false = ne_eqb g.advices 0 (λ same. omega (arith, less, same)) in
        let f : leb g.advices 0 ≡ false = lt-leb g.advices 0 less in
        rw (e, f) ih

    here : g.advices ≤ 0 → just_at 0 gs ≡ upto 0 gs → just_at 0 (g ∷ gs) ≡ upto 0 (g ∷ gs)
    here le ih =
        let e : eqb g.advices 0 ≡ true = eq-eqb g.advices 0 (omega (arith, le)) in
        let f : leb g.advices 0 ≡ true = le-leb g.advices 0 le in
        rw (e, f) (ap (λ z. g ∷ z) ih)

pub order_grants : (as' : List Advice) (gs : List Lent) (j : ℕ) → Sorted j gs → grants_of (in_order as' gs) ≡ upto (length as') gs
order_grants [] gs j s = grants_made (just_at 0 gs) ∙ zero_at gs
order_grants (a ∷ as') gs j s =
    grants_append (grants_made_after (suc (length as')) gs) (DueAdvice a ∷ in_order as' gs)
    ∙ (ap (λ z. z ++ grants_of (in_order as' gs)) (grants_made (just_at (suc (length as')) gs))
    ∙ (ap (λ z. just_at (suc (length as')) gs ++ z) (order_grants as' gs j s) ∙ split_at (length as') j gs s))

-- advices are never forgotten

pub add_longer : (a : Advice) (as' : List Advice) → length as' ≤ length (add_advice a as')
add_longer a as' = cond_both _ as' (a ∷ as') (λ z. length as' ≤ length z) (λ _. omega arith) (λ _. omega arith)

made_longer : (make : Fields → Fields) (count : ℕ) (o : Option Opening) (as' : List Advice) → length as' ≤ length (add_made make count o as')
made_longer make count None as' = omega arith
made_longer make count (Some op) as' = add_longer (record { message = make op.message; count = count; own = true; acked = false }) as'

accepted_longer : (count : ℕ) (b : Bool) (o : Option Handled) (as' : List Advice) → length as' ≤ length (add_accepted count b o as')
accepted_longer count true (Some x) as' = cond_both (is_advice_group (group x.message.kind)) _ as' (λ z. length as' ≤ length z) (λ _. add_longer _ as') (λ _. omega arith)
accepted_longer count true None as' = omega arith
accepted_longer count false o as' = omega arith

pub advices_longer : (t : Network) (n : ℕ) (e : Event) (h : History) → length (advices t n h) ≤ length (advices t n (e ∷ h))
unfolding advices
advices_longer t n (In i) h =
    let p = made_longer (λ m. made_reversal m (node_id t n)) (count_of h) (option_and_then (opening t h) (late_key h (advices t n h) i)) (map (acked_by i) (advices t n h)) in
    let q = length-map (advices t n h) (acked_by i) in
    omega (arith, p, q)
advices_longer t n (Out i o) h =
    let failed = add_made (λ m. made_reversal m (node_id t n)) (count_of h) (option_and_then (opening t h) (failed_key t h i (sent o))) (advices t n h) in
    let stood = add_made (λ m. made_stand_in m (node_id t n)) (count_of h) (option_and_then (opening t h) (own_approval h i o)) failed in
    let p = made_longer (λ m. made_reversal m (node_id t n)) (count_of h) (option_and_then (opening t h) (failed_key t h i (sent o))) (advices t n h) in
    let q = made_longer (λ m. made_stand_in m (node_id t n)) (count_of h) (option_and_then (opening t h) (own_approval h i o)) failed in
    let r = accepted_longer (count_of h) (is_ok_ack (sent o)) (handled t h i) stood in
    omega (arith, p, q, r)

sorted_acked : (lender : Bytes) (number k : ℕ) (gs : List Lent) → Sorted k gs → Sorted k (map (lent_acked lender number) gs)
sorted_acked lender number k [] s = s
sorted_acked lender number k (g ∷ gs) s = (s.0, sorted_acked lender number g.advices gs s.1)

pub sorted_in : (t : Network) (n : ℕ) (i : ReadInput) (h : History) → Sorted (length (advices t n h)) (grants t n h) → Sorted (length (advices t n h)) (grants t n (In i ∷ h))
unfolding grants
sorted_in t n (Enter m) h s = s
sorted_in t n (Take l k m) h s = s
sorted_in t n (LinkUp l) h s = s
sorted_in t n (LinkDown l) h s = s
sorted_in t n Tick h s = s
sorted_in t n (HostAnswer a c) h s = s
sorted_in t n (NewDate d) h s = s
sorted_in t n (TakePacket l k (packets.Grant g)) h s = s
sorted_in t n (TakePacket l k (packets.Ack lender number)) h s = sorted_acked lender number (length (advices t n h)) (grants t n h) s
sorted_in t n (Lend m c d a) h s = (omega arith, s)

pub sorted_grants : (t : Network) (n : ℕ) (h : History) → Sorted (length (advices t n h)) (grants t n h)
unfolding grants
sorted_grants t n [] = omega arith
sorted_grants t n (In i ∷ h) = sorted_weaker (length (advices t n h)) (length (advices t n (In i ∷ h))) (grants t n (In i ∷ h)) (advices_longer t n (In i) h) (sorted_in t n i h (sorted_grants t n h))
sorted_grants t n (Out i o ∷ h) = sorted_weaker (length (advices t n h)) (length (advices t n (Out i o ∷ h))) (grants t n h) (advices_longer t n (Out i o) h) (sorted_grants t n h)

pub stored_grants_are_due : StoredGrantsAreDue
unfolding due stored_grants
stored_grants_are_due t n h =
    let now = suc (count_of h) in
    let ticks = t.settings.advice_ticks in
    let as' = advices t n h in
    let gs = grants t n h in
    let all : grants_of (in_order as' gs) ≡ gs = order_grants as' gs (length as') (sorted_grants t n h) ∙ upto_all (length as') gs (sorted_grants t n h) in
    grants_filter (is_sent_again t n now) (reverse (in_order as' gs))
    ∙ (ap (filter (λ (g : Lent). not g.acked && is_due_again ticks now g.count)) (grants_reverse (in_order as' gs) ∙ ap reverse all)
    ∙ (filter_and (λ (g : Lent). not g.acked) (λ (g : Lent). is_due_again ticks now g.count) (reverse gs)
    ∙ ap (filter (λ (g : Lent). is_due_again ticks now g.count)) (filter_reverse (λ (g : Lent). not g.acked) gs)))

pub stored_advices_are_due : StoredAdvicesAreDue
unfolding due stored
stored_advices_are_due t n h =
    let now = suc (count_of h) in
    let ticks = t.settings.advice_ticks in
    let as' = advices t n h in
    let gs = grants t n h in
    advices_filter (is_sent_again t n now) (reverse (in_order as' gs))
    ∙ (ap (filter (λ (a : Advice). not a.acked && not (is_at_home t n a.message) && is_due_again ticks now a.count)) (advices_reverse (in_order as' gs) ∙ ap reverse (advices_order as' gs))
    ∙ (filter_and (λ (a : Advice). not a.acked && not (is_at_home t n a.message)) (λ (a : Advice). is_due_again ticks now a.count) (reverse as')
    ∙ ap (filter (λ (a : Advice). is_due_again ticks now a.count)) (filter_reverse (λ (a : Advice). not a.acked && not (is_at_home t n a.message)) as')))
