-- What is due stands in the order in which it was stored.
use Rattle.std.proofs.Common.{◌≡◌, ℕ, suc, ◌-◌, ◌<◌, List, [], ◌∷◌, ◌++◌, map, filter, reverse, length, take, Option, Some, None, Bool, true, false, refl, sym, ap, ◌∙◌, subst, inl, inr, arith, eqb}
use Rattle.std.proofs.lemmas.Bool.{cond_both, ne_eqb, eq-eqb}
use Rattle.std.proofs.lemmas.List.{append-nil, length-append, length-map, take_at, reverse-append}
use Rattle.std.proofs.Common.{append_assoc}
use mathlib.Core.List.{reverse-cons}
use Rattle.std.specs.Option.{option_and_then}
use Rattle.iso_message.specs.Fields.{Fields}
use Rattle.message_elements.specs.Groups.{group, is_advice_group}
use Rattle.iso_message.specs.Made.{made_reversal, made_stand_in}
use Rattle.card_digits.specs.Numbers.{pad11}
use Rattle.net_rows.specs.Network.{Network}
use Rattle.network_law.specs.declared.grant.GrantPacket.TheVariants as packets
use Rattle.network_law.specs.Cards.{Bytes}
use Rattle.network_law.specs.Tables.{node_id}
use Rattle.network_law.specs.Traces.{ReadInput, Enter, Take, LinkUp, LinkDown, Tick, HostAnswer, NewDate, TakePacket, Lend, ReadOutput, Event, In, Out, History, count_of, Handled, handled, Opening, opening, sent, own_approval, Advice, advices, acked_by, add_advice, add_made, add_accepted, late_key, failed_key, is_ok_ack, Lent, lent_acked, grants}
use Rattle.network_law.specs.Decision.{DueAdvice, DueGrant, grants_made_after, in_order, is_sent_again, due}
use Rattle.network_law.specs.PlainGrants.{StoredName, advice_name, grant_name, name_of, newer, storings, IsInOrderOf, DueInStoredOrder}
use Rattle.network_law.proofs.Plain.{map_append}
use Rattle.network_law.proofs.PlainGrants.{Sorted, sorted_grants, sorted_in, none_at, map_reverse}

-- parts in order

none_in_order : {X : Type 0} (x : X) (xs ys : List X) → IsInOrderOf xs ys → IsInOrderOf xs (x ∷ ys)
none_in_order x [] ys q = q
none_in_order x (z ∷ zs) ys q = inr q

filtered : {X Y : Type 0} (f : X → Y) (p : X → Bool) (xs : List X) → IsInOrderOf (map f (filter p xs)) (map f xs)
filtered f p [] = tt
filtered f p (x ∷ xs) = cond_both (p x) (x ∷ filter p xs) (filter p xs) (λ z. IsInOrderOf (map f z) (f x ∷ map f xs)) (λ _. inl (refl, filtered f p xs)) (λ _. none_in_order (f x) (map f (filter p xs)) (map f xs) (filtered f p xs))

-- names in the order of storing, the newest first

abbrev names : List Advice → List Lent → List StoredName
names as' gs = map name_of (in_order as' gs)

-- advices in front
front_names : (front as' : List Advice) (gs : List Lent) → Sorted (length as') gs → names (front ++ as') gs ≡ map advice_name front ++ names as' gs
front_names [] as' gs s = refl
front_names (a ∷ front) as' gs s =
    let n = length-append front as' in
    let none : grants_made_after (suc (length (front ++ as'))) gs ≡ [] = ap (map DueGrant) (none_at (length (front ++ as')) (length as') gs (omega (arith, n)) s) in
    ap (λ z. map name_of (z ++ DueAdvice a ∷ in_order (front ++ as') gs)) none ∙ ap (λ z. advice_name a ∷ z) (front_names front as' gs s)

-- a grant of more advices than there are stands nowhere
later_grant : (as' : List Advice) (g : Lent) (gs : List Lent) → length as' < g.advices → in_order as' (g ∷ gs) ≡ in_order as' gs
later_grant [] g gs less = let e : eqb g.advices 0 ≡ false = ne_eqb g.advices 0 (λ same. omega (arith, less, same)) in rw e refl
later_grant (a ∷ as') g gs less =
    let e : eqb g.advices (suc (length as')) ≡ false = ne_eqb g.advices (suc (length as')) (λ same. omega (arith, less, same)) in
    rw e (ap (λ z. grants_made_after (suc (length as')) gs ++ DueAdvice a ∷ z) (later_grant as' g gs (omega (arith, less))))

new_grant : (as' : List Advice) (g : Lent) (gs : List Lent) → g.advices ≡ length as' → in_order as' (g ∷ gs) ≡ DueGrant g ∷ in_order as' gs
new_grant [] g gs same = let e : eqb g.advices 0 ≡ true = eq-eqb g.advices 0 same in rw e refl
new_grant (a ∷ as') g gs same =
    let e : eqb g.advices (suc (length as')) ≡ true = eq-eqb g.advices (suc (length as')) same in
    rw e (ap (λ z. DueGrant g ∷ (grants_made_after (suc (length as')) gs ++ DueAdvice a ∷ z)) (later_grant as' g gs (omega (arith, same))))

-- what is acknowledged keeps its name and its place

abbrev SameNames : List Advice → List Advice → Type 0
SameNames as' bs = (map advice_name as' ≡ map advice_name bs) × (length as' ≡ length bs)

acked_name : (i : ReadInput) (a : Advice) → advice_name (acked_by i a) ≡ advice_name a
acked_name (Take l s m) a = refl
acked_name (Enter m) a = refl
acked_name (LinkUp l) a = refl
acked_name (LinkDown l) a = refl
acked_name Tick a = refl
acked_name (HostAnswer b c) a = refl
acked_name (NewDate d) a = refl
acked_name (TakePacket lk sr pk) a = refl
acked_name (Lend br cd dt am) a = refl

acked_names : (i : ReadInput) (as' : List Advice) (gs : List Lent) → names (map (acked_by i) as') gs ≡ names as' gs
acked_names i [] gs = refl
acked_names i (a ∷ as') gs =
    let n : length (map (acked_by i) as') ≡ length as' = length-map as' (acked_by i) in
    ap (λ k. map name_of (grants_made_after (suc k) gs ++ DueAdvice (acked_by i a) ∷ in_order (map (acked_by i) as') gs)) n
    ∙ (map_append name_of (grants_made_after (suc (length as')) gs) (DueAdvice (acked_by i a) ∷ in_order (map (acked_by i) as') gs)
    ∙ (ap (λ z. map name_of (grants_made_after (suc (length as')) gs) ++ z ∷ names (map (acked_by i) as') gs) (acked_name i a)
    ∙ (ap (λ z. map name_of (grants_made_after (suc (length as')) gs) ++ advice_name a ∷ z) (acked_names i as' gs)
    ∙ sym (map_append name_of (grants_made_after (suc (length as')) gs) (DueAdvice a ∷ in_order as' gs)))))

received_at : (lender : Bytes) (number k : ℕ) (gs : List Lent) → map name_of (grants_made_after k (map (lent_acked lender number) gs)) ≡ map name_of (grants_made_after k gs)
received_at lender number k [] = refl
received_at lender number k (g ∷ gs) = go (eqb g.advices k) refl (received_at lender number k gs)
  where
    go : (b : Bool) → eqb g.advices k ≡ b → map name_of (grants_made_after k (map (lent_acked lender number) gs)) ≡ map name_of (grants_made_after k gs) → map name_of (grants_made_after k (map (lent_acked lender number) (g ∷ gs))) ≡ map name_of (grants_made_after k (g ∷ gs))
    go true at ih = rw at (ap (λ z. grant_name g ∷ z) ih)
    go false at ih = rw at ih

received_names : (lender : Bytes) (number : ℕ) (as' : List Advice) (gs : List Lent) → names as' (map (lent_acked lender number) gs) ≡ names as' gs
received_names lender number [] gs = received_at lender number 0 gs
received_names lender number (a ∷ as') gs =
    map_append name_of (grants_made_after (suc (length as')) (map (lent_acked lender number) gs)) (DueAdvice a ∷ in_order as' (map (lent_acked lender number) gs))
    ∙ (ap (λ z. z ++ advice_name a ∷ names as' (map (lent_acked lender number) gs)) (received_at lender number (suc (length as')) gs)
    ∙ (ap (λ z. map name_of (grants_made_after (suc (length as')) gs) ++ advice_name a ∷ z) (received_names lender number as' gs)
    ∙ sym (map_append name_of (grants_made_after (suc (length as')) gs) (DueAdvice a ∷ in_order as' gs))))

-- what is added stands in front

abbrev Front : List Advice → List Advice → Type 0
Front all old = (front : List Advice) × (all ≡ front ++ old)

added_front : (a : Advice) (as' : List Advice) → Front (add_advice a as') as'
added_front a as' = cond_both _ as' (a ∷ as') (λ z. Front z as') (λ _. ([], refl)) (λ _. (a ∷ [], refl))

made_front : (make : Fields → Fields) (count : ℕ) (o : Option Opening) (as' : List Advice) → Front (add_made make count o as') as'
made_front make count None as' = ([], refl)
made_front make count (Some op) as' = added_front (record { message = make op.message; count = count; own = true; acked = false }) as'

accepted_front : (count : ℕ) (b : Bool) (o : Option Handled) (as' : List Advice) → Front (add_accepted count b o as') as'
accepted_front count true (Some x) as' = cond_both (is_advice_group (group x.message.kind)) _ as' (λ z. Front z as') (λ _. added_front _ as') (λ _. ([], refl))
accepted_front count true None as' = ([], refl)
accepted_front count false o as' = ([], refl)

more_front : (all some old : List Advice) → Front all some → Front some old → Front all old
more_front all some old p q = (p.0 ++ q.0, p.1 ∙ (ap (λ z. p.0 ++ z) q.1 ∙ sym (append_assoc p.0 q.0 old)))

front_in : (t : Network) (n : ℕ) (i : ReadInput) (h : History) → Front (advices t n (In i ∷ h)) (map (acked_by i) (advices t n h))
unfolding advices
front_in t n i h = made_front (λ m. made_reversal m (node_id t n)) (count_of h) (option_and_then (opening t h) (late_key h (advices t n h) i)) (map (acked_by i) (advices t n h))

front_out : (t : Network) (n : ℕ) (i : ReadInput) (o : ReadOutput) (h : History) → Front (advices t n (Out i o ∷ h)) (advices t n h)
unfolding advices
front_out t n i o h =
    let failed = add_made (λ m. made_reversal m (node_id t n)) (count_of h) (option_and_then (opening t h) (failed_key t h i (sent o))) (advices t n h) in
    let stood = add_made (λ m. made_stand_in m (node_id t n)) (count_of h) (option_and_then (opening t h) (own_approval h i o)) failed in
    more_front _ stood (advices t n h) (accepted_front (count_of h) (is_ok_ack (sent o)) (handled t h i) stood)
    (more_front stood failed (advices t n h) (made_front (λ m. made_stand_in m (node_id t n)) (count_of h) (option_and_then (opening t h) (own_approval h i o)) failed) (made_front (λ m. made_reversal m (node_id t n)) (count_of h) (option_and_then (opening t h) (failed_key t h i (sent o))) (advices t n h)))

newer_is : {X : Type 0} (all front some old : List X) → all ≡ front ++ some → length some ≡ length old → newer all old ≡ front
newer_is all front some old e n =
    let l = length-append front some in
    let k : length (front ++ some) - length old ≡ length front = omega (arith, l, n) in
    ap (λ z. take (length z - length old) z) e ∙ (ap (λ j. take j (front ++ some)) k ∙ take_at front some (length front) refl)

none_newer : {X : Type 0} (xs ys : List X) → length xs ≡ length ys → newer xs ys ≡ []
none_newer xs ys n = newer_is xs [] xs ys refl n

-- the names of all, in the order of time

abbrev in_time : List Advice → List Lent → List StoredName
in_time as' gs = map name_of (reverse (in_order as' gs))

turned : (as' : List Advice) (gs : List Lent) → in_time as' gs ≡ reverse (names as' gs)
turned as' gs = map_reverse name_of (in_order as' gs)

grown : (all front some old : List Advice) (gs hs : List Lent) → all ≡ front ++ some → Sorted (length some) hs → names some hs ≡ names old gs → length some ≡ length old → length hs ≡ length gs → in_time all hs ≡ in_time old gs ++ (map advice_name (reverse (newer all old)) ++ map grant_name (reverse (newer hs gs)))
grown all front some old gs hs e s same n m =
    turned all hs
    ∙ (ap (λ z. reverse (names z hs)) e
    ∙ (ap reverse (front_names front some hs s ∙ ap (λ z. map advice_name front ++ z) same)
    ∙ (reverse-append (map advice_name front) (names old gs)
    ∙ (ap (λ z. z ++ reverse (map advice_name front)) (sym (turned old gs))
    ∙ ap (λ z. in_time old gs ++ z) (sym (map_reverse advice_name front) ∙ (ap (λ z. map advice_name (reverse z)) (sym (newer_is all front some old e n)) ∙ (sym (append-nil (map advice_name (reverse (newer all old)))) ∙ ap (λ z. map advice_name (reverse (newer all old)) ++ map grant_name (reverse z)) (sym (none_newer hs gs m)))))))))

-- event by event

abbrev Grown : Network → ℕ → Event → History → Type 0
Grown t n e h = in_time (advices t n (e ∷ h)) (grants t n (e ∷ h)) ≡ in_time (advices t n h) (grants t n h) ++ (map advice_name (reverse (newer (advices t n (e ∷ h)) (advices t n h))) ++ map grant_name (reverse (newer (grants t n (e ∷ h)) (grants t n h))))

acked_length : (i : ReadInput) (as' : List Advice) → length (map (acked_by i) as') ≡ length as'
acked_length i as' = length-map as' (acked_by i)

-- an input that lends nothing
quiet_input : (t : Network) (n : ℕ) (i : ReadInput) (h : History) → ((as' : List Advice) → names as' (grants t n (In i ∷ h)) ≡ names as' (grants t n h)) → length (grants t n (In i ∷ h)) ≡ length (grants t n h) → Grown t n (In i) h
quiet_input t n i h same m =
    let f = front_in t n i h in
    let s = subst (λ k. Sorted k (grants t n (In i ∷ h))) (sym (acked_length i (advices t n h))) (sorted_in t n i h (sorted_grants t n h)) in
    grown (advices t n (In i ∷ h)) f.0 (map (acked_by i) (advices t n h)) (advices t n h) (grants t n h) (grants t n (In i ∷ h)) f.1 s (acked_names i (advices t n h) (grants t n (In i ∷ h)) ∙ same (advices t n h)) (acked_length i (advices t n h)) m

lent_input : (t : Network) (n m : ℕ) (card date : List ℕ) (amount : ℕ) (h : History) → Grown t n (In (Lend m card date amount)) h
unfolding advices grants
lent_input t n m card date amount h =
    let i : ReadInput = Lend m card date amount in
    let as' = advices t n h in
    let gs = grants t n h in
    let all = advices t n (In i ∷ h) in
    let g : Lent = record { grant = record { lender = pad11 (node_id t n); number = suc (length gs); borrower = pad11 (node_id t m); card = card; date = date; amount = amount }; borrower = m; count = count_of h; advices = length as'; acked = false } in
    let same : names all gs ≡ names as' gs = acked_names i as' gs in
    let none : newer all as' ≡ [] = none_newer all as' (acked_length i as') in
    let one : newer (g ∷ gs) gs ≡ g ∷ [] = newer_is (g ∷ gs) (g ∷ []) gs gs refl refl in
    ap (λ z. map name_of (reverse z)) (new_grant all g gs (sym (acked_length i as')))
    ∙ (map_reverse name_of (DueGrant g ∷ in_order all gs)
    ∙ (reverse-cons (grant_name g) (names all gs)
    ∙ (ap (λ z. reverse z ++ grant_name g ∷ []) same
    ∙ (ap (λ z. z ++ grant_name g ∷ []) (sym (turned as' gs))
    ∙ (ap (λ z. in_time as' gs ++ (map advice_name (reverse z) ++ grant_name g ∷ [])) (sym none)
    ∙ ap (λ z. in_time as' gs ++ (map advice_name (reverse (newer all as')) ++ map grant_name (reverse z))) (sym one))))))

input_grown : (t : Network) (n : ℕ) (i : ReadInput) (h : History) → Grown t n (In i) h
unfolding grants
input_grown t n (Lend m card date amount) h = lent_input t n m card date amount h
input_grown t n (TakePacket l s (packets.Ack lender number)) h = quiet_input t n (TakePacket l s (packets.Ack lender number)) h (λ as'. received_names lender number as' (grants t n h)) (length-map (grants t n h) (lent_acked lender number))
input_grown t n (TakePacket l s (packets.Grant g)) h = quiet_input t n (TakePacket l s (packets.Grant g)) h (λ as'. refl) refl
input_grown t n (Enter m) h = quiet_input t n (Enter m) h (λ as'. refl) refl
input_grown t n (Take l s m) h = quiet_input t n (Take l s m) h (λ as'. refl) refl
input_grown t n (LinkUp l) h = quiet_input t n (LinkUp l) h (λ as'. refl) refl
input_grown t n (LinkDown l) h = quiet_input t n (LinkDown l) h (λ as'. refl) refl
input_grown t n Tick h = quiet_input t n Tick h (λ as'. refl) refl
input_grown t n (HostAnswer a c) h = quiet_input t n (HostAnswer a c) h (λ as'. refl) refl
input_grown t n (NewDate d) h = quiet_input t n (NewDate d) h (λ as'. refl) refl

output_grown : (t : Network) (n : ℕ) (i : ReadInput) (o : ReadOutput) (h : History) → Grown t n (Out i o) h
unfolding grants
output_grown t n i o h =
    let f = front_out t n i o h in
    grown (advices t n (Out i o ∷ h)) f.0 (advices t n h) (advices t n h) (grants t n h) (grants t n h) f.1 (sorted_grants t n h) refl refl refl

empty : (t : Network) (n : ℕ) → in_time (advices t n []) (grants t n []) ≡ []
unfolding advices grants
empty t n = refl

names_are : (t : Network) (n : ℕ) (h : History) → in_time (advices t n h) (grants t n h) ≡ storings t n h
unfolding storings
names_are t n [] = empty t n
names_are t n (In i ∷ h) = input_grown t n i h ∙ ap (λ z. z ++ (map advice_name (reverse (newer (advices t n (In i ∷ h)) (advices t n h))) ++ map grant_name (reverse (newer (grants t n (In i ∷ h)) (grants t n h))))) (names_are t n h)
names_are t n (Out i o ∷ h) = output_grown t n i o h ∙ ap (λ z. z ++ (map advice_name (reverse (newer (advices t n (Out i o ∷ h)) (advices t n h))) ++ map grant_name (reverse (newer (grants t n (Out i o ∷ h)) (grants t n h))))) (names_are t n h)

pub due_in_stored_order : DueInStoredOrder
unfolding due
due_in_stored_order t n h = subst (IsInOrderOf (map name_of (due t n h))) (names_are t n h) (filtered name_of (is_sent_again t n (suc (count_of h))) (reverse (in_order (advices t n h) (grants t n h))))
