-- What a network's nodes lend each other cancels out, though grants are lost and repeated: so their own approvals of a card and date stay
-- within the ceiling of its issuer.
use Rattle.std.proofs.Common.{◌≡◌, ℕ, zero, suc, ◌+◌, ◌≤◌, ◌<◌, List, [], ◌∷◌, ◌++◌, map, Option, Some, None, Bool, true, false, ◌||◌, refl, sym, ap, ◌∙◌, subst, inl, inr, ⊎_elim, ◌⊎◌, arith, length}
use Rattle.std.proofs.lemmas.Bool.{cond_both, eq-eqb, cases_lt}
use Rattle.std.proofs.lemmas.List.{length-map}
use Rattle.std.specs.List.{list_any}
use Rattle.card_digits.specs.Numbers.{pad11}
use Rattle.net_rows.specs.Network.{Network, issuer, day, other_end}
use Rattle.net_rows.specs.declared.row.Issuer.{Issuer}
use Rattle.iso_message.specs.Fields.{Fields}
use Rattle.network_law.specs.Cards.{Bytes}
use Rattle.network_law.specs.Tables.{node_id}
use Rattle.network_law.specs.declared.grant.Grant.{Grant}
use Rattle.network_law.specs.declared.grant.GrantPacket.{GrantPacket}
use Rattle.network_law.specs.declared.grant.GrantPacket.TheVariants as packets
use Rattle.network_law.specs.Traces.{Source, Gate, ByLink, ReadInput, Enter, Take, LinkUp, LinkDown, Tick, HostAnswer, NewDate, TakePacket, Lend, ReadOutput, Put, Answer, Ask, Post, PutPacket, Event, In, Out, History, IsIn, Has, Lent, lent_acked, grants, has_number, taken, added, amount_for, borrowed, lent, used}
use Rattle.network_law.specs.Decision.{reply_output}
use Rattle.network_law.specs.Entries.{ReadEntry, read_history}
use Rattle.network_law.specs.Checked.{IsChecked, IsBounded, sum_below}
use Rattle.network_law.specs.Claims.{WithinCeiling, AtMost, exposure, BorrowedWasLent, OneContent}
use Rattle.network_law.proofs.ReadRuns.{IsLegalRead, IsReadRun}
use Rattle.network_law.proofs.Ends.{legal_at, is_node, histories}
use Rattle.message_keys.proofs.Equality.{bytes_eq_refl}
use Rattle.network_law.proofs.Emits.{Allowed, forwarding, asking, standing_in, passing, declining, repeating, refusing, acking, sending, posting, putting_packet, PuttingPacket, decide_keeps, in_append}
use Rattle.network_law.proofs.Node.{legal_facts, keeps_issuers}
use Rattle.network_law.proofs.Lending.{BorrowsNamed}
use Rattle.network_law.proofs.Used.{cap_of, legal_used}

-- lists without repeats

abbrev IsOnce : {X : Type 0} → List X → Type 0
IsOnce [] = 0 ≤ 0
IsOnce (x ∷ xs) = (IsIn x xs → ⊥) × IsOnce xs

abbrev AreIn : {X : Type 0} → List X → List X → Type 0
AreIn {X} xs ys = (x : X) → IsIn x xs → IsIn x ys

without : {X : Type 0} (x : X) (ys : List X) → IsIn x ys → List X
without x [] m = []
without x (y ∷ ys) (inl e) = ys
without x (y ∷ ys) (inr m) = y ∷ without x ys m

without_added : {X : Type 0} (w : X → ℕ) (x : X) (ys : List X) (m : IsIn x ys) → added w ys ≡ w x + added w (without x ys m)
unfolding without
without_added w x [] m = absurd m
without_added w x (y ∷ ys) (inl e) = ap (λ z. w z + added w ys) e
without_added w x (y ∷ ys) (inr m) = let r = without_added w x ys m in omega (arith, r)

without_in : {X : Type 0} (x z : X) (ys : List X) (m : IsIn x ys) → IsIn z ys → (x ≡ z) ⊎ IsIn z (without x ys m)
unfolding without
without_in x z [] m i = absurd m
without_in x z (y ∷ ys) (inl e) (inl f) = inl (sym e ∙ f)
without_in x z (y ∷ ys) (inl e) (inr i) = inr i
without_in x z (y ∷ ys) (inr m) (inl f) = inr (inl f)
without_in x z (y ∷ ys) (inr m) (inr i) = ⊎_elim inl (λ r. inr (inr r)) (without_in x z ys m i)

-- a list without repeats adds up to no more than one that has all its elements
once_added : {X : Type 0} (w : X → ℕ) (xs ys : List X) → IsOnce xs → AreIn xs ys → added w xs ≤ added w ys
once_added w [] ys once all = omega arith
once_added {X = X} w (x ∷ xs) ys once all =
    let m = all x (inl refl) in
    let a = without_added w x ys m in
    let b = once_added w xs (without x ys m) once.1 (rest m) in
    omega (arith, a, b)
  where
    rest : (m : IsIn x ys) → AreIn xs (without x ys m)
    rest m z i = ⊎_elim (λ same. absurd (once.0 (subst (λ v. IsIn v xs) (sym same) i))) (λ r. r) (without_in x z ys m (all z (inr i)))

in_left : {X : Type 0} (xs ys : List X) (x : X) → IsIn x xs → IsIn x (xs ++ ys)
in_left [] ys x m = absurd m
in_left (z ∷ xs) ys x m = ⊎_elim inl (λ r. inr (in_left xs ys x r)) m

in_right : {X : Type 0} (xs ys : List X) (x : X) → IsIn x ys → IsIn x (xs ++ ys)
in_right [] ys x m = m
in_right (z ∷ xs) ys x m = inr (in_right xs ys x m)

once_append : {X : Type 0} (xs ys : List X) → IsOnce xs → IsOnce ys → ((x : X) → IsIn x xs → IsIn x ys → ⊥) → IsOnce (xs ++ ys)
once_append [] ys a b apart = b
once_append (x ∷ xs) ys a b apart = (λ m. ⊎_elim a.0 (apart x (inl refl)) (in_append xs ys x m), once_append xs ys a.1 b (λ z i j. apart z (inr i) j))

added_append : {X : Type 0} (w : X → ℕ) (xs ys : List X) → added w (xs ++ ys) ≡ added w xs + added w ys
added_append w [] ys = omega arith
added_append w (x ∷ xs) ys = let r = added_append w xs ys in omega (arith, r)

added_map : {X Y : Type 0} (w : Y → ℕ) (f : X → Y) (xs : List X) → added w (map f xs) ≡ added (λ x. w (f x)) xs
added_map w f [] = refl
added_map w f (x ∷ xs) = ap (λ z. w (f x) + z) (added_map w f xs)

in_map : {X Y : Type 0} (f : X → Y) (xs : List X) (x : X) → IsIn x xs → IsIn (f x) (map f xs)
in_map f [] x m = absurd m
in_map f (y ∷ ys) x m = ⊎_elim (λ e. inl (ap f e)) (λ r. inr (in_map f ys x r)) m

-- what is taken

pub any_is : {X : Type 0} (p : X → Bool) (xs : List X) (x : X) → IsIn x xs → p x ≡ true → list_any p xs ≡ true
any_is p [] x m e = absurd m
any_is p (y ∷ ys) x m e = ⊎_elim (λ same. (let f : p y ≡ true = ap p same ∙ e in rw f refl)) (λ r. later (p y) (any_is p ys x r e)) m
  where
    later : (b : Bool) → list_any p ys ≡ true → (b || list_any p ys) ≡ true
    later true f = refl
    later false f = f

own_number : (g : Grant) → has_number g g ≡ true
own_number g = rw (bytes_eq_refl g.lender, eq-eqb g.number g.number refl) refl

-- each lender's number is taken once
taken_once : (h : History) → IsOnce (taken h)
unfolding taken
taken_once [] = omega arith
taken_once (Out i o ∷ h) = taken_once h
taken_once (In (Enter m) ∷ h) = taken_once h
taken_once (In (Take l s m) ∷ h) = taken_once h
taken_once (In (LinkUp l) ∷ h) = taken_once h
taken_once (In (LinkDown l) ∷ h) = taken_once h
taken_once (In Tick ∷ h) = taken_once h
taken_once (In (HostAnswer a c) ∷ h) = taken_once h
taken_once (In (NewDate d) ∷ h) = taken_once h
taken_once (In (TakePacket l s (packets.Ack lender number)) ∷ h) = taken_once h
taken_once (In (Lend m c d a) ∷ h) = taken_once h
taken_once (In (TakePacket l s (packets.Grant g)) ∷ h) = cond_both (list_any (has_number g) (taken h)) (taken h) (g ∷ taken h) IsOnce (λ _. taken_once h) (λ new. (λ m. both (list_any (has_number g) (taken h)) (any_is (has_number g) (taken h) g m (own_number g)) new, taken_once h))
  where
    both : (b : Bool) → b ≡ true → b ≡ false → ⊥
    both b p q = cc

abbrev WasTaken : History → Grant → Type 0
WasTaken h g = (l : ℕ) × (s : ℕ) × Has (In (TakePacket l s (packets.Grant g))) h

taken_has : (h : History) (g : Grant) → IsIn g (taken h) → WasTaken h g
unfolding taken
taken_has [] g m = absurd m
taken_has (Out i o ∷ h) g m = let r = taken_has h g m in (r.0, r.1, inr r.2)
taken_has (In i ∷ h) g m = go i refl (λ old. (let r = taken_has h g old in (r.0, r.1, inr r.2))) m
  where
    go : (j : ReadInput) → i ≡ j → (IsIn g (taken h) → WasTaken (In i ∷ h) g) → IsIn g (Rattle.network_law.specs.Traces.taken_after j (taken h)) → WasTaken (In i ∷ h) g
    go (Enter x) e older m = older m
    go (Take l s x) e older m = older m
    go (LinkUp l) e older m = older m
    go (LinkDown l) e older m = older m
    go Tick e older m = older m
    go (HostAnswer a c) e older m = older m
    go (NewDate d) e older m = older m
    go (Lend k c d a) e older m = older m
    go (TakePacket l s (packets.Ack lender number)) e older m = older m
    go (TakePacket l s (packets.Grant x)) e older m = cond_both (list_any (has_number x) (taken h)) (taken h) (x ∷ taken h) (λ z. IsIn g z → WasTaken (In i ∷ h) g) (λ _ w. older w) (λ _ w. ⊎_elim (λ same. (l, s, inl (ap In (e ∙ ap (λ y. TakePacket l s (packets.Grant y)) same)))) older w) m

-- what is put

reply_no_packet : {A : Type 0} (src : Source) (m : Fields) (h : History) (l s : ℕ) (p : GrantPacket) → reply_output src m h ≡ PutPacket l s p → A
reply_no_packet Gate m h l s p e = absurd (no e)
  where
    no : Answer m ≡ PutPacket l s p → ⊥
    no q = cc
reply_no_packet (ByLink k) m h l s p e = absurd (no e)
  where
    no : {a b : ℕ} → Put a b m ≡ PutPacket l s p → ⊥
    no q = cc

packet_case : (t : Network) (n : ℕ) (past : History) (i : ReadInput) (h : History) (o : ReadOutput) (l s : ℕ) (p : GrantPacket) → Allowed t n past i h o → o ≡ PutPacket l s p → PuttingPacket t n past i h o
packet_case t n past i h o l s p allowed e = go allowed
  where
    no_put : {a b : ℕ} {m : Fields} → Put a b m ≡ PutPacket l s p → ⊥
    no_put q = cc

    no_ask : {a : ℕ} {m : Fields} → Ask a m ≡ PutPacket l s p → ⊥
    no_ask q = cc

    no_post : {m : Fields} → Post m ≡ PutPacket l s p → ⊥
    no_post q = cc

    go : Allowed t n past i h o → PuttingPacket t n past i h o
    go (forwarding f) = absurd (no_put (sym f.is ∙ e))
    go (asking f) = absurd (no_ask (sym f.is ∙ e))
    go (standing_in f) = reply_no_packet f.op.source _ h l s p (sym f.is ∙ e)
    go (passing f) = reply_no_packet f.op.source _ h l s p (sym f.is ∙ e)
    go (declining f) = reply_no_packet f.op.source _ h l s p (sym f.is ∙ e)
    go (repeating f) = reply_no_packet f.source _ h l s p (sym f.is ∙ e)
    go (refusing f) = reply_no_packet f.source _ h l s p (sym f.is ∙ e)
    go (acking f) = reply_no_packet f.source _ h l s p (sym f.is ∙ e)
    go (sending f) = absurd (no_put (sym f.is ∙ e))
    go (posting f) = absurd (no_post (sym f.is ∙ e))
    go (putting_packet f) = f

-- the node made this grant
abbrev Made : Network → ℕ → History → Grant → Type 0
Made t n h g = (x : Lent) × IsIn x (grants t n h) × (x.grant ≡ g)

-- a grant that was put was made
abbrev PutsMade : Network → ℕ → History → Type 0
PutsMade t n h = (i : ReadInput) (l s : ℕ) (g : Grant) → Has (Out i (PutPacket l s (packets.Grant g))) h → Made t n h g

acked_in : (lender : Bytes) (number : ℕ) (gs : List Lent) (g : Grant) → (x : Lent) × IsIn x gs × (x.grant ≡ g) → (x : Lent) × IsIn x (map (lent_acked lender number) gs) × (x.grant ≡ g)
acked_in lender number gs g r = (lent_acked lender number r.0, in_map (lent_acked lender number) gs r.0 r.1, r.2)

made_in : (t : Network) (n : ℕ) (h : History) (i : ReadInput) (g : Grant) → Made t n h g → Made t n (In i ∷ h) g
unfolding grants
made_in t n h (Enter m) g r = r
made_in t n h (Take l s m) g r = r
made_in t n h (LinkUp l) g r = r
made_in t n h (LinkDown l) g r = r
made_in t n h Tick g r = r
made_in t n h (HostAnswer a c) g r = r
made_in t n h (NewDate d) g r = r
made_in t n h (TakePacket l s (packets.Grant x)) g r = r
made_in t n h (TakePacket l s (packets.Ack lender number)) g r = acked_in lender number (grants t n h) g r
made_in t n h (Lend m c d a) g r = (r.0, inr r.1, r.2)

record Made_in_entry (t : Network) (n : ℕ) (past : History) (i : ReadInput) (h : History) : Type 0 where
  puts : PutsMade t n h
  same : grants t n h ≡ grants t n (In i ∷ past)

made_out : (t : Network) (n : ℕ) (past : History) (i : ReadInput) (h : History) (o : ReadOutput) → Made_in_entry t n past i h → Allowed t n past i h o → Made_in_entry t n past i (Out i o ∷ h)
unfolding grants
made_out t n past i h o q allowed = record { puts = λ j l s g has. ⊎_elim (λ here. now l s g (out_is j (PutPacket l s (packets.Grant g)) here)) (λ below. Made_in_entry.puts q j l s g below) has; same = Made_in_entry.same q }
  where
    out_is : (j : ReadInput) (p : ReadOutput) → Out i o ≡ Out j p → o ≡ p
    out_is j p e = cc

    bodies : {a b c d : ℕ} {p r : GrantPacket} → PutPacket a b p ≡ PutPacket c d r → p ≡ r
    bodies e = cc

    granted : {x y : Grant} → packets.Grant x ≡ packets.Grant y → x ≡ y
    granted e = cc

    no : {lender : Bytes} {number : ℕ} {y : Grant} → packets.Ack lender number ≡ packets.Grant y → ⊥
    no e = cc

    now : (l s : ℕ) (g : Grant) → o ≡ PutPacket l s (packets.Grant g) → Made t n (Out i o ∷ h) g
    now l s g e =
        let f = packet_case t n past i h o l s (packets.Grant g) allowed e in
        let p : f.packet ≡ packets.Grant g = bodies (sym f.is ∙ e) in
        ⊎_elim (λ r. (r.0, subst (λ z. IsIn r.0 z) (sym (Made_in_entry.same q)) r.1, granted (sym r.2 ∙ p))) (λ r. absurd (no (sym r.4 ∙ p))) f.from

puts_made : (t : Network) (n : ℕ) (es : List ReadEntry) → IsLegalRead t n es → PutsMade t n (read_history es)
unfolding read_history
puts_made t n [] l = λ i k s g has. absurd has
puts_made t n (e ∷ es) l = subst (PutsMade t n) (sym l.1.outputs)
    (Made_in_entry.puts (decide_keeps t n (read_history es) e.input (Made_in_entry t n (read_history es) e.input) (λ h o q allowed. made_out t n (read_history es) e.input h o q allowed) (keeps_issuers t n (read_history es) (legal_facts t n es l.0))
    (record { puts = λ i k s g has. ⊎_elim (λ bad. absurd (no i (PutPacket k s (packets.Grant g)) bad)) (λ below. made_in t n (read_history es) e.input g (puts_made t n es l.0 i k s g below)) has; same = refl })))
  where
    no : (i : ReadInput) (o : ReadOutput) → In e.input ≡ Out i o → ⊥
    no i o p = cc

-- a node's grants have its id, and each its own number
record Numbered (t : Network) (n : ℕ) (gs : List Lent) : Type 0 where
  own : (x : Lent) → IsIn x gs → x.grant.lender ≡ pad11 (node_id t n)
  few : (x : Lent) → IsIn x gs → x.grant.number ≤ length gs
  one : (x y : Lent) → IsIn x gs → IsIn y gs → x.grant.number ≡ y.grant.number → x.grant ≡ y.grant

acked_from : (lender : Bytes) (number : ℕ) (gs : List Lent) (g : Lent) → IsIn g (map (lent_acked lender number) gs) → (x : Lent) × IsIn x gs × (x.grant ≡ g.grant)
acked_from lender number [] g m = absurd m
acked_from lender number (x ∷ gs) g m = ⊎_elim (λ e. (x, inl refl, ap (λ (z : Lent). z.grant) e)) (λ old. (let r = acked_from lender number gs g old in (r.0, inr r.1, r.2))) m

numbered_acked : (t : Network) (n : ℕ) (lender : Bytes) (number : ℕ) (gs : List Lent) → Numbered t n gs → Numbered t n (map (lent_acked lender number) gs)
numbered_acked t n lender number gs q = record {
  own = λ x m. (let r = acked_from lender number gs x m in ap Grant.lender (sym r.2) ∙ Numbered.own q r.0 r.1);
  few = λ x m. (let r = acked_from lender number gs x m in let a = Numbered.few q r.0 r.1 in let b : r.0.grant.number ≡ x.grant.number = ap Grant.number r.2 in let c = length-map gs (lent_acked lender number) in omega (arith, a, b, c));
  one = λ x y m k e. (let r = acked_from lender number gs x m in let s = acked_from lender number gs y k in sym r.2 ∙ (Numbered.one q r.0 s.0 r.1 s.1 (ap Grant.number r.2 ∙ (e ∙ ap Grant.number (sym s.2))) ∙ s.2));
}

numbered_more : (t : Network) (n : ℕ) (x : Lent) (gs : List Lent) → x.grant.lender ≡ pad11 (node_id t n) → x.grant.number ≡ suc (length gs) → Numbered t n gs → Numbered t n (x ∷ gs)
numbered_more t n x gs lender number q = record {
  own = λ y m. ⊎_elim (λ e. ap (λ (z : Lent). z.grant.lender) (sym e) ∙ lender) (λ old. Numbered.own q y old) m;
  few = λ y m. ⊎_elim (λ e. (let f : y.grant.number ≡ x.grant.number = ap (λ (z : Lent). z.grant.number) (sym e) in omega (arith, f, number))) (λ old. (let a = Numbered.few q y old in omega (arith, a))) m;
  one = λ y z m k e. ⊎_elim (λ here. ⊎_elim (λ here'. ap (λ (w : Lent). w.grant) (sym here ∙ here')) (λ old'. absurd (above z y old' here (sym e))) k) (λ old. ⊎_elim (λ here'. absurd (above y z old here' e)) (λ old'. Numbered.one q y z old old' e) k) m;
}
  where
    above : (y z : Lent) → IsIn y gs → x ≡ z → y.grant.number ≡ z.grant.number → ⊥
    above y z old here e =
        let a = Numbered.few q y old in
        let b : z.grant.number ≡ x.grant.number = ap (λ (w : Lent). w.grant.number) (sym here) in
        omega (arith, a, b, e, number)

numbered : (t : Network) (n : ℕ) (h : History) → Numbered t n (grants t n h)
unfolding grants
numbered t n [] = record { own = λ x m. absurd m; few = λ x m. absurd m; one = λ x y m. absurd m }
numbered t n (Out i o ∷ h) = numbered t n h
numbered t n (In (Enter m) ∷ h) = numbered t n h
numbered t n (In (Take l s m) ∷ h) = numbered t n h
numbered t n (In (LinkUp l) ∷ h) = numbered t n h
numbered t n (In (LinkDown l) ∷ h) = numbered t n h
numbered t n (In Tick ∷ h) = numbered t n h
numbered t n (In (HostAnswer a c) ∷ h) = numbered t n h
numbered t n (In (NewDate d) ∷ h) = numbered t n h
numbered t n (In (TakePacket l s (packets.Grant g)) ∷ h) = numbered t n h
numbered t n (In (TakePacket l s (packets.Ack lender number)) ∷ h) = numbered_acked t n lender number (grants t n h) (numbered t n h)
numbered t n (In (Lend m c d a) ∷ h) = numbered_more t n _ (grants t n h) refl refl (numbered t n h)

-- over all nodes

all_taken : (ℕ → History) → ℕ → List Grant
all_taken at zero = []
all_taken at (suc n) = all_taken at n ++ taken (at n)

all_lent : Network → (ℕ → History) → ℕ → List Grant
all_lent t at zero = []
all_lent t at (suc n) = all_lent t at n ++ map (λ (x : Lent). x.grant) (grants t n (at n))

borrowed_all : (at : ℕ → History) (card date : List ℕ) (n : ℕ) → sum_below (λ k. borrowed (at k) card date) n ≡ added (amount_for card date) (all_taken at n)
unfolding all_taken borrowed
borrowed_all at card date zero = refl
borrowed_all at card date (suc n) =
    let a = borrowed_all at card date n in
    let b = added_append (amount_for card date) (all_taken at n) (taken (at n)) in
    omega (arith, a, b)

lent_all : (t : Network) (at : ℕ → History) (card date : List ℕ) (n : ℕ) → sum_below (λ k. lent t k (at k) card date) n ≡ added (amount_for card date) (all_lent t at n)
unfolding all_lent lent
lent_all t at card date zero = refl
lent_all t at card date (suc n) =
    let a = lent_all t at card date n in
    let b = added_append (amount_for card date) (all_lent t at n) (map (λ (x : Lent). x.grant) (grants t n (at n))) in
    let c = added_map (amount_for card date) (λ (x : Lent). x.grant) (grants t n (at n)) in
    omega (arith, a, b, c)

in_all_taken : (at : ℕ → History) (n : ℕ) (g : Grant) → IsIn g (all_taken at n) → (k : ℕ) × (k < n) × IsIn g (taken (at k))
unfolding all_taken
in_all_taken at zero g m = absurd m
in_all_taken at (suc n) g m = ⊎_elim (λ old. (let r = in_all_taken at n g old in (r.0, (let less = r.1 in omega (arith, less)), r.2))) (λ new. (n, omega arith, new)) (in_append (all_taken at n) (taken (at n)) g m)

in_all_lent : (t : Network) (at : ℕ → History) (n k : ℕ) (g : Grant) → k < n → IsIn g (map (λ (x : Lent). x.grant) (grants t k (at k))) → IsIn g (all_lent t at n)
unfolding all_lent
in_all_lent t at zero k g less m = absurd (omega (arith, less))
in_all_lent t at (suc n) k g less m = ⊎_elim (λ below. in_left (all_lent t at n) _ g (in_all_lent t at n k g below m)) (λ more. (let same : k ≡ n = omega (arith, less, more) in in_right (all_lent t at n) _ g (subst (λ z. IsIn g (map (λ (x : Lent). x.grant) (grants t z (at z)))) same m))) (cases_lt k n)

module _ (t : Network) (traces : ℕ → List ReadEntry) (run : IsReadRun t traces) (checked : IsChecked t) where
  at : ℕ → History
  at = histories traces

  named : (n : ℕ) → BorrowsNamed t n (taken (at n))
  unfolding at
  named n = (legal_used t n (traces n) (legal_at run n)).borrows

  -- a grant that was taken was made by the node at the other end
  abbrev MadeAt : Grant → Type 0
  MadeAt g = (m : ℕ) × (m < length t.nodes) × Made t m (read_history (traces m)) g

  made_at : (n l s : ℕ) (g : Grant) → Has (In (TakePacket l s (packets.Grant g))) (read_history (traces n)) → MadeAt g
  made_at n l s g has =
      let m = other_end t n l in
      let put = run.packets n l s (packets.Grant g) has in
      (m, is_node run m (Out put.0 (PutPacket l s (packets.Grant g))) put.1, puts_made t m (traces m) (legal_at run m) put.0 l s g put.1)

  pub one_content : OneContent (histories traces)
  one_content n l s n' l' s' g g' has has' lender number =
      let a = made_at n l s g has in
      let b = made_at n' l' s' g' has' in
      let qa = numbered t a.0 (read_history (traces a.0)) in
      let qb = numbered t b.0 (read_history (traces b.0)) in
      let own : pad11 (node_id t a.0) ≡ g.lender = sym (Numbered.own qa a.2.0 a.2.1) ∙ ap Grant.lender a.2.2 in
      let own' : pad11 (node_id t b.0) ≡ g'.lender = sym (Numbered.own qb b.2.0 b.2.1) ∙ ap Grant.lender b.2.2 in
      let same : b.0 ≡ a.0 = sym (checked.single_ids a.0 b.0 a.1 b.1 (own ∙ (lender ∙ sym own'))) in
      let there : IsIn b.2.0 (grants t a.0 (read_history (traces a.0))) = subst (λ k. IsIn b.2.0 (grants t k (read_history (traces k)))) same b.2.1 in
      sym a.2.2 ∙ (Numbered.one qa a.2.0 b.2.0 a.2.1 there (ap Grant.number a.2.2 ∙ (number ∙ ap Grant.number (sym b.2.2))) ∙ b.2.2)

  -- a grant is taken at one node
  apart : (n m : ℕ) (g : Grant) → n < length t.nodes → m < length t.nodes → IsIn g (taken (at n)) → IsIn g (taken (at m)) → n ≡ m
  apart n m g less less' i j = checked.single_ids n m less less' (sym (named n g i).1 ∙ (named m g j).1)

  all_once : (n : ℕ) → n ≤ length t.nodes → IsOnce (all_taken at n)
  unfolding all_taken
  all_once zero le = omega arith
  all_once (suc n) le = once_append (all_taken at n) (taken (at n)) (all_once n (omega (arith, le))) (taken_once (at n)) (λ g i j. (let r = in_all_taken at n g i in let less = r.1 in let same = apart r.0 n g (omega (arith, less, le)) (omega (arith, le)) r.2 j in omega (arith, less, same)))

  -- and was made at another
  all_made : AreIn (all_taken at (length t.nodes)) (all_lent t at (length t.nodes))
  unfolding at
  all_made g i =
      let r = in_all_taken at (length t.nodes) g i in
      let w = taken_has (at r.0) g r.2 in
      let made = made_at r.0 w.0 w.1 g w.2 in
      in_all_lent t at (length t.nodes) made.0 g made.1 (subst (λ z. IsIn z (map (λ (x : Lent). x.grant) (grants t made.0 (at made.0)))) made.2.2 (in_map (λ (x : Lent). x.grant) (grants t made.0 (at made.0)) made.2.0 made.2.1))

  -- so no more is borrowed than was lent
  pub borrowed_was_lent : BorrowedWasLent t (histories traces)
  unfolding at
  borrowed_was_lent card date =
      let a = borrowed_all at card date (length t.nodes) in
      let b = lent_all t at card date (length t.nodes) in
      let c = once_added (amount_for card date) (all_taken at (length t.nodes)) (all_lent t at (length t.nodes)) (all_once (length t.nodes) (omega arith)) all_made in
      omega (arith, a, b, c)

sum_less : (f g x y : ℕ → ℕ) (n : ℕ) → ((k : ℕ) → f k + g k ≤ x k + y k) → sum_below f n + sum_below g n ≤ sum_below x n + sum_below y n
sum_less f g x y zero le = omega arith
sum_less f g x y (suc n) le =
    let a = le n in
    let b = sum_less f g x y n le in
    omega (arith, a, b)

sum_zero : (f : ℕ → ℕ) (n : ℕ) → ((k : ℕ) → f k ≤ 0) → sum_below f n ≤ 0
sum_zero f zero le = omega arith
sum_zero f (suc n) le =
    let a = le n in
    let b = sum_zero f n le in
    omega (arith, a, b)

pub WithinCeiling_holds : (t : Network) (traces : ℕ → List ReadEntry) → IsReadRun t traces → IsChecked t → IsBounded t → WithinCeiling t (histories traces)
unfolding cap_of
WithinCeiling_holds t traces run checked bounded card date = go (issuer t card) refl
  where
    cap : (o : Option Issuer) → issuer t card ≡ o → (n : ℕ) → used t n (histories traces n) card date + lent t n (histories traces n) card date ≤ cap_of o (day t n card + borrowed (histories traces n) card date)
    cap o e n = rw e at ((legal_used t n (traces n) (legal_at run n)).within card date)

    none : (e : issuer t card ≡ None) (n : ℕ) → used t n (histories traces n) card date ≤ 0
    none e n = let a = cap None e n in omega (arith, a)

    go : (o : Option Issuer) → issuer t card ≡ o → AtMost o (exposure t (histories traces) card date)
    go None e = sum_zero (λ n. used t n (histories traces n) card date) (length t.nodes) (none e)
    go (Some s) e =
        let a = sum_less (λ n. used t n (histories traces n) card date) (λ n. lent t n (histories traces n) card date) (λ n. day t n card) (λ n. borrowed (histories traces n) card date) (length t.nodes) (cap (Some s) e) in
        let b = bounded.within card s e in
        let c = borrowed_was_lent t traces run checked card date in
        omega (arith, a, b, c)
