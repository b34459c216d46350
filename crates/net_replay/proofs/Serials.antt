-- The serials of a legal trace count the puts on a link from 1.
use Rattle.std.proofs.Common.{◌≡◌, ℕ, zero, suc, ◌+◌, ◌<◌, List, [], ◌∷◌, ◌++◌, map, length, Option, Some, None, Result, Ok, Err, Bool, true, false, cond, eqb, refl, sym, ap, ◌∙◌, subst, arith, inl, inr, ⊎_elim, length-append, eq-eqb, eqb-true, ◌⊎◌}
use Rattle.std.specs.Prelude.{⊤, slice_get, nat_le}
use Rattle.message_elements.specs.declared.fault.DecodeFault.{DecodeFault}
use Rattle.network_law.specs.declared.fault.StepFault.TheVariants.{Decode, HistoryFull}
use Rattle.iso_message.specs.Fields.{Fields}
use Rattle.net_rows.specs.Network.{Network}
use Rattle.network_law.specs.Cards.{Bytes}
use Rattle.network_law.specs.Traces.{Source, Gate, ByLink, ReadInput, ReadOutput, In, Out, History, IsIn, puts_on, put_count}
use Rattle.network_law.specs.Traces as messages
use Rattle.network_law.specs.Decision.{decide, reply_output}
use Rattle.network_law.specs.Entries.{Input, Output, Put, Answer, Ask, Post, Entry, read_input, read_trace, history, read_history, spelled, newest_onto, newest_outputs}
use Rattle.network_law.specs.Checked.{IsChecked}
use Rattle.network_law.specs.Runs.{IsLegal, step_refusal, fault_of, step_outputs, outputs_of, WasPut}
use Rattle.network_law.proofs.Emits.{Allowed, forwarding, asking, standing_in, passing, declining, repeating, refusing, acking, sending, posting, putting_packet, decide_keeps}
use Rattle.network_law.proofs.Node.{legal_facts, keeps_issuers}
use Rattle.network_law.proofs.Reading.{Legible, legible, EntryRead, entry_read}
use Rattle.net_replay.specs.Steps.{packets, packets_in}

-- by the history

-- the output has the serial behind so many
abbrev IsNext : (ℕ → ℕ) → ReadOutput → Type 0
IsNext f (messages.Put l s m) = s ≡ suc (f l)
IsNext f (messages.PutPacket l s p) = s ≡ suc (f l)
IsNext f _ = ⊤

-- the history is that of the past with an input and outputs, each with the next serial
abbrev Grows : History → History → Type 0
Grows past [] = ⊥
Grows past (In i ∷ h) = h ≡ past
Grows past (Out i o ∷ h) = Grows past h × IsNext (put_count h) o

next_reply : (src : Source) (m : Fields) (h : History) → IsNext (put_count h) (reply_output src m h)
next_reply Gate m h = tt
next_reply (ByLink l) m h = refl

next_allowed : (t : Network) (n : ℕ) (past : History) (i : ReadInput) (h : History) (o : ReadOutput) → Allowed t n past i h o → IsNext (put_count h) o
next_allowed t n past i h o (forwarding f) = subst (IsNext (put_count h)) (sym f.is) refl
next_allowed t n past i h o (asking f) = subst (IsNext (put_count h)) (sym f.is) tt
next_allowed t n past i h o (standing_in f) = subst (IsNext (put_count h)) (sym f.is) (next_reply _ _ h)
next_allowed t n past i h o (passing f) = subst (IsNext (put_count h)) (sym f.is) (next_reply _ _ h)
next_allowed t n past i h o (declining f) = subst (IsNext (put_count h)) (sym f.is) (next_reply _ _ h)
next_allowed t n past i h o (repeating f) = subst (IsNext (put_count h)) (sym f.is) (next_reply _ _ h)
next_allowed t n past i h o (refusing f) = subst (IsNext (put_count h)) (sym f.is) (next_reply _ _ h)
next_allowed t n past i h o (acking f) = subst (IsNext (put_count h)) (sym f.is) (next_reply _ _ h)
next_allowed t n past i h o (sending f) = subst (IsNext (put_count h)) (sym f.is) refl
next_allowed t n past i h o (posting f) = subst (IsNext (put_count h)) (sym f.is) tt
next_allowed t n past i h o (putting_packet f) = subst (IsNext (put_count h)) (sym f.is) refl

-- by the outputs

-- how many of them are put on the link
count_on : ℕ → List Output → ℕ
count_on l os = length (packets_in l os)

-- each has the next serial
abbrev Next : (ℕ → ℕ) → Output → Type 0
Next f (Put l s bytes) = s ≡ suc (f l)
Next f _ = ⊤

abbrev on_link : ℕ → Output → ℕ
on_link l (Put k s bytes) = cond (eqb k l) 1 0
on_link l _ = 0

abbrev Count : (ℕ → ℕ) → List Output → Type 0
Count f [] = ⊤
Count f (o ∷ os) = Next f o × Count (λ l. on_link l o + f l) os

next_spelled : (f : ℕ → ℕ) (o : ReadOutput) → IsNext f o → Next f (spelled o)
unfolding spelled
next_spelled f (messages.Put l s m) e = e
next_spelled f (messages.PutPacket l s p) e = e
next_spelled f (messages.Answer m) e = tt
next_spelled f (messages.Ask a m) e = tt
next_spelled f (messages.Post m) e = tt

on_spelled : (l : ℕ) (o : ReadOutput) → on_link l (spelled o) ≡ puts_on l o
unfolding spelled
on_spelled l (messages.Put k s m) = refl
on_spelled l (messages.PutPacket k s p) = refl
on_spelled l (messages.Answer m) = refl
on_spelled l (messages.Ask a m) = refl
on_spelled l (messages.Post m) = refl

count_same : (f g : ℕ → ℕ) (os : List Output) → ((l : ℕ) → f l ≡ g l) → Count f os → Count g os
count_same f g [] same c = tt
count_same f g (Put l s bytes ∷ os) same c = (c.0 ∙ ap suc (same l), count_same (λ k. on_link k (Put l s bytes) + f k) (λ k. on_link k (Put l s bytes) + g k) os (λ k. ap (λ z. on_link k (Put l s bytes) + z) (same k)) c.1)
count_same f g (Answer bytes ∷ os) same c = (tt, count_same (λ l. on_link l (Answer bytes) + f l) (λ l. on_link l (Answer bytes) + g l) os (λ l. ap (λ z. on_link l (Answer bytes) + z) (same l)) c.1)
count_same f g (Ask a bytes ∷ os) same c = (tt, count_same (λ l. on_link l (Ask a bytes) + f l) (λ l. on_link l (Ask a bytes) + g l) os (λ l. ap (λ z. on_link l (Ask a bytes) + z) (same l)) c.1)
count_same f g (Post bytes ∷ os) same c = (tt, count_same (λ l. on_link l (Post bytes) + f l) (λ l. on_link l (Post bytes) + g l) os (λ l. ap (λ z. on_link l (Post bytes) + z) (same l)) c.1)

-- the newest outputs count on from the past
newest_count : (past h : History) (os : List ReadOutput) → Grows past h → Count (put_count h) (map spelled os) → Count (put_count past) (map spelled (newest_onto os h))
unfolding put_count
newest_count past [] os g c = absurd g
newest_count past (In i ∷ h) os g c = subst (λ z. Count (put_count z) (map spelled os)) g c
newest_count past (Out i o ∷ h) os g c = newest_count past h (o ∷ os) g.0 (next_spelled (put_count h) o g.1, count_same (put_count (Out i o ∷ h)) (λ l. on_link l (spelled o) + put_count h l) (map spelled os) (λ l. ap (λ z. z + put_count h l) (sym (on_spelled l o))) c)

-- how many are put on a link

abbrev added_on : ℕ → List Output → ℕ
added_on l [] = 0
added_on l (o ∷ os) = on_link l o + added_on l os

newest_added : (l : ℕ) (past h : History) (os : List ReadOutput) → Grows past h → put_count h l + added_on l (map spelled os) ≡ put_count past l + added_on l (map spelled (newest_onto os h))
unfolding put_count
newest_added l past [] os g = absurd g
newest_added l past (In i ∷ h) os g = ap (λ z. put_count z l + added_on l (map spelled os)) g
newest_added l past (Out i o ∷ h) os g =
    let a = newest_added l past h (o ∷ os) g.0 in
    let b = on_spelled l o in
    omega (arith, a, b)

added_length : (l : ℕ) (os : List Output) → added_on l os ≡ length (packets_in l os)
added_length l [] = refl
added_length l (Put k s bytes ∷ os) = go (eqb k l) refl (added_length l os)
  where
    go : (b : Bool) → eqb k l ≡ b → added_on l os ≡ length (packets_in l os) → cond (eqb k l) 1 0 + added_on l os ≡ length (cond (eqb k l) (bytes ∷ packets_in l os) (packets_in l os))
    go true at ih = rw at (omega (arith, ih))
    go false at ih = rw at (omega (arith, ih))
added_length l (Answer bytes ∷ os) = omega (arith, added_length l os)
added_length l (Ask a bytes ∷ os) = omega (arith, added_length l os)
added_length l (Post bytes ∷ os) = omega (arith, added_length l os)

-- of an entry of a legal trace

record Decided (t : Network) (n : ℕ) (es : List Entry) (e : Entry) : Type 0 where
  input : ReadInput
  reads : read_input e.input ≡ Ok input
  outputs : e.outputs ≡ map spelled (newest_outputs (decide t n (history es) input))
  grows : Grows (history es) (decide t n (history es) input)
  grown : history (e ∷ es) ≡ decide t n (history es) input

accepted_reads : (t : Network) (n : ℕ) (es : List Entry) (i : Input) → step_refusal t n es i ≡ None → (j : ReadInput) × (read_input i ≡ Ok j)
unfolding step_refusal
accepted_reads t n es i e = go (nat_le 1000000 (length es)) (read_input i) refl refl e
  where
    go : (b : Bool) (r : Result ReadInput DecodeFault) → nat_le 1000000 (length es) ≡ b → read_input i ≡ r → cond (nat_le 1000000 (length es)) (Some HistoryFull) (fault_of t n (history es) (read_input i)) ≡ None → (j : ReadInput) × (read_input i ≡ Ok j)
    go true r at is e = absurd (no (rw at at e))
      where
        no : Some HistoryFull ≡ None → ⊥
        no p = cc
    go false (Ok j) at is e = (j, is)
    go false (Err f) at is e = absurd (no (rw (at, is) at e))
      where
        no : Some (Decode f) ≡ None → ⊥
        no p = cc

decided : (t : Network) → IsChecked t → (n : ℕ) → n < length t.nodes → (e : Entry) (es : List Entry) → IsLegal t n (e ∷ es) → Decided t n es e
unfolding history read_history step_outputs
decided t checked n less e es legal =
    let j = accepted_reads t n es e.input legal.1.accepted in
    let r = entry_read t n e es j.0 checked less legal j.1 in
    let before = Legible.legal (legible t n checked.sound less es legal.0) in
    record {
      input = j.0;
      reads = j.1;
      outputs = legal.1.outputs ∙ ap (outputs_of t n (history es)) j.1;
      grows = decide_keeps t n (history es) j.0 (Grows (history es)) (λ h o g a. (g, next_allowed t n (history es) j.0 h o a)) (keeps_issuers t n (history es) (legal_facts t n (read_trace es) before)) refl;
      grown = ap read_history (EntryRead.is r) ∙ (EntryRead.legal r).1.outputs;
    }

-- a legal trace put so many packets on a link
counts_packets : (t : Network) → IsChecked t → (n : ℕ) → n < length t.nodes → (es : List Entry) → IsLegal t n es → (l : ℕ) → put_count (history es) l ≡ length (packets l es)
unfolding history read_history read_trace put_count
counts_packets t checked n less [] legal l = refl
counts_packets t checked n less (e ∷ es) legal l =
    let d = decided t checked n less e es legal in
    let before = counts_packets t checked n less es legal.0 l in
    let added = newest_added l (history es) (decide t n (history es) (Decided.input d)) [] (Decided.grows d) in
    let outs = ap (added_on l) (Decided.outputs d) in
    let len = added_length l e.outputs in
    let whole = length-append (packets l es) (packets_in l e.outputs) in
    let now = ap (λ h. put_count h l) (Decided.grown d) in
    omega (arith, before, added, outs, len, whole, now)

-- the outputs of its newest entry count on
pub entry_counts : (t : Network) → IsChecked t → (n : ℕ) → n < length t.nodes → (e : Entry) (es : List Entry) → IsLegal t n (e ∷ es) → Count (λ l. length (packets l es)) e.outputs
entry_counts t checked n less e es legal =
    let d = decided t checked n less e es legal in
    let c = newest_count (history es) (decide t n (history es) (Decided.input d)) [] (Decided.grows d) tt in
    count_same (put_count (history es)) (λ l. length (packets l es)) e.outputs (counts_packets t checked n less es legal.0) (subst (Count (put_count (history es))) (sym (Decided.outputs d)) c)

-- by serials

-- a put among the outputs is a packet, in the place of its serial
put_there : (l s : ℕ) (bytes : Bytes) (f : ℕ → ℕ) (os : List Output) → Count f os → IsIn (Put l s bytes) os → (j : ℕ) × (s ≡ suc (f l + j)) × (slice_get (packets_in l os) j ≡ Some bytes)
put_there l s bytes f [] c has = absurd has
put_there l s bytes f (o ∷ os) c has = ⊎_elim here (λ below. there o c.0 (put_there l s bytes (λ k. on_link k o + f k) os c.1 below)) has
  where
    here : o ≡ Put l s bytes → (j : ℕ) × (s ≡ suc (f l + j)) × (slice_get (packets_in l (o ∷ os)) j ≡ Some bytes)
    here same = (0, omega (arith, subst (Next f) same c.0), ap (λ z. slice_get (packets_in l (z ∷ os)) 0) same ∙ rw (eq-eqb l l refl) refl)

    there : (p : Output) → Next f p → (j : ℕ) × (s ≡ suc ((on_link l p + f l) + j)) × (slice_get (packets_in l os) j ≡ Some bytes) → (j : ℕ) × (s ≡ suc (f l + j)) × (slice_get (packets_in l (p ∷ os)) j ≡ Some bytes)
    there (Put k r b) x y = go (eqb k l) refl
      where
        go : (q : Bool) → eqb k l ≡ q → (j : ℕ) × (s ≡ suc (f l + j)) × (slice_get (packets_in l (Put k r b ∷ os)) j ≡ Some bytes)
        go true at = (suc y.0, omega (arith, rw at at y.1), rw at y.2)
        go false at = (y.0, omega (arith, rw at at y.1), rw at y.2)
    there (Answer b) x y = (y.0, omega (arith, y.1), y.2)
    there (Ask a b) x y = (y.0, omega (arith, y.1), y.2)
    there (Post b) x y = (y.0, omega (arith, y.1), y.2)

some_same : {X : Type 0} (x y : X) → Some x ≡ Some y → x ≡ y
some_same x y e = cc

-- and a packet is a put
packet_there : (l : ℕ) (f : ℕ → ℕ) (os : List Output) → Count f os → (j : ℕ) (bytes : Bytes) → slice_get (packets_in l os) j ≡ Some bytes → IsIn (Put l (suc (f l + j)) bytes) os
packet_there l f [] c j bytes at = absurd (no at)
  where
    no : ◌≡◌ {A = Option Bytes} None (Some bytes) → ⊥
    no p = cc
packet_there l f (Put k s b ∷ os) c j bytes at = go (λ i q. packet_there l (λ z. on_link z (Put k s b) + f z) os c.1 i bytes q) (eqb k l) refl j at
  where
    Here : ℕ → Type 0
    Here j = IsIn (Put l (suc (f l + j)) bytes) (Put k s b ∷ os)

    first : eqb k l ≡ true → Some b ≡ Some bytes → Here 0
    first same e =
        let on : k ≡ l = eqb-true k l same in
        inl (ap (λ z. Put z s b) on ∙ (ap (λ z. Put l z b) (c.0 ∙ ap suc (ap f on ∙ omega arith)) ∙ ap (Put l (suc (f l + 0))) (some_same b bytes e)))

    go : ((i : ℕ) → slice_get (packets_in l os) i ≡ Some bytes → IsIn (Put l (suc ((on_link l (Put k s b) + f l) + i)) bytes) os) → (q : Bool) → eqb k l ≡ q → (j : ℕ) → slice_get (cond (eqb k l) (b ∷ packets_in l os) (packets_in l os)) j ≡ Some bytes → Here j
    go ih true same zero e = first same (rw same at e)
    go ih true same (suc i) e =
        let on : (on_link l (Put k s b) + f l) + i ≡ f l + suc i = rw same (omega arith) in
        inr (subst (λ z. IsIn (Put l (suc z) bytes) os) on (ih i (rw same at e)))
    go ih false same j e =
        let off : (on_link l (Put k s b) + f l) + j ≡ f l + j = rw same (omega arith) in
        inr (subst (λ z. IsIn (Put l (suc z) bytes) os) off (ih j (rw same at e)))
packet_there l f (Answer b ∷ os) c j bytes at = let off : (0 + f l) + j ≡ f l + j = omega arith in inr (subst (λ z. IsIn (Put l (suc z) bytes) os) off (packet_there l (λ z. on_link z (Answer b) + f z) os c.1 j bytes at))
packet_there l f (Ask a b ∷ os) c j bytes at = let off : (0 + f l) + j ≡ f l + j = omega arith in inr (subst (λ z. IsIn (Put l (suc z) bytes) os) off (packet_there l (λ z. on_link z (Ask a b) + f z) os c.1 j bytes at))
packet_there l f (Post b ∷ os) c j bytes at = let off : (0 + f l) + j ≡ f l + j = omega arith in inr (subst (λ z. IsIn (Put l (suc z) bytes) os) off (packet_there l (λ z. on_link z (Post b) + f z) os c.1 j bytes at))

-- lists one behind the other

pub get_left : {X : Type 0} (xs ys : List X) (k : ℕ) (x : X) → slice_get xs k ≡ Some x → slice_get (xs ++ ys) k ≡ Some x
get_left [] ys k x e = absurd (no e)
  where
    no : None ≡ Some x → ⊥
    no p = cc
get_left (z ∷ xs) ys zero x e = e
get_left (z ∷ xs) ys (suc k) x e = get_left xs ys k x e

get_right : {X : Type 0} (xs ys : List X) (k : ℕ) → slice_get (xs ++ ys) (k + length xs) ≡ slice_get ys k
get_right [] ys k = let e : k + 0 ≡ k = omega arith in ap (slice_get ys) e
get_right (z ∷ xs) ys k = let e : k + suc (length xs) ≡ suc (k + length xs) = omega arith in ap (slice_get (z ∷ (xs ++ ys))) e ∙ get_right xs ys k

get_either : {X : Type 0} (xs ys : List X) (k : ℕ) (x : X) → slice_get (xs ++ ys) k ≡ Some x → (slice_get xs k ≡ Some x) ⊎ ((j : ℕ) × (k ≡ j + length xs) × (slice_get ys j ≡ Some x))
get_either [] ys k x e = inr (k, omega arith, e)
get_either (z ∷ xs) ys zero x e = inl e
get_either (z ∷ xs) ys (suc k) x e = ⊎_elim (λ a. inl a) (λ b. inr (b.0, omega (arith, b.1), b.2)) (get_either xs ys k x e)

-- the packets of a legal trace are what was put on the link, by serials

pub packet_was_put : (t : Network) → IsChecked t → (n : ℕ) → n < length t.nodes → (es : List Entry) → IsLegal t n es → (l k : ℕ) (bytes : Bytes) → slice_get (packets l es) k ≡ Some bytes → WasPut es l (suc k) bytes
packet_was_put t checked n less [] legal l k bytes at = absurd (no at)
  where
    no : ◌≡◌ {A = Option Bytes} None (Some bytes) → ⊥
    no p = cc
packet_was_put t checked n less (e ∷ es) legal l k bytes at =
    ⊎_elim
    (λ before. (let w = packet_was_put t checked n less es legal.0 l k bytes before in (w.0, inr w.1, w.2)))
    (λ here. (let same : length (packets l es) + here.0 ≡ k = omega (arith, here.1) in (e, inl refl, subst (λ z. IsIn (Put l (suc z) bytes) e.outputs) same (packet_there l (λ z. length (packets z es)) e.outputs (entry_counts t checked n less e es legal) here.0 bytes here.2))))
    (get_either (packets l es) (packets_in l e.outputs) k bytes at)

pub put_is_packet : (t : Network) → IsChecked t → (n : ℕ) → n < length t.nodes → (es : List Entry) → IsLegal t n es → (l s : ℕ) (bytes : Bytes) → WasPut es l s bytes → (k : ℕ) × (s ≡ suc k) × (slice_get (packets l es) k ≡ Some bytes)
put_is_packet t checked n less [] legal l s bytes w = absurd w.1
put_is_packet t checked n less (e ∷ es) legal l s bytes w = ⊎_elim here (λ below. before (put_is_packet t checked n less es legal.0 l s bytes (w.0, below, w.2))) w.1
  where
    before : (k : ℕ) × (s ≡ suc k) × (slice_get (packets l es) k ≡ Some bytes) → (k : ℕ) × (s ≡ suc k) × (slice_get (packets l (e ∷ es)) k ≡ Some bytes)
    before p = (p.0, p.1, get_left (packets l es) (packets_in l e.outputs) p.0 bytes p.2)

    here : e ≡ w.0 → (k : ℕ) × (s ≡ suc k) × (slice_get (packets l (e ∷ es)) k ≡ Some bytes)
    here same =
        let p = put_there l s bytes (λ z. length (packets z es)) e.outputs (entry_counts t checked n less e es legal) (subst (λ (z : Entry). IsIn (Put l s bytes) z.outputs) (sym same) w.2) in
        (p.0 + length (packets l es), omega (arith, p.1), get_right (packets l es) (packets_in l e.outputs) p.0 ∙ p.2)
