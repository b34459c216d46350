-- A grant is acknowledged by what comes after it was lent.
use Rattle.std.proofs.Common.{◌≡◌, ℕ, suc, ◌≤◌, List, [], ◌∷◌, ◌++◌, map, find, length, Some, None, Bool, true, false, ◌&&◌, ◌||◌, refl, sym, ap, ◌∙◌, subst, bytes_eq, eqb, arith}
use Rattle.std.proofs.lemmas.Bool.{eq-eqb, ne_eqb}
use Rattle.std.proofs.lemmas.List.{length-map}
use Rattle.std.proofs.lemmas.List.Folds.{list_any-append}
use Rattle.std.proofs.lemmas.Option.{same_Some}
use Rattle.std.specs.Option.{option_map}
use Rattle.std.specs.List.{list_any}
use Rattle.card_digits.specs.Numbers.{pad11}
use Rattle.net_rows.specs.Network.{Network}
use Rattle.network_law.specs.declared.grant.GrantPacket.TheVariants as packets
use Rattle.network_law.specs.Cards.{Bytes}
use Rattle.network_law.specs.Tables.{node_id}
use Rattle.network_law.specs.Traces.{ReadInput, Enter, Take, LinkUp, LinkDown, Tick, HostAnswer, NewDate, TakePacket, Lend, In, Out, History, count_of, advices, Lent, lent_acked, grants}
use Rattle.network_law.specs.Plain.{inputs}
use Rattle.network_law.specs.PlainGrants.{acknowledges, AckedByPacket}

abbrev of_number : ℕ → Lent → Bool
of_number k g = eqb g.grant.number k

-- the grant of the number stands among these, and this is what is said of it
record Stands (id : Bytes) (k : ℕ) (gs : List Lent) (acked : Bool) : Type 0 where
  grant : Lent
  found : find (of_number k) gs ≡ Some grant
  lender : grant.grant.lender ≡ id
  number : grant.grant.number ≡ k
  is : grant.acked ≡ acked
  room : k ≤ length gs

found_acked : (lender : Bytes) (number k : ℕ) (gs : List Lent) (g : Lent) → find (of_number k) gs ≡ Some g → find (of_number k) (map (lent_acked lender number) gs) ≡ Some (lent_acked lender number g)
found_acked lender number k [] g e = absurd (no e)
  where
    no : None ≡ Some g → ⊥
    no p = cc
found_acked lender number k (x ∷ xs) g e = go (of_number k x) refl (found_acked lender number k xs g)
  where
    go : (b : Bool) → of_number k x ≡ b → (find (of_number k) xs ≡ Some g → find (of_number k) (map (lent_acked lender number) xs) ≡ Some (lent_acked lender number g)) → find (of_number k) (map (lent_acked lender number) (x ∷ xs)) ≡ Some (lent_acked lender number g)
    go true at rest = rw at (ap (λ z. Some (lent_acked lender number z)) (same_Some x g (rw at at e)))
    go false at rest = rw at (rest (rw at at e))

said_same : (a b : Bool) (x y lender : Bytes) (i j number : ℕ) → a ≡ b → x ≡ y → i ≡ j → (a || (bytes_eq lender x && eqb number i)) ≡ (b || (bytes_eq lender y && eqb number j))
said_same a b x y lender i j number p q r = rw (p, q, r) refl

after_ack : (id : Bytes) (k : ℕ) (gs : List Lent) (b : Bool) (lender : Bytes) (number : ℕ) → Stands id k gs b → Stands id k (map (lent_acked lender number) gs) (b || (bytes_eq lender id && eqb number k))
after_ack id k gs b lender number s = record {
  grant = lent_acked lender number (Stands.grant s);
  found = found_acked lender number k gs (Stands.grant s) (Stands.found s);
  lender = Stands.lender s;
  number = Stands.number s;
  is = (let g = Stands.grant s in said_same g.acked b g.grant.lender id lender g.grant.number k number (Stands.is s) (Stands.lender s) (Stands.number s));
  room = (let n = length-map gs (lent_acked lender number) in let le = Stands.room s in omega (arith, n, le));
}

after_lend : (id : Bytes) (k : ℕ) (gs : List Lent) (b : Bool) (g : Lent) → g.grant.number ≡ suc (length gs) → Stands id k gs b → Stands id k (g ∷ gs) b
after_lend id k gs b g new s =
    let le = Stands.room s in
    let other : eqb g.grant.number k ≡ false = ne_eqb g.grant.number k (λ same. omega (arith, new, same, le)) in
    record { grant = Stands.grant s; found = rw other (Stands.found s); lender = Stands.lender s; number = Stands.number s; is = Stands.is s; room = omega (arith, le) }

abbrev said : Bytes → ℕ → History → Bool
said id k later = list_any (acknowledges id k) (inputs later)

quiet : (b : Bool) → (b || false) ≡ b
quiet true = refl
quiet false = refl

module _ (t : Network) (n : ℕ) (past : History) (m : ℕ) (card date : List ℕ) (amount : ℕ) where
  abbrev At : History → Type 0
  At later = Stands (pad11 (node_id t n)) (suc (length (grants t n past))) (grants t n (later ++ In (Lend m card date amount) ∷ past)) (said (pad11 (node_id t n)) (suc (length (grants t n past))) later)

  -- what is said after one more input
  more : (i : ReadInput) (later : History) → (said (pad11 (node_id t n)) (suc (length (grants t n past))) later || acknowledges (pad11 (node_id t n)) (suc (length (grants t n past))) i) ≡ said (pad11 (node_id t n)) (suc (length (grants t n past))) (In i ∷ later)
  unfolding inputs
  more i later =
      let id = pad11 (node_id t n) in
      let k = suc (length (grants t n past)) in
      sym (list_any-append (acknowledges id k) (inputs later) (i ∷ []) ∙ ap (λ b. list_any (acknowledges id k) (inputs later) || b) (quiet (acknowledges id k i)))

  same : (i : ReadInput) (later : History) → acknowledges (pad11 (node_id t n)) (suc (length (grants t n past))) i ≡ false → At later → Stands (pad11 (node_id t n)) (suc (length (grants t n past))) (grants t n (later ++ In (Lend m card date amount) ∷ past)) (said (pad11 (node_id t n)) (suc (length (grants t n past))) (In i ∷ later))
  same i later none s =
      let id = pad11 (node_id t n) in
      let k = suc (length (grants t n past)) in
      subst (Stands id k (grants t n (later ++ In (Lend m card date amount) ∷ past))) (sym (quiet (said id k later)) ∙ (ap (λ b. said id k later || b) (sym none) ∙ more i later)) s

  stands : (later : History) → At later
  unfolding grants inputs
  stands [] =
      let k = suc (length (grants t n past)) in
      let new : Lent = record { grant = record { lender = pad11 (node_id t n); number = k; borrower = pad11 (node_id t m); card = card; date = date; amount = amount }; borrower = m; count = count_of past; advices = length (advices t n past); acked = false } in
      record { grant = new; found = rw (eq-eqb k k refl) refl; lender = refl; number = refl; is = refl; room = omega arith }
  stands (Out i o ∷ later) = stands later
  stands (In (Enter x) ∷ later) = same (Enter x) later refl (stands later)
  stands (In (Take l s x) ∷ later) = same (Take l s x) later refl (stands later)
  stands (In (LinkUp l) ∷ later) = same (LinkUp l) later refl (stands later)
  stands (In (LinkDown l) ∷ later) = same (LinkDown l) later refl (stands later)
  stands (In Tick ∷ later) = same Tick later refl (stands later)
  stands (In (HostAnswer a c) ∷ later) = same (HostAnswer a c) later refl (stands later)
  stands (In (NewDate d) ∷ later) = same (NewDate d) later refl (stands later)
  stands (In (TakePacket l s (packets.Grant g)) ∷ later) = same (TakePacket l s (packets.Grant g)) later refl (stands later)
  stands (In (TakePacket l s (packets.Ack lender number)) ∷ later) =
      let id = pad11 (node_id t n) in
      let k = suc (length (grants t n past)) in
      let gs = grants t n (later ++ In (Lend m card date amount) ∷ past) in
      subst (Stands id k (map (lent_acked lender number) gs)) (more (TakePacket l s (packets.Ack lender number)) later) (after_ack id k gs (said id k later) lender number (stands later))
  stands (In (Lend b c d a) ∷ later) =
      let id = pad11 (node_id t n) in
      let k = suc (length (grants t n past)) in
      let gs = grants t n (later ++ In (Lend m card date amount) ∷ past) in
      after_lend id k gs (said id k (In (Lend b c d a) ∷ later)) _ refl (same (Lend b c d a) later refl (stands later))

pub acked_by_packet : AckedByPacket
acked_by_packet t n later past m card date amount =
    let s = stands t n past m card date amount later in
    ap (option_map (λ g. g.acked)) (Stands.found s) ∙ ap Some (Stands.is s)
