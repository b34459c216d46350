-- What an input does to what a node lent and borrowed.
use Rattle.std.proofs.Common.{◌≡◌, ℕ, ◌+◌, ◌-◌, ◌≤◌, ◌<◌, List, [], ◌∷◌, map, length, None, Bool, true, false, not, ◌&&◌, ◌||◌, refl, ap, subst, inl, inr, ⊎_elim, ◌⊎◌, arith, bytes_eq, eqb, nat_lt}
use Rattle.std.proofs.lemmas.Bool.{and_parts, or_parts, eqb-false, ltb-false, cond_both, not-false}
use Rattle.std.specs.List.{list_any}
use Rattle.card_digits.specs.Numbers.{pad11}
use Rattle.net_rows.specs.Network.{Network, issuer, day}
use Rattle.network_law.specs.declared.fault.StepFault.TheVariants.{NotLent}
use Rattle.network_law.specs.Cards.{Bytes}
use Rattle.network_law.specs.Tables.{node_id, is_named, links_between}
use Rattle.network_law.specs.declared.grant.Grant.{Grant}
use Rattle.network_law.specs.declared.grant.GrantPacket.TheVariants as packets
use Rattle.network_law.specs.Traces.{ReadInput, Enter, Take, LinkUp, LinkDown, Tick, HostAnswer, NewDate, TakePacket, Lend, In, History, IsIn, Lent, lent_acked, grants, has_number, taken, added, amount_for, borrowed, lent, allowance, used}
use Rattle.network_law.specs.Refusals.{refusal, when, may_not_lend, may_not_borrow}
use Rattle.network_law.proofs.Refused.{or_none, when_none}
use Rattle.message_keys.proofs.Equality.{bytes_eq_is}

-- a grant counts for a card and date, or doesn't
pub amount_cases : (card date : List ℕ) (g : Grant) → (amount_for card date g ≡ 0) ⊎ ((g.card ≡ card) × (g.date ≡ date) × (amount_for card date g ≡ g.amount))
amount_cases card date g = go (bytes_eq g.card card && bytes_eq g.date date) refl
  where
    go : (b : Bool) → (bytes_eq g.card card && bytes_eq g.date date) ≡ b → (amount_for card date g ≡ 0) ⊎ ((g.card ≡ card) × (g.date ≡ date) × (amount_for card date g ≡ g.amount))
    go true at = let p = and_parts (bytes_eq g.card card) (bytes_eq g.date date) at in inr (bytes_eq_is g.card card p.0, bytes_eq_is g.date date p.1, rw at refl)
    go false at = inl (rw at refl)

-- what a Lend that isn't refused has
pub record MayLend (t : Network) (n : ℕ) (h : History) (m : ℕ) (card date : List ℕ) (amount : ℕ) : Type 0 where
  pub named : is_named (issuer t card) m ≡ true
  pub room : amount + used t n h card date + lent t n h card date ≤ day t n card + borrowed h card date

pub may_lend : (t : Network) (n : ℕ) (h : History) (m : ℕ) (card date : List ℕ) (amount : ℕ) → refusal t n h (Lend m card date amount) ≡ None → MayLend t n h m card date amount
unfolding refusal
may_lend t n h m card date amount e =
    let p = or_none (when (may_not_lend t n h m card date amount) NotLent) _ e in
    let f = when_none (may_not_lend t n h m card date amount) NotLent p.0 in
    let q = or_parts (eqb (length (links_between t n m)) 0 || eqb amount 0 || not (is_named (issuer t card) m)) (nat_lt (allowance t n h card date - used t n h card date) amount) f in
    let r = or_parts (eqb (length (links_between t n m)) 0 || eqb amount 0) (not (is_named (issuer t card) m)) q.0 in
    let z = or_parts (eqb (length (links_between t n m)) 0) (eqb amount 0) r.0 in
    let some = eqb-false amount 0 z.1 in
    let le : amount ≤ allowance t n h card date - used t n h card date = ltb-false (allowance t n h card date - used t n h card date) amount q.1 in
    record { named = not-false _ r.1; room = omega (arith, some, le) }

-- and a taken grant
pub may_borrow : (t : Network) (n : ℕ) (h : History) (l s : ℕ) (g : Grant) → refusal t n h (TakePacket l s (packets.Grant g)) ≡ None → (is_named (issuer t g.card) n ≡ true) × (g.borrower ≡ pad11 (node_id t n))
unfolding refusal
may_borrow t n h l s g e =
    let f = when_none (may_not_borrow t n g) NotLent e in
    let p = or_parts (not (bytes_eq g.borrower (pad11 (node_id t n)))) (not (is_named (issuer t g.card) n)) f in
    (not-false _ p.1, bytes_eq_is g.borrower (pad11 (node_id t n)) (not-false _ p.0))

-- lent

acked_same : (w : Grant → ℕ) (lender : Bytes) (number : ℕ) (gs : List Lent) → added (λ (g : Lent). w g.grant) (map (lent_acked lender number) gs) ≡ added (λ (g : Lent). w g.grant) gs
acked_same w lender number [] = refl
acked_same w lender number (g ∷ gs) = ap (λ z. w g.grant + z) (acked_same w lender number gs)

abbrev pub LentMore : Network → ℕ → History → ReadInput → List ℕ → List ℕ → Type 0
LentMore t n h i card date = ((m : ℕ) × (is_named (issuer t card) m ≡ true)) × (used t n h card date + lent t n (In i ∷ h) card date ≤ day t n card + borrowed h card date)

pub lent_in : (t : Network) (n : ℕ) (h : History) (i : ReadInput) → refusal t n h i ≡ None → (card date : List ℕ) → (lent t n (In i ∷ h) card date ≡ lent t n h card date) ⊎ LentMore t n h i card date
unfolding lent grants
lent_in t n h (Enter m) ok card date = inl refl
lent_in t n h (Take l s m) ok card date = inl refl
lent_in t n h (LinkUp l) ok card date = inl refl
lent_in t n h (LinkDown l) ok card date = inl refl
lent_in t n h Tick ok card date = inl refl
lent_in t n h (HostAnswer a c) ok card date = inl refl
lent_in t n h (NewDate d) ok card date = inl refl
lent_in t n h (TakePacket l s (packets.Grant g)) ok card date = inl refl
lent_in t n h (TakePacket l s (packets.Ack lender number)) ok card date = inl (acked_same (amount_for card date) lender number (grants t n h))
lent_in t n h (Lend m c d a) ok card date = ⊎_elim (λ z. inl (none z)) more (amount_cases card date new)
  where
    new : Grant
    new = record { lender = pad11 (node_id t n); number = 0; borrower = pad11 (node_id t m); card = c; date = d; amount = a }

    older : ℕ
    older = added (λ (g : Lent). amount_for card date g.grant) (grants t n h)

    none : amount_for card date new ≡ 0 → amount_for card date new + older ≡ older
    none z = omega (arith, z)

    more : (c ≡ card) × (d ≡ date) × (amount_for card date new ≡ a) → (lent t n (In (Lend m c d a) ∷ h) card date ≡ lent t n h card date) ⊎ (((k : ℕ) × (is_named (issuer t card) k ≡ true)) × (used t n h card date + lent t n (In (Lend m c d a) ∷ h) card date ≤ day t n card + borrowed h card date))
    more e =
        let f = may_lend t n h m c d a ok in
        let room : a + used t n h card date + older ≤ day t n card + borrowed h card date =
        subst (λ x. a + used t n h x date + lent t n h x date ≤ day t n x + borrowed h x date) e.0 (subst (λ y. a + used t n h c y + lent t n h c y ≤ day t n c + borrowed h c y) e.1 f.room)
        in
        let is = e.2 in
        let all : used t n h card date + (amount_for card date new + older) ≤ day t n card + borrowed h card date = omega (arith, room, is) in
        inr ((m, subst (λ x. is_named (issuer t x) m ≡ true) e.0 f.named), all)

-- borrowed

pub borrowed_in : (h : History) (i : ReadInput) (card date : List ℕ) → borrowed h card date ≤ borrowed (In i ∷ h) card date
unfolding borrowed taken
borrowed_in h (Enter m) card date = omega arith
borrowed_in h (Take l s m) card date = omega arith
borrowed_in h (LinkUp l) card date = omega arith
borrowed_in h (LinkDown l) card date = omega arith
borrowed_in h Tick card date = omega arith
borrowed_in h (HostAnswer a c) card date = omega arith
borrowed_in h (NewDate d) card date = omega arith
borrowed_in h (TakePacket l s (packets.Grant g)) card date = cond_both (list_any (has_number g) (taken h)) (taken h) (g ∷ taken h) (λ z. added (amount_for card date) (taken h) ≤ added (amount_for card date) z) (λ _. omega arith) (λ _. omega arith)
borrowed_in h (TakePacket l s (packets.Ack lender number)) card date = omega arith
borrowed_in h (Lend m c d a) card date = omega arith

-- what a node borrows is for it, of cards whose issuer names it
abbrev pub BorrowsNamed : Network → ℕ → List Grant → Type 0
BorrowsNamed t n gs = (g : Grant) → IsIn g gs → (is_named (issuer t g.card) n ≡ true) × (g.borrower ≡ pad11 (node_id t n))

pub borrows_in : (t : Network) (n : ℕ) (h : History) (i : ReadInput) → refusal t n h i ≡ None → BorrowsNamed t n (taken h) → BorrowsNamed t n (taken (In i ∷ h))
unfolding taken
borrows_in t n h (Enter m) ok q = q
borrows_in t n h (Take l s m) ok q = q
borrows_in t n h (LinkUp l) ok q = q
borrows_in t n h (LinkDown l) ok q = q
borrows_in t n h Tick ok q = q
borrows_in t n h (HostAnswer a c) ok q = q
borrows_in t n h (NewDate d) ok q = q
borrows_in t n h (TakePacket l s (packets.Ack lender number)) ok q = q
borrows_in t n h (Lend m c d a) ok q = q
borrows_in t n h (TakePacket l s (packets.Grant g)) ok q = cond_both (list_any (has_number g) (taken h)) (taken h) (g ∷ taken h) (λ z. (x : Grant) → IsIn x z → (is_named (issuer t x.card) n ≡ true) × (x.borrower ≡ pad11 (node_id t n)))
    (λ _. q)
    (λ _ x m. ⊎_elim (λ e. subst (λ (y : Grant). (is_named (issuer t y.card) n ≡ true) × (y.borrower ≡ pad11 (node_id t n))) e (may_borrow t n h l s g ok)) (λ old. q x old) m)

-- where something is borrowed for a card and date, there is a grant of it
pub borrowed_some : (card date : List ℕ) (gs : List Grant) → 0 < added (amount_for card date) gs → (g : Grant) × IsIn g gs × (g.card ≡ card)
borrowed_some card date [] some = absurd (omega (arith, some))
borrowed_some card date (g ∷ gs) some = ⊎_elim (λ z. (let r = borrowed_some card date gs (omega (arith, some, z)) in (r.0, inr r.1, r.2))) (λ e. (g, inl refl, e.0)) (amount_cases card date g)
