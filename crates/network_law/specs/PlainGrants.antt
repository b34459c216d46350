-- The terms of lent amounts once more, in plain words.
use Rattle.std.specs.Prelude.{ℕ, suc, ◌≡◌, ◌≤◌, ◌⊎◌, ◌+◌, ◌-◌, ⊤, true, false, length, take, List, [], ◌∷◌, ◌++◌, map, filter, reverse, sum, Bool, ◌&&◌, ◌==◌, bytes_eq, find, Some}
use Rattle.std.specs.List.{list_any}
use Rattle.std.specs.Option.{option_map}
use Rattle.card_digits.specs.Numbers.{pad11}
use Rattle.message_keys.specs.Keys.{identity_of}
use Rattle.message_keys.specs.declared.keys.AdviceId.{AdviceId}
use Rattle.net_rows.specs.Network.{Network}
use Rattle.network_law.specs.Tables.{node_id}
use Rattle.network_law.specs.Cards.{Bytes}
use Rattle.network_law.specs.declared.grant.Grant.{Grant}
use Rattle.network_law.specs.declared.grant.GrantPacket.{GrantPacket}
use Rattle.network_law.specs.declared.grant.GrantPacket.TheVariants as packets
use Rattle.network_law.specs.Grants.{IsPacket, packet_bytes, read_packet}
use Rattle.network_law.specs.Traces.{ReadInput, TakePacket, Lend, In, Out, History, count_of, Advice, advices, stored, Lent, grants, stored_grants, has_number, taken, amount_for, borrowed, lent}
use Rattle.network_law.specs.Plain.{inputs}
use Rattle.network_law.specs.Decision.{Due, DueAdvice, DueGrant, due, is_due_again}

-- bytes

-- what is read as a packet is what it is written as, and nothing else
abbrev pub PacketsAreExact : Type 0
PacketsAreExact = (bytes : Bytes) (p : GrantPacket) → read_packet bytes ≡ Some p → packet_bytes p ≡ bytes

-- and a packet whose fields are right is read as what it was written as
abbrev pub PacketsAreRead : Type 0
PacketsAreRead = (p : GrantPacket) → IsPacket p → read_packet (packet_bytes p) ≡ Some p

-- lending

pub record Lending : Type 0 where
  pub borrower : ℕ
  pub card : List ℕ
  pub date : List ℕ
  pub amount : ℕ

abbrev pub lending_in : ReadInput → List Lending
lending_in (Lend m card date amount) = record { borrower = m; card = card; date = date; amount = amount } ∷ []
lending_in _ = []

-- what the node was to lend, the oldest first
unfoldable pub lends : History → List Lending
lends [] = []
lends (In i ∷ h) = lends h ++ lending_in i
lends (Out i o ∷ h) = lends h

-- as grants of this node, numbered from k + 1
abbrev pub numbered : Network → ℕ → ℕ → List Lending → List Grant
numbered t n k [] = []
numbered t n k (x ∷ xs) = record { lender = pad11 (node_id t n); number = suc k; borrower = pad11 (node_id t x.borrower); card = x.card; date = x.date; amount = x.amount } ∷ numbered t n (suc k) xs

-- the grants of a node are what it was to lend, in order and numbered from 1
abbrev pub GrantsAreLends : Type 0
GrantsAreLends = (t : Network) (n : ℕ) (h : History) → map (λ g. g.grant) (reverse (grants t n h)) ≡ numbered t n 0 (lends h)

-- taking

abbrev pub grant_in : ReadInput → List Grant
grant_in (TakePacket l s (packets.Grant g)) = g ∷ []
grant_in _ = []

-- the grants that came, the oldest first
unfoldable pub takes : History → List Grant
takes [] = []
takes (In i ∷ h) = takes h ++ grant_in i
takes (Out i o ∷ h) = takes h

-- of each lender's number the first grant that came is taken
abbrev pub TakenByFirst : Type 0
TakenByFirst = (h : History) (g : Grant) → find (has_number g) (reverse (taken h)) ≡ find (has_number g) (takes h)

-- and no number of a lender is taken twice
abbrev pub TakenOnce : Type 0
TakenOnce = (h : History) (g : Grant) → length (filter (has_number g) (taken h)) ≤ 1

-- so a grant whose number came before adds nothing
abbrev pub RepeatsAddNothing : Type 0
RepeatsAddNothing = (h : History) (l s : ℕ) (g : Grant) (card date : List ℕ) → list_any (has_number g) (takes h) ≡ true → borrowed (In (TakePacket l s (packets.Grant g)) ∷ h) card date ≡ borrowed h card date

-- and one whose number didn't come before adds its amount, to its card and date alone
abbrev pub NewAdds : Type 0
NewAdds = (h : History) (l s : ℕ) (g : Grant) (card date : List ℕ) → list_any (has_number g) (takes h) ≡ false → borrowed (In (TakePacket l s (packets.Grant g)) ∷ h) card date ≡ amount_for card date g + borrowed h card date

-- sums

abbrev pub BorrowedIsSum : Type 0
BorrowedIsSum = (h : History) (card date : List ℕ) → borrowed h card date ≡ sum (map (λ g. g.amount) (filter (λ g. bytes_eq g.card card && bytes_eq g.date date) (taken h)))

abbrev pub LentIsSum : Type 0
LentIsSum = (t : Network) (n : ℕ) (h : History) (card date : List ℕ) → lent t n h card date ≡ sum (map (λ g. g.grant.amount) (filter (λ g. bytes_eq g.grant.card card && bytes_eq g.grant.date date) (grants t n h)))

-- acknowledging

-- the input acknowledges this number of this lender
abbrev pub acknowledges : Bytes → ℕ → ReadInput → Bool
acknowledges lender number (TakePacket l s (packets.Ack id k)) = bytes_eq id lender && k == number
acknowledges lender number _ = false

-- a grant is acknowledged where its acknowledgement came after it was lent, and stored until then
abbrev pub AckedByPacket : Type 0
AckedByPacket = (t : Network) (n : ℕ) (later past : History) (m : ℕ) (card date : List ℕ) (amount : ℕ)
    → option_map (λ g. g.acked) (find (λ g. g.grant.number == suc (length (grants t n past))) (grants t n (later ++ In (Lend m card date amount) ∷ past)))
    ≡ Some (list_any (acknowledges (pad11 (node_id t n)) (suc (length (grants t n past)))) (inputs later))

-- what is due

abbrev pub grants_of : List Due → List Lent
grants_of [] = []
grants_of (DueAdvice a ∷ xs) = grants_of xs
grants_of (DueGrant g ∷ xs) = g ∷ grants_of xs

abbrev pub advices_of : List Due → List Advice
advices_of [] = []
advices_of (DueAdvice a ∷ xs) = a ∷ advices_of xs
advices_of (DueGrant g ∷ xs) = advices_of xs

-- the grants that are due are those of the stored ones, in their order, and none is left out; and so the advices
abbrev pub StoredGrantsAreDue : Type 0
StoredGrantsAreDue = (t : Network) (n : ℕ) (h : History) → grants_of (due t n h) ≡ filter (λ g. is_due_again t.settings.advice_ticks (suc (count_of h)) g.count) (reverse (stored_grants t n h))

abbrev pub StoredAdvicesAreDue : Type 0
StoredAdvicesAreDue = (t : Network) (n : ℕ) (h : History) → advices_of (due t n h) ≡ filter (λ a. is_due_again t.settings.advice_ticks (suc (count_of h)) a.count) (stored t n h)

-- the order of what is due

-- an advice by its identity, a grant by its number
pub data StoredName : Type 0 where
  AdviceOf : (id : AdviceId) → StoredName
  GrantOf : (number : ℕ) → StoredName

abbrev pub advice_name : Advice → StoredName
advice_name a = AdviceOf (identity_of a.message)

abbrev pub grant_name : Lent → StoredName
grant_name g = GrantOf g.grant.number

abbrev pub name_of : Due → StoredName
name_of (DueAdvice a) = advice_name a
name_of (DueGrant g) = grant_name g

-- what an event put in front of a list, the newest first
abbrev pub newer : {X : Type 0} → List X → List X → List X
newer all old = take (length all - length old) all

-- all advices and grants that were made or accepted, in the order of time
unfoldable pub storings : Network → ℕ → History → List StoredName
unfolding advices grants identity_of
storings t n [] = []
storings t n (e ∷ h) = storings t n h ++ (map advice_name (reverse (newer (advices t n (e ∷ h)) (advices t n h))) ++ map grant_name (reverse (newer (grants t n (e ∷ h)) (grants t n h))))

-- the first list is a part of the second, in its order
abbrev pub IsInOrderOf : {X : Type 0} → List X → List X → Type 0
IsInOrderOf [] ys = ⊤
IsInOrderOf (x ∷ xs) [] = ⊥
IsInOrderOf (x ∷ xs) (y ∷ ys) = ((x ≡ y) × IsInOrderOf xs ys) ⊎ IsInOrderOf (x ∷ xs) ys

-- what is due, grants and advices together, stands in the order in which it was stored
abbrev pub DueInStoredOrder : Type 0
DueInStoredOrder = (t : Network) (n : ℕ) (h : History) → IsInOrderOf (map name_of (due t n h)) (storings t n h)
