-- Advices and grants in the order of their storing.
use Rattle.std.specs.Prelude.{◌≡◌, ◌<◌, ℕ, Bool, false, ◌==◌, ◌&&◌, ◌||◌, bytes_eq, List, [], ◌∷◌, find, unwrap_or, Option, Some, None, ⊤}
use Rattle.std.specs.List.{list_any}
use Rattle.message_keys.specs.Keys.{identity_of, identity_eq}
use Rattle.message_keys.specs.declared.keys.AdviceId.{AdviceId}
use Rattle.network_law.specs.Cards.{Bytes}
use Rattle.network_law.specs.Decision.{is_due_again}
use Rattle.network_law.specs.declared.grant.Grant.{Grant}
use Rattle.node_machine.specs.Books.{Stored, Advised, Granted}
use Rattle.advice_slots.specs.declared.item.Advice.{Advice}
use Rattle.advice_slots.specs.declared.item.Held.{Held}
use Rattle.advice_slots.specs.declared.item.Item.{Item}
use Rattle.advice_slots.specs.declared.item.Item.TheVariants as items
use Rattle.advice_slots.specs.declared.item.ItemName.{ItemName}
use Rattle.advice_slots.specs.declared.item.ItemName.TheVariants as names
use Rattle.advice_slots.specs.declared.kept.StoredCase.{StoredCase}
use Rattle.advice_slots.specs.declared.kept.StoredCase.TheVariants as cases

abbrev pub name_eq : ItemName → ItemName → Bool
name_eq (names.Advice a) (names.Advice b) = identity_eq a b
name_eq (names.Grant a) (names.Grant b) = a == b
name_eq (names.Advice a) (names.Grant b) = false
name_eq (names.Grant a) (names.Advice b) = false

abbrev pub name_in : Item → ItemName
name_in (items.Advice a) = names.Advice a.id
name_in (items.Grant g) = names.Grant g.grant.number

abbrev pub advice_in : Item → Option Advice
advice_in (items.Advice a) = Some a
advice_in (items.Grant g) = None

abbrev pub grant_in : Item → Option Grant
grant_in (items.Advice a) = None
grant_in (items.Grant g) = Some g.grant

-- the advice of this identity was put
abbrev pub put_by : AdviceId → Item → Item
put_by id (items.Advice a) = items.Advice (record { id = a.id; message = a.message; put = a.put || identity_eq id a.id })
put_by id (items.Grant g) = items.Grant g

abbrev pub was_put_in : AdviceId → Item → Bool
was_put_in id (items.Advice a) = identity_eq a.id id && a.put
was_put_in id (items.Grant g) = false

abbrev pub is_lent_in : Bytes → ℕ → Item → Bool
is_lent_in lender number (items.Advice a) = false
is_lent_in lender number (items.Grant g) = bytes_eq lender g.grant.lender && number == g.grant.number

abbrev pub name_of : Held → ItemName
name_of x = name_in x.item

abbrev pub is_named : ItemName → Held → Bool
is_named n x = name_eq (name_of x) n

abbrev pub marked_by : AdviceId → Held → Held
marked_by id x = record { item = put_by id x.item; count = x.count }

-- the advice of this identity, which was put
abbrev pub was_put : AdviceId → Held → Bool
was_put id x = was_put_in id x.item

-- the grant of this lender and number
abbrev pub is_lent : Bytes → ℕ → Held → Bool
is_lent lender number x = is_lent_in lender number x.item

-- where items are due again after so many ticks
abbrev pub is_due : ℕ → ℕ → Held → Bool
is_due ticks now x = is_due_again ticks now x.count

-- the oldest item of a name
abbrev pub item_of : List Held → ItemName → Option Held
item_of xs n = find (is_named n) xs

abbrev pub is_held : List Held → ItemName → Bool
is_held xs n = list_any (is_named n) xs

-- all items were stored before this count of ticks
abbrev pub AreBefore : ℕ → List Held → Type 0
AreBefore now [] = ⊤
AreBefore now (x ∷ xs) = (x.count < now) × AreBefore now xs

-- the items, after how many ticks they are due again, the number of ticks, what the last tick looked at, and for how many items there is
-- memory
pub record SlotsView : Type 0 where
  pub items : List Held
  pub ticks : ℕ
  pub count : ℕ
  pub visits : ℕ
  pub room : ℕ

-- which of the two a node sends again
abbrev pub case_of : StoredCase → Stored
case_of (cases.Advice a) = Advised a
case_of (cases.Grant g) = Granted g

-- an item as a node's books have it; a grant whose borrower wasn't told goes to node 0
abbrev pub stored_in : Item → ℕ → Stored
stored_in (items.Advice a) n = Advised (record { message = a.message; count = n; put = a.put })
stored_in (items.Grant g) n = Granted (record { grant = g.grant; borrower = unwrap_or g.borrower 0; count = n })

abbrev pub stored_of : Held → Stored
stored_of x = stored_in x.item x.count

-- an advice is known by the identity that its message has
abbrev pub HasOwnId : Item → Type 0
HasOwnId (items.Advice a) = a.id ≡ identity_of a.message
HasOwnId (items.Grant g) = ⊤

abbrev pub HaveOwnIds : List Held → Type 0
HaveOwnIds [] = ⊤
HaveOwnIds (x ∷ xs) = HasOwnId x.item × HaveOwnIds xs
