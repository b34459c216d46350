-- What a node's books see of the store.
use Rattle.std.specs.Prelude.{◌≡◌, ℕ, List, [], ◌∷◌, Bool, true, false, bytes_eq, ⊤, if◌then◌else◌}
use Rattle.message_keys.specs.declared.keys.AdviceId.{AdviceId}
use Rattle.network_law.specs.Cards.{Bytes}
use Rattle.node_machine.specs.Books.{Stored}
use Rattle.advice_slots.specs.Items.{HasOwnId}
use Rattle.advice_slots.specs.declared.item.Held.{Held}
use Rattle.advice_slots.specs.declared.item.Item.{Item}
use Rattle.advice_slots.specs.declared.item.Item.TheVariants as items
use Rattle.advice_store.specs.declared.lenders.Lenders.{Lenders}
use Rattle.advice_store.specs.declared.lenders.Lenders.TheVariants as lenders

-- the items in the order of storing, the identities that are known, and for how many calls there is memory; after how many ticks an item
-- is due again, the number of ticks, and what the last tick looked at
pub record NodeStore : Type 0 where
  pub store : List Stored
  pub known : List AdviceId
  pub room : ℕ
  pub ticks : ℕ
  pub count : ℕ
  pub visits : ℕ

-- a grant of this lender may be stored
abbrev pub may_lend : Lenders → Bytes → Bool
may_lend lenders.None lender = false
may_lend (lenders.One own) lender = bytes_eq own lender
may_lend lenders.Several lender = true

abbrev pub lenders_with : Bytes → Lenders → Lenders
lenders_with lender lenders.None = lenders.One lender
lenders_with lender (lenders.One own) = if bytes_eq own lender then lenders.One own else lenders.Several
lenders_with lender lenders.Several = lenders.Several

abbrev pub IsLentBy : Lenders → Item → Type 0
IsLentBy l (items.Advice a) = ⊤
IsLentBy l (items.Grant g) = may_lend l g.grant.lender ≡ true

-- each advice has the identity of its message, and each grant one of these lenders
abbrev pub AreOwn : Lenders → List Held → Type 0
AreOwn l [] = ⊤
AreOwn l (x ∷ xs) = (HasOwnId x.item × IsLentBy l x.item) × AreOwn l xs
