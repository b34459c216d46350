-- Lists of slots that are linked by numbers: each slot tells the one before it and the one after it in its list, and each head the first one and the last one.
use Rattle.std.specs.Prelude.{◌≡◌, ◌≢◌, ◌⊎◌, ◌==◌, ℕ, zero, suc, ◌-◌, ◌<◌, ◌≤◌, max, List, [], ◌∷◌, ◌++◌, length, map, if◌then◌else◌, nat_eq, slice_index_or, slice_set, replicate, drop, Option, Some, None}
use Rattle.std.specs.List.{range_with_len}
use Rattle.chain_links.specs.declared.rows.Slot.{Slot}
use Rattle.chain_links.specs.declared.rows.Head.{Head}

-- P holds of each
abbrev pub Each : (ℕ → Type 0) → List ℕ → Type 0
Each P [] = Unit {0}
Each P (x ∷ xs) = P x × Each P xs

abbrev pub Among : ℕ → List ℕ → Type 0
Among x [] = ⊥
Among x (y ∷ ys) = (x ≡ y) ⊎ Among x ys

abbrev pub Distinct : List ℕ → Type 0
Distinct [] = Unit {0}
Distinct (x ∷ xs) = Each (λ y. x ≢ y) xs × Distinct xs

-- the list without this slot
abbrev pub without : ℕ → List ℕ → List ℕ
without x [] = []
without x (y ∷ ys) = if nat_eq x y then without x ys else y ∷ without x ys

-- what lists of slots are seen as: how many slots there are, and each head's list
pub record LinksView : Type 0 where
  pub slots : ℕ
  pub lists : List (List ℕ)

abbrev pub list_at : LinksView → ℕ → List ℕ
list_at v head = slice_index_or v.lists head []

-- the slot is a member of some list
abbrev pub IsMember : LinksView → ℕ → Type 0
IsMember v slot = (head : ℕ) × Among slot (list_at v head)

-- neither slots nor heads
abbrev pub no_lists : LinksView
no_lists = record { slots = 0; lists = [] }

-- with so many slots at least. Those that are added are in no list
abbrev pub with_slots : LinksView → ℕ → LinksView
with_slots v slots = record v { slots = max v.slots slots }

-- with so many heads at least. The lists of those that are added have no slots
abbrev pub with_heads : LinksView → ℕ → LinksView
with_heads v heads = record v { lists = v.lists ++ replicate (heads - length v.lists) [] }

-- with the slot at the end of one list
abbrev pub pushed : LinksView → ℕ → ℕ → LinksView
pushed v head slot = record v { lists = slice_set v.lists head (list_at v head ++ slot ∷ []) }

-- with the first slot of one list taken out
abbrev pub popped : LinksView → ℕ → LinksView
popped v head = record v { lists = slice_set v.lists head (drop 1 (list_at v head)) }

-- with no slot in one list
abbrev pub cleared : LinksView → ℕ → LinksView
cleared v head = record v { lists = slice_set v.lists head [] }

-- no slot stands in two lists, nor twice in one
pub record AreApart (v : LinksView) : Type 0 where
  pub once : (head : ℕ) → Distinct (list_at v head)
  pub one_list : (slot head other : ℕ) → Among slot (list_at v head) → Among slot (list_at v other) → head ≡ other

-- with the slot in no list
abbrev pub unlinked : LinksView → ℕ → LinksView
unlinked v slot = record v { lists = map (without slot) v.lists }

-- the number that says that there is no slot, or no head
abbrev pub none : ℕ
none = 4294967295

-- the slot of a number, if there is one
abbrev pub slot_if : ℕ → Option ℕ
slot_if slot = if slot == none then None else Some slot

-- a slot in no list
abbrev pub loose : Slot
loose = record { prev = none; next = none; home = none }

-- a head whose list has no slots
abbrev pub bare : Head
bare = record { first = none; last = none; count = 0 }

abbrev pub slot_at : List Slot → ℕ → Slot
slot_at slots slot = slice_index_or slots slot loose

abbrev pub head_at : List Head → ℕ → Head
head_at heads head = slice_index_or heads head bare

-- the head whose list the slot is in
abbrev pub home_of : List Slot → ℕ → ℕ
home_of slots slot = (slot_at slots slot).home

abbrev pub count_of : List Head → ℕ → ℕ
count_of heads head = (head_at heads head).count

-- what stands before a slot in the list of a head. Before none, the end, stands the last slot
abbrev pub before : List Slot → List Head → ℕ → ℕ → ℕ
before slots heads head slot = if slot == none then (head_at heads head).last else (slot_at slots slot).prev

-- what stands after a slot in the list of a head. After none, the front, stands the first slot
abbrev pub after : List Slot → List Head → ℕ → ℕ → ℕ
after slots heads head slot = if slot == none then (head_at heads head).first else (slot_at slots slot).next

-- the slots, with another one after this one
abbrev pub with_next : List Slot → ℕ → ℕ → List Slot
with_next slots slot next = if slot == none then slots else slice_set slots slot (record (slot_at slots slot) { next = next })

-- the slots, with another one before this one
abbrev pub with_prev : List Slot → ℕ → ℕ → List Slot
with_prev slots slot prev = if slot == none then slots else slice_set slots slot (record (slot_at slots slot) { prev = prev })

-- the heads, with another slot after the front of a list
abbrev pub with_first : List Head → ℕ → ℕ → ℕ → List Head
with_first heads head slot first = if slot == none then slice_set heads head (record (head_at heads head) { first = first }) else heads

-- the heads, with another slot before the end of a list
abbrev pub with_last : List Head → ℕ → ℕ → ℕ → List Head
with_last heads head slot last = if slot == none then slice_set heads head (record (head_at heads head) { last = last }) else heads

-- a, the slots and b follow each other, forwards and backwards
abbrev pub Chain : (ℕ → ℕ) → (ℕ → ℕ) → ℕ → List ℕ → ℕ → Type 0
Chain prev next a [] b = (next a ≡ b) × (prev b ≡ a)
Chain prev next a (x ∷ xs) b = (next a ≡ x) × (prev x ≡ a) × Chain prev next x xs b

-- so many slots after a
abbrev pub walk : (ℕ → ℕ) → ℕ → ℕ → List ℕ
walk next a zero = []
walk next a (suc k) = next a ∷ walk next (next a) k

-- the slots of one head's list: they follow each other from the front to the end, and are those that have this head as their home
pub record IsList (prev next home : ℕ → ℕ) (n h : ℕ) (xs : List ℕ) : Type 0 where
  pub chain : Chain prev next none xs none
  pub homes : Each (λ x. home x ≡ h) xs
  pub small : Each (λ x. x < n) xs
  pub apart : Distinct xs
  pub whole : (x : ℕ) → x < n → home x ≡ h → Among x xs

-- the list of a head: so many slots from its front on
abbrev pub list_of : List Slot → List Head → ℕ → List ℕ
list_of slots heads head = walk (after slots heads head) none (count_of heads head)

abbrev pub lists_of : List Slot → List Head → List (List ℕ)
lists_of slots heads = map (list_of slots heads) (range_with_len 0 (length heads))

-- the neighbors and the homes of n slots in the lists of m heads
pub record AreLinked (prev next : ℕ → ℕ → ℕ) (home count : ℕ → ℕ) (n m : ℕ) : Type 0 where
  pub members : (x : ℕ) → (home x ≡ none) ⊎ (home x < m)
  pub lists : (h : ℕ) → h < m → IsList (prev h) (next h) home n h (walk (next h) none (count h))

-- each head has its list, and all numbers are below none
pub record AreRows (slots : List Slot) (heads : List Head) : Type 0 where
  pub linked : AreLinked (before slots heads) (after slots heads) (home_of slots) (count_of heads) (length slots) (length heads)
  pub few_slots : length slots ≤ none
  pub few_heads : length heads ≤ none

-- so many slots are taken out of one list
pub record IsCleared (old now : LinksView) (head taken : ℕ) : Type 0 where
  pub lists : now ≡ record old { lists = slice_set old.lists head (drop taken (list_at old head)) }
  pub within : taken ≤ length (list_at old head)
