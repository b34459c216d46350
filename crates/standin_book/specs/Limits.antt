-- Own approvals within limits.
use Rattle.std.specs.Prelude.{◌≤◌, ◌+◌, ℕ, Bool, nat_lt, List, [], ◌∷◌, ◌++◌}
use Rattle.std.specs.List.{list_any}
use Rattle.card_digits.specs.declared.key.Key.{Key}
use Rattle.node_machine.specs.Lists.{Take, used}
use Rattle.node_machine.specs.Books.{Borrowed, Loan}
use Rattle.standin_book.specs.Approvals.{is_of, is_whole, times}
use Rattle.standin_book.specs.Lending.{allowance, is_grant}

-- what was taken, lent and borrowed, the oldest first
pub record Limits : Type 0 where
  pub takes : List Take
  pub loans : List Loan
  pub borrowed : List Borrowed

-- what the limit of the day allows of a card and a date
abbrev pub limit : ℕ → Limits → List ℕ → List ℕ → ℕ
limit day x card date = allowance day x.borrowed x.loans card date

-- less is left than the amount
abbrev pub is_over : (amount day : ℕ) → Limits → List ℕ → List ℕ → Bool
is_over amount day x card date = nat_lt (limit day x card date) (used x.takes card date + amount)

abbrev pub is_taken : Key → List Take → Bool
is_taken k takes = list_any (is_of k) takes

abbrev pub counts_whole : Key → List Take → Bool
counts_whole k takes = list_any (is_whole k) takes

abbrev pub is_borrowed : List ℕ → ℕ → List Borrowed → Bool
is_borrowed lender number borrowed = list_any (is_grant lender number) borrowed

-- no key took twice
abbrev pub TakenOnce : List Take → Type 0
TakenOnce takes = (k : Key) → times k takes ≤ 1

abbrev pub with_takes : List Take → Limits → Limits
with_takes takes x = record { takes = takes; loans = x.loans; borrowed = x.borrowed }

abbrev pub with_take : Take → Limits → Limits
with_take a x = record { takes = x.takes ++ a ∷ []; loans = x.loans; borrowed = x.borrowed }

abbrev pub with_loan : Loan → Limits → Limits
with_loan g x = record { takes = x.takes; loans = x.loans ++ g ∷ []; borrowed = x.borrowed }

abbrev pub with_grant : Borrowed → Limits → Limits
with_grant g x = record { takes = x.takes; loans = x.loans; borrowed = x.borrowed ++ g ∷ [] }
