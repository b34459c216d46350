-- Lent and borrowed amounts, and how they are kept.
use Rattle.std.specs.Prelude.{◌≡◌, ◌≤◌, ◌+◌, ◌-◌, ℕ, Bool, ◌&&◌, ◌==◌, bytes_eq, List}
use Rattle.std.specs.List.{list_any}
use Rattle.network_law.specs.Traces.{added}
use Rattle.node_machine.specs.Books.{Loan, Borrowed}
use Rattle.node_machine.specs.Machine.{borrowed_for, lent_for}
use Rattle.standin_book.specs.Sums.{AreSums}
use Rattle.book_index.specs.declared.card_day.CardDay.{CardDay}
use Rattle.standin_book.specs.declared.lending.GrantNumber.{GrantNumber}

-- what was lent and borrowed, and how much more needs no memory
pub record Lending : Type 0 where
  pub loans : List Loan
  pub borrowed : List Borrowed
  pub room : ℕ

-- what a day's limit allows of a card and a date, with what was borrowed, less what was lent
abbrev pub allowance : (limit : ℕ) → List Borrowed → List Loan → (card date : List ℕ) → ℕ
allowance limit borrowed loans card date = limit + added (borrowed_for card date) borrowed - added (lent_for card date) loans

abbrev pub lent_on : CardDay → Loan → ℕ
lent_on day g = lent_for day.card day.date g

abbrev pub borrowed_on : CardDay → Borrowed → ℕ
borrowed_on day g = borrowed_for day.card day.date g

abbrev pub number_eq : GrantNumber → GrantNumber → Bool
number_eq a b = bytes_eq a.lender b.lender && a.number == b.number

abbrev pub has_number : GrantNumber → Borrowed → Bool
has_number a b = bytes_eq a.lender b.lender && a.number == b.number

abbrev pub is_grant : List ℕ → ℕ → Borrowed → Bool
is_grant lender number g = bytes_eq lender g.lender && number == g.number

pub record HasRoom (room loans loans_capacity borrowed borrowed_capacity lent owed numbers : ℕ) : Type 0 where
  pub in_loans : loans + room ≤ loans_capacity
  pub in_borrowed : borrowed + room ≤ borrowed_capacity
  pub in_lent : room ≤ lent
  pub in_owed : room ≤ owed
  pub in_numbers : room ≤ numbers

pub record IsLending (loans : List Loan) (borrowed : List Borrowed) (lent owed : List (CardDay × ℕ)) (numbers : List GrantNumber) : Type 0 where
  pub lent_sums : AreSums lent_on loans lent
  pub owed_sums : AreSums borrowed_on borrowed owed
  pub numbered : (n : GrantNumber) → list_any (number_eq n) numbers ≡ list_any (has_number n) borrowed
