-- Grants that were taken.
use Rattle.std.proofs.Common.{◌≡◌, ℕ, true, cond, List, [], ◌∷◌, ◌++◌, refl, sym, ◌∙◌, eqb, inl, inr}
use Rattle.std.specs.List.{list_any}
use Rattle.std.proofs.lemmas.Bool.{cases_Bool, eqb-true}
use Rattle.node_machine.specs.Books.{Borrowed}
use Rattle.book_index.proofs.Texts.{text_flip, any_push}
use Rattle.standin_book.specs.Lending.{number_eq, has_number}
use Rattle.standin_book.specs.declared.lending.GrantNumber.{GrantNumber}

number_flip : (a b : ℕ) → eqb a b ≡ eqb b a
number_flip a b = elim (cases_Bool (eqb a b)) [
  | inl t ↦ (let e : a ≡ b = eqb-true a b t in rw e refl)
  | inr f ↦ elim (cases_Bool (eqb b a)) [
    | inl t ↦ (let e : b ≡ a = eqb-true b a t in rw e refl)
    | inr g ↦ f ∙ sym g
  ]
]

pub numbered_more : (numbers new : List GrantNumber) (key : GrantNumber) (borrowed : List Borrowed) (g : Borrowed) → key.lender ≡ g.lender → key.number ≡ g.number → ((q : GrantNumber) → list_any (number_eq q) new ≡ cond (number_eq key q) true (list_any (number_eq q) numbers)) → ((n : GrantNumber) → list_any (number_eq n) numbers ≡ list_any (has_number n) borrowed) → (n : GrantNumber) → list_any (number_eq n) new ≡ list_any (has_number n) (borrowed ++ g ∷ [])
numbered_more numbers new key borrowed g lender number more numbered n =
    let e : number_eq key n ≡ has_number n g = rw (lender, number, text_flip g.lender n.lender, number_flip g.number n.number) refl in
    more n ∙ (rw (e, numbered n) refl ∙ sym (any_push (has_number n) borrowed g))

pub numbered_again : (numbers new : List GrantNumber) (borrowed : List Borrowed) → ((q : GrantNumber) → list_any (number_eq q) new ≡ list_any (number_eq q) numbers) → ((n : GrantNumber) → list_any (number_eq n) numbers ≡ list_any (has_number n) borrowed) → (n : GrantNumber) → list_any (number_eq n) new ≡ list_any (has_number n) borrowed
numbered_again numbers new borrowed same numbered n = same n ∙ numbered n
