use Rattle.std.proofs.Common.{arith, ◌∙◌, ◌≡◌, refl}
use Rattle.book_index.specs.declared.card_day.CardDay.{CardDay}
use Rattle.standin_book.specs.Lending.{lent_on}
use Rattle.standin_book.proofs.Sums.{sums_more}
use Rattle.standin_book.proofs.lending.LendingBook.lend.Goals as goal

pub invariant_of-self : goal.invariant_of-self
invariant_of-self c =
    let i = c.self.inside in
    let h = c.self.invariant.0 in
    let r = c.self.invariant.1 in
    let x = c.args.loan in
    let D : CardDay = record { card = x.card; date = x.date } in
    let day : c.of.result ≡ D = c.of.ensures ∙ rw (c.card.ensures, c.date.ensures) refl in
    let n : c.value.result ≡ x.amount = c.value.ensures.value ∙ c.amount.ensures in
    let few = c.value.ensures.in_range in
    let p = c.push_reserved.ensures in
    let q = c.requires in
    let len = p.len in
    let cap = p.capacity in
    let a = c.add.ensures.room in
    let r1 = r.in_loans in
    let r2 = r.in_borrowed in
    let r3 = r.in_lent in
    let r4 = r.in_owed in
    let r5 = r.in_numbers in
    rw p.items (
      record {
        lent_sums = sums_more lent_on i.loans.items x D x.amount i.lent_sums.amounts.entries c.add.new.self.amounts.entries (λ q. refl) (omega (arith, n, few)) (λ q. c.add.ensures.sums q ∙ rw (day, n) refl) h.lent_sums;
        owed_sums = h.owed_sums;
        numbered = h.numbered;
      },
      record {
        in_loans = omega (arith, len, cap, r1, q);
        in_borrowed = omega (arith, r2);
        in_lent = omega (arith, a, r3, q);
        in_owed = omega (arith, r4);
        in_numbers = omega (arith, r5);
      },
    )
