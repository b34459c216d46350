use Rattle.std.proofs.Common.{arith, ◌∙◌, ◌≡◌, refl, ap}
use Rattle.book_index.specs.declared.card_day.CardDay.{CardDay}
use Rattle.standin_book.specs.Lending.{Lending, borrowed_on}
use Rattle.standin_book.specs.declared.lending.GrantNumber.{GrantNumber}
use Rattle.standin_book.proofs.Sums.{sums_more}
use Rattle.standin_book.proofs.Taken.{numbered_more}
use Rattle.standin_book.proofs.lending.LendingBook.borrow.Goals as goal

pub invariant_of-self : goal.invariant_of-self
invariant_of-self c =
    let i = c.self.inside in
    let h = c.self.invariant.0 in
    let r = c.self.invariant.1 in
    let x = c.args.grant in
    let D : CardDay = record { card = x.card; date = x.date } in
    let K : GrantNumber = record { lender = c.lender.result; number = c.number.result } in
    let day : c.of.result ≡ D = c.of.ensures ∙ rw (c.card.ensures, c.date.ensures) refl in
    let n : c.value.result ≡ x.amount = c.value.ensures.value ∙ c.amount.ensures in
    let few = c.value.ensures.in_range in
    let p = c.push_reserved.ensures in
    let q = c.requires in
    let len = p.len in
    let cap = p.capacity in
    let a = c.add.ensures.room in
    let s = c.insert.ensures.room in
    let r1 = r.in_loans in
    let r2 = r.in_borrowed in
    let r3 = r.in_lent in
    let r4 = r.in_owed in
    let r5 = r.in_numbers in
    let v : i.room ≡ c.args.self.now.room = ap (λ (l : Lending). l.room) c.self.view_is in
    rw p.items (
      record {
        lent_sums = h.lent_sums;
        owed_sums = sums_more borrowed_on i.borrowed.items x D x.amount i.borrowed_sums.amounts.entries c.add.new.self.amounts.entries (λ q. refl) (omega (arith, n, few)) (λ q. c.add.ensures.sums q ∙ rw (day, n) refl) h.owed_sums;
        numbered = numbered_more i.taken.keys c.insert.new.self.keys K i.borrowed.items x c.lender.ensures c.number.ensures c.insert.ensures.keys h.numbered;
      },
      record {
        in_loans = omega (arith, r1);
        in_borrowed = omega (arith, len, cap, r2, q);
        in_lent = omega (arith, r3);
        in_owed = omega (arith, a, r4, q);
        in_numbers = omega (arith, s, r5, q);
      },
    )
